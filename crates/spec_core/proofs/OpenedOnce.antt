-- A plan that can be replayed has one opened world. Only the inputs at the row before may differ, where the run has ended.
use Rattle.std.proofs.Common.{◌≡◌, ◌∙◌, ℕ, zero, suc, ◌+◌, ◌<◌, ◌≤◌, ℤ, List, [], ◌∷◌, ◌++◌, length, Some, refl, sym, ap, subst, arith}
use Rattle.std.proofs.lemmas.List.{length-map}
use Rattle.std.proofs.lemmas.Option.{same_Some, slice_get_within}
use Rattle.std.specs.List.{AllByRecursion}
use Rattle.std.specs.Prelude.{replicate, slice_get}
use Rattle.guess_board.specs.Events.{opened}
use Rattle.guess_board.specs.Journals.{replay_of}
use Rattle.guess_board.specs.Lanes.{IsLane, LaneState, TicketState}
use Rattle.guess_board.specs.declared.guesses.Policy.{Policy}
use Rattle.guess_board.proofs.JournalLaws.{booked_new}
use Rattle.list_laws.proofs.Lists.{each_so}
use Rattle.list_laws.proofs.Members.{at_place}
use Rattle.run_laws.proofs.AssignmentLaws.{one_assignment}
use Rattle.run_laws.proofs.PositionLaws.{positions_keep}
use Rattle.run_laws.proofs.RunTraces.{same_stand}
use Rattle.spec_core.specs.Replays.{CanReplay}
use Rattle.spec_core.specs.Worlds.{AreLanesOpened, FitsInstance, IsOpenedWorld, IsWorld, WorldState, images_of}
use Rattle.spec_core.proofs.OpenedLaws.{opened_is_world, planned}
use Rattle.spec_core.proofs.OpeningLaws.{AreFirstLanes, all_opened, first_more, first_none}
use Rattle.lane_outlook.proofs.OutlookLaws.{known_by}
use Rattle.lane_outlook.specs.Outlooks.{cut_window}
use Rattle.spec_core.proofs.ReplyLaws.{AreBelow, CanReply, FitPhase}
use Rattle.trace_core.specs.Runs.{ArePortsKnown, Cell, IsPhase, RunState, Stands, arrived}
use Rattle.trace_core.specs.declared.phase.Phase.{Phase}
use Rattle.trace_core.specs.declared.phase.Phase.TheVariants.{Trial, Redo, Ended}
use Rattle.trace_core.proofs.StandLaws.{one_state, stands_opened}
use Rattle.trace_plan.specs.Plans.{HaveImages, Planned}
use Rattle.unit_exec.specs.Images.{Compiled, IsImageOf}
use Rattle.unit_exec.proofs.ImageLaws.{starts_are}
use Rattle.unit_tree.specs.Components.{Component}
use Rattle.unit_tree.specs.Compositions.{Composition, Member}
use Rattle.unit_tree.specs.Negotiation.{all_inputs, inputs_at}
use Rattle.unit_tree.specs.Successor.{Position, first_position}
use Rattle.unit_tree.specs.Trace.{HasWords, IsInBounds, IsStand, Stand}

-- ---- Every world can reply

fits_phase : (run : Composition) (stand : Stand) (phase : Phase) (cells : List Cell) → IsPhase run stand phase cells
    → FitPhase run stand.at.point.t phase cells
fits_phase run stand (Trial h) cells is = is.cells_fit
fits_phase run stand (Redo h) cells is = is.cells_fit
fits_phase run stand (Ended ending) cells is = is.none

each_below : (lanes : List LaneState) (hand : List TicketState) → AllByRecursion (FitsInstance (images_of lanes)) hand → AreBelow (length lanes) hand
each_below lanes hand fit =
    each_so (FitsInstance (images_of lanes)) (λ ticket. ticket.instance < length lanes)
    (λ ticket fits. subst (λ count. ticket.instance < count) (length-map lanes (λ (lane : LaneState). lane.image))
    (slice_get_within (images_of lanes) ticket.instance fits.image fits.is_image)) hand fit

pub can_reply : (world : WorldState) → IsWorld world → CanReply world
can_reply world is =
    let r = world.run in
    let stands = is.stands in
    record {
      can_go_on = record {
        is_ordered = record { order = stands.order; ordered = stands.ordered; members = stands.members; words = stands.words };
        cells_fit = fits_phase r.plan.run r.stand r.phase r.cells stands.phase_is;
        each_before = λ going.
            ap length (stands.before (known_by r.plan.run r.stand r.phase r.cells going stands.phase_is))
            ∙ length-map r.plan.run.members (inputs_at stands.last.ports);
      };
      each_instance = is.each_instance;
      in_place = λ instance lane at. (is.lanes instance lane at).own;
      tickets = λ worker hand at. each_below world.lanes hand (is.tickets worker hand at);
    }

-- ---- There is an opened world

opened_lane : (component : Component) (image : Compiled) (instance : ℕ) → IsImageOf component image → IsLane (opened image instance)
unfolding replay_of
opened_lane component image instance is = record {
  line = record {
    each_state = (starts_are component.unit component.params image.program image.start image.start_inputs is.is_program is.starts is.inputs_start).each_state;
    rises = tt;
    few = omega arith;
    cells = tt;
  };
  chained = refl;
  proven = tt;
  answers_are = refl;
  booked = booked_new;
}

-- Lanes of the first instances.
first_lanes : (run : Composition) (count : ℕ) → HaveImages run → count ≤ length run.members → (lanes : List LaneState) × AreFirstLanes run count lanes
first_lanes run zero images within = ([], first_none run [] refl)
first_lanes run (suc count) images within =
    let earlier = first_lanes run count images (omega (arith, within)) in
    let member = at_place run.members count (omega (arith, within)) in
    let has = images count member.0 member.1 in
    let next : suc count ≡ count + 1 = omega arith in (
      earlier.0 ++ opened has.image count ∷ [],
      subst (λ n. AreFirstLanes run n (earlier.0 ++ opened has.image count ∷ [])) (sym next)
          (first_more run count earlier.0 has.image earlier.1
          (λ other at. subst (λ (m : Member). IsImageOf m.component has.image) (same_Some member.0 other (sym member.1 ∙ at)) has.is_image)
          (opened_lane member.0.component has.image count has.is_image)),
    )

-- There is such a world.
pub record HasOpened (plan : Planned) (window : ℕ) (policy : Policy) (workers : ℕ) : Type 0 where
  pub world : WorldState
  pub is_opened : IsOpenedWorld plan workers window policy world
  pub is_world : IsWorld world

first_words : (plan : Planned) → CanReplay plan → HasWords plan.run (first_position plan.run)
first_words plan can = (positions_keep plan.run can.members).first

pub first_bounds : (plan : Planned) → IsInBounds plan.run (first_position plan.run)
first_bounds plan = record { stop = omega arith; zeros = omega arith }

pub has_opened : (plan : Planned) (window : ℕ) (policy : Policy) (workers : ℕ) → CanReplay plan → window ≤ 16 → HasOpened plan window policy workers
has_opened plan window policy workers can few =
    let run = plan.run in
    let at = first_position run in
    let words = first_words plan can in
    let assigned = one_assignment run can.order at.states can.ordered (one_state run at words) in
    let stand : Stand = record { at = at; ports = assigned.ports } in
    let some = can.bounded.some_row in
    let r = arrived plan at stand (all_inputs run stand.ports) 0 0 in
    let stands : Stands r =
    stands_opened plan stand (all_inputs run stand.ports) can.order can.composed can.ordered can.bounded can.members words (first_bounds plan)
    (omega (arith, some)) assigned.is_assignment (λ known. refl) in
    let lanes = first_lanes run (length run.members) can.images (omega arith) in
    let world : WorldState =
    record { run = r; window = cut_window run window; policy = policy; lanes = lanes.0; hands = replicate workers [] } in
    let is_opened : IsOpenedWorld plan workers window policy world = record {
      run = record { is = refl; before = λ known. refl };
      is_window = refl;
      is_policy = refl;
      lanes = all_opened run (length run.members) lanes.0 refl lanes.1;
      hands = refl;
    } in
    record {
      world = world;
      is_opened = is_opened;
      is_world = opened_is_world plan workers window policy world is_opened stands lanes.1.are_lanes few;
    }

-- ---- There is only one

image_once : (component : Component) (one other : Compiled) → IsImageOf component one → IsImageOf component other → one ≡ other
image_once component one other is is_other =
    let program = is.is_program ∙ sym is_other.is_program in
    let start = is.starts ∙ sym is_other.starts in
    let inputs = is.inputs_start ∙ sym is_other.inputs_start in
    λ i. record { program = program i; start = start i; start_inputs = inputs i }

-- Lists of one length with the same elements at each place.
same_by_place : {A : Type 0} (xs ys : List A) → length xs ≡ length ys
    → ((k : ℕ) (x y : A) → slice_get xs k ≡ Some x → slice_get ys k ≡ Some y → x ≡ y) → xs ≡ ys
same_by_place [] [] long each = refl
same_by_place [] (y ∷ ys) long each = absurd (omega (arith, long))
same_by_place (x ∷ xs) [] long each = absurd (omega (arith, long))
same_by_place (x ∷ xs) (y ∷ ys) long each =
    let first = each 0 x y refl refl in
    let others = same_by_place xs ys (omega (arith, long)) (λ k. each (suc k)) in
    λ i. first i ∷ others i

lanes_once : (run : Composition) (lanes others : List LaneState) → AreLanesOpened run lanes → AreLanesOpened run others → lanes ≡ others
lanes_once run lanes others are are_too =
    same_by_place lanes others (are.each_instance ∙ sym are_too.each_instance) (λ k lane other at at_too.
    let within = subst (λ count. k < count) are.each_instance (slice_get_within lanes k lane at) in
    let member = at_place run.members k within in
    let image =
    image_once member.0.component lane.image other.image (are.images k lane at member.0 member.1)
    (are_too.images k other at_too member.0 member.1) in
    are.each k lane at ∙ ap (λ one. opened one k) image ∙ sym (are_too.each k other at_too))

-- Two opened worlds of a plan have the same stand, the same hands and the same phase.
module _ (plan : Planned) (window : ℕ) (policy : Policy) (workers : ℕ) (can : CanReplay plan) (one other : WorldState)
    (is : IsOpenedWorld plan workers window policy one) (is_other : IsOpenedWorld plan workers window policy other) (is_world : IsWorld one)
    (is_world_too : IsWorld other) where
  -- Where a run of the plan starts.
  abbrev at : Position
  at = first_position plan.run

  is_stand_of : (world : WorldState) → IsOpenedWorld plan workers window policy world → IsWorld world → IsStand plan.run world.run.stand
  is_stand_of world opens keeps =
      subst (λ (p : Planned). IsStand p.run world.run.stand) (planned plan workers window policy world opens) keeps.stands.is_stand

  stand_once : one.run.stand ≡ other.run.stand
  stand_once =
      let here : one.run.stand.at ≡ at = ap (λ (r : RunState). r.stand.at) is.run.is in
      let there : other.run.stand.at ≡ at = ap (λ (r : RunState). r.stand.at) is_other.run.is in
      same_stand plan.run can.order can.members can.ordered one.run.stand other.run.stand
      (subst (HasWords plan.run) (sym here) (first_words plan can)) (is_stand_of one is is_world) (is_stand_of other is_other is_world_too)
      (here ∙ sym there)

  -- A world as it is opened, by the ports and the inputs before.
  abbrev opened_as : Stand → List (List ℤ) → WorldState
  opened_as stand before = record one { run = arrived plan at (record { at = at; ports = stand.ports }) before 0 0 }

  one_is : one ≡ opened_as one.run.stand one.run.before
  one_is = ap (λ r. record one { run = r }) is.run.is

  other_is : other ≡ opened_as other.run.stand other.run.before
  other_is =
      let same_window = is_other.is_window ∙ sym is.is_window in
      let same_policy = is_other.is_policy ∙ sym is.is_policy in
      let lanes = lanes_once plan.run other.lanes one.lanes is_other.lanes is.lanes in
      let hands = is_other.hands ∙ sym is.hands in
      λ i. record { run = is_other.run.is i; window = same_window i; policy = same_policy i; lanes = lanes i; hands = hands i }

  -- They are equal except for the inputs before.
  but_for_before : one ≡ opened_as other.run.stand one.run.before
  but_for_before = one_is ∙ ap (λ stand. opened_as stand one.run.before) stand_once

  -- Where all ports are known, the inputs before are the same too.
  pub opened_once : ArePortsKnown plan.run one.run.stand → one ≡ other
  opened_once known =
      let before : one.run.before ≡ other.run.before =
      is.run.before known ∙ ap (λ (stand : Stand). all_inputs plan.run stand.ports) stand_once
      ∙ sym (is_other.run.before (subst (ArePortsKnown plan.run) stand_once known)) in
      but_for_before ∙ ap (opened_as other.run.stand) before ∙ sym other_is

  pub same_stand_opened : one.run.stand ≡ other.run.stand
  same_stand_opened = stand_once

  pub same_phase_opened : one.run.phase ≡ other.run.phase
  same_phase_opened = ap (λ (w : WorldState). w.run.phase) but_for_before ∙ sym (ap (λ (w : WorldState). w.run.phase) other_is)

  pub same_hands_opened : one.hands ≡ other.hands
  same_hands_opened = is.hands ∙ sym is_other.hands
