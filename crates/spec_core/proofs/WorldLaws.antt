-- The invariant of a world, after each change of its parts.
use Rattle.std.proofs.Common.{◌≡◌, ◌∙◌, ℕ, zero, suc, List, [], ◌∷◌, ◌++◌, set, map, length, Some, refl, sym, ap, subst, arith, length-set}
use Rattle.std.proofs.lemmas.Option.{same_Some, slice_get-map}
use Rattle.std.specs.List.{AllByRecursion}
use Rattle.std.specs.Option.{option_map}
use Rattle.std.specs.Prelude.{slice_get}
use Rattle.guess_board.specs.Journals.{without}
use Rattle.guess_board.specs.Lanes.{FitsImage, IsLane, LaneState, TicketState}
use Rattle.list_laws.proofs.Lists.{each_append}
use Rattle.spec_core.specs.Events.{with_hand, with_lane, with_run}
use Rattle.spec_core.specs.Worlds.{AreInHands, FitsInstance, IsLaneOf, IsWorld, WorldState, images_of}
use Rattle.spec_core.proofs.HandLaws.{end_keeps, other_end_keeps, other_take_keeps, steal_keeps, take_keeps}
use Rattle.trace_core.specs.Runs.{RunState, Stands}
use Rattle.trace_plan.specs.Plans.{Planned}
use Rattle.unit_exec.specs.Images.{IsImageOf}
use Rattle.unit_tree.specs.Compositions.{Composition}

-- ---- A list of which one element was set

pub at_set : {A : Type 0} (P : ℕ → A → Type 0) (xs : List A) (k : ℕ) (new : A)
    → ((j : ℕ) (x : A) → (j ≡ k → ⊥) → slice_get xs j ≡ Some x → P j x) → P k new
    → (j : ℕ) (x : A) → slice_get (set xs k new) j ≡ Some x → P j x
at_set P [] k new others own j x is = absurd (cc)
at_set P (y ∷ ys) zero new others own zero x is = subst (P zero) (same_Some new x is) own
at_set P (y ∷ ys) zero new others own (suc j) x is = others (suc j) x (λ e. omega (arith, e)) is
at_set P (y ∷ ys) (suc k) new others own zero x is = others zero x (λ e. omega (arith, e)) is
at_set P (y ∷ ys) (suc k) new others own (suc j) x is =
    at_set (λ i. P (suc i)) ys k new (λ i z differ at. others (suc i) z (λ e. differ (omega (arith, e))) at) own j x is

map_kept : {A B : Type 0} (f : A → B) (xs : List A) (k : ℕ) (old new : A) → slice_get xs k ≡ Some old → f new ≡ f old → map f (set xs k new) ≡ map f xs
map_kept f [] k old new at same = absurd (cc)
map_kept f (x ∷ xs) zero old new at same = ap (λ y. y ∷ map f xs) (same ∙ ap f (sym (same_Some x old at)))
map_kept f (x ∷ xs) (suc k) old new at same = ap (λ ys. f x ∷ ys) (map_kept f xs k old new at same)

module _ (world : WorldState) (is : IsWorld world) where
  abbrev run : Composition
  run = world.run.plan.run

  -- An unchanged lane, with other hands.
  in_other_hands : (hands : List (List TicketState)) (instance : ℕ) (lane : LaneState) → slice_get world.lanes instance ≡ Some lane
      → AreInHands instance lane.journal.outstanding hands → IsLaneOf run hands instance lane
  in_other_hands hands instance lane at out =
      let had = is.lanes instance lane at in
      record { is_lane = had.is_lane; own = had.own; image = had.image; out = out }

  -- A lane that changed.
  changed : (hands : List (List TicketState)) (instance : ℕ) (old new : LaneState) → slice_get world.lanes instance ≡ Some old → IsLane new
      → new.instance ≡ old.instance → new.image ≡ old.image → AreInHands instance new.journal.outstanding hands → IsLaneOf run hands instance new
  changed hands instance old new at is_lane own image out =
      let had = is.lanes instance old at in
      record {
        is_lane = is_lane;
        own = own ∙ had.own;
        image = λ member is_there. subst (IsImageOf member.component) (sym image) (had.image member is_there);
        out = out;
      }

  images_kept : (instance : ℕ) (old new : LaneState) → slice_get world.lanes instance ≡ Some old → new.image ≡ old.image
      → images_of (set world.lanes instance new) ≡ images_of world.lanes
  images_kept instance old new at image = map_kept (λ (lane : LaneState). lane.image) world.lanes instance old new at image

  -- The tickets in the hands fit images that stayed.
  tickets_kept : (lanes : List LaneState) → images_of lanes ≡ images_of world.lanes → (worker : ℕ) (hand : List TicketState)
      → slice_get world.hands worker ≡ Some hand → AllByRecursion (FitsInstance (images_of lanes)) hand
  tickets_kept lanes images worker hand at =
      subst (λ all. AllByRecursion (FitsInstance all) hand) (sym images) (is.tickets worker hand at)

  pub keeps_lane : (instance : ℕ) (old new : LaneState) → slice_get world.lanes instance ≡ Some old → IsLane new → new.instance ≡ old.instance
      → new.image ≡ old.image → new.journal.outstanding ≡ old.journal.outstanding → IsWorld (with_lane world instance new)
  keeps_lane instance old new at is_lane own image out = record {
    stands = is.stands;
    window = is.window;
    each_instance = length-set world.lanes instance new ∙ is.each_instance;
    lanes = at_set (IsLaneOf run world.hands) world.lanes instance new (λ other lane differ there. is.lanes other lane there)
        (changed world.hands instance old new at is_lane own image
        (subst (λ ns. AreInHands instance ns world.hands) (sym out) (is.lanes instance old at).out));
    tickets = tickets_kept (set world.lanes instance new) (images_kept instance old new at image);
  }

  pub keeps_take : (worker instance : ℕ) (hand : List TicketState) (old new : LaneState) (ticket : TicketState) → slice_get world.hands worker ≡ Some hand
      → slice_get world.lanes instance ≡ Some old → IsLane new → new.instance ≡ old.instance → new.image ≡ old.image
      → new.journal.outstanding ≡ old.journal.outstanding ++ ticket.number ∷ [] → ticket.instance ≡ old.instance → FitsImage old.image ticket
      → IsWorld (with_hand (with_lane world instance new) worker (hand ++ ticket ∷ []))
  keeps_take worker instance hand old new ticket at_hand at is_lane own image out same fits =
      let had = is.lanes instance old at in
      let of_instance : ticket.instance ≡ instance = same ∙ had.own in
      let hands = set world.hands worker (hand ++ ticket ∷ []) in
      let images = images_kept instance old new at image in
      let here : FitsInstance (images_of (set world.lanes instance new)) ticket = record {
        image = old.image;
        is_image = ap (λ all. slice_get all ticket.instance) images ∙ ap (slice_get (images_of world.lanes)) of_instance
            ∙ slice_get-map (λ (lane : LaneState). lane.image) world.lanes instance ∙ ap (option_map (λ (lane : LaneState). lane.image)) at;
        fits = fits;
      } in
      record {
        stands = is.stands;
        window = is.window;
        each_instance = length-set world.lanes instance new ∙ is.each_instance;
        lanes = at_set (IsLaneOf run hands) world.lanes instance new
            (λ other lane differ there. in_other_hands hands other lane there
            (other_take_keeps other lane.journal.outstanding world.hands (is.lanes other lane there).out worker hand ticket at_hand
            (λ e. differ (sym e ∙ of_instance))))
            (changed hands instance old new at is_lane own image
            (subst (λ ns. AreInHands instance ns hands) (sym out)
            (take_keeps instance old.journal.outstanding world.hands had.out worker hand ticket at_hand of_instance)));
        tickets = at_set (λ other tickets. AllByRecursion (FitsInstance (images_of (set world.lanes instance new))) tickets) world.hands worker
            (hand ++ ticket ∷ []) (λ other tickets differ there. tickets_kept (set world.lanes instance new) images other tickets there)
            (each_append (FitsInstance (images_of (set world.lanes instance new))) hand (ticket ∷ [])
            (tickets_kept (set world.lanes instance new) images worker hand at_hand) (here, tt));
      }

  pub keeps_end : (worker : ℕ) (ticket : TicketState) (others : List TicketState) (old new : LaneState)
      → slice_get world.hands worker ≡ Some (ticket ∷ others) → slice_get world.lanes ticket.instance ≡ Some old → IsLane new
      → new.instance ≡ old.instance → new.image ≡ old.image → new.journal.outstanding ≡ without ticket.number old.journal.outstanding
      → IsWorld (with_hand (with_lane world ticket.instance new) worker others)
  keeps_end worker ticket others old new at_hand at is_lane own image out =
      let instance = ticket.instance in
      let had = is.lanes instance old at in
      let hands = set world.hands worker others in
      let images = images_kept instance old new at image in
      record {
        stands = is.stands;
        window = is.window;
        each_instance = length-set world.lanes instance new ∙ is.each_instance;
        lanes = at_set (IsLaneOf run hands) world.lanes instance new
            (λ other lane differ there. in_other_hands hands other lane there
            (other_end_keeps other lane.journal.outstanding world.hands (is.lanes other lane there).out worker ticket others at_hand
            (λ e. differ (sym e))))
            (changed hands instance old new at is_lane own image
            (subst (λ ns. AreInHands instance ns hands) (sym out)
            (end_keeps instance old.journal.outstanding world.hands had.out worker ticket others at_hand refl)));
        tickets = at_set (λ other tickets. AllByRecursion (FitsInstance (images_of (set world.lanes instance new))) tickets) world.hands worker others
            (λ other tickets differ there. tickets_kept (set world.lanes instance new) images other tickets there)
            (tickets_kept (set world.lanes instance new) images worker (ticket ∷ others) at_hand).1;
      }

  pub keeps_steal : (worker from : ℕ) (hand others : List TicketState) (ticket : TicketState) → slice_get world.hands from ≡ Some (ticket ∷ others)
      → slice_get (set world.hands from others) worker ≡ Some hand
      → IsWorld (with_hand (with_hand world from others) worker (hand ++ ticket ∷ []))
  keeps_steal worker from hand others ticket first at_hand =
      let left = set world.hands from others in
      let hands = set left worker (hand ++ ticket ∷ []) in
      let fit = is.tickets from (ticket ∷ others) first in
      let left_fit = at_set (λ other tickets. AllByRecursion (FitsInstance (images_of world.lanes)) tickets) world.hands from others
      (λ other tickets differ there. is.tickets other tickets there) fit.1 in
      record {
        stands = is.stands;
        window = is.window;
        each_instance = is.each_instance;
        lanes = λ instance lane there. in_other_hands hands instance lane there
            (steal_keeps instance lane.journal.outstanding world.hands (is.lanes instance lane there).out worker from hand others ticket first at_hand);
        tickets = at_set (λ other tickets. AllByRecursion (FitsInstance (images_of world.lanes)) tickets) left worker (hand ++ ticket ∷ [])
            (λ other tickets differ there. left_fit other tickets there)
            (each_append (FitsInstance (images_of world.lanes)) hand (ticket ∷ []) (left_fit worker hand at_hand) (fit.0, tt));
      }

  pub keeps_run : (now : RunState) → Stands now → now.plan ≡ world.run.plan → IsWorld (with_run world now)
  keeps_run now stands planned = record {
    stands = stands;
    window = is.window;
    each_instance = is.each_instance ∙ ap (λ (plan : Planned). length plan.run.members) (sym planned);
    lanes = λ instance lane there. subst (λ (plan : Planned). IsLaneOf plan.run world.hands instance lane) (sym planned) (is.lanes instance lane there);
    tickets = is.tickets;
  }
