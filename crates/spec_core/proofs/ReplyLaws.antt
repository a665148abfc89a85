-- Each event has a reply, in a world with a weak invariant; and each event keeps this invariant.
use Rattle.std.proofs.Common.{◌≡◌, ◌∙◌, ℕ, ◌+◌, ◌==◌, ◌<◌, ◌≤◌, Bool, true, false, ℤ, List, [], ◌∷◌, ◌++◌, length, Option, Some, None}
use Rattle.std.proofs.Common.{Result, refl, sym, ap, subst, arith, inl, inr, ◌⊎◌, length-append}
use Rattle.std.proofs.lemmas.Bool.{eqb-true, eqb-false}
use Rattle.std.proofs.lemmas.List.{length-map}
use Rattle.std.proofs.lemmas.Option.{none-some, same_Some, slice_get-map, slice_get_within}
use Rattle.std.specs.List.{AllByRecursion}
use Rattle.std.specs.Option.{option_and_then, option_map}
use Rattle.std.specs.Prelude.{slice_get, take, if◌then◌else◌}
use Rattle.fixed_words.specs.declared.types.Fault.{Fault}
use Rattle.guess_board.specs.Chains.{chain_of, code_of}
use Rattle.guess_board.specs.Events.{backed, found, is_full, published, taken, ticket_of}
use Rattle.guess_board.specs.Guesses.{Seen, guessed_line}
use Rattle.guess_board.specs.Lanes.{LaneState, TicketState}
use Rattle.list_laws.proofs.Members.{at_place}
use Rattle.list_laws.proofs.Truths.{true_is_false}
use Rattle.list_laws.proofs.Pairs.{zip_there}
use Rattle.run_laws.proofs.AssignmentLaws.{one_assignment}
use Rattle.run_laws.proofs.PositionLaws.{positions_keep}
use Rattle.run_laws.proofs.RunTraces.{position_by}
use Rattle.spec_core.specs.Events.{Does, Happens, HasNoTicket, HasTicket, IsRefused, Looks, posted_by, with_hand, with_lane, with_run}
use Rattle.spec_core.specs.Worlds.{WorldState}
use Rattle.spec_core.specs.declared.event.Event.{Event}
use Rattle.spec_core.specs.declared.event.Event.TheVariants as event
use Rattle.spec_core.specs.declared.event.Reply.{Reply}
use Rattle.spec_core.specs.declared.event.Reply.TheVariants as reply
use Rattle.spec_core.proofs.ActLaws.{refused_so}
use Rattle.trace_rows.proofs.Filling.{fit_long}
use Rattle.spec_core.proofs.AnswerLaws.{posted_goes_on}
use Rattle.spec_core.proofs.HappenLaws.{code_for}
use Rattle.spec_core.specs.Outcomes.{IsOrdered}
use Rattle.super_time.specs.LocalTime.{local_step, local_time}
use Rattle.trace_core.specs.Runs.{Cell, Empty, Filled, Held, FitCells, AreCellsFull, IsWanted, RunState, arrived, is_empty_cell}
use Rattle.trace_core.specs.Runs.{is_ended, is_held_cell, step_in, step_length, with_found, with_own}
use Rattle.trace_core.specs.Settling.{IsRedoDue, Moves, Settled, with_redo}
use Rattle.trace_core.specs.declared.phase.Phase.{Phase}
use Rattle.trace_core.specs.declared.phase.Phase.TheVariants.{Trial, Redo, Ended}
use Rattle.trace_core.specs.declared.phase.Settle.{Settle}
use Rattle.trace_core.specs.declared.phase.Settle.TheVariants as settle
use Rattle.trace_core.proofs.StandLaws.{one_state}
use Rattle.trace_plan.specs.Plans.{highest_words, lowest_words}
use Rattle.unit_answers.specs.Answers.{Answered}
use Rattle.unit_answers.specs.Keys.{StepKey}
use Rattle.unit_tree.specs.Components.{Moved, step_of}
use Rattle.unit_tree.specs.Compositions.{Composition, Member}
use Rattle.unit_tree.specs.Negotiation.{all_inputs, inputs_at, is_held, step_at}
use Rattle.unit_tree.specs.Ports.{first_some, port_fault}
use Rattle.unit_tree.specs.Successor.{Next, after, ends, ends_at, goes, is_redone, successor, trial_end}
use Rattle.unit_tree.specs.Trace.{HasWords, Stand}
use Rattle.unit_tree.specs.declared.ending.Ending.{Ending}

-- ---- The invariant of a world by which each event has a reply

-- The cells are those of the phase.
abbrev pub FitPhase : Composition → ℕ → Phase → List Cell → Type 0
FitPhase run t (Trial h) cells = FitCells run t h cells
FitPhase run t (Redo h) cells = FitCells run t h cells
FitPhase run t (Ended ending) cells = cells ≡ []

-- A run can go on: its stand has one successor, its cells are those of its phase, and each member has inputs at the row before.
pub record CanGoOn (r : RunState) : Type 0 where
  pub is_ordered : IsOrdered r
  pub cells_fit : FitPhase r.plan.run r.stand.at.point.t r.phase r.cells
  pub each_before : is_ended r.phase ≡ false → length r.before ≡ length r.plan.run.members

-- The tickets in a hand are of instances below a count.
abbrev pub AreBelow : ℕ → List TicketState → Type 0
AreBelow count hand = AllByRecursion (λ ticket. ticket.instance < count) hand

-- All tickets in hands are of instances that have a lane.
abbrev pub AreOfLanes : List LaneState → List (List TicketState) → Type 0
AreOfLanes lanes hands = (worker : ℕ) (hand : List TicketState) → slice_get hands worker ≡ Some hand → AreBelow (length lanes) hand

-- Each lane is that of the instance at its place.
abbrev pub AreInPlace : List LaneState → Type 0
AreInPlace lanes = (instance : ℕ) (lane : LaneState) → slice_get lanes instance ≡ Some lane → lane.instance ≡ instance

-- A world can reply to each event: its run can go on, it has a lane for each instance at its place, and the tickets in its hands are of
-- these instances.
pub record CanReply (world : WorldState) : Type 0 where
  pub can_go_on : CanGoOn world.run
  pub each_instance : length world.lanes ≡ length world.run.plan.run.members
  pub in_place : AreInPlace world.lanes
  pub tickets : AreOfLanes world.lanes world.hands

-- ---- A reply

-- An event of a world has a reply, and leads to some world.
abbrev pub HasReply : WorldState → Event → Type 0
HasReply world what = (told : Reply) × (new : WorldState) × Happens world what told new

does_so : (world new : WorldState) (what : Event) (told : Reply) → Does world what told new → HasReply world what
does_so world new what told does = (told, new, inl does)

refuses : (world : WorldState) (what : Event) → IsRefused world what → HasReply world what
refuses world what is = (reply.Refused, world, refused_so world what is)

pub cells_few : (run : Composition) (t : ℕ) (phase : Phase) (cells : List Cell) → FitPhase run t phase cells → length cells ≤ length run.members
cells_few run t (Trial h) cells fit = omega (arith, fit_long run t h cells fit)
cells_few run t (Redo h) cells fit = omega (arith, fit_long run t h cells fit)
cells_few run t (Ended ending) cells none = let long = ap length none in omega (arith, long)

inputs_many : (r : RunState) → length (all_inputs r.plan.run r.stand.ports) ≡ length r.plan.run.members
inputs_many r = length-map r.plan.run.members (inputs_at r.stand.ports)

module _ (world : WorldState) (can : CanReply world) where
  -- The composition of the world's run.
  abbrev run : Composition
  run = world.run.plan.run

  lane_within : (instance : ℕ) (lane : LaneState) → slice_get world.lanes instance ≡ Some lane → instance < length run.members
  lane_within instance lane at = subst (λ count. instance < count) can.each_instance (slice_get_within world.lanes instance lane at)

  state_there : (instance : ℕ) → instance < length run.members → (state : List ℤ) × (slice_get world.run.stand.at.states instance ≡ Some state)
  state_there instance within =
      at_place world.run.stand.at.states instance
      (subst (λ count. instance < count) (sym (one_state run world.run.stand.at can.can_go_on.is_ordered.words)) within)

  inputs_there : (instance : ℕ) → instance < length run.members
      → (inputs : List ℤ) × (slice_get (all_inputs run world.run.stand.ports) instance ≡ Some inputs)
  inputs_there instance within =
      at_place (all_inputs run world.run.stand.ports) instance (subst (λ count. instance < count) (sym (inputs_many world.run)) within)

  -- ---- Publish

  publishes : (instance : ℕ) (lane : LaneState) → is_ended world.run.phase ≡ false → slice_get world.lanes instance ≡ Some lane → is_full lane ≡ false
      → HasReply world (event.Publish instance)
  publishes instance lane going at room =
      let within = lane_within instance lane at in
      let member = at_place run.members instance within in
      let state = state_there instance within in
      let last = inputs_there instance within in
      let before = at_place world.run.before instance (subst (λ count. instance < count) (sym (can.can_go_on.each_before going)) within) in
      let seen : Seen = record {
        row = world.run.stand.at.number;
        t = world.run.stand.at.point.t;
        step = step_length world.run.phase;
        stop = run.stop;
        factor = member.0.factor;
        last = last.0;
        before = before.0;
        low = lowest_words member.0;
        high = highest_words member.0;
      } in
      let front = published lane seen.row state.0 (guessed_line world.policy seen world.window) in
      does_so world (with_lane world instance front) (event.Publish instance) (reply.Published (length front.answers)) (record {
        going = going;
        lane = lane;
        is_lane = at;
        room = room;
        state = state.0;
        is_state = state.1;
        seen = seen;
        is_seen = record {
          member = member.0;
          is_there = member.1;
          row = refl;
          time = refl;
          step = refl;
          stop = refl;
          factor = refl;
          last = last.1;
          before = before.1;
          low = refl;
          high = refl;
        };
        is = refl;
        replied = refl;
      })

  -- By the lane, whether it is full, and whether the run has ended.
  publish_by : (instance : ℕ) (ended : Bool) (found : Option LaneState) → is_ended world.run.phase ≡ ended → slice_get world.lanes instance ≡ found
      → HasReply world (event.Publish instance)
  publish_by instance true found is at = refuses world (event.Publish instance) (inl is)
  publish_by instance false None is at = refuses world (event.Publish instance) (inr (λ lane there. absurd (none-some lane (sym at ∙ there))))
  publish_by instance false (Some lane) is at = by (is_full lane) refl
    where
      by : (full : Bool) → is_full lane ≡ full → HasReply world (event.Publish instance)
      by true full = refuses world (event.Publish instance) (inr (λ other there. ap is_full (same_Some other lane (sym there ∙ at)) ∙ full))
      by false room = publishes instance lane is at room

  -- ---- Tickets and hands

  take_by : (worker instance : ℕ) (hand : Option (List TicketState)) (lane : Option LaneState) → slice_get world.hands worker ≡ hand
      → slice_get world.lanes instance ≡ lane → HasReply world (event.Take worker instance)
  take_by worker instance None lane at_hand at = refuses world (event.Take worker instance) (inl at_hand)
  take_by worker instance (Some hand) None at_hand at =
      refuses world (event.Take worker instance) (inr (λ lane there. absurd (none-some lane (sym at ∙ there))))
  take_by worker instance (Some hand) (Some lane) at_hand at = by (ticket_of lane) refl
    where
      by : (given : Option TicketState) → ticket_of lane ≡ given → HasReply world (event.Take worker instance)
      by None none = refuses world (event.Take worker instance) (inr (λ other there. ap ticket_of (same_Some other lane (sym there ∙ at)) ∙ none))
      by (Some ticket) gives =
          does_so world (with_hand (with_lane world instance (taken lane)) worker (hand ++ ticket ∷ [])) (event.Take worker instance) reply.Taken (record {
            hand = hand;
            is_hand = at_hand;
            lane = lane;
            is_lane = at;
            ticket = ticket;
            gives = gives;
            is = refl;
            replied = refl;
          })

  -- Whether a worker has a ticket.
  ticket_by : (worker : ℕ) (hand : Option (List TicketState)) → slice_get world.hands worker ≡ hand → HasTicket world worker ⊎ HasNoTicket world worker
  ticket_by worker None at = inr (λ ticket others first. none-some (ticket ∷ others) (sym at ∙ first))
  ticket_by worker (Some []) at = inr (λ ticket others first. no_first ticket others (sym at ∙ first))
    where
      no_first : (ticket : TicketState) (others : List TicketState) → Some [] ≡ Some (ticket ∷ others) → ⊥
      no_first ticket others is = cc
  ticket_by worker (Some (ticket ∷ others)) at = inl (record { ticket = ticket; others = others; first = at })

  has_ticket : (worker : ℕ) → HasTicket world worker ⊎ HasNoTicket world worker
  has_ticket worker = ticket_by worker (slice_get world.hands worker) refl

  steal_by : (worker from : ℕ) (same : Bool) (hand : Option (List TicketState)) → (worker == from) ≡ same → slice_get world.hands worker ≡ hand
      → HasTicket world from ⊎ HasNoTicket world from → HasReply world (event.Steal worker from)
  steal_by worker from true hand same at has = refuses world (event.Steal worker from) (inl (eqb-true worker from same))
  steal_by worker from false None differ at has = refuses world (event.Steal worker from) (inr (inl at))
  steal_by worker from false (Some hand) differ at (inr none) = refuses world (event.Steal worker from) (inr (inr none))
  steal_by worker from false (Some hand) differ at (inl has) =
      does_so world (with_hand (with_hand world from has.others) worker (hand ++ has.ticket ∷ [])) (event.Steal worker from) reply.Stolen (record {
        apart = eqb-false worker from differ;
        hand = hand;
        is_hand = at;
        ticket = has.ticket;
        others = has.others;
        first = has.first;
        is = refl;
        replied = refl;
      })

  -- The lane of a first ticket.
  ticket_lane : (worker : ℕ) (has : HasTicket world worker) → (lane : LaneState) × (slice_get world.lanes has.ticket.instance ≡ Some lane)
  ticket_lane worker has = at_place world.lanes has.ticket.instance (can.tickets worker (has.ticket ∷ has.others) has.first).0

  post_by : (worker cells : ℕ) → HasTicket world worker ⊎ HasNoTicket world worker → HasReply world (event.Post worker cells)
  post_by worker cells (inr none) = refuses world (event.Post worker cells) none
  post_by worker cells (inl has) =
      let at = ticket_lane worker has in
      let lane = at.0 in
      let new = posted_by lane has.ticket cells in
      let on = posted_goes_on (code_of lane.image) lane.state lane.line lane.answers
      (chain_of (code_of lane.image) has.ticket.start (take cells has.ticket.cells)) in
      does_so world (with_hand (with_lane world has.ticket.instance new) worker has.others) (event.Post worker cells) (reply.Posted (length on.more)) (record {
        ticket = has.ticket;
        others = has.others;
        first = has.first;
        lane = lane;
        is_lane = at.1;
        is = refl;
        appended = length on.more;
        appended_is = more_long lane.answers on.more new.answers on.is;
        replied = refl;
      })
    where
      more_long : (old more new : List Answered) → new ≡ old ++ more → length more + length old ≡ length new
      more_long old more new is =
          let long = ap length is in
          let both = length-append old more in
          omega (arith, long, both)

  back_by : (worker : ℕ) → HasTicket world worker ⊎ HasNoTicket world worker → HasReply world (event.Back worker)
  back_by worker (inr none) = refuses world (event.Back worker) none
  back_by worker (inl has) =
      let at = ticket_lane worker has in
      let new = with_hand (with_lane world has.ticket.instance (backed at.0 has.ticket.number)) worker has.others in
      does_so world new (event.Back worker) reply.Back (record {
        ticket = has.ticket;
        others = has.others;
        first = has.first;
        lane = at.0;
        is_lane = at.1;
        is = refl;
        replied = refl;
      })

  -- ---- Find and compute

  wanted_by : (instance : ℕ) (cell : Option Cell) → slice_get world.run.cells instance ≡ cell
      → IsWanted world.run instance ⊎ (IsWanted world.run instance → ⊥)
  wanted_by instance None at = inr (λ wanted. none-some Empty (sym at ∙ wanted))
  wanted_by instance (Some Held) at = inr (λ wanted. differs (sym at ∙ wanted))
    where
      differs : Some Held ≡ Some Empty → ⊥
      differs is = cc
  wanted_by instance (Some Empty) at = inl at
  wanted_by instance (Some (Filled step)) at = inr (λ wanted. differs (sym at ∙ wanted))
    where
      differs : Some (Filled step) ≡ Some Empty → ⊥
      differs is = cc

  is_wanted : (instance : ℕ) → IsWanted world.run instance ⊎ (IsWanted world.run instance → ⊥)
  is_wanted instance = wanted_by instance (slice_get world.run.cells instance) refl

  wanted_within : (instance : ℕ) → IsWanted world.run instance → instance < length run.members
  wanted_within instance wanted =
      let within = slice_get_within world.run.cells instance Empty wanted in
      let few = cells_few run world.run.stand.at.point.t world.run.phase world.run.cells can.can_go_on.cells_fit in
      omega (arith, within, few)

  looks_there : (instance : ℕ) → IsWanted world.run instance → (lane : LaneState) × (key : StepKey) × Looks world instance lane key
  unfolding code_of
  looks_there instance wanted =
      let within = wanted_within instance wanted in
      let member = at_place run.members instance within in
      let state = state_there instance within in
      let inputs = inputs_there instance within in
      let lane = at_place world.lanes instance (subst (λ count. instance < count) (sym can.each_instance) within) in
      let key : StepKey = record {
        code = code_for member.0;
        state = state.0;
        inputs = inputs.0;
        time = local_time member.0.factor world.run.stand.at.point.t;
        step = local_step member.0.factor world.run.stand.at.point.t (step_length world.run.phase);
      } in (
        lane.0,
        key,
        record {
          wanted = wanted;
          is_key = record {
            member = member.0;
            is_there = member.1;
            code = refl;
            state = state.1;
            inputs = inputs.1;
            time = refl;
            step = refl;
          };
          is_lane = lane.1;
        },
      )

  find_by : (instance : ℕ) → IsWanted world.run instance ⊎ (IsWanted world.run instance → ⊥) → HasReply world (event.Find instance)
  find_by instance (inr unwanted) = refuses world (event.Find instance) unwanted
  find_by instance (inl wanted) =
      let there = looks_there instance wanted in
      by there.0 there.1 there.2 (found there.0 there.1) refl
    where
      by : (lane : LaneState) (key : StepKey) → Looks world instance lane key → (answer : Option Answered) → found lane key ≡ answer
          → HasReply world (event.Find instance)
      by lane key looks None none =
          does_so world world (event.Find instance) reply.Missed
          (inr (record { lane = lane; key = key; looks = looks; none = none; is = refl; replied = refl }))
      by lane key looks (Some one) is =
          does_so world (with_run world (with_found world.run instance one.answer)) (event.Find instance) reply.Found
          (inl (record { lane = lane; key = key; looks = looks; one = one; is_found = is; is = refl; replied = refl }))

  -- A member with a required step is not held.
  unheld_by : (t h instance : ℕ) (cells : List Cell) (member : Member) → FitCells run t h cells → slice_get cells instance ≡ Some Empty
      → slice_get run.members instance ≡ Some member → is_held member.factor t h ≡ false
  unheld_by t h instance cells member fit wanted at =
      same_Some (is_held member.factor t h) false
      (sym (slice_get-map (λ (one : Member). is_held one.factor t h) run.members instance ∙ ap (option_map (λ (one : Member). is_held one.factor t h)) at)
      ∙ ap (λ all. slice_get all instance) (sym fit) ∙ slice_get-map is_held_cell cells instance ∙ ap (option_map is_held_cell) wanted)

  unheld : (t instance : ℕ) (phase : Phase) (cells : List Cell) (member : Member) → FitPhase run t phase cells → slice_get cells instance ≡ Some Empty
      → slice_get run.members instance ≡ Some member → is_held member.factor t (step_length phase) ≡ false
  unheld t instance (Trial h) cells member fit wanted at = unheld_by t h instance cells member fit wanted at
  unheld t instance (Redo h) cells member fit wanted at = unheld_by t h instance cells member fit wanted at
  unheld t instance (Ended ending) cells member none wanted at =
      absurd (none-some Empty (ap (λ all. slice_get all instance) (sym none) ∙ wanted))

  step_there : (instance : ℕ) → IsWanted world.run instance → (step : Result Moved Fault) × (step_in world.run instance ≡ Some step)
  step_there instance wanted =
      let t = world.run.stand.at.point.t in
      let h = step_length world.run.phase in
      let within = wanted_within instance wanted in
      let member = at_place run.members instance within in
      let state = state_there instance within in
      let free = unheld t instance world.run.phase world.run.cells member.0 can.can_go_on.cells_fit wanted member.1 in
      let inputs = inputs_at world.run.stand.ports member.0 in
      let step = step_of member.0.component state.0 inputs (local_time member.0.factor t) (local_step member.0.factor t h) in (
        step,
        ap (option_and_then (step_at t h world.run.stand.ports))
            (zip_there run.members world.run.stand.at.states instance member.0 state.0 member.1 state.1)
            ∙ ap (λ held. if held then None else Some step) free,
      )

  compute_by : (instance : ℕ) → IsWanted world.run instance ⊎ (IsWanted world.run instance → ⊥) → HasReply world (event.Compute instance)
  compute_by instance (inr unwanted) = refuses world (event.Compute instance) unwanted
  compute_by instance (inl wanted) =
      let step = step_there instance wanted in
      does_so world (with_run world (with_own world.run instance step.0)) (event.Compute instance) reply.Computed
      (record { wanted = wanted; computed = record { step = step.0; gives = step.1; is = refl }; is = refl; replied = refl })

-- ---- Settle

-- Settling has a result, and the run a next state.
abbrev pub GoesSomewhere : RunState → Type 0
GoesSomewhere r = (to : Settle) × (new : RunState) × Settled r new to

goes_by : (r : RunState) (is : IsOrdered r) → (IsRedoDue r → ⊥) → (next : Next)
    → successor r.plan.run r.stand.at r.stand.ports ≡ next → GoesSomewhere r
goes_by r is no_redo (ends ending) at_end =
    (settle.Ended, record r { phase = Ended ending; cells = [] }, inr (record { no_redo = no_redo; ending = ending; ended = at_end; is = refl }))
goes_by r is no_redo (goes at) on =
    let run = r.plan.run in
    let words = subst (HasWords run) (position_by (first_some (ends_at run r.stand.at r.stand.ports)) (after run r.stand.at r.stand.ports) at on)
    ((positions_keep run is.members).next r.stand.at r.stand.ports is.words) in
    let assigned = one_assignment run is.order at.states is.ordered (one_state run at words) in
    let stand : Stand = record { at = at; ports = assigned.ports } in
    let new = arrived r.plan r.opened stand (all_inputs run r.stand.ports) r.found r.own in
    by stand new (record { no_redo = no_redo; goes = (on, assigned.is_assignment); is = refl })
    (port_fault new.plan.run new.stand.at.states new.stand.ports) refl
  where
    by : (stand : Stand) (new : RunState) → Moves r new → (fault : Option Ending) → port_fault new.plan.run new.stand.at.states new.stand.ports ≡ fault
        → GoesSomewhere r
    by stand new moves None known = (settle.Row, new, (moves, known))
    by stand new moves (Some ending) unknown = (settle.Ended, new, inl (moves, (λ known. none-some ending (sym known ∙ unknown))))

due_by : (r : RunState) (phase : Phase) (fault : Option Ending) (shorter : Bool) → r.phase ≡ phase → trial_end r.plan.run r.stand.at r.stand.ports ≡ fault
    → is_redone r.plan.run r.stand.at r.stand.ports ≡ shorter → IsRedoDue r ⊎ (IsRedoDue r → ⊥)
due_by r (Trial h) None true is no_fault shorter = inl (record { h = h; trial = is; no_fault = no_fault; shorter = shorter })
due_by r (Trial h) None false is no_fault whole = inr (λ due. true_is_false (is_redone r.plan.run r.stand.at r.stand.ports) due.shorter whole)
due_by r (Trial h) (Some ending) shorter is fault told = inr (λ due. none-some ending (sym due.no_fault ∙ fault))
due_by r (Redo h) fault shorter is none told = inr (λ due. redo_is_none h due.h (sym is ∙ due.trial))
  where
    redo_is_none : (h k : ℕ) → Redo h ≡ Trial k → ⊥
    redo_is_none h k same = cc
due_by r (Ended ending) fault shorter is none told = inr (λ due. end_is_none due.h (sym is ∙ due.trial))
  where
    end_is_none : (k : ℕ) → Ended ending ≡ Trial k → ⊥
    end_is_none k same = cc

settles_by : (r : RunState) → IsOrdered r → IsRedoDue r ⊎ (IsRedoDue r → ⊥) → GoesSomewhere r
settles_by r is (inl due) = (settle.Redo, with_redo r, (due, refl))
settles_by r is (inr no_redo) = goes_by r is no_redo (successor r.plan.run r.stand.at r.stand.ports) refl

pub settles : (r : RunState) → IsOrdered r → GoesSomewhere r
settles r is =
    settles_by r is
    (due_by r r.phase (trial_end r.plan.run r.stand.at r.stand.ports) (is_redone r.plan.run r.stand.at r.stand.ports) refl refl refl)

cell_full : (cell : Cell) → (is_empty_cell cell ≡ false) ⊎ (is_empty_cell cell ≡ true)
cell_full Held = inl refl
cell_full Empty = inr refl
cell_full (Filled step) = inl refl

full_or_not : (cells : List Cell) → AreCellsFull cells ⊎ (AreCellsFull cells → ⊥)
full_or_not [] = inl tt
full_or_not (cell ∷ cells) = by (cell_full cell) (full_or_not cells)
  where
    by : (is_empty_cell cell ≡ false) ⊎ (is_empty_cell cell ≡ true) → AreCellsFull cells ⊎ (AreCellsFull cells → ⊥)
        → AreCellsFull (cell ∷ cells) ⊎ (AreCellsFull (cell ∷ cells) → ⊥)
    by (inl full) (inl others) = inl (full, others)
    by (inl full) (inr not_full) = inr (λ both. not_full both.1)
    by (inr empty) others = inr (λ both. true_is_false (is_empty_cell cell) empty both.0)

settle_by : (world : WorldState) (ended : Bool) → is_ended world.run.phase ≡ ended → AreCellsFull world.run.cells ⊎ (AreCellsFull world.run.cells → ⊥)
    → GoesSomewhere world.run → HasReply world event.Settle
settle_by world true ended full on = refuses world event.Settle (inl ended)
settle_by world false going (inr not_full) on = refuses world event.Settle (inr not_full)
settle_by world false going (inl full) on =
    does_so world (with_run world on.1) event.Settle (reply.Settled on.0)
    (record { to = on.0; going = going; full = full; settled = on.2; is = refl; replied = refl })

-- ---- Any event

pub has_reply : (world : WorldState) → CanReply world → (what : Event) → HasReply world what
has_reply world can (event.Publish instance) = publish_by world can instance (is_ended world.run.phase) (slice_get world.lanes instance) refl refl
has_reply world can (event.Take worker instance) =
    take_by world can worker instance (slice_get world.hands worker) (slice_get world.lanes instance) refl refl
has_reply world can (event.Steal worker from) =
    steal_by world can worker from (worker == from) (slice_get world.hands worker) refl refl (has_ticket world can from)
has_reply world can (event.Post worker cells) = post_by world can worker cells (has_ticket world can worker)
has_reply world can (event.Back worker) = back_by world can worker (has_ticket world can worker)
has_reply world can (event.Find instance) = find_by world can instance (is_wanted world can instance)
has_reply world can (event.Compute instance) = compute_by world can instance (is_wanted world can instance)
has_reply world can event.Settle =
    settle_by world (is_ended world.run.phase) refl (full_or_not world.run.cells) (settles world.run can.can_go_on.is_ordered)
