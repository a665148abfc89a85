-- After any event, a world that can reply can reply again; and what stays of its run.
use Rattle.std.proofs.Common.{◌≡◌, ◌∙◌, ℕ, ◌<◌, ◌==◌, Bool, true, false, List, [], ◌∷◌, ◌++◌, set, map, length, Some, Result, refl, sym, ap}
use Rattle.std.proofs.Common.{subst, inl, inr, length-set}
use Rattle.std.proofs.lemmas.List.{length-map}
use Rattle.std.proofs.lemmas.Option.{none-some, slice_get_within}
use Rattle.std.specs.List.{AllByRecursion, range_with_len}
use Rattle.std.specs.Prelude.{slice_get, if◌then◌else◌, nat_lt, ◌*◌, ◌/◌, ◌%◌, ⊤}
use Rattle.draw_numbers.specs.Draws.{draw}
use Rattle.fixed_words.specs.declared.types.Fault.{Fault}
use Rattle.guess_board.specs.Events.{taken, with_taken}
use Rattle.guess_board.specs.Lanes.{LaneState, TicketState}
use Rattle.list_laws.proofs.Lists.{each_append, each_map}
use Rattle.run_laws.proofs.RunTraces.{goes_keeps}
use Rattle.spec_core.specs.Events.{Does, Happens, Steals, Takes, with_hand, with_lane, with_run}
use Rattle.spec_core.specs.Replays.{drawn_events, worker_event}
use Rattle.spec_core.specs.Worlds.{WorldState}
use Rattle.spec_core.specs.declared.event.Event.{Event}
use Rattle.spec_core.specs.declared.event.Event.TheVariants as event
use Rattle.spec_core.specs.declared.event.Reply.{Reply}
use Rattle.trace_core.proofs.Settles.{settled_plan}
use Rattle.spec_core.proofs.ReplyLaws.{AreBelow, CanGoOn, CanReply, FitPhase}
use Rattle.spec_core.proofs.TakeLaws.{ticket_own}
use Rattle.spec_core.proofs.WorldLaws.{at_set}
use Rattle.trace_core.specs.Runs.{Cell, Empty, Filled, IsWanted, RunState, cells_of, is_ended, phase_at}
use Rattle.trace_core.specs.Settling.{Moves, Settled, with_redo}
use Rattle.trace_core.specs.declared.phase.Phase.{Phase}
use Rattle.trace_core.specs.declared.phase.Phase.TheVariants.{Trial, Redo, Ended}
use Rattle.trace_core.specs.declared.phase.Settle.{Settle}
use Rattle.trace_core.specs.declared.phase.Settle.TheVariants as settle
use Rattle.trace_core.proofs.ArrivalLaws.{fresh_cells_fit}
use Rattle.trace_core.proofs.CellLaws.{filled_fit}
use Rattle.trace_core.proofs.StandLaws.{filled}
use Rattle.trace_plan.specs.Plans.{Planned}
use Rattle.unit_tree.specs.Components.{Moved}
use Rattle.unit_tree.specs.Compositions.{Composition}
use Rattle.unit_tree.specs.Negotiation.{inputs_at}

-- ---- Lanes and hands

pub lane_kept : (world : WorldState) (instance : ℕ) (old new : LaneState) → CanReply world → slice_get world.lanes instance ≡ Some old
    → new.instance ≡ old.instance → CanReply (with_lane world instance new)
lane_kept world instance old new can at same = record {
  can_go_on = can.can_go_on;
  each_instance = length-set world.lanes instance new ∙ can.each_instance;
  in_place = at_set (λ place lane. lane.instance ≡ place) world.lanes instance new (λ place lane differ there. can.in_place place lane there)
      (same ∙ can.in_place instance old at);
  tickets = λ worker hand there. subst (λ count. AreBelow count hand) (sym (length-set world.lanes instance new)) (can.tickets worker hand there);
}

pub hand_kept : (world : WorldState) (worker : ℕ) (hand : List TicketState) → CanReply world → AreBelow (length world.lanes) hand
    → CanReply (with_hand world worker hand)
hand_kept world worker hand can below = record {
  can_go_on = can.can_go_on;
  each_instance = can.each_instance;
  in_place = can.in_place;
  tickets = at_set (λ place tickets. AreBelow (length world.lanes) tickets) world.hands worker hand
      (λ place tickets differ there. can.tickets place tickets there) below;
}

take_kept : (world new : WorldState) (worker instance : ℕ) (told : Reply) → CanReply world → Takes world worker instance told new → CanReply new
take_kept world new worker instance told can does =
    let own = ticket_own does.lane does.ticket does.gives in
    let same : (taken does.lane).instance ≡ does.lane.instance = ap (λ given. (with_taken does.lane given).instance) does.gives in
    let with_it = lane_kept world instance does.lane (taken does.lane) can does.is_lane same in
    let within : does.ticket.instance < length (set world.lanes instance (taken does.lane)) =
    subst (λ count. does.ticket.instance < count) (sym (length-set world.lanes instance (taken does.lane)))
    (subst (λ place. place < length world.lanes) (sym (own ∙ can.in_place instance does.lane does.is_lane))
    (slice_get_within world.lanes instance does.lane does.is_lane)) in
    subst CanReply (sym does.is)
    (hand_kept (with_lane world instance (taken does.lane)) worker (does.hand ++ does.ticket ∷ []) with_it
    (each_append (λ (ticket : TicketState). ticket.instance < length (set world.lanes instance (taken does.lane))) does.hand (does.ticket ∷ [])
    (with_it.tickets worker does.hand does.is_hand) (within, tt)))

steal_kept : (world new : WorldState) (worker from : ℕ) (told : Reply) → CanReply world → Steals world worker from told new → CanReply new
steal_kept world new worker from told can does =
    let below = can.tickets from (does.ticket ∷ does.others) does.first in
    let without = hand_kept world from does.others can below.1 in
    subst CanReply (sym does.is)
    (hand_kept (with_hand world from does.others) worker (does.hand ++ does.ticket ∷ []) without
    (each_append (λ (ticket : TicketState). ticket.instance < length world.lanes) does.hand (does.ticket ∷ []) (can.tickets worker does.hand does.is_hand)
    (below.0, tt)))

-- A first ticket ends, and the lane of its instance changes.
end_kept : (world : WorldState) (worker : ℕ) (ticket : TicketState) (others : List TicketState) (old new : LaneState) → CanReply world
    → slice_get world.hands worker ≡ Some (ticket ∷ others) → slice_get world.lanes ticket.instance ≡ Some old → new.instance ≡ old.instance
    → CanReply (with_hand (with_lane world ticket.instance new) worker others)
end_kept world worker ticket others old new can first at same =
    let with_it = lane_kept world ticket.instance old new can at same in
    hand_kept (with_lane world ticket.instance new) worker others with_it (with_it.tickets worker (ticket ∷ others) first).1

-- ---- The run

run_kept : (world : WorldState) (now : RunState) → CanReply world → CanGoOn now → now.plan ≡ world.run.plan → CanReply (with_run world now)
run_kept world now can on same = record {
  can_go_on = on;
  each_instance = can.each_instance ∙ ap (λ (plan : Planned). length plan.run.members) (sym same);
  in_place = can.in_place;
  tickets = can.tickets;
}

-- A cell whose step was required is filled.
filled_fits : (run : Composition) (t instance : ℕ) (phase : Phase) (cells : List Cell) (step : Result Moved Fault) → slice_get cells instance ≡ Some Empty
    → FitPhase run t phase cells → FitPhase run t phase (set cells instance (Filled step))
filled_fits run t instance (Trial h) cells step wanted fit = filled_fit cells instance step wanted ∙ fit
filled_fits run t instance (Redo h) cells step wanted fit = filled_fit cells instance step wanted ∙ fit
filled_fits run t instance (Ended ending) cells step wanted none =
    absurd (none-some Empty (ap (λ all. slice_get all instance) (sym none) ∙ wanted))

on_filled : (r : RunState) (instance : ℕ) (step : Result Moved Fault) (found own : ℕ) → CanGoOn r → IsWanted r instance
    → CanGoOn (filled r instance step found own)
on_filled r instance step found own on wanted = record {
  is_ordered = on.is_ordered;
  cells_fit = filled_fits r.plan.run r.stand.at.point.t instance r.phase r.cells step wanted on.cells_fit;
  each_before = on.each_before;
}

fresh_fit : (run : Composition) (t : ℕ) (phase : Phase) → FitPhase run t phase (cells_of run t phase)
fresh_fit run t (Trial h) = fresh_cells_fit t h run.members
fresh_fit run t (Redo h) = fresh_cells_fit t h run.members
fresh_fit run t (Ended ending) = refl

on_moved : (old new : RunState) → CanGoOn old → Moves old new → CanGoOn new
on_moved old new on moves =
    let is = on.is_ordered in
    let run = old.plan.run in
    subst CanGoOn (sym moves.is) (record {
      is_ordered = record {
        order = is.order;
        ordered = is.ordered;
        members = is.members;
        words = goes_keeps run old.stand new.stand is.members is.words moves.goes;
      };
      cells_fit = fresh_fit run new.stand.at.point.t (phase_at run new.stand);
      each_before = λ going. length-map run.members (inputs_at old.stand.ports);
    })

on_settled : (old new : RunState) (to : Settle) → CanGoOn old → Settled old new to → CanGoOn new
on_settled old new settle.Redo on (due, now) = subst CanGoOn (sym now) (record {
  is_ordered = on.is_ordered;
  cells_fit = fresh_fit old.plan.run old.stand.at.point.t (with_redo old).phase;
  each_before = λ going. on.each_before (ap is_ended due.trial);
})
on_settled old new settle.Row on (moves, known) = on_moved old new on moves
on_settled old new settle.Ended on (inl (moves, unknown)) = on_moved old new on moves
on_settled old new settle.Ended on (inr ended) =
    subst CanGoOn (sym ended.is) (record { is_ordered = on.is_ordered; cells_fit = refl; each_before = λ going. absurd (cc) })

-- ---- Any event

does_keep : (world new : WorldState) (what : Event) (told : Reply) → CanReply world → Does world what told new → CanReply new
does_keep world new (event.Publish instance) told can does = subst CanReply (sym does.is) (lane_kept world instance does.lane _ can does.is_lane refl)
does_keep world new (event.Take worker instance) told can does = take_kept world new worker instance told can does
does_keep world new (event.Steal worker from) told can does = steal_kept world new worker from told can does
does_keep world new (event.Post worker cells) told can does =
    subst CanReply (sym does.is) (end_kept world worker does.ticket does.others does.lane _ can does.first does.is_lane refl)
does_keep world new (event.Back worker) told can does =
    subst CanReply (sym does.is) (end_kept world worker does.ticket does.others does.lane _ can does.first does.is_lane refl)
does_keep world new (event.Find instance) told can (inl does) =
    subst CanReply (sym does.is) (run_kept world _ can (on_filled world.run instance does.one.answer _ _ can.can_go_on does.looks.wanted) refl)
does_keep world new (event.Find instance) told can (inr does) = subst CanReply (sym does.is) can
does_keep world new (event.Compute instance) told can does =
    subst CanReply (sym (does.is ∙ ap (with_run world) does.computed.is))
    (run_kept world _ can (on_filled world.run instance does.computed.step _ _ can.can_go_on does.wanted) refl)
does_keep world new event.Settle told can does =
    subst CanReply (sym does.is)
    (run_kept world new.run can (on_settled world.run new.run does.to can.can_go_on does.settled) (settled_plan world.run new.run does.to does.settled))

pub keeps_reply : (world new : WorldState) (what : Event) (told : Reply) → CanReply world → Happens world what told new → CanReply new
keeps_reply world new what told can (inl does) = does_keep world new what told can does
keeps_reply world new what told can (inr refused) = subst CanReply (sym refused.is) can

-- ---- Events that leave the run as it is

-- The event is not one of the run: it leaves the run as it is.
abbrev pub IsBeside : Event → Type 0
IsBeside (event.Publish instance) = ⊤
IsBeside (event.Take worker instance) = ⊤
IsBeside (event.Steal worker from) = ⊤
IsBeside (event.Post worker cells) = ⊤
IsBeside (event.Back worker) = ⊤
IsBeside (event.Find instance) = ⊥
IsBeside (event.Compute instance) = ⊥
IsBeside event.Settle = ⊥

does_beside : (world new : WorldState) (what : Event) (told : Reply) → IsBeside what → Does world what told new → new.run ≡ world.run
does_beside world new (event.Publish instance) told beside does = ap (λ (w : WorldState). w.run) does.is
does_beside world new (event.Take worker instance) told beside does = ap (λ (w : WorldState). w.run) does.is
does_beside world new (event.Steal worker from) told beside does = ap (λ (w : WorldState). w.run) does.is
does_beside world new (event.Post worker cells) told beside does = ap (λ (w : WorldState). w.run) does.is
does_beside world new (event.Back worker) told beside does = ap (λ (w : WorldState). w.run) does.is
does_beside world new (event.Find instance) told beside does = absurd beside
does_beside world new (event.Compute instance) told beside does = absurd beside
does_beside world new event.Settle told beside does = absurd beside

pub run_stays : (world new : WorldState) (what : Event) (told : Reply) → IsBeside what → Happens world what told new → new.run ≡ world.run
run_stays world new what told beside (inl does) = does_beside world new what told beside does
run_stays world new what told beside (inr refused) = ap (λ (w : WorldState). w.run) refused.is

-- Lanes are published, and workers do what is drawn. The run stays as it is.
pub publishes_beside : (instances : List ℕ) → AllByRecursion IsBeside (map event.Publish instances)
publishes_beside instances = each_map IsBeside event.Publish instances (λ instance. tt)

kind_beside : (take post steal : Bool) (one two three four : Event) → IsBeside one → IsBeside two → IsBeside three → IsBeside four
    → IsBeside (if take then one else (if post then two else (if steal then three else four)))
kind_beside true post steal one two three four first second third fourth = first
kind_beside false true steal one two three four first second third fourth = second
kind_beside false false true one two three four first second third fourth = third
kind_beside false false false one two three four first second third fourth = fourth

worker_beside : (x workers instances : ℕ) → IsBeside (worker_event x workers instances)
worker_beside x workers instances =
    let kind = x / workers % 8 in
    kind_beside (nat_lt kind 3) (nat_lt kind 6) (kind == 6) _ _ _ _ tt tt tt tt

pub drawn_beside : (seed place workers instances : ℕ) → AllByRecursion IsBeside (drawn_events seed place workers instances)
drawn_beside seed place workers instances =
    each_map IsBeside (λ at. worker_event (draw seed at) workers instances) (range_with_len place (2 * workers))
    (λ at. worker_beside (draw seed at) workers instances)
