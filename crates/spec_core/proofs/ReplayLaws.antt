-- Every seed has a replay, and its counts are determined.
use Rattle.std.proofs.Common.{◌≡◌, ◌∙◌, ℕ, suc, true, List, [], ◌∷◌, length, Option, Some, None, refl, sym, ap, subst, arith}
use Rattle.std.specs.List.{count_by, flat_map, sum_by}
use Rattle.guess_board.specs.declared.guesses.Policy.{Policy}
use Rattle.list_laws.proofs.Truths.{true_is_false}
use Rattle.run_laws.proofs.RunTraces.{left, rest_of}
use Rattle.spec_core.specs.Interleavings.{Done}
use Rattle.spec_core.specs.Replays.{AreCounts, AreRounds, CanReplay, EverySeedIsReplayed, IsReplayBy, ReplaysAreCountedOnce, appended_by, is_back}
use Rattle.spec_core.specs.Replays.{is_found, is_own, is_posted, is_refused, is_taken, replies_of}
use Rattle.spec_core.specs.Worlds.{WorldState, tickets_in}
use Rattle.spec_core.specs.declared.counts.Counts.{Counts}
use Rattle.spec_core.proofs.OpenedLaws.{planned}
use Rattle.spec_core.proofs.OpenedOnce.{HasOpened, can_reply, first_bounds, has_opened, opened_once, same_hands_opened, same_phase_opened}
use Rattle.spec_core.proofs.OpenedOnce.{same_stand_opened}
use Rattle.spec_core.proofs.RoundLaws.{rounds_end, rounds_once}
use Rattle.spec_core.proofs.RoundsThere.{HaveRounds, along}
use Rattle.trace_core.specs.Runs.{IsOpened, RunState, is_ended, phase_or}
use Rattle.trace_core.specs.declared.phase.Phase.{Phase}
use Rattle.trace_core.specs.declared.phase.Phase.TheVariants.{Trial, Redo, Ended}
use Rattle.trace_plan.specs.Plans.{Planned}
use Rattle.unit_tree.specs.Ports.{first_some, port_fault}
use Rattle.unit_tree.specs.Successor.{Position, first_position, max_end, proposed, row_end, stop_end}
use Rattle.unit_tree.specs.Trace.{HasWords, IsInBounds, Stand}
use Rattle.unit_tree.specs.declared.ending.Ending.{Ending}

-- ---- Counts

-- How a phase ended.
ending_of : (phase : Phase) → is_ended phase ≡ true → (ending : Ending) × (phase ≡ Ended ending)
ending_of (Trial h) ended = absurd (cc)
ending_of (Redo h) ended = absurd (cc)
ending_of (Ended ending) ended = (ending, refl)

counts_there : (past : List Done) (to : WorldState) → is_ended to.run.phase ≡ true → (counts : Counts) × AreCounts past to counts
counts_there past to ended =
    let ending = ending_of to.run.phase ended in
    let counts : Counts = record {
      outcome = ending.0;
      last = to.run.stand.at.point;
      events = length past;
      refused = count_by is_refused (replies_of past);
      found = count_by is_found (replies_of past);
      own = count_by is_own (replies_of past);
      tickets = count_by is_taken (replies_of past);
      posted = count_by is_posted (replies_of past);
      back = count_by is_back (replies_of past);
      lapsed = tickets_in to.hands;
      appended = sum_by appended_by (replies_of past);
    } in (
      counts,
      record {
        outcome = ending.1;
        last = refl;
        events = refl;
        refused = refl;
        found = refl;
        own = refl;
        tickets = refl;
        posted = refl;
        back = refl;
        lapsed = refl;
        appended = refl;
      },
    )

same_outcome : (one other : Ending) → Ended one ≡ Ended other → one ≡ other
same_outcome one other is = cc

-- The counts are equal, where the same was done and the run came to the same end.
pub record IsSameEnd (past other : List Done) (to end : WorldState) : Type 0 where
  pub done : past ≡ other
  pub phase : to.run.phase ≡ end.run.phase
  pub stand : to.run.stand ≡ end.run.stand
  pub hands : to.hands ≡ end.hands

counts_once : (past other : List Done) (to end : WorldState) (one two : Counts) → IsSameEnd past other to end → AreCounts past to one → AreCounts other end two
    → one ≡ two
counts_once past other to end one two same are are_too =
    let outcome = same_outcome one.outcome two.outcome (sym are.outcome ∙ same.phase ∙ are_too.outcome) in
    let last = are.last ∙ ap (λ (stand : Stand). stand.at.point) same.stand ∙ sym are_too.last in
    let events = are.events ∙ ap length same.done ∙ sym are_too.events in
    let refused = are.refused ∙ ap (λ past. count_by is_refused (replies_of past)) same.done ∙ sym are_too.refused in
    let found = are.found ∙ ap (λ past. count_by is_found (replies_of past)) same.done ∙ sym are_too.found in
    let own = are.own ∙ ap (λ past. count_by is_own (replies_of past)) same.done ∙ sym are_too.own in
    let tickets = are.tickets ∙ ap (λ past. count_by is_taken (replies_of past)) same.done ∙ sym are_too.tickets in
    let posted = are.posted ∙ ap (λ past. count_by is_posted (replies_of past)) same.done ∙ sym are_too.posted in
    let back = are.back ∙ ap (λ past. count_by is_back (replies_of past)) same.done ∙ sym are_too.back in
    let lapsed = are.lapsed ∙ ap tickets_in same.hands ∙ sym are_too.lapsed in
    let appended = are.appended ∙ ap (λ past. sum_by appended_by (replies_of past)) same.done ∙ sym are_too.appended in
    λ i. record {
      outcome = outcome i;
      last = last i;
      events = events i;
      refused = refused i;
      found = found i;
      own = own i;
      tickets = tickets i;
      posted = posted i;
      back = back i;
      lapsed = lapsed i;
      appended = appended i;
    }

-- ---- Every seed

-- From an opened world there are rounds along the trace of its run.
rounds_there : (plan : Planned) (window : ℕ) (policy : Policy) (seed workers : ℕ) → CanReplay plan → (start : HasOpened plan window policy workers)
    → HaveRounds seed workers 0 start.world
rounds_there plan window policy seed workers can start =
    let opened = start.world in
    let can_reply_there = can_reply opened start.is_world in
    let same = planned plan workers window policy opened start.is_opened in
    let here = opened.run.stand in
    let words = subst (λ (p : Planned). HasWords p.run here.at) same can_reply_there.can_go_on.is_ordered.words in
    let at_start = ap (λ (r : RunState). r.stand.at) start.is_opened.run.is in
    let bounds = subst (IsInBounds plan.run) (sym at_start) (first_bounds plan) in
    let rest = rest_of plan.run can.order can.members can.ordered (suc (left plan.run here.at)) here (omega arith) words bounds in
    along seed workers plan.run rest.0 rest.1 opened 0 can_reply_there (ap (λ (p : Planned). p.run) same) rest.2

pub every_seed_lem : EverySeedIsReplayed
every_seed_lem plan window policy seed workers can few =
    let start = has_opened plan window policy workers can few in
    let rounds = rounds_there plan window policy seed workers can start in
    let past = flat_map (λ round. round) rounds.0 in
    let counted = counts_there past rounds.1 (rounds_end seed workers 0 start.world rounds.0 rounds.1 rounds.2) in
    let replay : IsReplayBy plan window policy seed workers past rounds.1 = record {
      opened = start.world;
      is_opened = start.is_opened;
      is_world = start.is_world;
      rounds = rounds.0;
      follow = rounds.2;
      is = refl {a = past};
    } in
    (counted.0, record { past = past; to = rounds.1; replay = replay; counted = counted.1 })

-- ---- One count

-- Where a port of the start faults, the run has ended at its opening.
ended_there : (plan : Planned) (r : RunState) (ending : Ending) → IsOpened plan (first_position plan.run) r
    → port_fault plan.run r.stand.at.states r.stand.ports ≡ Some ending → is_ended r.phase ≡ true
ended_there plan r ending opens fault =
    let run = plan.run in
    let at = first_position run in
    let here : r.stand.at ≡ at = ap (λ (s : RunState). s.stand.at) opens.is in
    let there : port_fault run at.states r.stand.ports ≡ Some ending = ap (λ (p : Position). port_fault run p.states r.stand.ports) (sym here) ∙ fault in
    ap (λ (s : RunState). is_ended s.phase) opens.is
    ∙ ap (λ found. is_ended (phase_or (first_some (found ∷ stop_end run at ∷ row_end run at ∷ max_end run at r.stand.ports ∷ []))
    (proposed run at r.stand.ports))) there

module _ (plan : Planned) (window : ℕ) (policy : Policy) (seed workers : ℕ) (can : CanReplay plan) where
  -- No round follows where the run has ended.
  no_rounds : (from : WorldState) (rounds : List (List Done)) (to : WorldState) → is_ended from.run.phase ≡ true
      → AreRounds seed workers 0 from rounds to → (rounds ≡ []) × (to ≡ from)
  no_rounds from [] to ended are = (refl, sym are.1)
  no_rounds from (round ∷ rounds) to ended are = true_is_false (is_ended from.run.phase) ended are.0

  module _ (past other : List Done) (to end : WorldState) (one : IsReplayBy plan window policy seed workers past to)
      (two : IsReplayBy plan window policy seed workers other end) where
    -- From the same opened world.
    from_same : one.opened ≡ two.opened → IsSameEnd past other to end
    from_same same =
        let rounds =
        rounds_once seed workers 0 two.opened one.rounds two.rounds to end (can_reply two.opened two.is_world)
        (subst (λ w. AreRounds seed workers 0 w one.rounds to) same one.follow) two.follow in
        record {
          done = one.is ∙ ap (flat_map (λ round. round)) rounds.0 ∙ sym two.is;
          phase = ap (λ (w : WorldState). w.run.phase) rounds.1;
          stand = ap (λ (w : WorldState). w.run.stand) rounds.1;
          hands = ap (λ (w : WorldState). w.hands) rounds.1;
        }

    -- From worlds whose runs have ended.
    from_ended : is_ended one.opened.run.phase ≡ true → IsSameEnd past other to end
    from_ended ended =
        let phase = same_phase_opened plan window policy workers can one.opened two.opened one.is_opened two.is_opened one.is_world two.is_world in
        let stand = same_stand_opened plan window policy workers can one.opened two.opened one.is_opened two.is_opened one.is_world two.is_world in
        let hands = same_hands_opened plan window policy workers can one.opened two.opened one.is_opened two.is_opened one.is_world two.is_world in
        let first = no_rounds one.opened one.rounds to ended one.follow in
        let second = no_rounds two.opened two.rounds end (ap is_ended (sym phase) ∙ ended) two.follow in
        record {
          done = one.is ∙ ap (flat_map (λ round. round)) (first.0 ∙ sym second.0) ∙ sym two.is;
          phase = ap (λ (w : WorldState). w.run.phase) first.1 ∙ phase ∙ sym (ap (λ (w : WorldState). w.run.phase) second.1);
          stand = ap (λ (w : WorldState). w.run.stand) first.1 ∙ stand ∙ sym (ap (λ (w : WorldState). w.run.stand) second.1);
          hands = ap (λ (w : WorldState). w.hands) first.1 ∙ hands ∙ sym (ap (λ (w : WorldState). w.hands) second.1);
        }

    by_fault : (fault : Option Ending) → port_fault plan.run one.opened.run.stand.at.states one.opened.run.stand.ports ≡ fault
        → IsSameEnd past other to end
    by_fault None known = from_same (opened_once plan window policy workers can one.opened two.opened one.is_opened two.is_opened one.is_world two.is_world known)
    by_fault (Some ending) unknown = from_ended (ended_there plan one.opened.run ending one.is_opened.run unknown)

    pub same_end : IsSameEnd past other to end
    same_end = by_fault (port_fault plan.run one.opened.run.stand.at.states one.opened.run.stand.ports) refl

pub counted_once_lem : ReplaysAreCountedOnce
counted_once_lem plan window policy seed workers one other can is is_other =
    counts_once is.past is_other.past is.to is_other.to one other
    (same_end plan window policy seed workers can is.past is_other.past is.to is_other.to is.replay is_other.replay) is.counted is_other.counted
