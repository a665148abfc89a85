-- A replay, from its opening to its end.
use Rattle.std.proofs.Common.{◌≡◌, ◌∙◌, ℕ, suc, ◌+◌, ◌*◌, ◌≤◌, Bool, true, false, List, [], Option, Result, Ok, Err, refl, sym, ap, subst, arith}
use Rattle.std.proofs.Common.{append-nil}
use Rattle.std.specs.List.{flat_map}
use Rattle.std.specs.Io.KnownBytes.{Appends}
use Rattle.std.specs.Prelude.{IfOk, OnErr, OnOk}
use Rattle.cosim_io.specs.Pieces.{AppendsPrefix}
use Rattle.cosim_io.proofs.PieceLemmas.{AppendsPrefix-whole}
use Rattle.list_laws.proofs.Options.{on_err}
use Rattle.spec_core.specs.Interleavings.{Done}
use Rattle.spec_core.specs.Replays.{AreRounds, IsReplayed, PutsTrace}
use Rattle.spec_core.specs.Rounds.{Advances, AreFew, AreSettled, GoesRounds, IsBegun, PutsRows, before_draw, counts_of, counts_or_fault, no_replies}
use Rattle.spec_core.specs.Rounds.{with_replies}
use Rattle.spec_core.specs.Worlds.{IsWorld, tickets_in}
use Rattle.spec_core.specs.declared.rounds.ReplayState.{ReplayState}
use Rattle.spec_core.proofs.CountLaws.{all_settled, are_counts, none_held, rounds_lead}
use Rattle.spec_core.proofs.CourseRounds.{both_rounds}
use Rattle.trace_core.specs.Runs.{IsOpened, RunState, Stands, is_ended}
use Rattle.trace_core.specs.declared.phase.Phase.TheVariants.{Ended}
use Rattle.trace_plan.specs.Plans.{Planned}
use Rattle.trace_rows.specs.Faults.{TellsFault}
use Rattle.trace_rows.specs.Lines.{PutsRow, header_of, lines_of, rows_here}
use Rattle.trace_rows.specs.Reports.{AppendsTracePrefix, AppendsRestPrefix, report_of}
use Rattle.trace_rows.specs.declared.fault.CrewFault.{CrewFault}
use Rattle.trace_rows.specs.declared.fault.CrewFault.TheVariants.{NoMemory, WriteFault}
use Rattle.trace_rows.specs.declared.tally.Tally.{Tally}
use Rattle.trace_rows.proofs.DriveLaws.{done_by, ended_by, going_on}
use Rattle.trace_rows.proofs.RunEnds.{IsDone, front_come, report_by, reports_rest, traced, traced_err}
use Rattle.trace_rows.proofs.RunKept.{Come, Given, Kept, come_next, fewer_left, kept_by, number_within}
use Rattle.unit_tree.specs.Compositions.{run_of}
use Rattle.unit_tree.specs.Successor.{Position, first_position}
use Rattle.unit_tree.specs.declared.ending.Ending.{Ending}

-- ---- From row to row

-- The invariant of the loop over rows: the rows that were written, the rounds that were made, and that few events were counted so far.
pub record KeptCourse (plan : Planned) (workers : ℕ) (first course : ReplayState) (held0 held : Option (List ℕ)) (faults0 faults : ℕ) (tally : Tally) : Type 0 where
  pub kept : Kept plan first.world.run.opened course.world.run held0 held faults0 faults tally
  pub front : AppendsRestPrefix plan first.world.run.opened held0 held
  pub world : IsWorld course.world
  pub rounds : GoesRounds workers first course
  pub few : AreFew course.replies
  pub most : course.replies.events ≤ 450 * course.world.run.stand.at.number

module _ (plan : Planned) (first : ReplayState) (held0 held : Option (List ℕ)) (faults0 faults : ℕ) (tally : Tally) where
  -- The replay has come to a row, before it is written.
  abbrev pub ComeTo : ReplayState → Type 0
  ComeTo course = Come plan first.world.run.opened course.world.run held0 held faults0 faults tally

  -- A prefix of it may have been written.
  pub front_put : {T : Type 0} (course : ReplayState) (run : RunState) (held' : Option (List ℕ)) (result : Result T CrewFault) → ComeTo course
      → run ≡ course.world.run → AppendsPrefix held held' (lines_of plan.system (rows_here plan run.stand))
      → OnErr result (AppendsRestPrefix plan first.world.run.opened held0 held')
  front_put course run held' result come is front =
      on_err result (front_come plan first.world.run.opened course.world.run held0 held held' faults0 faults tally come
      (subst (λ (r : RunState). AppendsPrefix held held' (lines_of plan.system (rows_here plan r.stand))) is front))

  -- Or all of it.
  pub row_put : (workers : ℕ) (course : ReplayState) (run : RunState) (held' : Option (List ℕ)) (faults' : ℕ) (after : Tally) → ComeTo course → IsWorld course.world
      → GoesRounds workers first course → AreFew course.replies → course.replies.events ≤ 450 * course.world.run.stand.at.number
      → run ≡ course.world.run → PutsRow plan run.stand held held' faults faults' tally after (Ok tt)
      → KeptCourse plan workers first course held0 held' faults0 faults' after
  row_put workers course run held' faults' after come world rounds few most is puts =
      let put : PutsRow plan course.world.run.stand held held' faults faults' tally after (Ok tt) =
      subst (λ (r : RunState). PutsRow plan r.stand held held' faults faults' tally after (Ok tt)) is puts in
      record {
        kept = kept_by plan first.world.run.opened course.world.run held0 held held' faults0 faults faults' tally after come put;
        front = front_come plan first.world.run.opened course.world.run held0 held held' faults0 faults tally come
            (AppendsPrefix-whole held held' (lines_of plan.system (rows_here plan course.world.run.stand)) put.whole.out);
        world = world;
        rounds = rounds;
        few = few;
        most = most;
      }

  module _ (workers : ℕ) (course new : ReplayState) (came : Bool) (given : Given plan first.world.run.opened)
      (kept : KeptCourse plan workers first course held0 held faults0 faults tally) (advances : Advances workers course new came)
      (stands : Stands new.world.run) where
    pub next_come : came ≡ true → ComeTo new
    next_come is =
        come_next plan first.world.run.opened course.world.run new.world.run held0 held faults0 faults tally given kept.kept
        (going_on course.world.run new.world.run came is advances.went) stands

    pub next_number : came ≡ true → suc course.world.run.stand.at.number ≡ new.world.run.stand.at.number
    next_number is = fewer_left course.world.run new.world.run (going_on course.world.run new.world.run came is advances.went)

    pub next_rounds : GoesRounds workers first new
    next_rounds = both_rounds workers first course new kept.rounds advances.rounds

    pub next_most : came ≡ true → new.replies.events ≤ 450 * new.world.run.stand.at.number
    next_most is =
        let before = kept.most in
        let more = advances.most in
        let number = next_number is in
        omega (arith, before, more, number)

    pub is_done : came ≡ false → IsDone plan first.world.run.opened new.world.run held0 held tally
    is_done is =
        done_by plan first.world.run.opened course.world.run new.world.run held0 held faults0 faults tally given kept.kept
        (ended_by course.world.run new.world.run came is advances.went) stands

  -- The events of another row can be counted.
  pub has_room : (workers : ℕ) (course : ReplayState) → Given plan first.world.run.opened → KeptCourse plan workers first course held0 held faults0 faults tally
      → course.replies.events + 450 ≤ 1073741824
  has_room workers course given kept =
      let most = kept.most in
      let within = number_within plan first.world.run.opened course.world.run given kept.kept.at.planned kept.world.stands in
      omega (arith, most, within)

-- Where memory is refused the faults of the sink stay.
pub tells_unmade : {T : Type 0} (faults0 faults : ℕ) (result : Result T CrewFault) → faults ≡ faults0 → result ≡ Err NoMemory → TellsFault faults0 faults result
tells_unmade {T} faults0 faults result same is = record {
  later = omega (arith, same);
  failed = λ failed. absurd (differ (sym is ∙ failed));
  same = λ other. same;
}
  where
    err : CrewFault → Result T CrewFault
    err fault = Err fault

    differ : err NoMemory ≡ err WriteFault → ⊥
    differ e = cc

-- ---- The end

-- The rows of a run that is over.
pub puts_rows : (plan : Planned) (from : Position) (run : RunState) (held0 held : Option (List ℕ)) (tally : Tally) (ending : Ending) → Given plan from
    → IsDone plan from run held0 held tally → run.phase ≡ Ended ending → PutsRows plan from run ending held0 held
puts_rows plan from run held0 held tally ending given done phase = record {
  tally = tally;
  reports = reports_rest plan from run held0 held tally ending (report_of run ending tally) given done phase
      (report_by run ending tally (report_of run ending tally) refl);
}

-- ---- The whole replay

-- It has ended after these rounds.
pub record IsPlayed (plan : Planned) (seed workers : ℕ) (first last : ReplayState) (outcome : Ending) : Type 0 where
  pub begun : IsBegun plan seed workers first
  pub rounds : GoesRounds workers first last
  pub phase : last.world.run.phase ≡ Ended outcome

module _ (plan : Planned) (seed workers : ℕ) (first last : ReplayState) (outcome : Ending) (played : IsPlayed plan seed workers first last outcome) where
  abbrev past : List Done
  past = flat_map (λ round. round) played.rounds.rounds

  no_place : (w : ℕ) → 0 ≡ 2 * w * 0
  no_place w = omega arith

  follow : AreRounds seed workers 0 first.world played.rounds.rounds last.world
  follow =
      subst (λ rounds. AreRounds seed workers 0 first.world rounds last.world) (append-nil played.rounds.rounds)
      (played.rounds.follow seed 0 (played.begun.draw ∙ ap (before_draw seed) (no_place workers)) [] last.world (ap is_ended played.phase, refl))

  counted : last.replies ≡ with_replies no_replies past
  counted = played.rounds.counted ∙ ap (λ counts. with_replies counts past) played.begun.none

  pub is_settled : AreSettled last
  is_settled =
      all_settled last first.world past (rounds_lead seed workers 0 first.world played.rounds.rounds last.world follow)
      (ap tickets_in played.begun.opened.hands ∙ none_held workers) counted

  pub is_replayed : IsReplayed plan seed workers (counts_of last outcome)
  is_replayed = record {
    past = past;
    to = last.world;
    replay = record {
      opened = first.world;
      is_opened = played.begun.opened;
      is_world = played.begun.world;
      rounds = played.rounds.rounds;
      follow = follow;
      is = refl;
    };
    counted = are_counts last past outcome played.phase counted;
  }

-- ---- The trace after its header

module _ (plan : Planned) (first : RunState) (opened : IsOpened plan (first_position plan.run) first) (stands : Stands first)
    (held0 held held' : Option (List ℕ))
    (put : Appends held0 held (header_of plan.system)) where
  composed : plan.run ≡ run_of plan.system
  composed = subst (λ (p : Planned). p.run ≡ run_of p.system) (ap (λ (r : RunState). r.plan) opened.is) stands.composed

  at_first : first.opened ≡ first_position plan.run
  at_first = ap (λ (r : RunState). r.opened) opened.is

  pub trace_put : (run : RunState) (ended : Result Ending CrewFault) → IfOk ended (λ outcome. PutsRows plan first.opened run outcome held held')
      → IfOk ended (λ outcome. PutsTrace plan.system run.stand.at.point outcome held0 held')
  trace_put run (Ok outcome) rows =
      let all = traced plan first.opened held0 held held' (report_of run outcome rows.tally) composed at_first put rows.reports in
      record { rows = all.rows; trace = all.trace; out = all.out }
  trace_put run (Err fault) rows = tt

  pub trace_front : (ended : Result Ending CrewFault) → OnErr ended (AppendsRestPrefix plan first.opened held held') → OnErr ended
      (AppendsTracePrefix plan.system held0 held')
  trace_front (Ok outcome) front = tt
  trace_front (Err fault) front = traced_err plan first.opened held0 held held' (Err fault) composed at_first put front

-- ---- By the result of writing it

module _ (plan : Planned) (seed workers : ℕ) (first last : ReplayState) (begun : IsBegun plan seed workers first) where
  played : (outcome : Ending) → GoesRounds workers first last → last.world.run.phase ≡ Ended outcome → IsPlayed plan seed workers first last outcome
  played outcome rounds phase = record { begun = begun; rounds = rounds; phase = phase }

  pub settled_or_fault : (ended : Result Ending CrewFault) → IfOk ended (λ outcome. last.world.run.phase ≡ Ended outcome)
      → OnOk ended (GoesRounds workers first last) → OnOk ended (AreSettled last)
  settled_or_fault (Ok outcome) phase rounds = is_settled plan seed workers first last outcome (played outcome rounds phase)
  settled_or_fault (Err fault) phase rounds = tt

  pub replayed_or_fault : (ended : Result Ending CrewFault) → IfOk ended (λ outcome. last.world.run.phase ≡ Ended outcome)
      → OnOk ended (GoesRounds workers first last) → IfOk (counts_or_fault last ended) (IsReplayed plan seed workers)
  replayed_or_fault (Ok outcome) phase rounds = is_replayed plan seed workers first last outcome (played outcome rounds phase)
  replayed_or_fault (Err fault) phase rounds = tt
