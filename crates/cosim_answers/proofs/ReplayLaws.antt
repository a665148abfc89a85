-- The output and the result of a replay, as the answer for its text.
use Rattle.std.proofs.Common.{◌≡◌, ◌∙◌, ℕ, List, Result, Ok, Err, refl, sym, ap, subst, inl, inr, [], ◌∷◌, ◌++◌, arith}
use Rattle.std.specs.Io.KnownBytes.{Appends}
use Rattle.cosim_call.specs.Calls.{Stream}
use Rattle.cosim_call.specs.Coming.{Begins, Serves}
use Rattle.cosim_call.specs.declared.coming.Served.{Served}
use Rattle.cosim_call.specs.declared.coming.Stopped.{Stopped}
use Rattle.cosim_call.specs.declared.coming.Stopped.TheVariants as stopped
use Rattle.cosim_io.specs.Pieces.{AppendsPrefix}
use Rattle.cosim_io.proofs.PieceLemmas.{AppendsPrefix-whole}
use Rattle.event_runs.specs.Readings.{read_end, read_rows}
use Rattle.guess_board.specs.declared.guesses.Policy.TheVariants.{Hold}
use Rattle.spec_core.specs.Replays.{CanReplay, IsReplayed}
use Rattle.spec_core.specs.declared.counts.Counts.{Counts}
use Rattle.spec_core.proofs.AcceptedSystems.{can_replay}
use Rattle.spec_core.proofs.ReplayLaws.{every_seed_lem}
use Rattle.super_time.specs.declared.point.Point.{Point}
use Rattle.trace_core.specs.Runs.{RunState}
use Rattle.trace_plan.specs.Plans.{Planned}
use Rattle.trace_rows.specs.Reports.{AppendsTracePrefix}
use Rattle.unit_tree.specs.Compositions.{run_of}
use Rattle.unit_tree.specs.Trace.{IsTraceOf, Row}
use Rattle.unit_tree.specs.declared.ending.Ending.{Ending}
use Rattle.unit_tree.specs.declared.system.System.{System}
use Rattle.cosim_answers.specs.Accepted.{planned, run_answer, traced_notes, traced_text}
use Rattle.cosim_answers.specs.Answer.{Answers, with_counts}
use Rattle.cosim_answers.specs.Notes.{counts_text}
use Rattle.cosim_answers.specs.Serving.{IsAccepted, IsUnaccepted, Replays, TellsReplayed}
use Rattle.command_line.specs.declared.commands.Command.TheVariants.{Replay}
use Rattle.command_line.specs.declared.replaying.Replaying.{Replaying}
use Rattle.cosim_answers.proofs.OutputNames.{ends_alike, same_status}
use Rattle.cosim_answers.proofs.RunLaws.{text_is, trace_told}
use Rattle.cosim_answers.proofs.TraceLaws.{IsWhole, is_end, plain_outcome, whole_of}

-- ---- Replays of accepted systems

pub can_replay_of : (system : System) → IsWhole system → CanReplay (planned system)
can_replay_of system whole = can_replay system whole.ranged whole.well_formed whole.ordered

pub counts_there : (asked : Replaying) (system : System) → IsWhole system
    → (counts : Counts) × IsReplayed (planned system) asked.seed asked.workers counts
counts_there asked system whole = every_seed_lem (planned system) 4 Hold asked.seed asked.workers (can_replay_of system whole) (omega arith)

-- The run of a plan that was replayed is that of the plain form of its system.
plan_is : (plan : Planned) (seed workers : ℕ) (counts : Counts) → IsReplayed plan seed workers counts → plan ≡ planned plan.system
plan_is plan seed workers counts replayed =
    let same : replayed.replay.opened.run.plan ≡ plan = ap (λ (r : RunState). r.plan) replayed.replay.is_opened.run.is in
    let composed : plan.run ≡ run_of plan.system =
    subst (λ (p : Planned). p.run ≡ run_of p.system) same replayed.replay.is_world.stands.composed in
    ap (λ run. record { system = plan.system; run = run }) composed

of_system : (asked : Replaying) (plan : Planned) (counts : Counts) → IsReplayed plan asked.seed asked.workers counts
    → IsReplayed (planned plan.system) asked.seed asked.workers counts
of_system asked plan counts replayed =
    subst (λ (p : Planned). IsReplayed p asked.seed asked.workers counts) (plan_is plan asked.seed asked.workers counts replayed) replayed

-- There is an answer for a text with this trace.
replay_answers : (asked : Replaying) (text : List ℕ) (system : System) → IsAccepted text system → (rows : List Row) (last : Point) (ending : Ending)
    → IsTraceOf system rows last ending → (counts : Counts) → IsReplayed (planned system) asked.seed asked.workers counts
    → Answers (Replay asked) text (with_counts counts (run_answer system (read_rows system rows) last (read_end system ending)))
replay_answers asked text system (lines, accepted) rows last ending trace counts replayed =
    inr (record {
      system = system;
      lines = lines;
      accepted = accepted;
      is = record {
        run = run_answer system (read_rows system rows) last (read_end system ending);
        tells = trace_told system (whole_of text system lines accepted) rows last ending trace;
        counts = counts;
        replayed = replayed;
        is = refl;
      };
    })

-- ---- The result of a replay

-- A text that is not replayed.
pub replay_stops : (asked : Replaying) (text : List ℕ) (out : Stream) (why : Stopped) → IsUnaccepted text why
    → Serves (Answers (Replay asked) text) out out (Err why)
replay_stops asked text out (stopped.Refused line rule) refused = (inl (record { line = line; rule = rule; refused = refused; is = refl }), refl)
replay_stops asked text out stopped.NoMemory refused = (inl refl, refl)
replay_stops asked text out stopped.ReadFault refused = absurd refused
replay_stops asked text out stopped.WriteFault refused = absurd refused

-- What was written is a prefix of the text of a trace that exists.
begins_answer : (asked : Replaying) (text : List ℕ) (system : System) → IsAccepted text system → (out out' : Stream)
    → AppendsTracePrefix system out.bytes out'.bytes → Begins (Answers (Replay asked) text) out out'
begins_answer asked text system accepted out out' front =
    let whole = whole_of text system accepted.0 accepted.1 in
    let one = plain_outcome system whole in
    let counts = counts_there asked system whole in
    inr (
      with_counts counts.0 (run_answer system (read_rows system one.rows) one.last (read_end system one.ending)),
      replay_answers asked text system accepted one.rows one.last one.ending one.is_trace counts.0 counts.1,
      subst (AppendsPrefix out.bytes out'.bytes) (text_is system whole one.rows one.last one.ending one.is_trace)
          (front.begins one.rows one.last one.ending one.is_trace),
    )

-- A replay that was given up.
pub replay_given_up : (asked : Replaying) (text : List ℕ) (plan : Planned) → IsAccepted text plan.system → (out out' : Stream) (why : Stopped)
    → Replays plan asked out out' (Err why) → Serves (Answers (Replay asked) text) out out' (Err why)
replay_given_up asked text plan accepted out out' stopped.WriteFault (front, rose) = (begins_answer asked text plan.system accepted out out' front, rose)
replay_given_up asked text plan accepted out out' stopped.NoMemory (front, same) = (begins_answer asked text plan.system accepted out out' front, same)
replay_given_up asked text plan accepted out out' stopped.ReadFault replays = absurd replays
replay_given_up asked text plan accepted out out' (stopped.Refused line rule) replays = absurd replays

-- A replay that came to its end, and is reported.
pub replay_told : (asked : Replaying) (text : List ℕ) (plan : Planned) → IsAccepted text plan.system → (out out' : Stream) (counts : Counts)
    (came : Result Served Stopped) → Replays plan asked out out' (Ok counts) → TellsReplayed plan.system counts came
    → Serves (Answers (Replay asked) text) out out' came
replay_told asked text plan accepted out out' counts (Ok served) (puts, replayed, same) (status_is, notes_is) =
    let system = plan.system in
    let whole = whole_of text system accepted.0 accepted.1 in
    let status = status_is ∙ same_status system counts.outcome in (
      record {
        answer = with_counts counts (run_answer system (read_rows system puts.rows) counts.last (read_end system counts.outcome));
        is = replay_answers asked text system accepted puts.rows counts.last counts.outcome puts.trace counts (of_system asked plan counts replayed);
        put = subst (Appends out.bytes out'.bytes) (text_is system whole puts.rows counts.last counts.outcome puts.trace) puts.out;
        notes = notes_is
            ∙ ap (λ ending. traced_notes system ending counts.last ++ counts_text counts ∷ []) (ends_alike system whole counts.outcome);
        status = status;
        ends = is_end (read_end system counts.outcome) served.status status;
      },
      same,
    )
replay_told asked text plan accepted out out' counts (Err why) (puts, replayed, same) is =
    let system = plan.system in
    let whole = whole_of text system accepted.0 accepted.1 in
    subst (λ (one : Stopped). Serves (Answers (Replay asked) text) out out' (Err one)) (sym is) (
      inr (
        with_counts counts (run_answer system (read_rows system puts.rows) counts.last (read_end system counts.outcome)),
        replay_answers asked text system accepted puts.rows counts.last counts.outcome puts.trace counts (of_system asked plan counts replayed),
        AppendsPrefix-whole out.bytes out'.bytes (traced_text system (read_rows system puts.rows))
            (subst (Appends out.bytes out'.bytes) (text_is system whole puts.rows counts.last counts.outcome puts.trace) puts.out),
      ),
      same,
    )
