-- The output and the result of a run, as the answer for its text.
use Rattle.std.specs.Io.KnownBytes.{Appends}
use Rattle.cosim_io.specs.Pieces.{AppendsPrefix}
use Rattle.std.proofs.Common.{◌≡◌, ℕ, List, ◌++◌, length, Option, pos, Result, Ok, Err, refl, sym, ap, subst, ◌∙◌, inl, inr, arith}
use Rattle.std.proofs.lemmas.List.{length-map}
use Rattle.cosim_io.proofs.PieceLemmas.{AppendsPrefix-whole}
use Rattle.event_csv.proofs.TextLaws.{text_read}
use Rattle.event_runs.specs.EventRuns.{IsEventTraceOf, event_members_of}
use Rattle.event_runs.specs.Readings.{read_end, read_row, read_rows}
use Rattle.event_runs.proofs.SystemTraces.{tells}
use Rattle.serial_run.specs.Alone.{IsAlone}
use Rattle.trace_rows.specs.Reports.{AppendsTracePrefix, ReportsTrace}
use Rattle.trace_rows.specs.declared.report.Report.{Report}
use Rattle.super_time.specs.declared.point.Point.{Point}
use Rattle.trace_csv.specs.TraceText.{trace_text}
use Rattle.unit_tree.specs.Trace.{HasCells, Row, IsTraceOf}
use Rattle.unit_tree.specs.WellFormed.{resolution_of}
use Rattle.unit_tree.specs.declared.ending.Ending.{Ending}
use Rattle.unit_tree.specs.declared.system.System.{System}
use Rattle.cosim_call.specs.Calls.{Stream}
use Rattle.cosim_call.specs.Coming.{Begins, Serves}
use Rattle.cosim_call.specs.declared.coming.Served.{Served}
use Rattle.cosim_call.specs.declared.coming.Stopped.{Stopped}
use Rattle.cosim_call.specs.declared.coming.Stopped.TheVariants as stopped
use Rattle.cosim_answers.specs.Accepted.{TellsTrace, run_answer, traced_notes, traced_text}
use Rattle.cosim_answers.specs.Answer.{Answers, CanReport, TellsReported, report_lines, with_report}
use Rattle.cosim_answers.specs.Notes.{ending_notes}
use Rattle.cosim_answers.specs.Serving.{IsAccepted, IsUnaccepted, Runs, TellsEnding}
use Rattle.cosim_answers.specs.SourcePlaces.{source_end}
use Rattle.command_line.specs.declared.commands.Command.TheVariants.{Run}
use Rattle.command_line.specs.declared.running.Running.{Running}
use Rattle.cosim_answers.proofs.OutputNames.{ends_alike, same_status}
use Rattle.cosim_answers.proofs.TraceLaws.{IsWhole, is_end, plain_outcome, whole_of}

-- ---- The trace of a run

-- Its notes, by its system.
pub notes_are : (system lent : System) (resolution : ℕ) (ending : Ending) (last : Point) → lent ≡ system → resolution ≡ resolution_of system
    → ending_notes lent resolution (source_end lent ending) last ≡ traced_notes system (source_end system ending) last
unfolding traced_notes
notes_are system lent resolution ending last lent_is resolution_is =
    ap (λ s. ending_notes s resolution (source_end s ending) last) lent_is
    ∙ ap (λ r. ending_notes system r (source_end system ending) last) resolution_is

-- Its text.
pub text_is : (system : System) → IsWhole system → (rows : List Row) (last : Point) (ending : Ending) → IsTraceOf system rows last ending
    → trace_text system rows ≡ traced_text system (read_rows system rows)
unfolding traced_text
text_is system whole rows last ending trace = text_read system whole.ranged whole.well_formed whole.ordered rows last ending trace

-- Its trace, as that of the system.
pub told : (system : System) → IsWhole system → (rows : List Row) (last : Point) (ending : Ending) → IsTraceOf system rows last ending
    → IsEventTraceOf system (read_rows system rows) last (read_end system ending)
told system whole rows last ending trace = tells system whole.ranged whole.well_formed whole.ordered rows last ending trace

-- So the answer of a run has it.
pub trace_told : (system : System) → IsWhole system → (rows : List Row) (last : Point) (ending : Ending) → IsTraceOf system rows last ending
    → TellsTrace system (run_answer system (read_rows system rows) last (read_end system ending))
trace_told system whole rows last ending trace = record {
  rows = read_rows system rows;
  last = last;
  ending = read_end system ending;
  trace = told system whole rows last ending trace;
  is = refl;
}

-- The answer of a run with its report, which has so many rows.
reported_told : (asked : Running) (system : System) (whole : IsWhole system) (rows : List Row) (last : Point) (ending : Ending)
    → (trace : IsTraceOf system rows last ending) → (report : Report) → CanReport asked.workers system (length rows) report
    → TellsReported asked system (with_report asked report (run_answer system (read_rows system rows) last (read_end system ending)))
reported_told asked system whole rows last ending trace report can = record {
  trace = run_answer system (read_rows system rows) last (read_end system ending);
  tells = record {
    rows = read_rows system rows;
    last = last;
    ending = read_end system ending;
    trace = told system whole rows last ending trace;
    is = refl;
  };
  report = report;
  can = subst (λ count. CanReport asked.workers system count report) (sym (length-map rows (read_row (event_members_of system)))) can;
  is = refl;
}

-- So there is an answer for the text.
run_answers : (asked : Running) (text : List ℕ) (system : System) → IsAccepted text system → (rows : List Row) (last : Point) (ending : Ending)
    → IsTraceOf system rows last ending → (report : Report) → CanReport asked.workers system (length rows) report
    → Answers (Run asked) text (with_report asked report (run_answer system (read_rows system rows) last (read_end system ending)))
run_answers asked text system (lines, accepted) rows last ending trace report can =
    inr (record {
      system = system;
      lines = lines;
      accepted = accepted;
      is = reported_told asked system (whole_of text system lines accepted) rows last ending trace report can;
    })

-- ---- Reports

-- The report of a trace for a run that made all its steps itself.
abbrev pub alone_report : ℕ → ℕ → Ending → Point → Report
alone_report rows cells ending last = record {
  outcome = ending;
  last = last;
  rows = rows;
  sum = pos 0;
  found = 0;
  own = cells;
  tickets = 0;
  posted = 0;
  back = 0;
  lapsed = 0;
}

-- Any run may have this report.
pub alone_can : (workers : ℕ) (system : System) (rows cells : ℕ) (ending : Ending) (last : Point) → HasCells system cells
    → CanReport workers system rows (alone_report rows cells ending last)
alone_can workers system rows cells ending last has = record {
  rows_counted = refl;
  cells = subst (HasCells system) (omega arith) has;
  tickets = refl;
  alone = λ none. record { found = refl; tickets = refl; posted = refl; back = refl; lapsed = refl };
}

-- The report of a run is one that its trace may have.
can_of : (asked : Running) (system : System) (out out' : Option (List ℕ)) (report : Report) (reports : ReportsTrace system out out' report)
    → (asked.workers ≡ 0 → IsAlone report) → CanReport asked.workers system (length reports.rows) report
can_of asked system out out' report reports alone = record {
  rows_counted = reports.rows_counted;
  cells = reports.cells;
  tickets = reports.tickets;
  alone = alone;
}

-- ---- The result of a run

-- A text that is not run.
pub run_stops : (asked : Running) (text : List ℕ) (out : Stream) (why : Stopped) → IsUnaccepted text why → Serves (Answers (Run asked) text) out out (Err why)
run_stops asked text out (stopped.Refused line rule) refused = (inl (record { line = line; rule = rule; refused = refused; is = refl }), refl)
run_stops asked text out stopped.NoMemory refused = (inl refl, refl)
run_stops asked text out stopped.ReadFault refused = absurd refused
run_stops asked text out stopped.WriteFault refused = absurd refused

-- What was written is a prefix of the text of a trace that exists.
begins_answer : (asked : Running) (text : List ℕ) (system : System) → IsAccepted text system → (out out' : Stream) → AppendsTracePrefix system out.bytes out'.bytes
    → Begins (Answers (Run asked) text) out out'
begins_answer asked text system accepted out out' front =
    let whole = whole_of text system accepted.0 accepted.1 in
    let one = plain_outcome system whole in
    let report = alone_report (length one.rows) one.cells one.ending one.last in
    inr (
      with_report asked report (run_answer system (read_rows system one.rows) one.last (read_end system one.ending)),
      run_answers asked text system accepted one.rows one.last one.ending one.is_trace report
          (alone_can asked.workers system (length one.rows) one.cells one.ending one.last one.has_cells),
      subst (AppendsPrefix out.bytes out'.bytes) (text_is system whole one.rows one.last one.ending one.is_trace)
          (front.begins one.rows one.last one.ending one.is_trace),
    )

-- A run that was given up.
pub run_given_up : (asked : Running) (text : List ℕ) (system : System) → IsAccepted text system → (out out' : Stream) (why : Stopped)
    → Runs system out out' (Err why) → Serves (Answers (Run asked) text) out out' (Err why)
run_given_up asked text system accepted out out' stopped.WriteFault (front, rose) = (begins_answer asked text system accepted out out' front, rose)
run_given_up asked text system accepted out out' stopped.NoMemory (front, same) = (begins_answer asked text system accepted out out' front, same)
run_given_up asked text system accepted out out' stopped.ReadFault runs = absurd runs
run_given_up asked text system accepted out out' (stopped.Refused line rule) runs = absurd runs

-- A run that came to its end, and is reported.
pub run_told : (asked : Running) (text : List ℕ) (system : System) → IsAccepted text system → (out out' : Stream) (report : Report)
    → (came : Result Served Stopped) → Runs system out out' (Ok report) → (asked.workers ≡ 0 → IsAlone report)
    → TellsEnding system asked report came → Serves (Answers (Run asked) text) out out' came
run_told asked text system accepted out out' report (Ok served) (reports, same) alone (status_is, notes_is) =
    let whole = whole_of text system accepted.0 accepted.1 in
    let status = status_is ∙ same_status system report.outcome in (
      record {
        answer = with_report asked report (run_answer system (read_rows system reports.rows) report.last (read_end system report.outcome));
        is = run_answers asked text system accepted reports.rows report.last report.outcome reports.trace report
            (can_of asked system out.bytes out'.bytes report reports alone);
        put = subst (Appends out.bytes out'.bytes) (text_is system whole reports.rows report.last report.outcome reports.trace) reports.out;
        notes = notes_is
            ∙ ap (λ ending. traced_notes system ending report.last ++ report_lines asked report) (ends_alike system whole report.outcome);
        status = status;
        ends = is_end (read_end system report.outcome) served.status status;
      },
      same,
    )
run_told asked text system accepted out out' report (Err why) (reports, same) alone is =
    let whole = whole_of text system accepted.0 accepted.1 in
    subst (λ (one : Stopped). Serves (Answers (Run asked) text) out out' (Err one)) (sym is) (
      inr (
        with_report asked report (run_answer system (read_rows system reports.rows) report.last (read_end system report.outcome)),
        run_answers asked text system accepted reports.rows report.last report.outcome reports.trace report
            (can_of asked system out.bytes out'.bytes report reports alone),
        AppendsPrefix-whole out.bytes out'.bytes (traced_text system (read_rows system reports.rows))
            (subst (Appends out.bytes out'.bytes) (text_is system whole reports.rows report.last report.outcome reports.trace) reports.out),
      ),
      same,
    )
