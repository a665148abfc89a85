-- The report of the steps of a run, as the answer for its text.
use Rattle.std.specs.Io.KnownBytes.{Appends}
use Rattle.cosim_io.specs.Pieces.{AppendsPrefix}
use Rattle.cosim_io.proofs.PieceLemmas.{AppendsPrefix-whole}
use Rattle.std.proofs.Common.{◌≡◌, ◌⊎◌, ℕ, List, map, Option, Some, None, Result, Ok, Err, refl, sym, ap, subst, ◌∙◌, inl, inr}
use Rattle.cosim_answers.proofs.CommandLaws.{too_long}
use Rattle.cosim_answers.proofs.Lawful.{AnswersSystems, IsLawful, agree_as_same, determined_on_accepted, lawful_on_accepted}
use Rattle.cosim_answers.proofs.OutputNames.{ends_alike, same_status}
use Rattle.cosim_answers.proofs.TraceLaws.{IsWhole, is_end, whole_of}
use Rattle.cosim_answers.specs.Accepted.{status_of, traced_notes}
use Rattle.cosim_answers.specs.Serving.{IsAccepted, IsUnaccepted}
use Rattle.cosim_call.proofs.ComingLaws.{IsAnswered}
use Rattle.cosim_call.proofs.UsageLaws.{promises_usage, usage_due}
use Rattle.cosim_call.specs.Answers.{Answer, IsEndOfWork, refused_answer, usage_answer}
use Rattle.cosim_call.specs.Calls.{Promises, Stream, Streams}
use Rattle.cosim_call.specs.Coming.{Begins, Serves}
use Rattle.cosim_call.specs.Notes.{usage_note}
use Rattle.cosim_call.specs.Telling.{Tells}
use Rattle.cosim_call.specs.declared.coming.Served.{Served}
use Rattle.cosim_call.specs.declared.coming.Stopped.{Stopped}
use Rattle.cosim_call.specs.declared.coming.Stopped.TheVariants as stopped
use Rattle.cosim_call.specs.declared.status.Status.{Status}
use Rattle.cosim_call.specs.declared.status.Status.TheVariants as status
use Rattle.event_runs.proofs.OnlyTraces.{one_event_trace}
use Rattle.event_runs.proofs.SystemTraces.{last_read, system_are, system_order, system_pace, system_plain, with_pace}
use Rattle.event_runs.proofs.TraceLaws.{trace_read}
use Rattle.event_runs.specs.EventRuns.{event_members_of, event_run_of}
use Rattle.event_runs.specs.EventTrace.{EventStand, IsEventTrace}
use Rattle.event_runs.specs.Laws.{HasOneEventTrace}
use Rattle.event_runs.specs.Readings.{read_end, read_stand}
use Rattle.model_rules.specs.Limits.{text_limit}
use Rattle.run_laws.proofs.PositionLaws.{system_has_members}
use Rattle.run_laws.proofs.RunOrders.{runs_have_orders}
use Rattle.run_laws.proofs.RunTraces.{one_trace}
use Rattle.run_laws.specs.RunLaws.{HasOneTrace}
use Rattle.step_log.proofs.EventReports.{report_read}
use Rattle.step_log.specs.Reports.{AppendsReportPrefix, plain_steps, report_text}
use Rattle.step_log.specs.declared.report.RunEnd.{RunEnd}
use Rattle.step_log.specs.declared.report.StepReport.{StepReport}
use Rattle.steps_command.specs.Laws.{EveryCallIsAnswered, NoCallIsAnsweredTwice}
use Rattle.steps_command.specs.Reporting.{Reports, TellsReported}
use Rattle.steps_command.specs.StepAnswers.{AnswersSteps, IsAnswerFor, IsReportAnswer, TellsSteps, UsageFor, input_for, report_answer, report_asked, reported_text}
use Rattle.text_accept.specs.Accepting.{IsRefusedAt}
use Rattle.unit_tree.specs.Compositions.{run_of}
use Rattle.unit_tree.specs.Plain.{plain_form}
use Rattle.unit_tree.specs.Trace.{IsTrace, Stand}
use Rattle.unit_tree.specs.declared.ending.Ending.{Ending}
use Rattle.unit_tree.specs.declared.system.System.{System}

-- ---- The report of the plain form is that of the system

-- The stands of the system.
abbrev read : System → List Stand → List EventStand
read system stands = map (read_stand (event_members_of system)) stands

text_is : (report : StepReport) (system : System) → IsWhole system → (stands : List Stand) (ending : Ending) → IsTrace (run_of system) stands ending
    → report_text report system (plain_steps (run_of system) stands) ending ≡ reported_text report system (read system stands) (read_end system ending)
unfolding reported_text
text_is report system whole stands ending trace = report_read system whole.ranged whole.well_formed whole.ordered report stands ending trace

told : (system : System) → IsWhole system → (stands : List Stand) (ending : Ending) → IsTrace (run_of system) stands ending
    → IsEventTrace (event_run_of system) (read system stands) (read_end system ending)
told system whole stands ending trace =
    let order = system_order system whole.ranged whole.well_formed whole.ordered in
    subst (λ pace. IsEventTrace (with_pace system whole.ranged whole.well_formed whole.ordered pace) (read system stands) (read_end system ending))
    (system_pace system whole.ranged whole.well_formed whole.ordered)
    (trace_read (event_members_of system) (run_of system) order.0 (system_plain system whole.ranged whole.well_formed whole.ordered)
    (system_are system whole.ranged whole.well_formed whole.ordered) order.1 stands ending trace)

steps_told : (report : StepReport) (system : System) → IsWhole system → (stands : List Stand) (ending : Ending) → IsTrace (run_of system) stands ending
    → TellsSteps report system (report_answer report system (read system stands) (read_end system ending))
steps_told report system whole stands ending trace =
    record { stands = read system stands; ending = read_end system ending; trace = told system whole stands ending trace; is = refl }

answers : (report : StepReport) (text : List ℕ) (system : System) → IsAccepted text system → (stands : List Stand) (ending : Ending)
    → IsTrace (run_of system) stands ending
    → IsReportAnswer report text (report_answer report system (read system stands) (read_end system ending))
answers report text system (lines, accepted) stands ending trace =
    inr (record { system = system; lines = lines; accepted = accepted; is = steps_told report system (whole_of text system lines accepted) stands ending trace })

-- The one trace of the plain form.
plain_trace : (system : System) → IsWhole system → HasOneTrace (run_of system)
plain_trace system whole =
    let order = runs_have_orders system whole.ranged whole.well_formed whole.ordered in
    one_trace (run_of system) order.0 (system_has_members (plain_form system)) order.1

-- ---- The result of the call

-- A text whose steps aren't reported.
pub text_stops : (report : StepReport) (text : List ℕ) (out : Stream) (why : Stopped) → IsUnaccepted text why
    → Serves (IsReportAnswer report text) out out (Err why)
text_stops report text out (stopped.Refused line rule) refused = (inl (record { line = line; rule = rule; refused = refused; is = refl }), refl)
text_stops report text out stopped.NoMemory refused = (inl refl, refl)
text_stops report text out stopped.ReadFault refused = absurd refused
text_stops report text out stopped.WriteFault refused = absurd refused

begins_answer : (report : StepReport) (text : List ℕ) (system : System) → IsAccepted text system → (out out' : Stream)
    → AppendsReportPrefix report system out.bytes out'.bytes → Begins (IsReportAnswer report text) out out'
begins_answer report text system accepted out out' front =
    let whole = whole_of text system accepted.0 accepted.1 in
    let one = plain_trace system whole in
    inr (
      report_answer report system (read system one.stands) (read_end system one.ending),
      answers report text system accepted one.stands one.ending one.is_trace,
      subst (AppendsPrefix out.bytes out'.bytes) (text_is report system whole one.stands one.ending one.is_trace)
          (front.begins one.stands one.ending one.is_trace),
    )

-- A run that was given up.
pub run_given_up : (report : StepReport) (text : List ℕ) (system : System) → IsAccepted text system → (out out' : Stream) (why : Stopped)
    → Reports report system out out' (Err why) → Serves (IsReportAnswer report text) out out' (Err why)
run_given_up report text system accepted out out' stopped.WriteFault (front, rose) = (begins_answer report text system accepted out out' front, rose)
run_given_up report text system accepted out out' stopped.NoMemory (front, same) = (begins_answer report text system accepted out out' front, same)
run_given_up report text system accepted out out' stopped.ReadFault reports = absurd reports
run_given_up report text system accepted out out' (stopped.Refused line rule) reports = absurd reports

-- A run that came to its end, and is reported.
pub run_reported : (report : StepReport) (text : List ℕ) (system : System) → IsAccepted text system → (out out' : Stream) (end : RunEnd)
    (came : Result Served Stopped) → Reports report system out out' (Ok end) → TellsReported system end came
    → Serves (IsReportAnswer report text) out out' came
run_reported report text system accepted out out' end (Ok served) (reports, same) (status_is, notes_is) =
    let whole = whole_of text system accepted.0 accepted.1 in
    let status = status_is ∙ same_status system end.outcome in (
      record {
        answer = report_answer report system (read system reports.stands) (read_end system end.outcome);
        is = answers report text system accepted reports.stands end.outcome reports.trace;
        put = subst (Appends out.bytes out'.bytes) (text_is report system whole reports.stands end.outcome reports.trace) reports.out;
        notes = notes_is
            ∙ ap (λ ending. traced_notes system ending end.last) (ends_alike system whole end.outcome)
            ∙ ap (traced_notes system (read_end system end.outcome)) (reports.last ∙ last_read (event_members_of system) reports.stands);
        status = status;
        ends = is_end (read_end system end.outcome) served.status status;
      },
      same,
    )
run_reported report text system accepted out out' end (Err why) (reports, same) is =
    let whole = whole_of text system accepted.0 accepted.1 in
    subst (λ (one : Stopped). Serves (IsReportAnswer report text) out out' (Err one)) (sym is) (
      inr (
        report_answer report system (read system reports.stands) (read_end system end.outcome),
        answers report text system accepted reports.stands end.outcome reports.trace,
        AppendsPrefix-whole out.bytes out'.bytes (reported_text report system (read system reports.stands) (read_end system end.outcome))
            (subst (Appends out.bytes out'.bytes) (text_is report system whole reports.stands end.outcome reports.trace) reports.out),
      ),
      same,
    )

-- ---- Each text has one answer

one_trace_of : (system : System) → IsWhole system → HasOneEventTrace (event_run_of system)
one_trace_of system whole =
    let order = system_order system whole.ranged whole.well_formed whole.ordered in
    subst (λ pace. HasOneEventTrace (with_pace system whole.ranged whole.well_formed whole.ordered pace))
    (system_pace system whole.ranged whole.well_formed whole.ordered)
    (one_event_trace (event_members_of system) (run_of system) order.0 (system_plain system whole.ranged whole.well_formed whole.ordered)
    (system_are system whole.ranged whole.well_formed whole.ordered) order.1)

same_steps : (report : StepReport) (system : System) → IsWhole system → (one other : Answer) → TellsSteps report system one → TellsSteps report system other
    → one ≡ other
same_steps report system whole one other a b =
    let only = one_trace_of system whole in
    let first = only.is_only a.stands a.ending a.trace in
    let second = only.is_only b.stands b.ending b.trace in
    a.is
    ∙ ap (λ stands. report_answer report system stands a.ending) (first.0 ∙ sym second.0)
    ∙ ap (report_answer report system b.stands) (first.1 ∙ sym second.1)
    ∙ sym b.is

-- There is a report for each system.
systems_answered : (report : StepReport) → AnswersSystems (TellsSteps report)
systems_answered report = record {
  some = λ system whole.
      let one = plain_trace system whole in (
        report_answer report system (read system one.stands) (read_end system one.ending),
        steps_told report system whole one.stands one.ending one.is_trace,
      );
  agree = λ system whole one other a b. agree_as_same one other (same_steps report system whole one other a b);
  ends = λ system answer tells. subst (λ (a : Answer). IsEndOfWork a.status) (sym tells.is) (is_end tells.ending (status_of tells.ending) refl);
}

abbrev lawful : (report : StepReport) → IsLawful IsRefusedAt (AnswersSteps report)
lawful report = lawful_on_accepted (TellsSteps report) (systems_answered report)

answered : (report : StepReport) (text : List ℕ) → (answer : Answer) × IsReportAnswer report text answer
answered report text = by ((lawful report).judged text)
  where
    by : ((line : ℕ) × (rule : ℕ) × IsRefusedAt text line rule) ⊎ ((answer : Answer) × AnswersSteps report text answer)
        → (answer : Answer) × IsReportAnswer report text answer
    by (inl (line, rule, refused)) = (refused_answer line rule, inl (record { line = line; rule = rule; refused = refused; is = refl }))
    by (inr (answer, serves)) = (answer, inr serves)

pub report_is_answered : (report : StepReport) → IsAnswered (Some text_limit) (IsReportAnswer report)
report_is_answered report = record {
  some = answered report;
  long = λ limit text is long. inl (record { line = 1; rule = 2; refused = too_long limit text is long; is = refl });
  free = λ none. absurd (cc);
}

same_answer : (report : StepReport) (text : List ℕ) (one other : Answer) → IsReportAnswer report text one → IsReportAnswer report text other → one ≡ other
same_answer report text one other (inl a) (inl b) =
    let same = (lawful report).one_refusal text a.line a.rule b.line b.rule a.refused b.refused in
    a.is ∙ ap (λ line. refused_answer line a.rule) same.0 ∙ ap (refused_answer b.line) same.1 ∙ sym b.is
same_answer report text one other (inl a) (inr b) = absurd ((lawful report).not_both text a.line a.rule other a.refused b)
same_answer report text one other (inr a) (inl b) = absurd ((lawful report).not_both text b.line b.rule one b.refused a)
same_answer report text one other (inr a) (inr b) = determined_on_accepted (TellsSteps report) (same_steps report) text one other a b

answered_for : (asked : Option StepReport) (text : List ℕ) → (answer : Answer) × IsAnswerFor asked text answer
answered_for (Some report) text = answered report text
answered_for None text = (usage_answer, refl)

answered_once : (asked : Option StepReport) (text : List ℕ) (one other : Answer) → IsAnswerFor asked text one → IsAnswerFor asked text other → one ≡ other
answered_once (Some report) text one other a b = same_answer report text one other a b
answered_once None text one other a b = a ∙ sym b

pub every_call_is_answered : EveryCallIsAnswered
every_call_is_answered words text = answered_for (report_asked words) text

pub no_call_is_answered_twice : NoCallIsAnsweredTwice
no_call_is_answered_twice words text one other a b = answered_once (report_asked words) text one other a b

-- ---- The call

-- Where nothing is asked for, the call reports its usage.
pub usage_kept : (asked : Option StepReport) (source out notes notes' : Stream) (given : Status) → asked ≡ None
    → Tells usage_note status.Usage notes notes' given
    → Promises (input_for asked) (IsAnswerFor asked) (record { source = source; out = out; notes = notes })
    (record { source = source; out = out; notes = notes' }) given
usage_kept (Some report) source out notes notes' given none told = absurd (cc)
usage_kept None source out notes notes' given none told = promises_usage source out notes notes' given told

-- Otherwise it reports the steps of what it reads.
pub report_kept : (asked : Option StepReport) (report : StepReport) (before now : Streams) (given : Status) → asked ≡ Some report
    → Promises (Some text_limit) (IsReportAnswer report) before now given → Promises (input_for asked) (IsAnswerFor asked) before now given
report_kept asked report before now given is promises = subst (λ one. Promises (input_for one) (IsAnswerFor one) before now given) (sym is) promises

-- The usage is due exactly where nothing is asked for.
pub usage_told : (asked : Option StepReport) (notes notes' : Stream) (given : Status) → asked ≡ None → Tells usage_note status.Usage notes notes' given
    → UsageFor asked given
usage_told asked notes notes' given none told = record { only = λ usage. none; due = λ _. usage_due notes notes' given told }

pub report_usage : (asked : Option StepReport) (report : StepReport) (given : Status) → asked ≡ Some report → (given ≡ status.Usage → ⊥) → UsageFor asked given
report_usage asked report given is never =
    record { only = λ usage. absurd (never usage); due = λ none. let both : Some report ≡ None = sym is ∙ none in absurd (cc) }
