use Rattle.std.proofs.Common.{subst}
use Rattle.cosim_answers.proofs.MakingLaws.{handed_on}
use Rattle.cosim_call.specs.Calls.{stream}
use Rattle.cosim_call.specs.Coming.{Serves}
use Rattle.steps_command.specs.Reporting.{TellsReported}
use Rattle.steps_command.specs.StepAnswers.{IsReportAnswer}
use Rattle.steps_command.proofs.ReportLaws.{run_given_up, run_reported, text_stops}
use Rattle.trace_plan.specs.Plans.{Planned}
use Rattle.steps_command.proofs.call.serve.Goals as goal

pub returns-in_err-plan : goal.returns-in_err-plan
returns-in_err-plan g c =
    let out = stream (g.O.Sink.held c.args.out.now) (g.O.Sink.faults c.args.out.now) in
    handed_on (Serves (IsReportAnswer c.args.report c.args.text.now) out out) c.from_residual.result c.in_err-plan.field-0.0 c.from_residual.ensures.1
    (text_stops c.args.report c.args.text.now out c.in_err-plan.field-0.0 c.in_err-plan.ensures.refused)

pub returns-in_err-end : goal.returns-in_err-end
returns-in_err-end g c =
    let out = stream (g.O.Sink.held c.args.out.now) (g.O.Sink.faults c.args.out.now) in
    let out' = stream (g.O.Sink.held c.report_plan.new.out) (g.O.Sink.faults c.report_plan.new.out) in
    handed_on (Serves (IsReportAnswer c.args.report c.args.text.now) out out') c.from_residual-in_err-end.result c.in_err-end.field-0.0
    c.from_residual-in_err-end.ensures.1
    (run_given_up c.args.report c.args.text.now c.in_ok-plan.plan.value.system c.in_ok-plan.ensures.planned out out' c.in_err-end.field-0.0 c.in_err-end.ensures)

pub returns : goal.returns
returns g c =
    run_reported c.args.report c.args.text.now c.in_ok-plan.plan.value.system c.in_ok-plan.ensures.planned
    (stream (g.O.Sink.held c.args.out.now) (g.O.Sink.faults c.args.out.now))
    (stream (g.O.Sink.held c.report_plan.new.out) (g.O.Sink.faults c.report_plan.new.out)) c.in_ok-end.end c.reported.result c.in_ok-end.ensures
    (subst (λ (p : Planned). TellsReported p.system c.in_ok-end.end c.reported.result) c.deref.ensures c.reported.ensures)
