use Rattle.std.proofs.Common.{subst}
use Rattle.trace_plan.specs.Plans.{Planned}
use Rattle.cosim_call.specs.Calls.{stream}
use Rattle.cosim_call.specs.Coming.{Serves}
use Rattle.cosim_answers.specs.Answer.{Answers}
use Rattle.cosim_answers.specs.Serving.{TellsEnding}
use Rattle.command_line.specs.declared.commands.Command.TheVariants.{Run}
use Rattle.cosim_answers.proofs.MakingLaws.{handed_on}
use Rattle.cosim_answers.proofs.RunLaws.{run_given_up, run_stops, run_told}
use Rattle.cosim_commands.proofs.commands.run.serve.Goals as goal

pub returns-in_err-plan : goal.returns-in_err-plan
returns-in_err-plan g c =
    let out = stream (g.O.Sink.held c.args.out.now) (g.O.Sink.faults c.args.out.now) in
    handed_on (Serves (Answers (Run c.args.asked.now) c.args.text.now) out out) c.from_residual.result c.in_err-plan.field-0.0 c.from_residual.ensures.1
    (run_stops c.args.asked.now c.args.text.now out c.in_err-plan.field-0.0 c.in_err-plan.ensures.refused)

pub returns-in_err-report : goal.returns-in_err-report
returns-in_err-report g c =
    let out = stream (g.O.Sink.held c.args.out.now) (g.O.Sink.faults c.args.out.now) in
    let out' = stream (g.O.Sink.held c.run_plan.new.out) (g.O.Sink.faults c.run_plan.new.out) in
    handed_on (Serves (Answers (Run c.args.asked.now) c.args.text.now) out out') c.from_residual-in_err-report.result c.in_err-report.field-0.0
    c.from_residual-in_err-report.ensures.1
    (run_given_up c.args.asked.now c.args.text.now c.in_ok-plan.plan.value.system c.in_ok-plan.ensures.planned out out'
    c.in_err-report.field-0.0 c.in_err-report.ensures.runs)

pub returns : goal.returns
returns g c =
    run_told c.args.asked.now c.args.text.now c.in_ok-plan.plan.value.system c.in_ok-plan.ensures.planned
    (stream (g.O.Sink.held c.args.out.now) (g.O.Sink.faults c.args.out.now))
    (stream (g.O.Sink.held c.run_plan.new.out) (g.O.Sink.faults c.run_plan.new.out)) c.in_ok-report.report c.reported.result c.in_ok-report.ensures.runs
    (λ none. c.in_ok-report.ensures.alone)
    (subst (λ (p : Planned). TellsEnding p.system c.args.asked.now c.in_ok-report.report c.reported.result) c.deref.ensures c.reported.ensures)
