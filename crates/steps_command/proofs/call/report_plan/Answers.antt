use Rattle.std.proofs.Common.{Err, refl, ap, subst}
use Rattle.cosim_answers.proofs.MakingLaws.{handed_on}
use Rattle.cosim_call.specs.Calls.{stream}
use Rattle.cosim_call.specs.declared.coming.Stopped.TheVariants as stopped
use Rattle.step_log.proofs.SummaryKept.{front_none}
use Rattle.step_log.specs.Reports.{AppendsReportPrefix, ReportsSteps}
use Rattle.steps_command.specs.Reporting.{Reports}
use Rattle.trace_plan.specs.Plans.{Planned}
use Rattle.trace_rows.specs.declared.fault.CrewFault.{CrewFault}
use Rattle.steps_command.proofs.call.report_plan.Goals as goal

pub returns-in_err-clone : goal.returns-in_err-clone
returns-in_err-clone g c =
    let out = stream (g.O.Sink.held c.args.out.now) (g.O.Sink.faults c.args.out.now) in
    handed_on (Reports c.args.report c.args.plan.now.value.system out out) c.from_residual.result stopped.NoMemory c.from_residual.ensures.1
    (front_none c.args.report c.args.plan.now.value.system out.bytes, refl)

pub returns-in-Ok : goal.returns-in-Ok
returns-in-Ok g c = (
  subst (λ (p : Planned). ReportsSteps c.args.report p.system (g.O.Sink.held c.args.out.now) (g.O.Sink.held c.report_steps.new.out) c.in-Ok.end)
      c.in_ok-clone.ensures.cases c.in-Ok.ensures.whole,
  c.in-Ok.ensures.cause.same (λ e. absurd (cc)),
)

pub returns-in-Err-WriteFault : goal.returns-in-Err-WriteFault
returns-in-Err-WriteFault g c = (
  subst (λ (p : Planned). AppendsReportPrefix c.args.report p.system (g.O.Sink.held c.args.out.now) (g.O.Sink.held c.report_steps.new.out))
      c.in_ok-clone.ensures.cases c.in-Err-WriteFault.ensures.front,
  c.in-Err-WriteFault.ensures.cause.failed (ap (λ (e : CrewFault). Err e) c.in-Err-WriteFault.field-0-is),
)

pub returns-in-Err-NoMemory : goal.returns-in-Err-NoMemory
returns-in-Err-NoMemory g c = (
  subst (λ (p : Planned). AppendsReportPrefix c.args.report p.system (g.O.Sink.held c.args.out.now) (g.O.Sink.held c.report_steps.new.out))
      c.in_ok-clone.ensures.cases c.in-Err-NoMemory.ensures.front,
  c.in-Err-NoMemory.ensures.cause.same (λ e. absurd (cc)),
)
