use Rattle.std.proofs.Common.{Err, refl, ap, subst}
use Rattle.trace_rows.specs.Reports.{AppendsTracePrefix, ReportsTrace}
use Rattle.trace_rows.specs.declared.fault.CrewFault.{CrewFault}
use Rattle.trace_rows.proofs.RunEnds.{front_none}
use Rattle.trace_plan.specs.Plans.{Planned}
use Rattle.cosim_call.specs.Calls.{stream}
use Rattle.cosim_call.specs.declared.coming.Stopped.TheVariants as stopped
use Rattle.cosim_answers.specs.Serving.{Runs}
use Rattle.cosim_answers.proofs.MakingLaws.{handed_on}
use Rattle.cosim_commands.proofs.commands.run.run_plan.Goals as goal

pub returns-in_err-clone-clause-runs : goal.returns-in_err-clone-clause-runs
returns-in_err-clone-clause-runs g c =
    let out = stream (g.O.Sink.held c.args.out.now) (g.O.Sink.faults c.args.out.now) in
    handed_on (Runs c.args.plan.now.value.system out out) c.from_residual.result stopped.NoMemory c.from_residual.ensures.1
    (front_none c.args.plan.now.value.system out.bytes, refl)

pub returns-in-Ok-clause-runs : goal.returns-in-Ok-clause-runs
returns-in-Ok-clause-runs g c = (
  subst (λ (p : Planned). ReportsTrace p.system (g.O.Sink.held c.args.out.now) (g.O.Sink.held c.run_alone.new.out) c.in-Ok.report)
      c.in_ok-clone.ensures.cases c.in-Ok.ensures.whole,
  c.in-Ok.ensures.cause.same (λ e. absurd (cc)),
)

pub returns-in-Err-WriteFault-clause-runs : goal.returns-in-Err-WriteFault-clause-runs
returns-in-Err-WriteFault-clause-runs g c = (
  subst (λ (p : Planned). AppendsTracePrefix p.system (g.O.Sink.held c.args.out.now) (g.O.Sink.held c.run_alone.new.out))
      c.in_ok-clone.ensures.cases c.in-Err-WriteFault.ensures.front,
  c.in-Err-WriteFault.ensures.cause.failed (ap (λ (e : CrewFault). Err e) c.in-Err-WriteFault.field-0-is),
)

pub returns-in-Err-NoMemory-clause-runs : goal.returns-in-Err-NoMemory-clause-runs
returns-in-Err-NoMemory-clause-runs g c = (
  subst (λ (p : Planned). AppendsTracePrefix p.system (g.O.Sink.held c.args.out.now) (g.O.Sink.held c.run_alone.new.out))
      c.in_ok-clone.ensures.cases c.in-Err-NoMemory.ensures.front,
  c.in-Err-NoMemory.ensures.cause.same (λ e. absurd (cc)),
)
