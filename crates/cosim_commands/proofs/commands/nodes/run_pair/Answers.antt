use Rattle.std.proofs.Common.{Err, refl, ap, subst}
use Rattle.link_nodes.proofs.RunLaws.{begins_none}
use Rattle.link_nodes.specs.Shown.{BeginsRounds, ShowsRounds}
use Rattle.trace_rows.specs.declared.fault.CrewFault.{CrewFault}
use Rattle.trace_plan.specs.Plans.{Planned}
use Rattle.cosim_call.specs.Calls.{stream}
use Rattle.cosim_call.specs.declared.coming.Stopped.TheVariants as stopped
use Rattle.cosim_answers.specs.Serving.{RunsNodes}
use Rattle.cosim_answers.proofs.MakingLaws.{handed_on}
use Rattle.cosim_commands.proofs.commands.nodes.run_pair.Goals as goal

pub returns-in_err-clone : goal.returns-in_err-clone
returns-in_err-clone g c =
    let out = stream (g.O.Sink.held c.args.out.now) (g.O.Sink.faults c.args.out.now) in
    handed_on (RunsNodes c.args.plan.now.value c.args.asked out out) c.from_residual.result stopped.NoMemory c.from_residual.ensures.1
    (begins_none c.args.plan.now.value c.args.asked.seed c.args.asked.rounds out.bytes, refl)

pub returns-in-Ok : goal.returns-in-Ok
returns-in-Ok g c = (
  subst (λ (p : Planned). ShowsRounds p c.args.asked.seed c.args.asked.rounds (g.O.Sink.held c.args.out.now) (g.O.Sink.held c.run_nodes.new.out) c.in-Ok.nodes)
      c.in_ok-clone.ensures.cases
      (subst (λ rounds. ShowsRounds c.in_ok-clone.field-0.value c.args.asked.seed rounds (g.O.Sink.held c.args.out.now)
      (g.O.Sink.held c.run_nodes.new.out) c.in-Ok.nodes) c.get-rounds.ensures.value c.in-Ok.ensures.whole),
  c.in-Ok.ensures.cause.same (λ e. absurd (cc)),
)

pub returns-in-Err-WriteFault : goal.returns-in-Err-WriteFault
returns-in-Err-WriteFault g c = (
  subst (λ (p : Planned). BeginsRounds p c.args.asked.seed c.args.asked.rounds (g.O.Sink.held c.args.out.now) (g.O.Sink.held c.run_nodes.new.out))
      c.in_ok-clone.ensures.cases
      (subst (λ rounds. BeginsRounds c.in_ok-clone.field-0.value c.args.asked.seed rounds (g.O.Sink.held c.args.out.now)
      (g.O.Sink.held c.run_nodes.new.out)) c.get-rounds.ensures.value c.in-Err-WriteFault.ensures.front),
  c.in-Err-WriteFault.ensures.cause.failed (ap (λ (e : CrewFault). Err e) c.in-Err-WriteFault.field-0-is),
)

pub returns-in-Err-NoMemory : goal.returns-in-Err-NoMemory
returns-in-Err-NoMemory g c = (
  subst (λ (p : Planned). BeginsRounds p c.args.asked.seed c.args.asked.rounds (g.O.Sink.held c.args.out.now) (g.O.Sink.held c.run_nodes.new.out))
      c.in_ok-clone.ensures.cases
      (subst (λ rounds. BeginsRounds c.in_ok-clone.field-0.value c.args.asked.seed rounds (g.O.Sink.held c.args.out.now)
      (g.O.Sink.held c.run_nodes.new.out)) c.get-rounds.ensures.value c.in-Err-NoMemory.ensures.front),
  c.in-Err-NoMemory.ensures.cause.same (λ e. absurd (cc)),
)
