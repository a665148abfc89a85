use Rattle.std.proofs.Common.{subst}
use Rattle.trace_plan.specs.Plans.{Planned}
use Rattle.cosim_call.specs.Calls.{stream}
use Rattle.cosim_call.specs.Coming.{Serves}
use Rattle.cosim_answers.specs.Answer.{Answers}
use Rattle.cosim_answers.specs.Serving.{TellsReplayed}
use Rattle.command_line.specs.declared.commands.Command.TheVariants.{Replay}
use Rattle.cosim_answers.proofs.MakingLaws.{handed_on}
use Rattle.cosim_answers.proofs.ReplayLaws.{replay_given_up, replay_stops, replay_told}
use Rattle.cosim_commands.proofs.commands.replay.serve.Goals as goal

pub returns-in_err-plan : goal.returns-in_err-plan
returns-in_err-plan g c =
    let out = stream (g.O.Sink.held c.args.out.now) (g.O.Sink.faults c.args.out.now) in
    handed_on (Serves (Answers (Replay c.args.asked) c.args.text.now) out out) c.from_residual.result c.in_err-plan.field-0.0
    c.from_residual.ensures.1
    (replay_stops c.args.asked c.args.text.now out c.in_err-plan.field-0.0 c.in_err-plan.ensures.refused)

pub returns-in_err-counts : goal.returns-in_err-counts
returns-in_err-counts g c =
    let out = stream (g.O.Sink.held c.args.out.now) (g.O.Sink.faults c.args.out.now) in
    let out' = stream (g.O.Sink.held c.replay_plan.new.out) (g.O.Sink.faults c.replay_plan.new.out) in
    handed_on (Serves (Answers (Replay c.args.asked) c.args.text.now) out out') c.from_residual-in_err-counts.result c.in_err-counts.field-0.0
    c.from_residual-in_err-counts.ensures.1
    (replay_given_up c.args.asked c.args.text.now c.in_ok-plan.plan.value c.in_ok-plan.ensures.planned out out' c.in_err-counts.field-0.0
    c.in_err-counts.ensures)

pub returns : goal.returns
returns g c =
    replay_told c.args.asked c.args.text.now c.in_ok-plan.plan.value c.in_ok-plan.ensures.planned
    (stream (g.O.Sink.held c.args.out.now) (g.O.Sink.faults c.args.out.now))
    (stream (g.O.Sink.held c.replay_plan.new.out) (g.O.Sink.faults c.replay_plan.new.out)) c.in_ok-counts.counts c.replayed.result c.in_ok-counts.ensures
    (subst (λ (p : Planned). TellsReplayed p.system c.in_ok-counts.counts c.replayed.result) c.deref.ensures c.replayed.ensures)
