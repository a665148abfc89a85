use Rattle.std.proofs.Common.{sym, subst}
use Rattle.cosim_call.specs.Calls.{stream}
use Rattle.cosim_call.specs.Coming.{Serves}
use Rattle.cosim_call.proofs.ComingLaws.{serves_made}
use Rattle.cosim_answers.specs.Answer.{Answers}
use Rattle.command_line.specs.declared.commands.Command.{Command}
use Rattle.command_line.specs.declared.commands.Command.TheVariants.{Bench}
use Rattle.cosim_commands.proofs.command.serve_crewed.Goals as goal

pub returns-in-Bench : goal.returns-in-Bench
returns-in-Bench g c =
    let out = stream (g.O.Sink.held c.args.out.now) (g.O.Sink.faults c.args.out.now) in
    let out' = stream (g.O.Sink.held c.put_made.new.out) (g.O.Sink.faults c.put_made.new.out) in
    subst (λ (command : Command). Serves (Answers command c.args.text.now) out out' c.put_made.result) (sym c.in-Bench.is)
    (serves_made (Answers (Bench c.in-Bench.asked) c.args.text.now) out out' c.make_crewed.result c.put_made.result
    (c.make_crewed.ensures c.args.text.now) c.put_made.ensures)
