use Rattle.std.proofs.Common.{sym, subst}
use Rattle.cosim_call.specs.Calls.{stream}
use Rattle.cosim_call.specs.Coming.{Serves}
use Rattle.cosim_call.proofs.ComingLaws.{serves_made}
use Rattle.cosim_answers.specs.Answer.{Answers}
use Rattle.command_line.specs.Commands.{IsReadable}
use Rattle.command_line.specs.declared.commands.Command.{Command}
use Rattle.command_line.specs.declared.commands.Command.TheVariants.{Gen, Bench, Save}
use Rattle.cosim_commands.proofs.command.serve.Goals as goal

pub returns-in-Gen : goal.returns-in-Gen
returns-in-Gen g c =
    let out = stream (g.O.Sink.held c.args.out.now) (g.O.Sink.faults c.args.out.now) in
    let out' = stream (g.O.Sink.held c.put_made-in-Gen.new.out) (g.O.Sink.faults c.put_made-in-Gen.new.out) in
    subst (λ (command : Command). Serves (Answers command c.args.text.now) out out' c.put_made-in-Gen.result) (sym c.in-Gen.is)
    (serves_made (Answers (Gen c.in-Gen.asked) c.args.text.now) out out' c.make-in-Gen.result c.put_made-in-Gen.result
    (c.make-in-Gen.ensures c.args.text.now) c.put_made-in-Gen.ensures)

pub returns-in-Bench : goal.returns-in-Bench
returns-in-Bench g c =
    let out = stream (g.O.Sink.held c.args.out.now) (g.O.Sink.faults c.args.out.now) in
    let out' = stream (g.O.Sink.held c.put_made-in-Bench.new.out) (g.O.Sink.faults c.put_made-in-Bench.new.out) in
    subst (λ (command : Command). Serves (Answers command c.args.text.now) out out' c.put_made-in-Bench.result) (sym c.in-Bench.is)
    (serves_made (Answers (Bench c.in-Bench.asked) c.args.text.now) out out' c.make-in-Bench.result c.put_made-in-Bench.result
    (c.make-in-Bench.ensures c.args.text.now) c.put_made-in-Bench.ensures)

pub returns-in-Save : goal.returns-in-Save
returns-in-Save g c =
    let out = stream (g.O.Sink.held c.args.out.now) (g.O.Sink.faults c.args.out.now) in
    let out' = stream (g.O.Sink.held c.put_made-in-Save.new.out) (g.O.Sink.faults c.put_made-in-Save.new.out) in
    subst (λ (command : Command). Serves (Answers command c.args.text.now) out out' c.put_made-in-Save.result) (sym c.in-Save.is)
    (serves_made (Answers (Save c.in-Save.asked) c.args.text.now) out out' c.make-in-Save.result c.put_made-in-Save.result
    c.make-in-Save.ensures c.put_made-in-Save.ensures)

pub serve-requires-in-Resume : goal.serve-requires-in-Resume
serve-requires-in-Resume g c =
    record { within = subst (λ (command : Command). IsReadable command c.args.text.now) c.in-Resume.is c.requires }

pub make-requires-in-Verify : goal.make-requires-in-Verify
make-requires-in-Verify g c =
    record { within = subst (λ (command : Command). IsReadable command c.args.text.now) c.in-Verify.is c.requires }

pub make-requires-in-Stimulus : goal.make-requires-in-Stimulus
make-requires-in-Stimulus g c =
    record { within = subst (λ (command : Command). IsReadable command c.args.text.now) c.in-Stimulus.is c.requires }
