use Rattle.std.proofs.Common.{Option, subst}
use Rattle.cosim_call.specs.Calls.{Promises, Streams, stream}
use Rattle.cosim_call.proofs.CallLaws.{promises_kept}
use Rattle.cosim_call.proofs.UsageLaws.{never_usage, promises_usage, usage_due}
use Rattle.cosim_answers.specs.Answer.{Answers, AnswersOf}
use Rattle.command_line.specs.Commands.{input_of, input_of_words}
use Rattle.command_line.specs.Words.{bytes_of}
use Rattle.command_line.specs.declared.commands.Command.{Command}
use Rattle.cosim_answers.proofs.CommandLaws.{has_form, has_no_form}
use Rattle.cosim_commands.proofs.command.cosim_alone.Goals as goal

pub returns-in-Some : goal.returns-in-Some
returns-in-Some g c =
    let source = stream (g.S.Source.left c.args.source.now) (g.S.Source.faults c.args.source.now) in
    let source' = stream (g.S.Source.left c.come-came.new.source) (g.S.Source.faults c.come-came.new.source) in
    let out = stream (g.O.Sink.held c.args.out.now) (g.O.Sink.faults c.args.out.now) in
    let out' = stream (g.O.Sink.held c.come-came.new.out) (g.O.Sink.faults c.come-came.new.out) in
    let notes = stream (g.N.Sink.held c.args.notes.now) (g.N.Sink.faults c.args.notes.now) in
    let notes' = stream (g.N.Sink.held c.finish.new.notes) (g.N.Sink.faults c.finish.new.notes) in
    let before : Streams = record { source = source; out = out; notes = notes } in
    let now : Streams = record { source = source'; out = out'; notes = notes' } in
    let input = input_of c.in-Some.command in
    let IsAnswer = Answers c.in-Some.command in
    record {
      headline = subst (λ (words : Option Command). Promises (input_of_words words) (AnswersOf words) before now c.finish.result) c.in-Some.ensures
          (promises_kept input IsAnswer before now c.come-came.result c.finish.result c.come-came.ensures c.finish.ensures.told);
      usage = has_form (bytes_of c.args.words.now) c.in-Some.command c.finish.result c.in-Some.ensures
          (never_usage input IsAnswer source source' out out' notes notes' c.come-came.result c.finish.result c.come-came.ensures
          c.finish.ensures.told);
    }

pub returns-in-None : goal.returns-in-None
returns-in-None g c =
    let source = stream (g.S.Source.left c.args.source.now) (g.S.Source.faults c.args.source.now) in
    let out = stream (g.O.Sink.held c.args.out.now) (g.O.Sink.faults c.args.out.now) in
    let notes = stream (g.N.Sink.held c.args.notes.now) (g.N.Sink.faults c.args.notes.now) in
    let notes' = stream (g.N.Sink.held c.tell.new.notes) (g.N.Sink.faults c.tell.new.notes) in
    let before : Streams = record { source = source; out = out; notes = notes } in
    let now : Streams = record { source = source; out = out; notes = notes' } in
    record {
      headline = subst (λ (words : Option Command). Promises (input_of_words words) (AnswersOf words) before now c.tell.result) c.in-None.ensures
          (promises_usage source out notes notes' c.tell.result c.tell.ensures);
      usage = has_no_form (bytes_of c.args.words.now) c.tell.result c.in-None.ensures (usage_due notes notes' c.tell.result c.tell.ensures);
    }
