use Rattle.std.proofs.Common.{ℕ, ◌≤◌, List, length, Option, Ok, Err, subst}
use Rattle.std.specs.Prelude.{IfSome}
use Rattle.cosim_call.specs.Calls.{TakesAtMost, stream}
use Rattle.cosim_call.specs.Coming.{Comes, ReadsInput, Serves}
use Rattle.cosim_call.proofs.ComingLaws.{comes_unread, comes_whole}
use Rattle.cosim_answers.specs.Answer.{Answers}
use Rattle.command_line.specs.Commands.{input_of}
use Rattle.cosim_answers.proofs.CommandLaws.{in_limit, is_answered}
use Rattle.cosim_answers.proofs.MakingLaws.{handed_on}
use Rattle.cosim_commands.proofs.command.come.Goals as goal

pub serve-requires : goal.serve-requires
serve-requires g c =
    subst (λ (input : Option ℕ). IfSome input (λ limit. length c.deref.result.now ≤ limit)) c.input.ensures.input
    (in_limit c.input.result c.in_ok-text.text c.deref.result.now c.deref.ensures.value c.in_ok-text.ensures.within)

pub returns : goal.returns
returns g c =
    let source = stream (g.S.Source.left c.args.source.now) (g.S.Source.faults c.args.source.now) in
    let source' = stream (g.S.Source.left c.read_input.new.source) (g.S.Source.faults c.read_input.new.source) in
    let out = stream (g.O.Sink.held c.args.out.now) (g.O.Sink.faults c.args.out.now) in
    let out' = stream (g.O.Sink.held c.serve.new.out) (g.O.Sink.faults c.serve.new.out) in
    comes_whole (input_of c.args.command.now) (Answers c.args.command.now) source source' out out'
    c.in_ok-text.text c.serve.result (is_answered c.args.command.now c.input.ensures.ranges)
    (subst (λ (input : Option ℕ). ReadsInput input source source' (Ok c.in_ok-text.text)) c.input.ensures.input c.in_ok-text.ensures.reads)
    (subst (λ (input : Option ℕ). TakesAtMost input source source') c.input.ensures.input c.in_ok-text.ensures.taken)
    (subst (λ (text : List ℕ). Serves (Answers c.args.command.now text) out out' c.serve.result) c.deref.ensures.value c.serve.ensures)

pub returns-in_err-text : goal.returns-in_err-text
returns-in_err-text g c =
    let source = stream (g.S.Source.left c.args.source.now) (g.S.Source.faults c.args.source.now) in
    let source' = stream (g.S.Source.left c.read_input.new.source) (g.S.Source.faults c.read_input.new.source) in
    let out = stream (g.O.Sink.held c.args.out.now) (g.O.Sink.faults c.args.out.now) in
    handed_on (Comes (input_of c.args.command.now) (Answers c.args.command.now) source source' out out) c.from_residual.result c.in_err-text.field-0.0
    c.from_residual.ensures.1
    (comes_unread (input_of c.args.command.now) (Answers c.args.command.now) source source' out c.in_err-text.field-0.0
    (is_answered c.args.command.now c.input.ensures.ranges)
    (subst (λ (input : Option ℕ). ReadsInput input source source' (Err c.in_err-text.field-0.0)) c.input.ensures.input c.in_err-text.ensures.reads)
    (subst (λ (input : Option ℕ). TakesAtMost input source source') c.input.ensures.input c.in_err-text.ensures.taken))
