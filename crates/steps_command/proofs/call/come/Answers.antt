use Rattle.std.proofs.Common.{Some, subst}
use Rattle.cosim_answers.proofs.MakingLaws.{handed_on}
use Rattle.cosim_call.proofs.ComingLaws.{comes_unread, comes_whole}
use Rattle.cosim_call.specs.Calls.{stream}
use Rattle.cosim_call.specs.Coming.{Comes, Serves}
use Rattle.model_rules.specs.Limits.{text_limit}
use Rattle.steps_command.specs.StepAnswers.{IsReportAnswer}
use Rattle.steps_command.proofs.ReportLaws.{report_is_answered}
use Rattle.steps_command.proofs.call.come.Goals as goal

pub returns : goal.returns
returns g c =
    let source = stream (g.S.Source.left c.args.source.now) (g.S.Source.faults c.args.source.now) in
    let source' = stream (g.S.Source.left c.read_input.new.source) (g.S.Source.faults c.read_input.new.source) in
    let out = stream (g.O.Sink.held c.args.out.now) (g.O.Sink.faults c.args.out.now) in
    let out' = stream (g.O.Sink.held c.serve.new.out) (g.O.Sink.faults c.serve.new.out) in
    comes_whole (Some text_limit) (IsReportAnswer c.args.report) source source' out out' c.in_ok-text.text c.serve.result (report_is_answered c.args.report) c.in_ok-text.ensures.reads
    c.in_ok-text.ensures.taken (subst (λ text. Serves (IsReportAnswer c.args.report text) out out' c.serve.result) c.deref.ensures.value c.serve.ensures)

pub returns-in_err-text : goal.returns-in_err-text
returns-in_err-text g c =
    let source = stream (g.S.Source.left c.args.source.now) (g.S.Source.faults c.args.source.now) in
    let source' = stream (g.S.Source.left c.read_input.new.source) (g.S.Source.faults c.read_input.new.source) in
    let out = stream (g.O.Sink.held c.args.out.now) (g.O.Sink.faults c.args.out.now) in
    handed_on (Comes (Some text_limit) (IsReportAnswer c.args.report) source source' out out) c.from_residual.result c.in_err-text.field-0.0 c.from_residual.ensures.1
    (comes_unread (Some text_limit) (IsReportAnswer c.args.report) source source' out c.in_err-text.field-0.0 (report_is_answered c.args.report) c.in_err-text.ensures.reads
    c.in_err-text.ensures.taken)
