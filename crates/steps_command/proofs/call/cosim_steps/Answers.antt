use Rattle.std.proofs.Common.{◌≡◌, ◌∙◌, Some, None, sym}
use Rattle.command_line.specs.Words.{bytes_of}
use Rattle.cosim_call.proofs.CallLaws.{promises_kept}
use Rattle.cosim_call.proofs.UsageLaws.{never_usage}
use Rattle.cosim_call.specs.Calls.{Streams, stream}
use Rattle.model_rules.specs.Limits.{text_limit}
use Rattle.steps_command.proofs.ReportLaws.{report_kept, report_usage, usage_kept, usage_told}
use Rattle.steps_command.specs.StepAnswers.{IsReportAnswer, report_asked}
use Rattle.steps_command.proofs.call.cosim_steps.Goals as goal

pub returns-in_default : goal.returns-in_default
returns-in_default g c =
    let source = stream (g.S.Source.left c.args.source.now) (g.S.Source.faults c.args.source.now) in
    let out = stream (g.O.Sink.held c.args.out.now) (g.O.Sink.faults c.args.out.now) in
    let notes = stream (g.N.Sink.held c.args.notes.now) (g.N.Sink.faults c.args.notes.now) in
    let notes' = stream (g.N.Sink.held c.tell.new.notes) (g.N.Sink.faults c.tell.new.notes) in
    let asked = report_asked (bytes_of c.args.words.now) in
    let none : asked ≡ None = sym c.report_asked.ensures ∙ c.in_default.is in
    record {
      headline = usage_kept asked source out notes notes' c.tell.result none c.tell.ensures;
      usage = usage_told asked notes notes' c.tell.result none c.tell.ensures;
    }

pub returns : goal.returns
returns g c =
    let source = stream (g.S.Source.left c.args.source.now) (g.S.Source.faults c.args.source.now) in
    let source' = stream (g.S.Source.left c.come-came.new.source) (g.S.Source.faults c.come-came.new.source) in
    let out = stream (g.O.Sink.held c.args.out.now) (g.O.Sink.faults c.args.out.now) in
    let out' = stream (g.O.Sink.held c.come-came.new.out) (g.O.Sink.faults c.come-came.new.out) in
    let notes = stream (g.N.Sink.held c.args.notes.now) (g.N.Sink.faults c.args.notes.now) in
    let notes' = stream (g.N.Sink.held c.finish.new.notes) (g.N.Sink.faults c.finish.new.notes) in
    let before : Streams = record { source = source; out = out; notes = notes } in
    let now : Streams = record { source = source'; out = out'; notes = notes' } in
    let asked = report_asked (bytes_of c.args.words.now) in
    let report = c.in-Some.report in
    let is : asked ≡ Some report = sym c.report_asked.ensures ∙ c.in-Some.is in
    record {
      headline = report_kept asked report before now c.finish.result is
          (promises_kept (Some text_limit) (IsReportAnswer report) before now c.come-came.result c.finish.result c.come-came.ensures c.finish.ensures.told);
      usage = report_usage asked report c.finish.result is
          (never_usage (Some text_limit) (IsReportAnswer report) source source' out out' notes notes' c.come-came.result c.finish.result
          c.come-came.ensures c.finish.ensures.told);
    }
