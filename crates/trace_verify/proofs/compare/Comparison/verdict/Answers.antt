use Rattle.std.proofs.Common.{◌≡◌, sym, subst}
use Rattle.trace_verify.specs.Comparing.{Begins, Compared, text_put}
use Rattle.trace_verify.specs.TraceLines.{lines_text}
use Rattle.trace_verify.specs.Verdicts.{verdict_of}
use Rattle.stimulus_tables.specs.Records.{records_of}
use Rattle.trace_verify.specs.declared.verdict.Verdict.TheVariants.{No}
use Rattle.trace_verify.proofs.ToldLaws.{apart_told}
use Rattle.trace_verify.proofs.compare.Comparison.verdict.Goals as goal

pub returns-in-Differs : goal.returns-in-Differs
returns-in-Differs c lines all begins =
    let inside = c.self.inside in
    let text = subst (λ (v : Compared). Begins c.args.whole (text_put v) (lines_text lines)) (sym c.self.view_is) begins in
    subst (λ (v : Compared). No inside.number c.in-Differs.column ≡ verdict_of lines (records_of v.table)) c.self.view_is
    (apart_told inside.table.now inside.number c.in-Differs.column inside.faults inside.line.items inside.course inside.reader c.self.invariant c.in-Differs.is
    lines all c.args.whole text)
