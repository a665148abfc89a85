use Rattle.std.proofs.Common.{◌≡◌, ◌∙◌, ap, subst}
use Rattle.csv.specs.Records.{fields_of}
use Rattle.trace_verify.specs.Comparing.{Compared, text_put}
use Rattle.trace_verify.specs.Verdicts.{verdict_of}
use Rattle.stimulus_tables.specs.Records.{records_of}
use Rattle.trace_verify.specs.declared.compare.ComparisonState.TheVariants as course
use Rattle.trace_verify.specs.declared.verdict.Verdict.TheVariants.{Yes, No}
use Rattle.trace_verify.proofs.ToldLaws.{more_told, none_told}
use Rattle.trace_verify.proofs.compare.Comparison.at_end.Goals as goal

pub returns-then-branch : goal.returns-then-branch
returns-then-branch c lines all put =
    let inside = c.self.inside in
    let was : inside.course ≡ course.Same = ap (λ (v : Compared). v.course) c.self.view_is ∙ c.requires in
    let text = ap text_put c.self.view_is ∙ put in
    subst (λ (v : Compared). No inside.number 1 ≡ verdict_of lines (records_of v.table)) c.self.view_is
    (more_told inside.table.now inside.number inside.faults inside.line.items inside.course inside.reader c.take_record.new.reader c.in_ok-take_record.field-0
    (fields_of c.take_record.new.fields) c.self.invariant was c.in_ok-take_record.ensures c.if-branch.true lines all text)

pub returns : goal.returns
returns c lines all put =
    let inside = c.self.inside in
    let was : inside.course ≡ course.Same = ap (λ (v : Compared). v.course) c.self.view_is ∙ c.requires in
    let text = ap text_put c.self.view_is ∙ put in
    subst (λ (v : Compared). Yes ≡ verdict_of lines (records_of v.table)) c.self.view_is
    (none_told inside.table.now inside.number inside.faults inside.line.items inside.course inside.reader c.take_record.new.reader c.in_ok-take_record.field-0
    (fields_of c.take_record.new.fields) c.self.invariant was c.in_ok-take_record.ensures c.if-branch.false lines all text)
