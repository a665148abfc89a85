use Rattle.std.proofs.Common.{◌≡◌, ◌∙◌, List, ap, subst}
use Rattle.trace_verify.specs.Comparing.{Compared, IsJudged, PutsByte, goes_on}
use Rattle.stimulus_tables.specs.Reading.{Gives}
use Rattle.stimulus_tables.specs.Records.{Fields, records_of}
use Rattle.trace_verify.specs.declared.compare.ComparisonState.TheVariants as course
use Rattle.trace_verify.proofs.CourseLaws.{same_kept, same_put, seen}
use Rattle.trace_verify.proofs.compare.Comparison.end_line.Goals as goal

pub invariant_of-self : goal.invariant_of-self
invariant_of-self c =
    let was : c.self.inside.course ≡ course.Same = ap (λ (v : Compared). v.course) c.self.view_is ∙ c.requires in
    let judged : (rest : List Fields) → Gives c.self.inside.reader rest → IsJudged rest c.self.inside.line.items c.judge-self-inside.new.reader c.judge-self-inside.result =
    subst (λ line. (rest : List Fields) → Gives c.self.inside.reader rest → IsJudged rest line c.judge-self-inside.new.reader c.judge-self-inside.result)
    c.as_slice.ensures.value c.judge-self-inside.ensures in
    same_kept (records_of c.self.inside.table.now) c.self.inside.number c.in-Some.number c.self.inside.line.items c.clear.new.self.items c.self.inside.course
    c.judge-self-inside.result c.self.inside.reader c.judge-self-inside.new.reader c.self.invariant was c.in-Same.is c.in-Some.ensures.1 c.clear.ensures.items judged

pub returns-in-Some : goal.returns-in-Some
returns-in-Some c =
    let was : c.self.inside.course ≡ course.Same = ap (λ (v : Compared). v.course) c.self.view_is ∙ c.requires in
    let judged : (rest : List Fields) → Gives c.self.inside.reader rest → IsJudged rest c.self.inside.line.items c.judge-self-inside.new.reader c.judge-self-inside.result =
    subst (λ line. (rest : List Fields) → Gives c.self.inside.reader rest → IsJudged rest line c.judge-self-inside.new.reader c.judge-self-inside.result)
    c.as_slice.ensures.value c.judge-self-inside.ensures in
    subst (λ old. PutsByte old (seen c.self.inside.table.now c.in-Some.number c.clear.new.self.items c.judge-self-inside.result c.self.inside.faults) 10
    (goes_on c.judge-self-inside.result)) c.self.view_is
    (same_put c.self.inside.table.now c.self.inside.number c.in-Some.number c.self.inside.faults c.self.inside.line.items c.clear.new.self.items
    c.self.inside.course c.judge-self-inside.result c.self.inside.reader c.judge-self-inside.new.reader c.self.invariant was c.in-Same.is c.in-Some.ensures.1
    c.clear.ensures.items judged)
