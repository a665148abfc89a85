use Rattle.std.proofs.Common.{◌∷◌, [], Some, ◌∙◌, sym, subst, ap}
use Rattle.unit_vm.specs.declared.program.Role.TheVariants as role
use Rattle.unit_vm.specs.Programs.{with_limit}
use Rattle.unit_vm.specs.Judged.{IsJudgedPart, AreJudged, step_part, merged}
use Rattle.unit_vm.proofs.Judgements.{some_of, judged_one, judged_append, judged_as}
use Rattle.unit_vm.proofs.judging.judge_others.Goals as goal

pub returns-in-None-limit-clause-some : goal.returns-in-None-limit-clause-some
returns-in-None-limit-clause-some c =
    let last = some_of (IsJudgedPart c.args.sizes (step_part c.args.step.now)) _ _ c.in_ok-facts.ensures.some c.in-Some.is in
    subst (λ limit. AreJudged c.args.sizes (with_limit limit (step_part c.args.step.now)) c.in-Some.facts) (sym c.in-None-limit.is)
    (judged_one c.args.sizes (step_part c.args.step.now) c.in-Some.facts last)

pub returns-in-Some-2-clause-some : goal.returns-in-Some-2-clause-some
returns-in-Some-2-clause-some c =
    let last = some_of (IsJudgedPart c.args.sizes (step_part c.args.step.now)) _ _ c.in_ok-facts.ensures.some c.in-Some.is in
    let here =
    some_of (IsJudgedPart c.args.sizes
    (record { role = role.Limit; code = c.as_slice.result.now })) _ _ c.in_ok-facts-in-Some-limit.ensures.some c.in-Some-2.is in
    judged_as c.args.sizes _ _ _ c.merge.ensures
    (subst (λ limit. AreJudged c.args.sizes (with_limit limit (step_part c.args.step.now)) (merged c.in-Some-2.facts c.in-Some.facts))
    (sym (c.in-Some-limit.is ∙ ap (λ code. Some code) (sym c.as_slice.ensures)))
    (judged_append c.args.sizes (record { role = role.Limit; code = c.as_slice.result.now } ∷ [])
    (step_part c.args.step.now ∷ []) c.in-Some-2.facts c.in-Some.facts
    (judged_one c.args.sizes _ c.in-Some-2.facts here) (judged_one c.args.sizes _ c.in-Some.facts last)))
