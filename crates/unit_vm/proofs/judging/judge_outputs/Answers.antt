use Rattle.std.proofs.Common.{subst}
use Rattle.list_laws.proofs.Members.{read_at}
use Rattle.unit_vm.specs.Programs.{output_part}
use Rattle.unit_vm.specs.Judged.{IsJudgedPart, IsNoPart}
use Rattle.unit_vm.proofs.Judgements.{some_of, none_of, outputs_more, outputs_none, judged_as}
use Rattle.unit_vm.proofs.judging.judge_outputs.Goals as goal

pub returns-in-None-clause-none : goal.returns-in-None-clause-none
returns-in-None-clause-none c =
    outputs_none c.args.sizes c.args.outputs.now c.loop-place.place c.index-outputs-place.result
    (read_at c.args.outputs.now c.loop-place.place c.index-outputs-place.result c.loop-place-test.true c.index-outputs-place.is)
    (subst (λ code. IsNoPart c.args.sizes (output_part code)) c.as_slice.ensures
    (none_of (IsNoPart c.args.sizes (output_part c.as_slice.result.now)) _ c.in_ok-facts.ensures.none c.in-None.is))

pub loop-place-preserved : goal.loop-place-preserved
loop-place-preserved c =
    judged_as c.args.sizes _ _ _ c.merge-all.ensures
    (outputs_more c.args.sizes c.args.outputs.now c.loop-place.place c.index-outputs-place.result c.loop-place.all c.in-Some.facts
    (read_at c.args.outputs.now c.loop-place.place c.index-outputs-place.result c.loop-place-test.true c.index-outputs-place.is) c.loop-place.invariant
    (subst (λ code. IsJudgedPart c.args.sizes (output_part code) c.in-Some.facts) c.as_slice.ensures
    (some_of (IsJudgedPart c.args.sizes (output_part c.as_slice.result.now)) _ _ c.in_ok-facts.ensures.some c.in-Some.is)))
