use Rattle.std.proofs.Common.{◌∙◌, ap, subst}
use Rattle.unit_answers.proofs.MeaningLaws.{proven_so}
use Rattle.unit_answers.proofs.proving.prove.Goals as goal
use Rattle.unit_exec.specs.Images.{Compiled}
use Rattle.unit_vm.specs.Valid.{HasFacts}

pub invariant_of-result : goal.invariant_of-result
invariant_of-result c =
    let valid =
    subst (λ program. HasFacts program c.facts.result) (c.code.ensures ∙ ap (λ (image : Compiled). image.program) c.deref.ensures) c.facts.ensures in
    proven_so c.args.unit.now c.give.new.unit c.args.want c.in_ok-key.key c.in_ok-answer.answer c.facts.result c.requires.code c.requires.words c.requires.end
    valid c.in_ok-key.ensures c.give.ensures c.in_ok-answer.ensures.answer
