use Rattle.std.proofs.Common.{◌≡◌, ℤ, ◌∷◌, [], ◌++◌, ◌+◌, ◌*◌, ap, ◌∙◌, pos, get_or, rules, to_z, of_z, w64}
use Rattle.std.proofs.lemmas.Int.{to_z-of_z}
use Rattle.unit_vm.specs.declared.instruction.Instruction.{Instruction}
use Rattle.unit_vm.specs.Reading.{instruction_in}
use Rattle.unit_vm.proofs.ReadSteps.{pair_next, pairs_all}
use Rattle.unit_vm.proofs.reading.code_in.Goals as goal

pub loop-pair-preserved : goal.loop-pair-preserved
loop-pair-preserved c =
    let one : ℤ = get_or c.args.words.now (2 * c.loop-pair.pair) (pos 0) in
    let two : ℤ = get_or c.args.words.now (2 * c.loop-pair.pair + 1) (pos 0) in
    let first : to_z w64 (of_z w64 one) ≡ one = search (rules, to_z-of_z) in
    let second : to_z w64 (of_z w64 two) ≡ two = search (rules, to_z-of_z) in
    let told = c.instruction_in.ensures ∙ (ap (λ x. instruction_in x (to_z w64 (of_z w64 two))) first ∙ ap (instruction_in one) second) in
    pair_next c.args.words.now c.loop-pair.pair c.loop-pair.code c.push.new.self c.loop-pair-test.true c.loop-pair.invariant
    (c.in_ok-push.ensures.ok ∙ ap (λ (i : Instruction). c.loop-pair.code ++ i ∷ []) told)

pub returns : goal.returns
returns c = pairs_all c.args.words.now c.loop-pair.pair c.loop-pair.code c.loop-pair-test.false c.loop-pair.invariant
