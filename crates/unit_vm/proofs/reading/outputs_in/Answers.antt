use Rattle.std.proofs.Common.{◌∷◌, [], ◌++◌, List, ap, ◌∙◌, arith}
use Rattle.unit_vm.specs.declared.instruction.Instruction.{Instruction}
use Rattle.unit_vm.specs.Reading.{code_between, output_place, outputs_of}
use Rattle.unit_vm.proofs.ReadSteps.{output_next}
use Rattle.unit_vm.proofs.reading.outputs_in.Goals as goal

pub loop-output-preserved : goal.loop-output-preserved
loop-output-preserved c =
    let words = c.args.words.now in
    let code = c.in_ok-code.ensures
    ∙ (ap (λ from. code_between words from c.output_place-in-loop-output.result) c.output_place.ensures
    ∙ ap (λ to. code_between words (output_place words c.loop-output.output) to) c.output_place-in-loop-output.ensures) in
    output_next words c.loop-output.output (outputs_of words) c.loop-output.outputs c.push.new.self
    (let n = c.outputs_of-output-end.ensures.number in omega (arith, n, c.loop-output-test.true)) c.loop-output.invariant
    (c.in_ok-push.ensures.ok ∙ ap (λ (code : List Instruction). c.loop-output.outputs ++ code ∷ []) code)
