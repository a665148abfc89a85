use Rattle.std.proofs.Common.{List, ◌++◌, ap, ◌∙◌}
use Rattle.list_laws.proofs.Members.{read_at}
use Rattle.unit_vm.specs.declared.instruction.Instruction.{Instruction}
use Rattle.unit_vm.specs.Instructions.{written}
use Rattle.unit_vm.proofs.WriteSteps.{parts_more}
use Rattle.unit_vm.proofs.writing.push_parts.Goals as goal

pub loop-place-preserved : goal.loop-place-preserved
loop-place-preserved c =
    parts_more c.args.words.now c.loop-place.words c.push_code.new.words c.args.parts.now c.loop-place.place c.index-parts-place.result
    (read_at c.args.parts.now c.loop-place.place c.index-parts-place.result c.loop-place-test.true c.index-parts-place.is) c.loop-place.invariant
    (c.in_ok-push_code.ensures ∙ ap (λ (code : List Instruction). c.loop-place.words ++ written code) c.as_slice.ensures)
