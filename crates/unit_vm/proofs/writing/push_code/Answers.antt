use Rattle.std.proofs.Common.{◌≡◌, pos, ◌∷◌, [], ◌++◌, rules}
use Rattle.std.proofs.lemmas.Option.{slice_get-get_or}
use Rattle.unit_vm.specs.declared.instruction.Instruction.TheVariants.{Push}
use Rattle.unit_vm.specs.Instructions.{operation_of, argument_of}
use Rattle.unit_vm.proofs.RunProgress.{read_at}
use Rattle.unit_vm.proofs.WriteSteps.{code_more}
use Rattle.unit_vm.proofs.writing.push_code.Goals as goal

pub loop-place-preserved : goal.loop-place-preserved
loop-place-preserved c =
    let first : c.push.new.self ≡ c.loop-place.words ++ pos (operation_of (read_at c.args.code.now c.loop-place.place)) ∷ [] = search rules in
    let second : c.push-in-loop-place.new.self ≡ c.push.new.self ++ argument_of (read_at c.args.code.now c.loop-place.place) ∷ [] = search rules in
    code_more c.args.words.now c.loop-place.words c.push.new.self c.push-in-loop-place.new.self c.args.code.now c.loop-place.place
    (read_at c.args.code.now c.loop-place.place)
    (slice_get-get_or c.args.code.now c.loop-place.place (Push (pos 0)) c.loop-place-test.true) c.loop-place.invariant first second
