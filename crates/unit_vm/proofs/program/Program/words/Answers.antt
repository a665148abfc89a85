use Rattle.std.proofs.Common.{ℤ, List, ◌++◌, ap, ◌∙◌}
use Rattle.unit_vm.specs.declared.instruction.Instruction.{Instruction}
use Rattle.unit_vm.specs.Instructions.{written}
use Rattle.unit_vm.specs.Programs.{joined, code_of_limit, all_code}
use Rattle.unit_vm.proofs.WriteSteps.{words_joined}
use Rattle.unit_vm.proofs.program.Program.words.Goals as goal

pub returns : goal.returns
returns c =
    let all =
    words_joined c.in_ok-words.words c.push_parts.new.words c.push_limit.new.words c.push_code.new.words (joined c.args.self.now.outputs)
    (code_of_limit c.args.self.now.limit) c.args.self.now.step
    (c.in_ok-push_parts.ensures ∙ ap (λ (parts : List (List Instruction)). c.in_ok-words.words ++ written (joined parts)) c.as_slice.ensures)
    c.in_ok-push_limit.ensures (c.in_ok-push_code.ensures ∙ ap (λ (code : List Instruction). c.push_limit.new.words ++ written code) c.as_slice-2.ensures) in
    all ∙ ap (λ (table : List ℤ). table ++ written (all_code c.args.self.now)) c.in_ok-words.ensures
