use Rattle.unit_vm.proofs.RunEndings.{code_is_one_lem}
use Rattle.unit_vm.proofs.laws.code_is_one.Goals as goal

pub returns : goal.returns
returns c = code_is_one_lem
