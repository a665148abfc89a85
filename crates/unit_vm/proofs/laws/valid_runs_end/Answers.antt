use Rattle.unit_vm.proofs.RunEndings.{valid_runs_end_lem}
use Rattle.unit_vm.proofs.laws.valid_runs_end.Goals as goal

pub returns : goal.returns
returns c = valid_runs_end_lem
