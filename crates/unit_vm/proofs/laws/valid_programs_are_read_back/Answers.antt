use Rattle.unit_vm.proofs.ValidCodeReadBack.{reads_back}
use Rattle.unit_vm.proofs.laws.valid_programs_are_read_back.Goals as goal

pub returns : goal.returns
returns c = λ program valid. reads_back program valid.0 valid.1
