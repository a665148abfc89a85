use Rattle.front_cell.proofs.StoresAndReads.{writer_forward}
use Rattle.front_cell.proofs.laws.writer_never_goes_back.Goals as goal

pub returns : goal.returns
returns c = writer_forward
