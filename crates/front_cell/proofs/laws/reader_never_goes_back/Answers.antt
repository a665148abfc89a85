use Rattle.front_cell.proofs.StoresAndReads.{reader_forward}
use Rattle.front_cell.proofs.laws.reader_never_goes_back.Goals as goal

pub returns : goal.returns
returns c = reader_forward
