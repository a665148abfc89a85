use Rattle.std.proofs.Common.{rules}
use Rattle.front_cell.proofs.Rules.{loads}
use Rattle.front_cell.proofs.cell.FrontCell.read.Goals as goal

pub load_as-requires : goal.load_as-requires
load_as-requires g c = (search rules, (search rules, (search rules, loads _ _ _ _ c.reader.invariant.2)))
