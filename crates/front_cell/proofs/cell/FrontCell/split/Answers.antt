use Rattle.std.proofs.Common.{rules}
use Rattle.front_cell.proofs.Rules.{splits}
use Rattle.front_cell.proofs.cell.FrontCell.split.Goals as goal

pub split_pass-requires : goal.split_pass-requires
split_pass-requires g c = (search rules, (search rules, (search rules, splits _ _ _ _ _ c.writer.invariant.2)))
