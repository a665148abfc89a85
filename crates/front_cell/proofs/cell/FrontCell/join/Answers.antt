use Rattle.std.proofs.Common.{rules, ◌∙◌}
use Rattle.front_cell.proofs.Rules.{hands_on, joins}
use Rattle.front_cell.proofs.cell.FrontCell.join.Goals as goal

pub split_pass-fresh-requires : goal.split_pass-fresh-requires
split_pass-fresh-requires g c = (search rules, (search rules, (search rules, hands_on _ _ _ _ c.reader.invariant.2)))

pub join_pass-requires : goal.join_pass-requires
join_pass-requires g c =
    let reader = c.split_pass-fresh.ensures.given.1 ∙ c.reader.invariant.2 in
    (search rules, (search rules, (search rules, joins _ _ _ _ _ _ _ _ _ c.writer.invariant.2 reader)))
