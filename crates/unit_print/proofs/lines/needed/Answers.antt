use Rattle.unit_print.proofs.Blocks.{needs_done}
use Rattle.unit_print.proofs.lines.needed.Goals as goal
use Rattle.list_laws.proofs.Options.{on_ok}

pub returns-in_ok-name-in-len1-up : goal.returns-in_ok-name-in-len1-up
returns-in_ok-name-in-len1-up c =
    on_ok c.other_names.result _ _
    (needs_done c.args.names.now c.first-item.result _ c.args.text.now.items _ _ _ c.in-len1-up.len_at_least c.first-item.is c.as_slice.ensures
    c.in_ok-keyword-in-len1-up.ensures c.in_ok-name-in-len1-up.ensures)
    c.other_names.ensures
