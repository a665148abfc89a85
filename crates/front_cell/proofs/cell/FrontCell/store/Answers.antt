use Rattle.std.proofs.Common.{rules, ap, subst, sym}
use Rattle.front_cell.specs.Front.{IsBehind}
use Rattle.front_cell.proofs.Rules.{stores}
use Rattle.front_cell.proofs.cell.FrontCell.store.Goals as goal

pub swap_as-requires : goal.swap_as-requires
swap_as-requires g c =
    let forward = subst (λ front. IsBehind front c.args.next) (sym (ap (λ s. s.front) c.writer.view_is)) c.requires.forward in
    (search rules, (search rules, (search rules, stores _ _ c.writer.inside.front _ _ _ c.writer.invariant.2 forward)))
