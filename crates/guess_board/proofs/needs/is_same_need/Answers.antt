use Rattle.std.proofs.Common.{◌∙◌, sym}
use Rattle.std.specs.Option.{option_eq, option_map}
use Rattle.guess_board.specs.Chains.{is_same_need}
use Rattle.guess_board.specs.Matching.{need_told}
use Rattle.guess_board.proofs.NeedLaws.{need_same}
use Rattle.guess_board.proofs.needs.is_same_need.Goals as goal

pub returns-then-is_same_cell : goal.returns-then-is_same_cell
returns-then-is_same_cell c = λ code.
    let both = c.in-Some-Some in
    need_same code both.one both.other c.eq.result (sym c.is_same_cell.ensures ∙ c.if-is_same_cell.true) c.eq.ensures
    ∙ sym (λ i. option_eq is_same_need (option_map (need_told code) (both.is-0 i)) (option_map (need_told code) (both.is-1 i)))
