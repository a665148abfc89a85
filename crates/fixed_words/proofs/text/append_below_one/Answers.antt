use Rattle.std.proofs.Common.{◌++◌, [], ◌∷◌, ◌-◌, length, replicate, sym, ap, ◌∙◌, arith}
use Rattle.fixed_words.proofs.Fractions.{below_one, zeros_are, three_pieces}
use Rattle.fixed_words.proofs.text.append_below_one.Goals as goal

pub returns-clause-ok : goal.returns-clause-ok
returns-clause-ok c =
    let digits = c.args.digits.now in
    let zeros = c.args.decimals - length digits in
    let with_zeros = c.in_ok-extend_from_slice-2.ensures.items ∙ ap (λ bytes. c.extend_from_slice.new.self.items ++ bytes) (zeros_are zeros (omega arith)) in
    three_pieces c.args.out.now.items (48 ∷ 46 ∷ [])
    (replicate zeros 48) digits c.extend_from_slice.new.self.items c.extend_from_slice-2.new.self.items c.extend_from_slice-3.new.self.items
    c.in_ok-extend_from_slice.ensures.items with_zeros c.in_ok-extend_from_slice-3.ensures.items
    ∙ ap (λ bytes. c.args.out.now.items ++ bytes) (sym (below_one c.args.decimals digits c.requires.all_decimals c.requires.some_decimals))
