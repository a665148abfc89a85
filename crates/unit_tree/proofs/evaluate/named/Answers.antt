use Rattle.std.proofs.Common.{◌≡◌, ◌∙◌, sym, ap, false, ◌<◌, length, arith}
use Rattle.std.specs.Str.{bytes_eq}
use Rattle.unit_tree.proofs.ValueLemmas.{value_of_name-later, AreTyped-later}
use Rattle.unit_tree.proofs.evaluate.named.Goals as goal

pub loop-place-preserved : goal.loop-place-preserved
loop-place-preserved c =
    let within : c.loop-place.place < length c.args.variables.now = omega arith in
    let other : bytes_eq c.index-variables-place.result.name c.args.name.now ≡ false =
    ap (λ name. bytes_eq name c.args.name.now) (sym c.as_slice.ensures) ∙ sym c.eq.ensures ∙ c.if-eq.false in (
      c.loop-place.invariant.0
          ∙ value_of_name-later c.args.variables.now c.args.words.now c.args.name.now c.loop-place.place c.index-variables-place.result within
          c.requires.one_each c.index-variables-place.is other,
      AreTyped-later c.args.variables.now c.loop-place.place c.index-variables-place.result within c.loop-place.invariant.1,
    )
