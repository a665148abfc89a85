use Rattle.std.proofs.Common.{◌≡◌, ◌∙◌, sym, ap, true, false, ◌<◌, length, arith, w64, to_z, of_z, Ok}
use Rattle.std.proofs.lemmas.Int.{to_z-of_z}
use Rattle.std.specs.Str.{bytes_eq}
use Rattle.fixed_words.specs.Types.{is_word_of}
use Rattle.unit_tree.specs.Effects.{stored}
use Rattle.unit_tree.proofs.EffectLemmas.{stored-later, stored-here}
use Rattle.unit_tree.proofs.effects.store.Goals as goal

pub loop-place-preserved : goal.loop-place-preserved
loop-place-preserved c =
    let within : c.loop-place.place < length c.args.variables.now = omega arith in
    let one_each : length c.loop-place.words ≡ length c.args.variables.now = ap length c.loop-place.invariant.0 ∙ c.requires in
    let other : bytes_eq c.index-variables-place.result.name c.args.name.now ≡ false =
    ap (λ name. bytes_eq name c.args.name.now) (sym c.as_slice.ensures) ∙ sym c.eq.ensures ∙ c.if-eq.false in (
      c.loop-place.invariant.0,
      c.loop-place.invariant.1
          ∙ stored-later c.args.variables.now c.loop-place.words c.args.name.now
          (to_z w64 (of_z w64 c.args.word)) c.loop-place.place c.index-variables-place.result within one_each c.index-variables-place.is other,
    )

pub returns-then-eq-clause-ok : goal.returns-then-eq-clause-ok
returns-then-eq-clause-ok c =
    let word = to_z w64 (of_z w64 c.args.word) in
    let word_is : to_z w64 (of_z w64 c.args.word) ≡ c.args.word = to_z-of_z w64 c.args.word c.ranges.word in
    let within : c.loop-place.place < length c.args.variables.now = omega arith in
    let one_each : length c.loop-place.words ≡ length c.args.variables.now = ap length c.loop-place.invariant.0 ∙ c.requires in
    let same : bytes_eq c.index-variables-place.result.name c.args.name.now ≡ true =
    ap (λ name. bytes_eq name c.args.name.now) (sym c.as_slice.ensures) ∙ sym c.eq.ensures ∙ c.if-eq.true in
    let fits : is_word_of c.index-variables-place.result.ty (to_z w64 (of_z w64 c.args.word)) ≡ true = sym c.fits.ensures ∙ c.if-not-fits.false in
    ap (λ w. stored c.args.variables.now c.args.words.now c.args.name.now w) (sym word_is)
    ∙ ap (λ ws. stored c.args.variables.now ws c.args.name.now (to_z w64 (of_z w64 c.args.word))) (sym c.loop-place.invariant.0)
    ∙ c.loop-place.invariant.1
    ∙ stored-here c.args.variables.now c.loop-place.words c.args.name.now
    (to_z w64 (of_z w64 c.args.word)) c.loop-place.place c.index-variables-place.result within one_each c.index-variables-place.is same fits
    ∙ ap (λ words. Ok words) (sym c.set.ensures)
