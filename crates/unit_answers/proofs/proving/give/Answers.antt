use Rattle.std.proofs.Common.{◌≡◌, ◌∙◌, ◌<◌, get_or, length, pos, sym, ap, arith, rules, w64, SFits}
use Rattle.std.proofs.lemmas.Int.{to_z-of_z}
use Rattle.std.specs.Prelude.{slice_set}
use Rattle.unit_exec.specs.Running.{Running}
use Rattle.unit_answers.proofs.MeaningLaws.{given_more}
use Rattle.unit_answers.proofs.proving.give.Goals as goal

pub loop-input-preserved : goal.loop-input-preserved
loop-input-preserved c =
    let words = c.args.inputs.now in
    let old = c.restore.new.self in
    let place = c.loop-input.input in
    let as_many : length old.inputs ≡ length words =
    ap (λ (unit : Running). length unit.inputs) c.restore.ensures ∙ c.inputs.ensures.each ∙ sym c.requires.words.each_input in
    let within : place < length words = omega (arith, c.loop-input-test.true, c.requires.count) in
    let more = given_more old.inputs words c.loop-input.unit.inputs place (omega (arith, as_many)) within
    (ap (λ (unit : Running). unit.inputs) c.loop-input.invariant) in
    let fits : SFits w64 (get_or words place (pos 0)) = search rules in
    c.set.ensures
    ∙ ap (λ word. record c.loop-input.unit { inputs = slice_set c.loop-input.unit.inputs place word }) (to_z-of_z w64 (get_or words place (pos 0)) fits)
    ∙ ap (λ (unit : Running). record unit { inputs = slice_set c.loop-input.unit.inputs place (get_or words place (pos 0)) }) c.loop-input.invariant
    ∙ ap (λ inputs. record old { inputs = inputs }) more
