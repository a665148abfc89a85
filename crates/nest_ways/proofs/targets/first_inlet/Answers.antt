use Rattle.std.proofs.Common.{◌≡◌, ◌∙◌, Some, ap, arith, refl, subst, sym}
use Rattle.std.specs.Prelude.{slice_get}
use Rattle.std.specs.Option.{option_map}
use Rattle.std.proofs.lemmas.Option.{same_Some}
use Rattle.nest_ways.specs.Reaching.{FindsKnown}
use Rattle.nest_ways.specs.Walking.{IsFirst}
use Rattle.nest_ways.specs.declared.steps.Known.{Known}
use Rattle.nest_ways.specs.declared.walk.Inlet.{Inlet}
use Rattle.nest_ways.proofs.targets.first_inlet.Goals as goal

pub returns : goal.returns
returns c inlet is =
    let all = c.args.ways.now.known.items in
    let place = c.in_ok-place.place in
    let known = c.in_ok-known.known.now in
    let first : Inlet = record { scope = 0; input = c.in-Ok.input } in
    let finds = c.find.ensures place c.in_ok-place.was in
    let found : slice_get all place ≡ Some finds.known = ap (λ those. slice_get those place) (sym c.as_slice.ensures.value) ∙ finds.there in
    let there : slice_get all place ≡ Some known =
    ap (λ those. slice_get those place) (sym c.as_slice-2.ensures.value) ∙ sym c.at.ensures ∙ ap (option_map (λ one. one.now)) c.in_ok-known.was in
    let same : finds.known ≡ known = same_Some finds.known known (sym found ∙ there) in
    let height = ap (λ (k : Known). k.height) same in
    let low = c.if-known-ge-LEVELS.false in
    let here : FindsKnown all c.args.group c.args.port.now c.in-Ok.input = record {
      known = finds.known;
      there = ap (slice_get all) c.in-Ok.ensures.1 ∙ found;
      of_group = finds.of_group;
      named = finds.named;
    } in
    subst (IsFirst all c.args.group c.args.port.now) (same_Some first inlet is) (record { finds = here; low = omega (arith, height, low); here = refl })
