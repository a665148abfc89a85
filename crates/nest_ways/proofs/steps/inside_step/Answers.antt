use Rattle.std.proofs.Common.{◌≡◌, ◌∙◌, ◌+◌, Some, ap, arith, subst, sym}
use Rattle.std.specs.Prelude.{slice_get}
use Rattle.std.specs.Option.{option_map}
use Rattle.std.proofs.lemmas.Option.{same_Some}
use Rattle.nest_ways.specs.Reaching.{IsStep, LeadsInside, LeadsTo}
use Rattle.nest_ways.specs.declared.steps.Descent.{Descent}
use Rattle.nest_ways.specs.declared.steps.Inside.{Inside}
use Rattle.nest_ways.specs.declared.steps.Known.{Known}
use Rattle.nest_ways.specs.declared.steps.WayStep.TheVariants as step_is
use Rattle.nest_ways.proofs.WayLaws.{leads_inside, leads_past, some_is}
use Rattle.nest_ways.proofs.steps.inside_step.Goals as goal

pub returns : goal.returns
returns c made is =
    let nest = c.args.names.now in
    let scopes = c.args.scopes.now in
    let all = c.args.known.now in
    let group = c.args.group in
    let bind = c.args.bind.now in
    let inner = c.in_ok-inner.inner.now in
    let offset = c.in_ok-offset.offset in
    let step : Inside = record { offset = offset; input = c.in-Ok.input } in
    let onward = c.in_ok-onward.onward in
    let descent : Descent = record { step = step_is.Inside onward; height = c.in_ok-height.height } in
    let finds = c.find.ensures c.in_ok-input.input c.in_ok-input.was in
    let there : slice_get all c.in_ok-input.input ≡ Some inner = sym c.at.ensures ∙ ap (option_map (λ one. one.now)) c.in_ok-inner.was in
    let same : finds.known ≡ inner = same_Some finds.known inner (sym finds.there ∙ there) in
    let place : inner.group ≡ c.args.place = ap (λ (k : Known). k.group) (sym same) ∙ finds.of_group in
    let high : c.in_ok-height.height ≡ inner.height + 1 = some_is _ _ c.checked_add.result c.in_ok-height.height c.in_ok-height.was c.checked_add.ensures in
    let leads : LeadsTo scopes group bind.inner.instance c.args.place offset =
    c.offset.ensures offset c.in_ok-offset.was in
    let here : slice_get all step.input ≡ Some inner = ap (slice_get all) c.in-Ok.ensures.1 ∙ there in
    let led : LeadsInside nest scopes all group c.in_ok-height.height step bind =
    leads_inside nest scopes all group c.in_ok-height.height step bind inner here (omega (arith, high))
    (c.requires.inside ∙ ap (λ n. Some n) (sym place)) (ap (λ (k : Known). k.port.now) (sym same) ∙ finds.named ∙ c.as_slice.ensures)
    (subst (λ n. LeadsTo scopes group bind.inner.instance n offset) (sym place) leads) in
    subst (λ (one : Descent). IsStep nest scopes all group one.height one.step bind) (same_Some descent made is)
    (leads_past nest scopes all group c.in_ok-height.height step onward bind inner led here (c.requires.known c.in_ok-input.input inner there)
    (c.past.ensures onward c.in_ok-onward.was))
