use Rattle.std.proofs.Common.{◌≡◌, ◌∙◌, Some, ap, map, subst, sym}
use Rattle.std.specs.Prelude.{slice_get}
use Rattle.std.specs.Option.{option_map}
use Rattle.std.proofs.lemmas.Option.{slice_get-map}
use Rattle.nest_ways.specs.Reaching.{AreAlike}
use Rattle.nest_ways.proofs.scopes.AllScopes.firsts.Goals as goal

pub returns-in-Some : goal.returns-in-Some
returns-in-Some c =
    let lists = c.self.inside.firsts.items in
    let found : slice_get lists c.args.group ≡ Some c.in-Some.firsts.now =
    ap (λ all. slice_get all c.args.group) (sym c.as_slice.ensures.value) ∙ sym c.at.ensures ∙ ap (option_map (λ one. one.now)) c.in-Some.is in
    let listed : slice_get (map (λ one. one.items) lists) c.args.group ≡ Some c.in-Some.firsts.now.items =
    slice_get-map (λ one. one.items) lists c.args.group ∙ ap (option_map (λ one. one.items)) found in
    subst (AreAlike c.args.self.now c.args.group) (sym c.as_slice-in-Some.ensures.value)
    (subst (λ scopes. AreAlike scopes c.args.group c.in-Some.firsts.now.items) c.self.view_is
    (c.self.invariant.0 c.args.group c.in-Some.firsts.now.items listed))
