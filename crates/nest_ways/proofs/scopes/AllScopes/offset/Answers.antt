use Rattle.std.proofs.Common.{◌≡◌, ◌∙◌, Some, ap, map, subst, sym}
use Rattle.std.specs.Prelude.{slice_get}
use Rattle.std.specs.Option.{option_map}
use Rattle.std.proofs.lemmas.Option.{slice_get-map}
use Rattle.nest_ways.specs.Reaching.{AreInside}
use Rattle.nest_ways.proofs.scopes.AllScopes.offset.Goals as goal

pub returns : goal.returns
returns c offset is =
    let scopes = c.args.self.now in
    let group = c.args.group in
    let lists = c.self.inside.inner.items in
    let inner = c.in_ok-inner.inner.now.items in
    let found : slice_get lists group ≡ Some c.in_ok-inner.inner.now =
    ap (λ all. slice_get all group) (sym c.as_slice.ensures.value) ∙ sym c.at.ensures ∙ ap (option_map (λ one. one.now)) c.in_ok-inner.was in
    let listed : slice_get (map (λ one. one.items) lists) group ≡ Some inner =
    slice_get-map (λ one. one.items) lists group ∙ ap (option_map (λ one. one.items)) found in
    c.offset_of.ensures scopes group offset is
    (subst (AreInside scopes group) (sym c.as_slice-2.ensures.value)
    (subst (λ all. AreInside all group inner) c.self.view_is (c.self.invariant.1 group inner listed)))
