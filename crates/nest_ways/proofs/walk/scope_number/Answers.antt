use Rattle.std.proofs.Common.{◌≡◌, ◌∙◌, ◌+◌, Some, ap, subst, sym}
use Rattle.std.specs.Prelude.{slice_get}
use Rattle.std.specs.Option.{option_map}
use Rattle.std.proofs.lemmas.Option.{same_Some}
use Rattle.nest_names.specs.declared.scope.GroupScope.{GroupScope}
use Rattle.nest_ways.specs.Walking.{IsNumbered}
use Rattle.nest_ways.proofs.WayLaws.{some_is}
use Rattle.nest_ways.proofs.walk.scope_number.Goals as goal

pub returns : goal.returns
returns c number known is found =
    let scopes = c.args.start.now.ways.now.scopes in
    let group_scopes = c.args.start.now.ways.now.group_scopes in
    let place = c.in_ok-place.place in
    let scope = c.in_ok-scope.scope.now in
    let behind : place ≡ c.args.start.now.base + c.args.inlet.scope = some_is _ _ c.checked_add.result place c.in_ok-place.was c.checked_add.ensures in
    let there : slice_get scopes place ≡ Some scope =
    ap (λ those. slice_get those place) (sym c.as_slice.ensures) ∙ sym c.at.ensures ∙ ap (option_map (λ one. one.now)) c.in_ok-scope.was in
    let own = c.requires known found in
    let same : own.scope ≡ scope = same_Some own.scope scope (sym own.there ∙ ap (slice_get scopes) (sym behind) ∙ there) in
    let of_group : c.in_ok-scope-2.field-0 ≡ known.group =
    same_Some c.in_ok-scope-2.field-0 known.group (sym c.in_ok-scope-2.was ∙ ap (λ (one : GroupScope). one.group) (sym same) ∙ own.of_group) in
    subst (λ group. IsNumbered group_scopes group number (c.args.start.now.base + c.args.inlet.scope)) of_group
    (subst (λ at. IsNumbered group_scopes c.in_ok-scope-2.field-0 number at) behind (c.number.ensures number is))
