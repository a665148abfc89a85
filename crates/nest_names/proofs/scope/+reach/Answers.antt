use Rattle.std.proofs.Common.{◌≡◌, ◌∙◌, ◌-◌, [], ap, sym, subst}
use Rattle.std.specs.Result.{IfOk}
use Rattle.std.specs.List.{flat_map, list_all}
use Rattle.nest_names.specs.Flattening.{distinct, expand, is_component, reach}
use Rattle.nest_names.proofs.FlatLaws.{reach_more}
use Rattle.nest_names.proofs.scope.+reach.Goals as goal

pub returns : goal.returns
returns t c =
    let nest = c.args.names.now in
    let all = sym (ap (list_all (is_component nest)) c.as_slice.ensures) ∙ sym c.are_components.ensures ∙ c.if-are_components.false in
    let next = c.in_ok-next.ensures ∙ ap (λ spots. distinct [] (flat_map (expand nest) spots)) c.as_slice-2.ensures in
    subst (λ to. IfOk c.reach.result (λ made. made ≡ to))
    (ap (reach nest (c.args.depth - 1)) next ∙ sym (reach_more nest c.args.depth c.args.spots c.if-depth-eq0.false all)) c.reach.ensures
