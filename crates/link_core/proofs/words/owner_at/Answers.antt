use Rattle.std.proofs.Common.{◌≡◌, ◌∙◌, ◌<◌, length, refl, ap, subst, sym, arith}
use Rattle.std.proofs.lemmas.Option.{slice_get_read}
use Rattle.std.specs.Prelude.{slice_get, Some}
use Rattle.link_core.proofs.WordLaws.{instance_within, owner_is}
use Rattle.link_core.proofs.words.owner_at.Goals as goal
use Rattle.unit_tree.specs.Routes.{routes_of}
use Rattle.unit_tree.specs.declared.order.Route.{Route}

pub bounds-owners-instance : goal.bounds-owners-instance
bounds-owners-instance c =
    let run = c.args.plan.now.run in
    let routes = c.as_slice.result.now in
    let own : routes ≡ (routes_of run).outputs = c.as_slice.ensures ∙ ap (λ r. r.outputs) (c.routes.ensures.routes ∙ c.order.ensures.routes) in
    let within : c.args.place < length routes = subst (λ all. c.args.place < length all) (sym own) c.requires.place in
    let read = slice_get_read routes (length routes) c.args.place c.index-as_slice-place.result refl within c.index-as_slice-place.is in
    let is_route : slice_get (routes_of run).outputs c.args.place ≡ Some c.index-as_slice-place.result = sym (ap (λ all. slice_get all c.args.place) own)
    ∙ read in
    omega (
      arith,
      instance_within run c.args.place c.index-as_slice-place.result is_route,
      c.requires.owners,
      ap
          (λ (r : Route). r.instance) c.index-as_slice-place.is,
    )

pub returns : goal.returns
returns c =
    let run = c.args.plan.now.run in
    let routes = c.as_slice.result.now in
    let own : routes ≡ (routes_of run).outputs = c.as_slice.ensures ∙ ap (λ r. r.outputs) (c.routes.ensures.routes ∙ c.order.ensures.routes) in
    let within : c.args.place < length routes = subst (λ all. c.args.place < length all) (sym own) c.requires.place in
    let read = slice_get_read routes (length routes) c.args.place c.index-as_slice-place.result refl within c.index-as_slice-place.is in
    let is_route : slice_get (routes_of run).outputs c.args.place ≡ Some c.index-as_slice-place.result = sym (ap (λ all. slice_get all c.args.place) own)
    ∙ read in
    let there = instance_within run c.args.place c.index-as_slice-place.result is_route in
    owner_is c.args.owners.now (routes_of run).outputs routes c.args.place c.index-as_slice-place.result _ is_route c.index-as_slice-place.is
    (omega (arith, there, c.requires.owners))
