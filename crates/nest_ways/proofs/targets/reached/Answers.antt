use Rattle.std.proofs.Common.{◌≡◌, ◌∙◌, ◌<◌, ℕ, List, Some, ap, length, subst, sym}
use Rattle.nest_names.specs.Flattening.{place_at}
use Rattle.nest_names.specs.declared.scope.GroupScope.{GroupScope}
use Rattle.nest_names.specs.declared.scope.Spot.{Spot}
use Rattle.nest_ways.specs.Walking.{Reaches, reached_inside}
use Rattle.nest_ways.proofs.WayLaws.{target_reached}
use Rattle.nest_ways.proofs.targets.reached.Goals as goal

pub returns-in-All : goal.returns-in-All
returns-in-All c =
    let nest = c.args.names.now in
    let scope = c.args.scope.now in
    let to = c.args.to.now in
    let place = c.in-Some.place in
    let spot : Spot = record { scope = scope; port = to } in
    let all : GroupScope → List ℕ → List Spot = λ inner port. reached_inside nest inner place port in
    let at : place_at nest scope.group to.instance ≡ Some place =
    sym (ap (place_at nest scope.group) c.as_slice.ensures) ∙ sym c.place_at.ensures ∙ c.in-Some.is in
    subst (Reaches c.args.most (all c.in_ok-inner.inner c.as_slice-port.result.now)) c.in-All.is c.in_ok-spots.ensures
    ∙ ap (all c.in_ok-inner.inner) c.as_slice-port.ensures
    ∙ ap (λ inner. all inner to.port) c.in_ok-inner.ensures
    ∙ target_reached nest spot place at

pub returns-in-TooMany : goal.returns-in-TooMany
returns-in-TooMany c =
    let nest = c.args.names.now in
    let scope = c.args.scope.now in
    let to = c.args.to.now in
    let place = c.in-Some.place in
    let spot : Spot = record { scope = scope; port = to } in
    let all : GroupScope → List ℕ → List Spot = λ inner port. reached_inside nest inner place port in
    let at : place_at nest scope.group to.instance ≡ Some place =
    sym (ap (place_at nest scope.group) c.as_slice.ensures) ∙ sym c.place_at.ensures ∙ c.in-Some.is in
    subst (λ (spots : List Spot). c.args.most < length spots)
    (ap (all c.in_ok-inner.inner) c.as_slice-port.ensures
    ∙ ap (λ inner. all inner to.port) c.in_ok-inner.ensures
    ∙ target_reached nest spot place at)
    (subst (Reaches c.args.most (all c.in_ok-inner.inner c.as_slice-port.result.now)) c.in-TooMany.is c.in_ok-spots.ensures)
