use Rattle.std.proofs.Common.{◌≡◌, ◌∙◌, ◌-◌, None, Some, ap, subst, sym}
use Rattle.std.specs.Option.{option_map}
use Rattle.std.specs.Result.{IfOk}
use Rattle.nest_names.specs.Flattening.{follow, step_down}
use Rattle.nest_names.specs.declared.scope.GroupScope.{GroupScope}
use Rattle.nest_names.specs.declared.scope.Spot.{Spot}
use Rattle.nest_names.proofs.FlatLaws.{below_in, follow_here, follow_more}
use Rattle.nest_names.proofs.scope.+follow.Goals as goal

pub returns-in_ok-scope-in-Some : goal.returns-in_ok-scope-in-Some
returns-in_ok-scope-in-Some t c =
    let nest = c.args.names.now in
    let depth = c.args.depth in
    let from : Spot = record { scope = c.args.scope; port = c.args.port.now } in
    let below = c.in-Some.below in
    let next : Spot = below_in c.args.scope c.args.port.now below in
    let down : step_down nest from ≡ Some next = sym c.step_down.ensures ∙ ap (option_map (below_in c.args.scope c.args.port.now)) c.in-Some.is in
    let entered = ap (λ (scope : GroupScope). follow nest (depth - 1) (record { scope = scope; port = below.line.now.inner })) c.in_ok-scope-in-Some.ensures in
    subst (λ to. IfOk c.follow.result (λ made. made ≡ to))
    (entered ∙ sym (follow_more nest depth from next c.if-depth-eq0.false down)) c.follow.ensures

pub returns-in-None : goal.returns-in-None
returns-in-None t c =
    let nest = c.args.names.now in
    let from : Spot = record { scope = c.args.scope; port = c.args.port.now } in
    let none : step_down nest from ≡ None = sym c.step_down.ensures ∙ ap (option_map (below_in c.args.scope c.args.port.now)) c.in-None.is in
    subst (λ to. IfOk c.port_in-in-None.result (λ made. made ≡ to)) (sym (follow_here nest c.args.depth from none)) c.port_in-in-None.ensures
