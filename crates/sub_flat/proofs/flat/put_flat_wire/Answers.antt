use Rattle.std.proofs.Common.{◌≡◌, ◌∙◌, ◌-◌, ◌∷◌, [], ap, arith, map, subst}
use Rattle.std.proofs.lemmas.List.{length-map}
use Rattle.nest_names.specs.Flattening.{flat_wire, follow, levels, reach}
use Rattle.nest_names.specs.declared.scope.GroupScope.{GroupScope}
use Rattle.nest_names.specs.declared.scope.Spot.{Spot}
use Rattle.nest_ways.specs.Walking.{IsReached}
use Rattle.sub_flat.specs.FlatReading.{PutsWithin, wire_between}
use Rattle.sub_flat.proofs.flat.put_flat_wire.Goals as goal

pub returns : goal.returns
returns c =
    let nest = c.args.names.now in
    let spot : Spot = record { scope = c.args.scope.now; port = c.args.wire.now.to } in
    let from =
    c.in_ok-from.ensures ∙ ap (λ (around : GroupScope). follow nest levels (record { scope = around; port = c.args.wire.now.from })) c.in_ok-around.ensures in
    let to = c.as_slice.ensures ∙ subst (IsReached nest (2048 - c.len-room.result) spot) c.in-Some.is c.in_ok-to.ensures in
    let is : map (wire_between c.in_ok-from.from) c.as_slice.result.now ≡ flat_wire nest c.args.scope.now c.args.wire.now = λ i. map (wire_between (from i)) (to i) in
    subst (λ all. PutsWithin 2048 c.args.wires.now c.put_to.new.wires all c.put_to.result) is c.put_to.ensures

pub returns-in_default : goal.returns-in_default
returns-in_default c =
    let nest = c.args.names.now in
    let scope = c.args.scope.now in
    let spot : Spot = record { scope = scope; port = c.args.wire.now.to } in
    let from : Spot = follow nest levels (record { scope = scope; port = c.args.wire.now.from }) in
    let many = subst (IsReached nest (2048 - c.len-room.result) spot) c.in_default.is c.in_ok-to.ensures in
    let long = length-map (reach nest levels (spot ∷ [])) (wire_between from) in omega (arith, many, long, c.len-room.ensures)
