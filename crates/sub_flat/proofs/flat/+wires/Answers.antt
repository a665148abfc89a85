use Rattle.std.proofs.Common.{◌∙◌, ◌++◌, ap, append_assoc, subst, sym}
use Rattle.std.specs.List.{flat_map}
use Rattle.nest_text.proofs.NestAnswers.{handed_on}
use Rattle.nest_names.specs.Flattening.{flat_wire, flat_wires, instances_of, wires_of}
use Rattle.sub_flat.specs.FlatReading.{PutsOver, PutsWithin, wires_inside}
use Rattle.sub_flat.proofs.PutLaws.{put_behind_failed, put_end, put_failed, put_more_failed, wires_each}
use Rattle.sub_flat.proofs.flat.+wires.Goals as goal

pub put_wires-returns-in_err-put_own_wires : goal.put_wires-returns-in_err-put_own_wires
put_wires-returns-in_err-put_own_wires t c =
    let nest = c.args.names.now in
    let scope = c.args.scope.now in
    let why = c.in_err-put_own_wires.field-0.0 in
    handed_on c.from_residual.result why (PutsWithin 2048 c.args.wires.now c.put_own_wires.new.wires (flat_wires nest c.args.depth scope))
    c.from_residual.ensures.1
    (put_more_failed 2048 c.args.wires.now (flat_map (flat_wire nest scope) (wires_of nest scope.group)) (flat_wires nest c.args.depth scope)
    (flat_map (wires_inside nest c.args.depth scope) (instances_of nest scope.group)) why (wires_each nest c.args.depth scope) c.in_err-put_own_wires.ensures)

pub put_wires-returns-in_err-put_wires_inside : goal.put_wires-returns-in_err-put_wires_inside
put_wires-returns-in_err-put_wires_inside t c =
    let nest = c.args.names.now in
    let scope = c.args.scope.now in
    let items = c.instances-instance-items.result.now in
    let why = c.in_err-put_wires_inside.field-0.0 in
    let inside = wires_inside nest c.args.depth scope in
    let own = flat_map (flat_wire nest scope) (wires_of nest scope.group) in
    handed_on c.from_residual-in_err-put_wires_inside.result why
    (PutsWithin 2048 c.args.wires.now c.put_wires_inside.new.wires (flat_wires nest c.args.depth scope))
    c.from_residual-in_err-put_wires_inside.ensures.1
    (subst (λ all. PutsOver 2048 c.args.wires.now all why)
    (ap (λ instances. own ++ flat_map inside instances) c.instances-instance-items.ensures ∙ sym (wires_each nest c.args.depth scope))
    (put_behind_failed 2048 c.args.wires.now c.put_own_wires.new.wires own (flat_map inside items) why c.in_ok-put_own_wires.ensures.0
    (put_failed inside 2048 c.put_own_wires.new.wires c.loop-instance.wires (flat_map inside items) items c.loop-instance.instance-index
    c.instance-item.result why c.loop-instance-test.true c.instance-item.is c.loop-instance.invariant c.in_err-put_wires_inside.ensures)))

pub put_wires-returns : goal.put_wires-returns
put_wires-returns t c =
    let nest = c.args.names.now in
    let scope = c.args.scope.now in
    let items = c.instances-instance-items.result.now in
    let inside = wires_inside nest c.args.depth scope in
    let own = flat_map (flat_wire nest scope) (wires_of nest scope.group) in
    let ends =
    put_end inside 2048 c.put_own_wires.new.wires c.loop-instance.wires (flat_map inside items)
    (flat_map inside (instances_of nest scope.group)) items c.loop-instance.instance-index c.loop-instance-test.false c.loop-instance.invariant
    (ap (flat_map inside) c.instances-instance-items.ensures) in (
      ends.0 ∙ ap (λ front. front ++ flat_map inside (instances_of nest scope.group)) c.in_ok-put_own_wires.ensures.0
          ∙ append_assoc c.args.wires.now own (flat_map inside (instances_of nest scope.group))
          ∙ ap (λ all. c.args.wires.now ++ all) (sym (wires_each nest c.args.depth scope)),
      ends.1,
    )
