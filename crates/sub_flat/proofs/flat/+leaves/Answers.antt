use Rattle.std.proofs.Common.{◌∙◌, ap, subst, sym}
use Rattle.std.specs.List.{flat_map}
use Rattle.nest_text.proofs.NestAnswers.{handed_on}
use Rattle.nest_names.specs.Flattening.{leaves}
use Rattle.sub_flat.specs.FlatReading.{PutsOver, PutsWithin, leaves_inside}
use Rattle.sub_flat.proofs.PutLaws.{leaves_each, put_end, put_failed}
use Rattle.sub_flat.proofs.flat.+leaves.Goals as goal

pub put_leaves-returns-in_err-put_inside : goal.put_leaves-returns-in_err-put_inside
put_leaves-returns-in_err-put_inside t c =
    let nest = c.args.names.now in
    let scope = c.args.scope.now in
    let items = c.instances-instance-items.result.now in
    let why = c.in_err-put_inside.field-0.0 in
    let inside = leaves_inside nest c.args.depth scope in
    handed_on c.from_residual.result why (PutsWithin 64 c.args.instances.now c.put_inside.new.instances (leaves nest c.args.depth scope)) c.from_residual.ensures.1
    (subst (λ all. PutsOver 64 c.args.instances.now all why)
    (ap (flat_map inside) c.instances-instance-items.ensures ∙ sym (leaves_each nest c.args.depth scope))
    (put_failed inside 64 c.args.instances.now c.loop-instance.instances (flat_map inside items) items c.loop-instance.instance-index c.instance-item.result why
    c.loop-instance-test.true c.instance-item.is c.loop-instance.invariant c.in_err-put_inside.ensures))

pub put_leaves-returns : goal.put_leaves-returns
put_leaves-returns t c =
    let nest = c.args.names.now in
    let items = c.instances-instance-items.result.now in
    let inside = leaves_inside nest c.args.depth c.args.scope.now in
    put_end inside 64 c.args.instances.now c.loop-instance.instances (flat_map inside items) (leaves nest c.args.depth c.args.scope.now) items
    c.loop-instance.instance-index c.loop-instance-test.false c.loop-instance.invariant
    (ap (flat_map inside) c.instances-instance-items.ensures ∙ sym (leaves_each nest c.args.depth c.args.scope.now))
