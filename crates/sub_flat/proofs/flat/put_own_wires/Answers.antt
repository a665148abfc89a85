use Rattle.std.proofs.Common.{ap, subst}
use Rattle.std.specs.List.{flat_map}
use Rattle.nest_text.proofs.NestAnswers.{handed_on}
use Rattle.nest_names.specs.Flattening.{flat_wire, wires_of}
use Rattle.sub_flat.specs.FlatReading.{PutsOver, PutsWithin}
use Rattle.sub_flat.proofs.PutLaws.{put_failed}
use Rattle.sub_flat.proofs.flat.put_own_wires.Goals as goal

pub returns-in_err-put_flat_wire : goal.returns-in_err-put_flat_wire
returns-in_err-put_flat_wire c =
    let nest = c.args.names.now in
    let scope = c.args.scope.now in
    let items = c.wires-wire-items.result.now in
    let why = c.in_err-put_flat_wire.field-0.0 in
    let own = flat_wire nest scope in
    handed_on c.from_residual.result why (PutsWithin 2048 c.args.wires.now c.put_flat_wire.new.wires (flat_map own (wires_of nest scope.group)))
    c.from_residual.ensures.1
    (subst (λ all. PutsOver 2048 c.args.wires.now all why) (ap (flat_map own) c.wires-wire-items.ensures)
    (put_failed own 2048 c.args.wires.now c.loop-wire.wires (flat_map own items) items c.loop-wire.wire-index c.wire-item.result why
    c.loop-wire-test.true c.wire-item.is c.loop-wire.invariant c.in_err-put_flat_wire.ensures))
