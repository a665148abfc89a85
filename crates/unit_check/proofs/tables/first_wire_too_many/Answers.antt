use Rattle.std.proofs.Common.{◌≡◌, ◌≤◌, length, ap, ◌∙◌, arith}
use Rattle.unit_check.specs.Counts.{plain_wire_count}
use Rattle.unit_check.proofs.PlainWires.{none_exceeds}
use Rattle.unit_check.proofs.tables.first_wire_too_many.Goals as goal

pub returns : goal.returns
returns c =
    let same : c.as_slice-wire-items.result.now ≡ c.args.names.now.wires = c.as_slice-wire-items.ensures ∙ ap (λ s. s.wires) c.system.ensures in
    let long = ap length same in
    let few : plain_wire_count c.args.names.now c.loop-place.place ≤ 2048 = omega arith in
    let within : length c.args.names.now.wires ≤ c.loop-place.place = omega arith in
    none_exceeds c.args.names.now c.loop-place.place few within
