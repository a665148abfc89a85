use Rattle.std.proofs.Common.{◌≡◌, ◌++◌, drop}
use Rattle.std.specs.List.{flat_map}
use Rattle.unit_tree.specs.Plain.{plain_wires}
use Rattle.unit_plain.proofs.systems.plain_wires.Given as goal

abbrev pub invariant-loop-wire : goal.invariant-loop-wire
invariant-loop-wire l = flat_map (plain_wires l.system) l.system.wires ≡ l.wires ++ flat_map (plain_wires l.system) (drop l.wire-index l.system.wires)
