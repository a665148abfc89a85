use Rattle.std.proofs.Common.{◌≡◌, drop, map}
use Rattle.std.specs.List.{position_from}
use Rattle.std.specs.Option.{option_or}
use Rattle.unit_tree.specs.Names.{same_port}
use Rattle.unit_tree.specs.declared.system.PortName.{PortName}
use Rattle.unit_check.specs.PortTables.{found_port}
use Rattle.unit_check.proofs.port_tables.note_inputs.Given as goal

abbrev pub invariant-loop-place : goal.invariant-loop-place
invariant-loop-place l = (q : PortName)
    → position_from (same_port q) 0 (map (λ wire. wire.to) l.wires)
    ≡ option_or (found_port l.places q) (position_from (same_port q) l.place (map (λ wire. wire.to) (drop l.place l.wires)))
