use Rattle.std.proofs.Common.{◌≡◌, drop}
use Rattle.std.specs.List.{position_from}
use Rattle.std.specs.Option.{option_or}
use Rattle.unit_tree.specs.Names.{same_port}
use Rattle.unit_tree.specs.declared.system.PortName.{PortName}
use Rattle.unit_check.specs.PortTables.{found_port}
use Rattle.unit_check.proofs.port_tables.note_samples.Given as goal

abbrev pub invariant-loop-place : goal.invariant-loop-place
invariant-loop-place l = (q : PortName)
    → position_from (same_port q) 0 l.samples ≡ option_or (found_port l.places q) (position_from (same_port q) l.place (drop l.place l.samples))
