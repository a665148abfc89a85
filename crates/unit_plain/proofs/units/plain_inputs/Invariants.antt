use Rattle.std.proofs.Common.{◌≡◌, ◌++◌, drop}
use Rattle.std.specs.List.{flat_map}
use Rattle.unit_tree.specs.Plain.{plain_inputs}
use Rattle.unit_plain.proofs.units.plain_inputs.Given as goal

abbrev pub invariant-loop-event : goal.invariant-loop-event
invariant-loop-event l =
    l.unit.inputs ++ flat_map plain_inputs l.unit.events_in ≡ l.inputs ++ flat_map plain_inputs (drop l.event-index l.unit.events_in)
