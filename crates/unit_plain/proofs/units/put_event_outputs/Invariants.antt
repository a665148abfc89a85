use Rattle.std.proofs.Common.{◌≡◌, ◌++◌, drop}
use Rattle.std.specs.List.{flat_map}
use Rattle.unit_tree.specs.Plain.{plain_outputs}
use Rattle.unit_plain.proofs.units.put_event_outputs.Given as goal

abbrev pub invariant-loop-event : goal.invariant-loop-event
invariant-loop-event l =
    l.initial.outputs ++ flat_map (plain_outputs l.unit) l.unit.events_out ≡ l.outputs ++ flat_map (plain_outputs l.unit) (drop l.event-index l.unit.events_out)
