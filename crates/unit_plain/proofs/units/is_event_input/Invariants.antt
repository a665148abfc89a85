use Rattle.std.proofs.Common.{◌≡◌, map, drop}
use Rattle.unit_tree.specs.Names.{is_among}
use Rattle.unit_plain.proofs.units.is_event_input.Given as goal

abbrev pub invariant-loop-event : goal.invariant-loop-event
invariant-loop-event l =
    is_among (map (λ event. event.name) l.events) l.name ≡ is_among (map (λ event. event.name) (drop l.event-index l.events)) l.name
