use Rattle.std.proofs.Common.{◌≡◌, ◌++◌, map, drop}
use Rattle.unit_tree.specs.Orders.{port_of}
use Rattle.unit_plain.proofs.systems.put_event_outputs.Given as goal

abbrev pub invariant-loop-event : goal.invariant-loop-event
invariant-loop-event l =
    l.initial.ports ++ map (λ event. port_of l.instance event.name) l.events
    ≡ l.ports ++ map (λ event. port_of l.instance event.name) (drop l.event-index l.events)
