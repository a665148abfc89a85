use Rattle.std.proofs.Common.{◌≡◌, ◌++◌, drop, map}
use Rattle.trace_plan.specs.Shown.{events_called}
use Rattle.wire_graph.specs.Wiring.{port_with}
use Rattle.trace_plan.proofs.columns.put_events.Given as goal

abbrev pub invariant-loop-event : goal.invariant-loop-event
invariant-loop-event l =
    map port_with l.ports.items ++ events_called l.instance (drop l.event-index l.events)
    ≡ map port_with l.initial.ports.items ++ events_called l.instance l.events
