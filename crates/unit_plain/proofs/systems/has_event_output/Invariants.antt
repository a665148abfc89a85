use Rattle.std.proofs.Common.{◌≡◌, drop}
use Rattle.std.specs.List.{list_any}
use Rattle.std.specs.Str.{bytes_eq}
use Rattle.unit_plain.proofs.systems.has_event_output.Given as goal

abbrev pub invariant-loop-event : goal.invariant-loop-event
invariant-loop-event l = list_any (λ event. bytes_eq event.name l.name) l.events ≡ list_any (λ event. bytes_eq event.name l.name) (drop l.event-index l.events)
