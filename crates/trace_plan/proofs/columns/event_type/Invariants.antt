use Rattle.std.proofs.Common.{◌≡◌, drop}
use Rattle.std.specs.List.{find}
use Rattle.std.specs.Str.{bytes_eq}
use Rattle.trace_plan.proofs.columns.event_type.Given as goal

abbrev pub invariant-loop-event : goal.invariant-loop-event
invariant-loop-event l = find (λ one. bytes_eq one.name l.name) (drop l.event-index l.events) ≡ find (λ one. bytes_eq one.name l.name) l.events
