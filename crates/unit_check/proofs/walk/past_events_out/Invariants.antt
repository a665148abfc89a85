use Rattle.std.proofs.Common.{◌≡◌, drop}
use Rattle.unit_tree.specs.Sites.{UnitScope}
use Rattle.unit_tree.specs.declared.line_form.LineForm.TheVariants as form
use Rattle.unit_check.specs.Questions.{asked_of}
use Rattle.unit_check.specs.Walks.{each, past_from}
use Rattle.unit_check.proofs.walk.past_events_out.Given as goal

abbrev pub invariant-loop-event : goal.invariant-loop-event
invariant-loop-event l =
    each (λ event. past_from (asked_of l.walker.question l.walker.tables.now (UnitScope l.unit)) l.first (form.EventOutput event)) l.unit.events_out l.number
    ≡ each (λ event. past_from (asked_of l.walker.question l.walker.tables.now (UnitScope l.unit)) l.first (form.EventOutput event))
    (drop l.event-index l.unit.events_out) l.next
