use Rattle.std.proofs.Common.{◌≡◌, drop}
use Rattle.unit_tree.specs.Sites.{UnitScope}
use Rattle.unit_tree.specs.declared.line_form.LineForm.TheVariants as form
use Rattle.unit_check.specs.Questions.{asked_of}
use Rattle.unit_check.specs.Walks.{each, past_from}
use Rattle.unit_check.proofs.walk.past_states.Given as goal

abbrev pub invariant-loop-state : goal.invariant-loop-state
invariant-loop-state l =
    each (λ state. past_from (asked_of l.walker.question l.walker.tables.now (UnitScope l.unit)) l.first (form.State state)) l.unit.states l.number
    ≡ each (λ state. past_from (asked_of l.walker.question l.walker.tables.now (UnitScope l.unit)) l.first (form.State state))
    (drop l.state-index l.unit.states) l.next
