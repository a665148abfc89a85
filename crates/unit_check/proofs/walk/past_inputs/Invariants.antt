use Rattle.std.proofs.Common.{◌≡◌, drop}
use Rattle.unit_tree.specs.Sites.{UnitScope}
use Rattle.unit_tree.specs.declared.line_form.LineForm.TheVariants as form
use Rattle.unit_check.specs.Questions.{asked_of}
use Rattle.unit_check.specs.Walks.{each, past_from}
use Rattle.unit_check.proofs.walk.past_inputs.Given as goal

abbrev pub invariant-loop-input : goal.invariant-loop-input
invariant-loop-input l =
    each (λ input. past_from (asked_of l.walker.question l.walker.tables.now (UnitScope l.unit)) l.first (form.Input input)) l.unit.inputs l.number
    ≡ each (λ input. past_from (asked_of l.walker.question l.walker.tables.now (UnitScope l.unit)) l.first (form.Input input))
    (drop l.input-index l.unit.inputs) l.next
