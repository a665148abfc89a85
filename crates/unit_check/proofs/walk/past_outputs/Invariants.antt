use Rattle.std.proofs.Common.{◌≡◌, drop}
use Rattle.unit_tree.specs.Sites.{UnitScope}
use Rattle.unit_tree.specs.declared.line_form.LineForm.TheVariants as form
use Rattle.unit_check.specs.Questions.{asked_of}
use Rattle.unit_check.specs.Walks.{each, past_from}
use Rattle.unit_check.proofs.walk.past_outputs.Given as goal

abbrev pub invariant-loop-output : goal.invariant-loop-output
invariant-loop-output l =
    each (λ output. past_from (asked_of l.walker.question l.walker.tables.now (UnitScope l.unit)) l.first (form.Output output)) l.unit.outputs l.number
    ≡ each (λ output. past_from (asked_of l.walker.question l.walker.tables.now (UnitScope l.unit)) l.first (form.Output output))
    (drop l.output-index l.unit.outputs) l.next
