use Rattle.std.proofs.Common.{◌≡◌, drop}
use Rattle.unit_tree.specs.Sites.{UnitScope}
use Rattle.unit_tree.specs.declared.line_form.LineForm.TheVariants as form
use Rattle.unit_check.specs.Questions.{asked_of}
use Rattle.unit_check.specs.Walks.{each, past_from}
use Rattle.unit_check.proofs.walk.past_locals.Given as goal

abbrev pub invariant-loop-local : goal.invariant-loop-local
invariant-loop-local l =
    each (λ local. past_from (asked_of l.walker.question l.walker.tables.now (UnitScope l.unit)) l.first (form.Local local)) l.unit.locals l.number
    ≡ each (λ local. past_from (asked_of l.walker.question l.walker.tables.now (UnitScope l.unit)) l.first (form.Local local))
    (drop l.local-index l.unit.locals) l.next
