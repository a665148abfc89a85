use Rattle.std.proofs.Common.{◌≡◌, drop}
use Rattle.unit_tree.specs.Sites.{UnitScope}
use Rattle.unit_tree.specs.declared.line_form.LineForm.TheVariants as form
use Rattle.unit_check.specs.Questions.{asked_of}
use Rattle.unit_check.specs.Walks.{each, past_from}
use Rattle.unit_check.proofs.walk.past_params.Given as goal

abbrev pub invariant-loop-param : goal.invariant-loop-param
invariant-loop-param l =
    each (λ param. past_from (asked_of l.walker.question l.walker.tables.now (UnitScope l.unit)) l.first (form.Param param)) l.unit.params l.number
    ≡ each (λ param. past_from (asked_of l.walker.question l.walker.tables.now (UnitScope l.unit)) l.first (form.Param param))
    (drop l.param-index l.unit.params) l.next
