use Rattle.std.proofs.Common.{◌≡◌, drop}
use Rattle.unit_tree.specs.Sites.{TopScope}
use Rattle.unit_tree.specs.declared.line_form.LineForm.TheVariants as form
use Rattle.unit_check.specs.Questions.{asked_of}
use Rattle.unit_check.specs.Walks.{each, past_from}
use Rattle.unit_check.proofs.walk.past_samples.Given as goal

abbrev pub invariant-loop-port : goal.invariant-loop-port
invariant-loop-port l =
    each (λ port. past_from (asked_of l.walker.question l.walker.tables.now (TopScope)) l.number (form.Sample port)) l.walker.tables.now.samples l.number
    ≡ each (λ port. past_from (asked_of l.walker.question l.walker.tables.now (TopScope)) l.number (form.Sample port))
    (drop l.port-index l.walker.tables.now.samples) l.next
