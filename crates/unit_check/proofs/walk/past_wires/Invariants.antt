use Rattle.std.proofs.Common.{◌≡◌, drop}
use Rattle.unit_tree.specs.Sites.{TopScope}
use Rattle.unit_tree.specs.declared.line_form.LineForm.TheVariants as form
use Rattle.unit_check.specs.Questions.{asked_of}
use Rattle.unit_check.specs.Walks.{each, past_from}
use Rattle.unit_check.proofs.walk.past_wires.Given as goal

abbrev pub invariant-loop-wire : goal.invariant-loop-wire
invariant-loop-wire l =
    each (λ wire. past_from (asked_of l.walker.question l.walker.tables.now (TopScope)) l.number (form.Connect wire)) l.walker.tables.now.wires l.number
    ≡ each (λ wire. past_from (asked_of l.walker.question l.walker.tables.now (TopScope)) l.number (form.Connect wire))
    (drop l.wire-index l.walker.tables.now.wires) l.next
