use Rattle.std.proofs.Common.{◌≡◌, drop}
use Rattle.unit_tree.specs.Sites.{InstanceScope}
use Rattle.unit_tree.specs.declared.line_form.LineForm.TheVariants as form
use Rattle.unit_check.specs.Questions.{asked_of}
use Rattle.unit_check.specs.Walks.{each, past_from}
use Rattle.unit_check.proofs.walk.past_settings.Given as goal

abbrev pub invariant-loop-setting : goal.invariant-loop-setting
invariant-loop-setting l =
    each (λ setting. past_from (asked_of l.walker.question l.walker.tables.now (InstanceScope l.instance)) l.number
    (form.Setting setting)) l.instance.settings l.number
    ≡ each (λ setting. past_from (asked_of l.walker.question l.walker.tables.now (InstanceScope l.instance)) l.number (form.Setting setting))
    (drop l.setting-index l.instance.settings) l.next
