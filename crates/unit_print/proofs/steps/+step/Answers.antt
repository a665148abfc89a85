use Rattle.std.proofs.Common.{List, ◌∷◌, map, Some, None, Option, refl, ap, ◌∙◌}
use Rattle.unit_tree.specs.Parts.{joined, line_forms}
use Rattle.unit_tree.specs.declared.line.Line as line
use Rattle.unit_tree.specs.declared.line.Line.{Line}
use Rattle.unit_tree.specs.declared.line_form.LineForm.TheVariants as form
use Rattle.unit_print.specs.Growing.{with_lines}
use Rattle.unit_print.proofs.Blocks.{if_done, repeat_done}
use Rattle.unit_print.proofs.steps.+step.Goals as goal
use Rattle.list_laws.proofs.Options.{on_ok}

pub step_line-returns-in-None : goal.step_line-returns-in-None
step_line-returns-in-None t c =
    on_ok c.end.result _ _
    (if_done c.args.line.now c.in-If.cond c.in-If.yes _ None c.args.text.now.items _ _ c.step_lines.new.text.items _
    (c.in-If.is ∙ ap (λ (rest : Option (List Line)). line.If c.in-If.cond c.in-If.yes rest) c.in-None.is) c.as_slice.ensures
    c.in_ok-head_of_if-in-If.ensures c.in_ok-step_lines-in-If.ensures refl)
    c.end.ensures

pub step_line-returns-in_ok-otherwise-in-Some : goal.step_line-returns-in_ok-otherwise-in-Some
step_line-returns-in_ok-otherwise-in-Some t c =
    on_ok c.end-in-Some.result _ _
    (if_done c.args.line.now c.in-If.cond c.in-If.yes _ (Some c.in-Some.no) c.args.text.now.items _ _ _ _
    (c.in-If.is ∙ ap (λ (rest : Option (List Line)). line.If c.in-If.cond c.in-If.yes rest) c.in-Some.is) c.as_slice.ensures
    c.in_ok-head_of_if-in-If.ensures c.in_ok-step_lines-in-If.ensures
    (c.in_ok-otherwise-in-Some.ensures
    ∙ ap (λ (lines : List Line). with_lines c.step_lines.new.text.items (form.Else ∷ joined (map line_forms lines))) c.as_slice-in-Some.ensures))
    c.end-in-Some.ensures

pub step_line-returns-in_ok-step_lines-in-Repeat : goal.step_line-returns-in_ok-step_lines-in-Repeat
step_line-returns-in_ok-step_lines-in-Repeat t c =
    on_ok c.end-in-Repeat.result _ _
    (repeat_done c.args.line.now c.in-Repeat.count c.in-Repeat.body _ c.args.text.now.items _ _ _ c.in-Repeat.is c.as_slice-in-Repeat.ensures
    c.in_ok-repeat-in-Repeat.ensures c.in_ok-step_lines-in-Repeat.ensures)
    c.end-in-Repeat.ensures
