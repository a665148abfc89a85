use Rattle.std.proofs.Common.{◌≡◌, List, Option, true, sym, ap, ◌∙◌, arith}
use Rattle.std.proofs.lemmas.Bool.Decides.{nat_tests}
use Rattle.list_laws.proofs.Truths.{true_is_false}
use Rattle.unit_tree.specs.declared.line.Line as line
use Rattle.unit_tree.specs.declared.line.Line.{Line}
use Rattle.unit_print.specs.Fitting.{expression_fits}
use Rattle.unit_print.proofs.FittingParts.{steps_fit, if_fits, if_else_fits, repeat_fits, third_decides, second_decides, first_fails, second_fails, count_fits}
use Rattle.unit_print.proofs.fitting.+step.Goals as goal
use Rattle.unit_print.proofs.fitting.+step.Goals.{step_line_fits-then-expression_fits-2, step_line_fits-else-expression_fits-2}
use Rattle.unit_print.proofs.fitting.+step.Goals.{step_line_fits-then-count-ge1, step_line_fits-else-count-ge1}

pub step_line_fits-returns-then-expression_fits : goal.step_line_fits-returns-then-expression_fits
step_line_fits-returns-then-expression_fits t c =
    let cond_fits : expression_fits c.args.version c.in-If.cond ≡ true = sym c.expression_fits-in-None.ensures ∙ c.if-expression_fits.true in
    let is = c.in-If.is ∙ ap (λ (rest : Option (List Line)). line.If c.in-If.cond c.in-If.yes rest) c.in-None.is in
    second_decides _ _ _ cond_fits (c.step_lines_fit.ensures ∙ ap (steps_fit c.args.version) c.as_slice-then-expression_fits.ensures)
    ∙ sym (if_fits c.args.version c.args.line.now c.in-If.cond c.in-If.yes is)

pub step_line_fits-returns-then-step_lines_fit : goal.step_line_fits-returns-then-step_lines_fit
step_line_fits-returns-then-step_lines_fit t c =
    let is = c.in-If.is ∙ ap (λ (rest : Option (List Line)). line.If c.in-If.cond c.in-If.yes rest) c.in-Some.is in
    let told = c.step_lines_fit-then-step_lines_fit.ensures ∙ ap (steps_fit c.args.version) c.as_slice-then-step_lines_fit.ensures in
    elim c.if-expression_fits-2.branch [
      | step_line_fits-then-expression_fits-2 w ↦
          third_decides _ (steps_fit c.args.version c.in-If.yes) _ _ (sym c.expression_fits-in-Some.ensures ∙ w.if-expression_fits-2.true)
          (sym (w.step_lines_fit-then-expression_fits-2.ensures ∙ ap (steps_fit c.args.version) w.as_slice-then-expression_fits-2.ensures)
          ∙ sym w.value-is ∙ c.if-step_lines_fit.true) told
          ∙ sym (if_else_fits c.args.version c.args.line.now c.in-If.cond c.in-If.yes c.in-Some.no is)
      | step_line_fits-else-expression_fits-2 w ↦ true_is_false c.if-expression_fits-2.value c.if-step_lines_fit.true (w.value-is
          ∙ w.if-expression_fits-2.false)
    ]

pub step_line_fits-returns-else-step_lines_fit : goal.step_line_fits-returns-else-step_lines_fit
step_line_fits-returns-else-step_lines_fit t c =
    let is = c.in-If.is ∙ ap (λ (rest : Option (List Line)). line.If c.in-If.cond c.in-If.yes rest) c.in-Some.is in
    let whole = if_else_fits c.args.version c.args.line.now c.in-If.cond c.in-If.yes c.in-Some.no is in
    elim c.if-expression_fits-2.branch [
      | step_line_fits-then-expression_fits-2 w ↦
          c.if-step_lines_fit.false
          ∙ second_fails _ (steps_fit c.args.version c.in-If.yes) _ (sym c.expression_fits-in-Some.ensures ∙ w.if-expression_fits-2.true)
          (sym (w.step_lines_fit-then-expression_fits-2.ensures ∙ ap (steps_fit c.args.version) w.as_slice-then-expression_fits-2.ensures)
          ∙ sym w.value-is ∙ c.if-step_lines_fit.false)
          ∙ sym whole
      | step_line_fits-else-expression_fits-2 w ↦
          c.if-step_lines_fit.false
          ∙ first_fails _ (steps_fit c.args.version c.in-If.yes) _ (sym c.expression_fits-in-Some.ensures ∙ w.if-expression_fits-2.false) ∙ sym whole
    ]

pub step_line_fits-returns-then-count-le-MOST_TURNS : goal.step_line_fits-returns-then-count-le-MOST_TURNS
step_line_fits-returns-then-count-le-MOST_TURNS t c =
    let told = c.step_lines_fit-then-count-le-MOST_TURNS.ensures ∙ ap (steps_fit c.args.version) c.as_slice-then-count-le-MOST_TURNS.ensures in
    elim c.if-count-ge1.branch [
      | step_line_fits-then-count-ge1 w ↦
          second_decides _ _ _ (count_fits c.in-Repeat.count w.if-count-ge1.true (sym w.value-is ∙ c.if-count-le-MOST_TURNS.true)) told
          ∙ sym (repeat_fits c.args.version c.args.line.now c.in-Repeat.count c.in-Repeat.body c.in-Repeat.is)
      | step_line_fits-else-count-ge1 w ↦ true_is_false c.if-count-ge1.value c.if-count-le-MOST_TURNS.true (w.value-is ∙ grind (arith, nat_tests))
    ]
