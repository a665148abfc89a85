use Rattle.std.proofs.Common.{◌-◌, ◌&&◌, List, Option, sym, ap, ◌∙◌, arith}
use Rattle.std.proofs.lemmas.Bool.Decides.{nat_tests}
use Rattle.list_laws.proofs.Truths.{true_is_false}
use Rattle.unit_tree.specs.declared.line.Line as line
use Rattle.unit_tree.specs.declared.line.Line.{Line}
use Rattle.unit_print.proofs.BlockDepths.{are_within, if_within, if_else_within, repeat_within, if_is_deep}
use Rattle.unit_print.proofs.FittingParts.{second_decides}
use Rattle.unit_print.proofs.printable.+depth.Goals as goal
use Rattle.unit_print.proofs.printable.+depth.Goals.{line_is_within-then-depth-gt0-2, line_is_within-else-depth-gt0-2}

pub line_is_within-returns-then-depth-gt0 : goal.line_is_within-returns-then-depth-gt0
line_is_within-returns-then-depth-gt0 t c =
    let is = c.in-If.is ∙ ap (λ (rest : Option (List Line)). line.If c.in-If.cond c.in-If.yes rest) c.in-None.is in
    c.lines_are_within.ensures
    ∙ ap (are_within (c.args.depth - 1)) c.as_slice.ensures
    ∙ sym (if_within c.args.line.now c.in-If.cond c.in-If.yes (c.args.depth - 1) c.args.depth is (grind arith))

pub line_is_within-returns-then-lines_are_within : goal.line_is_within-returns-then-lines_are_within
line_is_within-returns-then-lines_are_within t c =
    let is = c.in-If.is ∙ ap (λ (rest : Option (List Line)). line.If c.in-If.cond c.in-If.yes rest) c.in-Some.is in
    let told = c.lines_are_within-then-lines_are_within.ensures ∙ ap (are_within (c.args.depth - 1)) c.as_slice-then-lines_are_within.ensures in
    elim c.if-depth-gt0-2.branch [
      | line_is_within-then-depth-gt0-2 w ↦
          second_decides (are_within (c.args.depth - 1) c.in-If.yes) _ _
          (sym (w.lines_are_within-then-depth-gt0-2.ensures ∙ ap (are_within (c.args.depth - 1)) w.as_slice-then-depth-gt0-2.ensures)
          ∙ sym w.value-is ∙ c.if-lines_are_within.true) told
          ∙ sym (if_else_within c.args.line.now c.in-If.cond c.in-If.yes c.in-Some.no (c.args.depth - 1) c.args.depth is (grind arith))
      | line_is_within-else-depth-gt0-2 w ↦ true_is_false c.if-depth-gt0-2.value c.if-lines_are_within.true (w.value-is ∙ grind (arith, nat_tests))
    ]

pub line_is_within-returns-else-lines_are_within : goal.line_is_within-returns-else-lines_are_within
line_is_within-returns-else-lines_are_within t c =
    let is = c.in-If.is ∙ ap (λ (rest : Option (List Line)). line.If c.in-If.cond c.in-If.yes rest) c.in-Some.is in
    elim c.if-depth-gt0-2.branch [
      | line_is_within-then-depth-gt0-2 w ↦
          c.if-lines_are_within.false
          ∙ sym (if_else_within c.args.line.now c.in-If.cond c.in-If.yes c.in-Some.no (c.args.depth - 1) c.args.depth is (grind arith)
          ∙ ap (λ told. told && are_within (c.args.depth - 1) c.in-Some.no)
          (sym (w.lines_are_within-then-depth-gt0-2.ensures ∙ ap (are_within (c.args.depth - 1)) w.as_slice-then-depth-gt0-2.ensures)
          ∙ sym w.value-is ∙ c.if-lines_are_within.false))
      | line_is_within-else-depth-gt0-2 w ↦ c.if-lines_are_within.false
          ∙ sym (if_is_deep c.args.line.now c.in-If.cond c.in-If.yes c.in-Some.no c.args.depth is w.if-depth-gt0-2.false)
    ]

pub line_is_within-returns-then-depth-gt0-3 : goal.line_is_within-returns-then-depth-gt0-3
line_is_within-returns-then-depth-gt0-3 t c =
    c.lines_are_within-then-depth-gt0-3.ensures
    ∙ ap (are_within (c.args.depth - 1)) c.as_slice-then-depth-gt0-3.ensures
    ∙ sym (repeat_within c.args.line.now c.in-Repeat.count c.in-Repeat.body (c.args.depth - 1) c.args.depth c.in-Repeat.is (grind arith))
