use Rattle.std.proofs.Common.{◌≡◌, drop}
use Rattle.unit_print.specs.Growing.{with_step_lines}
use Rattle.unit_print.proofs.steps.+step.Given as goal

abbrev pub invariant-step_lines-loop-line : goal.invariant-step_lines-loop-line
invariant-step_lines-loop-line l = with_step_lines l.initial.text.items l.lines ≡ with_step_lines l.text.items (drop l.line-index l.lines)
