use Rattle.std.proofs.Common.{◌≡◌, drop}
use Rattle.std.specs.List.{list_all}
use Rattle.unit_tree.specs.Parts.{line_forms}
use Rattle.unit_print.specs.Fitting.{line_fits}
use Rattle.unit_print.proofs.fitting.+step.Given as goal

abbrev pub invariant-step_lines_fit-loop-line : goal.invariant-step_lines_fit-loop-line
invariant-step_lines_fit-loop-line l =
    list_all (λ line. list_all (line_fits l.version) (line_forms line)) l.lines ≡ list_all (λ line. list_all (line_fits l.version)
    (line_forms line)) (drop l.line-index l.lines)
