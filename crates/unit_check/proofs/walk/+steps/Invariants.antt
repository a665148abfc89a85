use Rattle.std.proofs.Common.{◌≡◌, drop}
use Rattle.unit_tree.specs.Sites.{StepScope}
use Rattle.unit_check.specs.Questions.{asked_of}
use Rattle.unit_check.specs.Walks.{each, past_from, line_walk}
use Rattle.unit_check.proofs.walk.+steps.Given as goal

abbrev pub invariant-past_lines-loop-line : goal.invariant-past_lines-loop-line
invariant-past_lines-loop-line l =
    each (line_walk (past_from (asked_of l.walker.question l.walker.tables.now (StepScope l.unit)) l.first)) l.lines l.number
    ≡ each (line_walk (past_from (asked_of l.walker.question l.walker.tables.now (StepScope l.unit)) l.first)) (drop l.line-index l.lines) l.next
