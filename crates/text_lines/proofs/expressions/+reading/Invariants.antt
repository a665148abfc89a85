use Rattle.std.proofs.Common.{◌≡◌, ◌+◌, ◌-◌, ◌*◌, drop}
use Rattle.unit_tree.specs.Phrases.{strength}
use Rattle.text_lines.specs.Expressions.{read, climb}
use Rattle.unit_tree.specs.Levels.{grammar_level}
use Rattle.text_lines.proofs.expressions.+reading.Given as goal

abbrev pub decreases-read : goal.decreases-read
decreases-read l = 100 * l.budget + 50 + 4 * (8 - strength (grammar_level l.asked))

abbrev pub decreases-operand : goal.decreases-operand
decreases-operand l = 100 * l.budget + 10

abbrev pub decreases-keyword_operand : goal.decreases-keyword_operand
decreases-keyword_operand l = 100 * l.budget + 9

abbrev pub decreases-fix : goal.decreases-fix
decreases-fix l = 100 * l.budget + 8

abbrev pub decreases-call : goal.decreases-call
decreases-call l = 100 * l.budget + 7

abbrev pub decreases-grouped : goal.decreases-grouped
decreases-grouped l = 100 * l.budget + 6

abbrev pub decreases-prefix : goal.decreases-prefix
decreases-prefix l = 100 * l.budget + 6

abbrev pub decreases-pair : goal.decreases-pair
decreases-pair l = 100 * l.budget + 6

abbrev pub decreases-clamp : goal.decreases-clamp
decreases-clamp l = 100 * l.budget + 6

abbrev pub decreases-choice : goal.decreases-choice
decreases-choice l = 100 * l.budget + 6

abbrev pub decreases-part : goal.decreases-part
decreases-part l = 100 * l.budget + 1

abbrev pub decreases-climb : goal.decreases-climb
decreases-climb l = 100 * l.budget + 49 + 4 * (8 - strength (grammar_level l.asked))

abbrev pub invariant-climb-loop : goal.invariant-climb-loop
invariant-climb-loop l =
    climb (read l.budget) (grammar_level l.asked) (drop l.index l.behind) (l.tree, grammar_level l.level, l.rest)
    ≡ climb (read l.budget) (grammar_level l.asked) l.behind (l.initial.tree, grammar_level l.initial.level, l.initial.rest)
