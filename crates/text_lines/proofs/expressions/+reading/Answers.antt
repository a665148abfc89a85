use Rattle.std.proofs.Common.{◌≡◌, ap, ◌∙◌, arith}
use Rattle.unit_tree.specs.Phrases.{strength, binary_level, right_level}
use Rattle.unit_tree.specs.Levels.{grammar_level}
use Rattle.text_lines.proofs.InfixOperations.{infix_at_rises, strongest}
use Rattle.text_lines.proofs.expressions.+reading.Goals as goal

pub climb-read-requires : goal.climb-read-requires
climb-read-requires t c =
    let up = infix_at_rises (grammar_level c.args.asked) (grammar_level c.loop.level) c.loop.rest.now c.in-Some.op c.in-Some.behind.now c.in-Some.ensures in
    let level : strength (grammar_level c.right_level.result) ≡ strength (right_level (binary_level c.in-Some.op)) =
    ap strength (c.right_level.ensures ∙ ap right_level c.binary_level.ensures) in
    let bound = strongest (grammar_level c.right_level.result) in
    (omega (arith, c.decreases, up, level, bound), tt)
