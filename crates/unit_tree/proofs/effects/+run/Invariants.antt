use Rattle.std.proofs.Common.{◌≡◌, ◌-◌, drop}
use Rattle.std.specs.Prelude.{IsTrue}
use Rattle.unit_tree.specs.Values.{IsSound}
use Rattle.unit_tree.specs.Effects.{effect_of_lines, times, lines_are_ranged}
use Rattle.unit_tree.proofs.effects.+run.Given as goal

abbrev pub invariant-repeat-loop : goal.invariant-repeat-loop
invariant-repeat-loop l =
    (times l.count (effect_of_lines l.body) l.initial.env ≡ times (l.count - l.counter) (effect_of_lines l.body) l.env)
    × IsSound l.env
    × (l.env.variables ≡ l.initial.env.variables)
    × (l.env.step ≡ l.initial.env.step)

abbrev pub invariant-run_lines-loop-line : goal.invariant-run_lines-loop-line
invariant-run_lines-loop-line l =
    (effect_of_lines l.lines l.initial.env ≡ effect_of_lines (drop l.line-index l.lines) l.env)
    × IsSound l.env
    × (l.env.variables ≡ l.initial.env.variables)
    × (l.env.step ≡ l.initial.env.step)
    × IsTrue (lines_are_ranged (drop l.line-index l.lines))
