-- What follows the agreed step.
use Rattle.std.specs.Prelude.{ℕ, ◌==◌, ◌&&◌, if◌then◌else◌}
use Rattle.super_time.specs.declared.point.Point.{Point}
use Rattle.unit_tree.specs.Successor.{point_after}
use Rattle.step_rule.specs.declared.rules.NextPoint.{NextPoint}
use Rattle.step_rule.specs.declared.rules.NextPoint.TheVariants.{Next, ZeroBudget}

-- The point after the step. A step of length zero is refused after as many as the zero budget allows.
abbrev pub after_step : ℕ → Point → ℕ → NextPoint
after_step zero_budget point h = if (h == 0) && (point.n == zero_budget) then ZeroBudget else Next (point_after point h)
