-- What follows from the result of one component's `max`, and from its local step.
use Rattle.std.specs.Prelude.{ℕ, ◌==◌, ◌&&◌, min, not, Bool, Option, Some, None, Result}
use Rattle.fixed_words.specs.declared.types.Fault.{Fault}
use Rattle.step_rule.specs.Steps.{ending_or}
use Rattle.unit_tree.specs.Negotiation.{limit_told}
use Rattle.unit_tree.specs.Successor.{max_end_of}
use Rattle.unit_tree.specs.declared.ending.Ending.{Ending}

-- A length, or the limit where there is one and it is less.
abbrev pub with_limit : ℕ → Option ℕ → ℕ
with_limit least None = least
with_limit least (Some limit) = min least limit

-- The proposed step after one more `max`: its fault ends the run, and its limit may shorten the step.
abbrev pub limited : ℕ → ℕ → ℕ → ℕ → Result (Option ℕ) Fault → Result ℕ Ending
limited least instance factor t told = ending_or (max_end_of (instance, told)) (with_limit least (limit_told factor t told))

-- A component with this local step is held in a step of h.
abbrev pub is_held_by : ℕ → ℕ → Bool
is_held_by h step = not (h == 0) && (step == 0)
