use Rattle.std.proofs.Common.{◌≡◌, ◌++◌, drop, map}
use Rattle.fixed_words.specs.Types.{highest}
use Rattle.trace_plan.proofs.fitting.highest_words.Given as goal

abbrev pub invariant-loop-input : goal.invariant-loop-input
invariant-loop-input l = l.words.items ++ map (λ input. highest input.ty) (drop l.input-index l.inputs) ≡ map (λ input. highest input.ty) l.inputs
