use Rattle.std.proofs.Common.{◌≡◌, ◌++◌, drop, map}
use Rattle.fixed_words.specs.Types.{lowest}
use Rattle.trace_plan.proofs.fitting.lowest_words.Given as goal

abbrev pub invariant-loop-input : goal.invariant-loop-input
invariant-loop-input l = l.words.items ++ map (λ input. lowest input.ty) (drop l.input-index l.inputs) ≡ map (λ input. lowest input.ty) l.inputs
