use Rattle.std.proofs.Common.{◌≡◌, ◌++◌, drop, map}
use Rattle.trace_plan.specs.declared.fitting.Fitted.{Fitted}
use Rattle.trace_plan.proofs.fitting.factors.Given as goal

abbrev pub invariant-loop-one : goal.invariant-loop-one
invariant-loop-one l = l.factors.items ++ map (λ (one : Fitted). one.factor) (drop l.one-index l.fitted) ≡ map (λ (one : Fitted). one.factor) l.fitted
