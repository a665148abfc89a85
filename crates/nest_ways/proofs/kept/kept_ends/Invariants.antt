use Rattle.std.proofs.Common.{ℕ, List, [], take}
use Rattle.nest_text.specs.declared.nest.Bind.{Bind}
use Rattle.nest_text.specs.declared.nest.Nest.{Nest}
use Rattle.nest_ways.specs.Reaching.{AreKnown, AreSteps, Puts}
use Rattle.nest_ways.proofs.kept.kept_ends.Given as goal

abbrev pub invariant-loop-step : goal.invariant-loop-step
invariant-loop-step l =
    (nest : Nest) (height : ℕ) (binds : List Bind) → AreKnown nest l.scopes l.known → AreSteps nest l.scopes l.known l.group height l.steps binds
    → Puts nest l.scopes l.group height [] l.ends (take l.step-index binds)
