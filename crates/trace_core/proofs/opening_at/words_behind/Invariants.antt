use Rattle.std.proofs.Common.{◌≡◌, drop}
use Rattle.trace_core.specs.StateWords.{words_behind}
use Rattle.trace_core.proofs.opening_at.words_behind.Given as goal

abbrev pub invariant-loop-state : goal.invariant-loop-state
invariant-loop-state l = words_behind (drop l.state-index l.states) l.rest ≡ words_behind l.states l.words
