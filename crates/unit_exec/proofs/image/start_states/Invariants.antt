use Rattle.std.proofs.Common.{◌≡◌, ◌++◌, drop, map}
use Rattle.std.specs.List.{AllByRecursion}
use Rattle.fixed_words.specs.Types.{AreDecimals}
use Rattle.unit_tree.specs.Components.{start_word}
use Rattle.unit_exec.proofs.image.start_states.Given as goal

abbrev pub invariant-loop-state : goal.invariant-loop-state
invariant-loop-state l =
    (map (λ one. start_word one.ty one.start) l.states ≡ l.words ++ map (λ one. start_word one.ty one.start) (drop l.state-index l.states))
    × AllByRecursion (λ one. AreDecimals one.ty) (drop l.state-index l.states)
