use Rattle.std.proofs.Common.{◌≡◌, ◌++◌, drop, map}
use Rattle.std.specs.List.{AllByRecursion}
use Rattle.fixed_words.specs.Types.{AreDecimals}
use Rattle.unit_tree.specs.Components.{start_word}
use Rattle.unit_exec.proofs.image.start_inputs.Given as goal

abbrev pub invariant-loop-input : goal.invariant-loop-input
invariant-loop-input l =
    (map (λ one. start_word one.ty one.start) l.inputs ≡ l.words ++ map (λ one. start_word one.ty one.start) (drop l.input-index l.inputs))
    × AllByRecursion (λ one. AreDecimals one.ty) (drop l.input-index l.inputs)
