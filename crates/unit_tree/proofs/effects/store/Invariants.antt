use Rattle.std.proofs.Common.{◌≡◌, drop, take}
use Rattle.unit_tree.specs.Effects.{stored}
use Rattle.unit_tree.proofs.EffectLemmas.{behind}
use Rattle.unit_tree.proofs.effects.store.Given as goal

abbrev pub invariant-loop-place : goal.invariant-loop-place
invariant-loop-place l =
    (l.words ≡ l.initial.words)
    × (stored l.variables l.words l.name l.word ≡ behind (take l.place l.words) (stored (drop l.place l.variables) (drop l.place l.words) l.name l.word))
