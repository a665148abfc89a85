-- How many items are not known.
use Rattle.std.proofs.Common.{◌≡◌, ℕ, zero, suc, ◌+◌, ◌<◌, ◌≤◌, true, false, is_none, is_some, List, [], ◌∷◌, length, map, Option, Some, None, refl, sym, ap}
use Rattle.std.proofs.Common.{arith, ◌∙◌}
use Rattle.std.specs.Prelude.{slice_set}
use Rattle.link_laws.specs.Boards.{entry}
use Rattle.link_core.specs.Noted.{AreNotes, empties, is_defined}
use Rattle.link_laws.specs.Boards.{are_nothing}
use Rattle.link_core.specs.declared.notes.Notes.{Notes}
use Rattle.unit_tree.specs.Compositions.{Composition}
use Rattle.link_laws.specs.declared.fact.Seen.{Seen}

pub fewer : {A : Type 0} (entries : List (Option A)) (place : ℕ) (told : A) → place < length entries → is_none (entry entries place) ≡ true
    → empties (slice_set entries place (Some told)) + 1 ≡ empties entries
fewer [] place told within none = absurd (omega (arith, within))
fewer (None ∷ entries) zero told within none = omega arith
fewer (Some one ∷ entries) zero told within none = absurd (cc)
fewer (None ∷ entries) (suc place) told within none = let rest = fewer entries place told (omega (arith, within)) none in omega (arith, rest)
fewer (Some one ∷ entries) (suc place) told within none = fewer entries place told (omega (arith, within)) none

pub some_empty : {A : Type 0} (entries : List (Option A)) (place : ℕ) → place < length entries → is_none (entry entries place) ≡ true → 0 < empties entries
some_empty [] place within none = absurd (omega (arith, within))
some_empty (None ∷ entries) place within none = omega arith
some_empty (Some one ∷ entries) zero within none = absurd (cc)
some_empty (Some one ∷ entries) (suc place) within none = some_empty entries place (omega (arith, within)) none

pub at_most : {A : Type 0} (entries : List (Option A)) → empties entries ≤ length entries
at_most [] = omega arith
at_most (None ∷ entries) = let rest = at_most entries in omega (arith, rest)
at_most (Some one ∷ entries) = let rest = at_most entries in omega (arith, rest)

-- ---- Notes that are cleared

pub none_defined : (words : List (Option Seen)) → map (λ one. false) words ≡ map is_defined (are_nothing words)
none_defined [] = refl
none_defined (one ∷ words) = ap (λ rest. false ∷ rest) (none_defined words)

pub cleared : (run : Composition) (old new : Notes) → new.words.items ≡ are_nothing old.words.items → new.limits.items ≡ are_nothing old.limits.items
    → new.replies.items ≡ are_nothing old.replies.items → new.redos.items ≡ are_nothing old.redos.items
    → new.defined.items ≡ map (λ one. false) old.defined.items → AreNotes run old → AreNotes run new
cleared run old new words limits replies redos defined are = record {
  words = ap length words ∙ as_many old.words.items ∙ are.words;
  limits = ap length limits ∙ as_many old.limits.items ∙ are.limits;
  replies = ap length replies ∙ as_many old.replies.items ∙ are.replies;
  redos = ap length redos ∙ as_many old.redos.items ∙ are.redos;
  defined = defined ∙ ap (map (λ one. false)) are.defined ∙ false_twice old.words.items ∙ none_defined old.words.items ∙ ap (map is_defined) (sym words);
}
  where
    as_many : {A : Type 0} (entries : List (Option A)) → length (are_nothing entries) ≡ length entries
    as_many [] = refl
    as_many (one ∷ entries) = let rest = as_many entries in omega (arith, rest)

    false_twice : (words : List (Option Seen)) → map (λ one. false) (map is_defined words) ≡ map (λ one. false) words
    false_twice [] = refl
    false_twice (one ∷ words) = ap (λ rest. false ∷ rest) (false_twice words)

-- One more item is known.
pub fewer_told : {A : Type 0} (entries : List (Option A)) (place : ℕ) (told : A) → place < length entries → is_some (entry entries place) ≡ false
    → empties (slice_set entries place (Some told)) + 1 ≡ empties entries
fewer_told entries place told within none = fewer entries place told within (none_there (entry entries place) none)
  where
    none_there : {A : Type 0} (found : Option A) → is_some found ≡ false → is_none found ≡ true
    none_there None is = refl
    none_there (Some one) is = absurd (cc)
