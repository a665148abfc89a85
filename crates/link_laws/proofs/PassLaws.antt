-- As many passes as there are outputs are enough.
use Rattle.link_laws.specs.Boards.{entry}
use Rattle.link_laws.specs.Making.{determined, each, held, passes, put_word, with_word, words_made}
use Rattle.link_laws.specs.Nodes.{Making}
use Rattle.link_laws.specs.declared.fact.Seen.{Seen}
use Rattle.std.proofs.Common.{ap, arith, inl, inr, refl, subst, sym, ◌+◌, ◌<◌, ◌∙◌, ◌≤◌, ◌⊎◌}
use Rattle.std.proofs.lemmas.Bool.{and_parts}
use Rattle.std.specs.List.{AllByRecursion, enumerate_from}
use Rattle.std.specs.Prelude.{Bool, List, None, Option, Some, [], false, if◌then◌else◌, is_none, length, slice_set, suc, true, zero, ℕ, ◌&&◌, ◌==◌, ◌∷◌, ◌≡◌}
use Rattle.unit_tree.specs.Compositions.{Composition}
use Rattle.unit_tree.specs.Ports.{Outlet}
use Rattle.unit_tree.specs.Successor.{Position}

-- How many words are not known.
abbrev pub empties : List (Option Seen) → ℕ
empties [] = 0
empties (None ∷ words) = suc (empties words)
empties (Some seen ∷ words) = empties words

at_most : (words : List (Option Seen)) → empties words ≤ length words
at_most [] = omega arith
at_most (None ∷ words) = let rest = at_most words in omega (arith, rest)
at_most (Some seen ∷ words) = let rest = at_most words in omega (arith, rest)

set_fewer : (words : List (Option Seen)) (place : ℕ) (seen : Seen) → place < length words → is_none (entry words place) ≡ true
    → empties (slice_set words place (Some seen)) < empties words
set_fewer [] place seen within none = absurd (omega (arith, within))
set_fewer (None ∷ words) zero seen within none = omega arith
set_fewer (Some one ∷ words) zero seen within none = absurd (cc)
set_fewer (None ∷ words) (suc place) seen within none = let rest = set_fewer words place seen (omega (arith, within)) none in omega (arith, rest)
set_fewer (Some one ∷ words) (suc place) seen within none = set_fewer words place seen (omega (arith, within)) none

set_long : (words : List (Option Seen)) (place : ℕ) (seen : Option Seen) → length (slice_set words place seen) ≡ length words
set_long [] place seen = refl
set_long (one ∷ words) zero seen = refl
set_long (one ∷ words) (suc place) seen = let rest = set_long words place seen in omega (arith, rest)

-- Nothing was made, or fewer words are missing. The number of words is as before.
record Shrinks (old new : Making) : Type 0 where
  long : length new.known.words ≡ length old.known.words
  fewer : (new ≡ old) ⊎ (empties new.known.words < empties old.known.words)

same_shrinks : (making : Making) → Shrinks making making
same_shrinks making = record { long = refl; fewer = inl refl }

then_shrinks : (one two three : Making) → Shrinks one two → Shrinks two three → Shrinks one three
then_shrinks one two three first second = record {
  long = second.long ∙ first.long;
  fewer = elim first.fewer [
    | inl same ↦ elim second.fewer [
      | inl again ↦ inl (again ∙ same)
      | inr less ↦ inr
          (subst (λ (m : Making). empties three.known.words < empties m.known.words) same less)
    ]
    | inr less ↦ elim second.fewer [
      | inl again ↦ inr (subst (λ (m : Making). empties m.known.words < empties one.known.words)
          (sym again) less)
      | inr lesser ↦ inr (omega (arith, less, lesser))
    ]
  ];
}

put_shrinks : (number place : ℕ) (found : Option Seen) (making : Making) → place < length making.known.words → is_none (entry making.known.words place) ≡ true
    → Shrinks making (put_word number place found making)
put_shrinks number place None making within none = same_shrinks making
put_shrinks number place (Some seen) making within none = record {
  long = set_long making.known.words place (Some seen);
  fewer = inr (set_fewer making.known.words place seen within none);
}

word_shrinks : (me number : ℕ) (making : Making) (item : ℕ × (ℕ × Outlet)) → item.0 < length making.known.words
    → Shrinks making (with_word me number making item)
word_shrinks me number making (place, (owner, outlet)) within = by_test ((owner == me) && is_none (entry making.known.words place)) refl
  where
    by_test : (test : Bool) → ((owner == me) && is_none (entry making.known.words place)) ≡ test
        → Shrinks making (if test then put_word number place (determined making.known.words outlet) making else making)
    by_test false is = same_shrinks making
    by_test true is = put_shrinks number place (determined making.known.words outlet) making within
        (and_parts (owner == me) (is_none (entry making.known.words place)) is).1

abbrev AreWithin : ℕ → List (ℕ × (ℕ × Outlet)) → Type 0
AreWithin count items = AllByRecursion (λ item. item.0 < count) items

numbered : (from count : ℕ) (ones : List (ℕ × Outlet)) → from + length ones ≤ count → AreWithin count (enumerate_from from ones)
numbered from count [] within = tt
numbered from count (one ∷ ones) within = (omega (arith, within), numbered (from + 1) count ones (omega (arith, within)))

module _ (me number count : ℕ) (items : List (ℕ × (ℕ × Outlet))) (within : AreWithin count items) where
  pass_shrinks : (rest : List (ℕ × (ℕ × Outlet))) (making : Making) → AreWithin count rest → length making.known.words ≡ count
      → Shrinks making (each (with_word me number) making rest)
  pass_shrinks [] making are long = same_shrinks making
  pass_shrinks (item ∷ rest) making are long =
      let step = word_shrinks me number making item (omega (arith, are.0, long)) in
      then_shrinks making (with_word me number making item) (each (with_word me number) (with_word me number making item) rest) step
      (pass_shrinks rest (with_word me number making item) are.1 (step.long ∙ long))

  abbrev pass : Making → Making
  pass making = each (with_word me number) making items

  stays : (more : ℕ) (making : Making) → pass making ≡ making → passes me number items more making ≡ making
  stays zero making is = refl
  stays (suc more) making is = ap (passes me number items more) is ∙ stays more making is

  closed_by : (more : ℕ) (making : Making) → length making.known.words ≡ count → empties making.known.words ≤ more
      → pass (passes me number items more making) ≡ passes me number items more making
  closed_by zero making long most =
      elim (pass_shrinks items making within long).fewer [ inl same ↦ same | inr less ↦ absurd (omega (arith, less, most)) ]
  closed_by (suc more) making long most =
      let shrinks = pass_shrinks items making within long in
      elim shrinks.fewer [
        | inl same ↦ let stay = stays (suc more) making same in ap pass stay ∙ same ∙ sym stay
        | inr less ↦ closed_by more (pass making) (shrinks.long ∙ long) (omega (arith, less, most))
      ]

pub passes_close : (run : Composition) (owners : List ℕ) (me : ℕ) (at : Position) (making : Making)
    → length making.known.words ≡ length (held run owners at.states)
    → each (with_word me at.number) (words_made run owners me at making) (enumerate_from 0 (held run owners at.states)) ≡ words_made run owners me at making
passes_close run owners me at making long =
    let most = at_most making.known.words in
    closed_by me at.number (length (held run owners at.states)) (enumerate_from 0 (held run owners at.states))
    (numbered 0 (length (held run owners at.states)) (held run owners at.states) (omega arith))
    (length (held run owners at.states)) making long (omega (arith, most, long))
