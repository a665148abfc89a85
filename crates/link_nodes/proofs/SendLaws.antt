-- Facts that are sent, one after the other.
use Rattle.std.proofs.Common.{◌≡◌, ◌∙◌, ℕ, zero, suc, ◌+◌, ◌<◌, ◌≤◌, ◌==◌, ◌%◌, ◌⊎◌, Bool, true, false, ◌&&◌, cond, not, List, [], ◌∷◌, ◌++◌, length, map, drop}
use Rattle.std.proofs.Common.{Option, Some, None, refl, sym, ap, ap₂, inl, inr, arith, append_assoc}
use Rattle.std.specs.Prelude.{slice_get}
use Rattle.std.specs.List.{enumerate_from, filter}
use Rattle.link_laws.specs.Boards.{row_of}
use Rattle.link_laws.specs.declared.fact.Fact.{Fact}
use Rattle.link_core.proofs.PassBodies.{numbered_next}
use Rattle.link_nodes.proofs.ArrivalLaws.{fact_of}
use Rattle.link_nodes.specs.Rounds.{is_sent}
use Rattle.link_nodes.specs.ShownRows.{AreOfOtherRows}
use Rattle.list_laws.proofs.Members.{at_place}

filter_by : {A : Type 0} (test : A → Bool) (told : Bool) (x : A) (xs : List A) → test x ≡ told
    → filter test (x ∷ xs) ≡ cond told (x ∷ filter test xs) (filter test xs)
filter_by test told x xs is = ap (λ one. cond one (x ∷ filter test xs) (filter test xs)) is

module _ (seed k row : ℕ) (facts : List Fact) where
  abbrev pub left : ℕ → List Fact
  left place = map fact_of (filter (is_sent seed k row) (drop place (enumerate_from 0 facts)))

  next_is : (place : ℕ) (fact : Fact) → slice_get facts place ≡ Some fact
      → drop place (enumerate_from 0 facts) ≡ (place, fact) ∷ drop (suc place) (enumerate_from 0 facts)
  next_is place fact is = let same : 0 + place ≡ place = omega arith in numbered_next facts 0 place fact is
      ∙ ap (λ number. (number, fact) ∷ drop (suc place) (enumerate_from 0 facts)) same

  -- One that is sent, and one that isn't.
  left_by : (told : Bool) (place : ℕ) (fact : Fact) → slice_get facts place ≡ Some fact → is_sent seed k row (place, fact) ≡ told
      → left place ≡ map fact_of (cond told ((place, fact) ∷ filter (is_sent seed k row) (drop (suc place) (enumerate_from 0 facts)))
      (filter (is_sent seed k row) (drop (suc place) (enumerate_from 0 facts))))
  left_by told place fact is sent =
      ap (λ all. map fact_of (filter (is_sent seed k row) all)) (next_is place fact is)
      ∙ ap (map fact_of) (filter_by (is_sent seed k row) told (place, fact) (drop (suc place) (enumerate_from 0 facts)) sent)

  not_sent : (place : ℕ) (fact : Fact) → (row_of fact == row) ≡ false → is_sent seed k row (place, fact) ≡ false
  not_sent place fact is = ap (λ told. told && not ((place + k + seed) % 4 == 3)) is

  past : (place : ℕ) → length facts ≤ place → left place ≡ []
  past place most = ap (λ all. map fact_of (filter (is_sent seed k row) all)) (numbered_past facts 0 place most)
    where
      numbered_past : (all : List Fact) (from place : ℕ) → length all ≤ place → drop place (enumerate_from from all) ≡ []
      numbered_past [] from zero most = refl
      numbered_past [] from (suc place) most = refl
      numbered_past (fact ∷ all) from zero most = absurd (omega (arith, most))
      numbered_past (fact ∷ all) from (suc place) most = numbered_past all (from + 1) place (omega (arith, most))

  module _ (first end : ℕ) (others : AreOfOtherRows facts row first end) where
    -- A fact of another row leaves the others as they are.
    skipped : (place : ℕ) → (place < first) ⊎ (end ≤ place) → left place ≡ left (suc place)
    skipped place outside = by_found (slice_get facts place) refl
      where
        by_found : (found : Option Fact) → slice_get facts place ≡ found → left place ≡ left (suc place)
        by_found (Some fact) is = left_by false place fact is (not_sent place fact (others place fact is outside))
        by_found None is =
            let most : length facts ≤ place = by_length (le_or facts place) in
            let more : length facts ≤ suc place = omega (arith, most) in
            past place most ∙ sym (past (suc place) more)
          where
            le_or : (all : List Fact) (place : ℕ) → (length all ≤ place) ⊎ (place < length all)
            le_or all place = nat_or (length all) place
              where
                nat_or : (n m : ℕ) → (n ≤ m) ⊎ (m < n)
                nat_or zero m = inl (omega arith)
                nat_or (suc n) zero = inr (omega arith)
                nat_or (suc n) (suc m) = step (nat_or n m)
                  where
                    step : (n ≤ m) ⊎ (m < n) → (suc n ≤ suc m) ⊎ (suc m < suc n)
                    step (inl le) = inl (omega (arith, le))
                    step (inr lt) = inr (omega (arith, lt))

            by_length : (length facts ≤ place) ⊎ (place < length facts) → length facts ≤ place
            by_length (inl le) = le
            by_length (inr lt) = absurd (let there = at_place facts place lt in cc (is, there.1))

    -- Before the first.
    from_first : (place : ℕ) → place ≤ first → left 0 ≡ left place
    from_first zero most = refl
    from_first (suc place) most = from_first place (omega (arith, most)) ∙ skipped place (inl (omega (arith, most)))

    -- From the end on.
    from_end : (more place : ℕ) → length facts ≤ place + more → end ≤ place → left place ≡ []
    from_end zero place most behind = past place (omega (arith, most))
    from_end (suc more) place most behind = skipped place (inr behind) ∙ from_end more (suc place) (omega (arith, most)) (omega (arith, behind))

    pub start_left : left first ≡ left 0
    start_left = sym (from_first first (omega arith))

    pub end_left : (place : ℕ) → end ≤ place → left place ≡ []
    end_left place behind = from_end (length facts) place (omega arith) behind

  pub record Sending (transit : List Fact) (place : ℕ) : Type 0 where
    pub all : transit ++ left place ≡ left 0

  pub sends : (place : ℕ) (fact arrived : Fact) (transit transit' : List Fact) → slice_get facts place ≡ Some fact → is_sent seed k row (place, fact) ≡ true
      → transit' ≡ transit ++ arrived ∷ [] → arrived ≡ fact → Sending transit place → Sending transit' (place + 1)
  sends place fact arrived transit transit' is sent pushed same so =
      let next : place + 1 ≡ suc place = omega arith in
      record {
        all =
            ap₂ (λ one at. one ++ left at) (pushed ∙ ap (λ one. transit ++ one ∷ []) same) next
            ∙ append_assoc transit (fact ∷ []) (left (suc place))
            ∙ ap (λ rest. transit ++ rest) (sym (left_by true place fact is sent)) ∙ so.all;
      }

  pub loses : (place : ℕ) (fact : Fact) (transit : List Fact) → slice_get facts place ≡ Some fact → is_sent seed k row (place, fact) ≡ false → Sending transit place
      → Sending transit (place + 1)
  loses place fact transit is lost so =
      let next : place + 1 ≡ suc place = omega arith in
      record { all = ap (λ at. transit ++ left at) next ∙ ap (λ rest. transit ++ rest) (sym (left_by false place fact is lost)) ∙ so.all }
