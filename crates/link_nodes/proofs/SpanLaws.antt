-- Spans of rows, as facts come.
use Rattle.std.proofs.Common.{◌≡◌, ◌∙◌, ℕ, zero, suc, ◌+◌, ◌<◌, ◌≤◌, ◌==◌, ◌⊎◌, Bool, true, false, List, [], ◌∷◌, ◌++◌, length, take, set, Some, None}
use Rattle.std.proofs.Common.{refl, sym}
use Rattle.std.proofs.Common.{ap, subst, inl, inr, arith, length-append}
use Rattle.std.proofs.lemmas.Bool.{eqb-true, eqb-false}
use Rattle.std.proofs.lemmas.Option.{same_Some, slice_get_within}
use Rattle.std.specs.Prelude.{slice_get}
use Rattle.std.specs.List.{AllByRecursion}
use Rattle.link_laws.specs.Boards.{row_of}
use Rattle.link_laws.specs.declared.fact.Fact.{Fact}
use Rattle.link_nodes.specs.ShownRows.{AreNoted, AreOfOtherRows}
use Rattle.link_nodes.specs.declared.spans.Span.{Span}
use Rattle.list_laws.proofs.Lists.{each_more, each_so}
use Rattle.list_laws.proofs.Members.{at_front, each_has, has_at, set_elsewhere, set_there, take_next}

abbrev IsIn : ℕ → Span → Type 0
IsIn most span = (span.first ≤ most) × (span.end ≤ most)

-- A span with no further places.
pub grown : (rows : List Span) (one : Span) (facts : List Fact) → one.first ≤ length facts → one.end ≤ length facts → AreNoted rows facts
    → AreNoted (rows ++ one ∷ []) facts
grown rows one facts first end are = record {
  each = λ place fact is. let at = are.each place fact is in (at.0, at_front rows (one ∷ []) (row_of fact) at.0 at.1, at.2, at.3);
  within = each_more (IsIn (length facts)) rows one are.within (first, end);
}

-- ---- One more fact

each_set : {A : Type 0} (P : A → Type 0) (xs : List A) (k : ℕ) (x : A) → AllByRecursion P xs → P x → AllByRecursion P (set xs k x)
each_set P [] k x are one = tt
each_set P (y ∷ xs) zero x are one = (one, are.1)
each_set P (y ∷ xs) (suc k) x are one = (are.0, each_set P xs k x are.1 one)

-- The element at a place of a list with one more.
stands_by : (facts : List Fact) (fact : Fact) (place : ℕ) (found : Fact) → slice_get (facts ++ fact ∷ []) place ≡ Some found
    → (slice_get facts place ≡ Some found) ⊎ ((place ≡ length facts) × (found ≡ fact))
stands_by [] fact zero found is = inr (refl, sym (same_Some fact found is))
stands_by [] fact (suc place) found is = absurd (cc)
stands_by (first ∷ facts) fact zero found is = inl is
stands_by (first ∷ facts) fact (suc place) found is = more (stands_by facts fact place found is)
  where
    more : (slice_get facts place ≡ Some found) ⊎ ((place ≡ length facts) × (found ≡ fact))
        → (slice_get facts place ≡ Some found) ⊎ ((suc place ≡ length (first ∷ facts)) × (found ≡ fact))
    more (inl there) = inl there
    more (inr (end, same)) = inr (omega (arith, end), same)

module _ (rows : List Span) (row : ℕ) (old : Span) (there : slice_get rows row ≡ Some old) (facts : List Fact) (fact : Fact) (of : row_of fact ≡ row)
    (are : AreNoted rows facts) where
  abbrev new : Span
  new = record { first = old.first; end = length facts + 1 }

  longer : length (facts ++ fact ∷ []) ≡ length facts + 1
  longer = length-append facts (fact ∷ [])

  old_within : IsIn (length facts) old
  old_within = each_has (IsIn (length facts)) rows old are.within (has_at rows row old there)

  long : row < length rows
  long = slice_get_within rows row old there

  same_row : (found : Fact) (place : ℕ) → row_of found ≡ row → old.first ≤ place → place < length facts + 1
      → (span : Span) × (slice_get (set rows row new) (row_of found) ≡ Some span) × (span.first ≤ place) × (place < span.end)
  same_row found place is first end = (new, ap (slice_get (set rows row new)) is ∙ set_there rows row new long, first, end)

  each_by : (place : ℕ) (found : Fact) (same : Bool) → (row_of found == row) ≡ same → slice_get facts place ≡ Some found
      → (span : Span) × (slice_get (set rows row new) (row_of found) ≡ Some span) × (span.first ≤ place) × (place < span.end)
  each_by place found true same is =
      let at = are.each place found is in
      let is_row = eqb-true (row_of found) row same in
      let is_old : at.0 ≡ old = same_Some at.0 old (sym at.1 ∙ ap (slice_get rows) is_row ∙ there) in
      let within = slice_get_within facts place found is in
      same_row found place is_row (subst (λ (s : Span). s.first ≤ place) is_old at.2) (omega (arith, within))
  each_by place found false same is =
      let at = are.each place found is in
      (at.0, set_elsewhere rows row (row_of found) new (eqb-false (row_of found) row same) ∙ at.1, at.2, at.3)

  pub noted_next : AreNoted (set rows row new) (facts ++ fact ∷ [])
  noted_next = record {
    each = λ place found is. by_place place found (stands_by facts fact place found is);
    within =
        subst (λ most. AllByRecursion (IsIn most) (set rows row new)) (sym longer)
        (each_set (IsIn (length facts + 1)) rows row new
        (each_so (IsIn (length facts)) (IsIn (length facts + 1))
        (λ span in_it. let first = in_it.0 in let end = in_it.1 in (omega (arith, first), omega (arith, end))) rows are.within)
        (let first = old_within.0 in omega (arith, first), omega arith));
  }
    where
      by_place : (place : ℕ) (found : Fact) → (slice_get facts place ≡ Some found) ⊎ ((place ≡ length facts) × (found ≡ fact))
          → (span : Span) × (slice_get (set rows row new) (row_of found) ≡ Some span) × (span.first ≤ place) × (place < span.end)
      by_place place found (inl is) = each_by place found (row_of found == row) refl is
      by_place place found (inr (end, same)) =
          let first = old_within.0 in
          same_row found place (ap row_of same ∙ of) (omega (arith, first, end)) (omega (arith, end))

-- ---- Facts of a row

pub others_by : (rows : List Span) (row : ℕ) (span : Span) → slice_get rows row ≡ Some span → (facts : List Fact) → AreNoted rows facts
    → AreOfOtherRows facts row span.first span.end
others_by rows row span there facts are place fact is outside = by_row (row_of fact == row) refl
  where
    by_row : (same : Bool) → (row_of fact == row) ≡ same → (row_of fact == row) ≡ false
    by_row false told = told
    by_row true told =
        absurd
        (let at = are.each place fact is in
        let is_span : at.0 ≡ span = same_Some at.0 span (sym at.1 ∙ ap (slice_get rows) (eqb-true (row_of fact) row told) ∙ there) in
        outside_not place span (subst (λ (s : Span). s.first ≤ place) is_span at.2) (subst (λ (s : Span). place < s.end) is_span at.3) outside)
      where
        outside_not : (place : ℕ) (span : Span) → span.first ≤ place → place < span.end → (place < span.first) ⊎ (span.end ≤ place) → ⊥
        outside_not place span first end (inl before) = omega (arith, first, before)
        outside_not place span first end (inr behind) = omega (arith, end, behind)

pub none_by : (rows : List Span) (row : ℕ) → slice_get rows row ≡ None → (facts : List Fact) → AreNoted rows facts → AreOfOtherRows facts row 0 0
none_by rows row none facts are place fact is outside = by_row (row_of fact == row) refl
  where
    by_row : (same : Bool) → (row_of fact == row) ≡ same → (row_of fact == row) ≡ false
    by_row false told = told
    by_row true told =
        absurd
        (let at = are.each place fact is in
        let there = sym (ap (slice_get rows) (eqb-true (row_of fact) row told)) ∙ at.1 in
        cc (none, there))

pub end_by : (rows : List Span) (row : ℕ) (span : Span) → slice_get rows row ≡ Some span → (facts : List Fact) → AreNoted rows facts → span.end ≤ length facts
end_by rows row span there facts are = (each_has (IsIn (length facts)) rows span are.within (has_at rows row span there)).1

-- ---- The facts that were noted so far

pub take_length : {A : Type 0} (n : ℕ) (xs : List A) → n ≤ length xs → length (take n xs) ≡ n
take_length zero xs most = refl
take_length (suc n) [] most = absurd (omega (arith, most))
take_length (suc n) (x ∷ xs) most = let rest = take_length n xs (omega (arith, most)) in omega (arith, rest)

-- With one more fact.
pub noted_more : (rows : List Span) (facts : List Fact) (place : ℕ) (fact : Fact) → slice_get facts place ≡ Some fact
    → AreNoted rows (take place facts ++ fact ∷ [])
    → AreNoted rows (take (place + 1) facts)
noted_more rows facts place fact is are = subst (AreNoted rows) (sym (take_next facts place fact is)) are
