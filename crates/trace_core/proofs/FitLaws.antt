-- Positions that are given by a row, a point and words.
use Rattle.std.proofs.Common.{◌≡◌, ◌∙◌, ℕ, ◌<◌, ◌≤◌, ℤ, List, length, refl, ap, sym, subst}
use Rattle.super_time.specs.declared.point.Point.{Point}
use Rattle.trace_core.specs.Arriving.{position_with}
use Rattle.trace_core.specs.OpenedAt.{FitsPosition, IsOpenedAt}
use Rattle.trace_core.specs.Runs.{RunState, IsOpened}
use Rattle.trace_core.specs.StateWords.{MayOpen, parted, states_in, with_words}
use Rattle.trace_core.proofs.StateWordLaws.{joined_parted, joined_words, parted_once, parted_words, words_long}
use Rattle.trace_plan.specs.Plans.{Planned}
use Rattle.trace_units.specs.Fleets.{Fleet}
use Rattle.unit_tree.specs.Compositions.{Composition}
use Rattle.unit_tree.specs.Successor.{Position}
use Rattle.unit_tree.specs.Trace.{AreWordsOf}

-- Where a position fits, a run may be opened.
pub may_be_opened : (run : Composition) (row : ℕ) (point : Point) (words : List ℤ) (at : Position) → FitsPosition run row point words at
    → MayOpen run row point words
may_be_opened run row point words at fits = record {
  stop = subst (λ (p : Point). p.t ≤ run.stop) fits.there fits.in_bounds.stop;
  zeros = subst (λ (p : Point). p.n ≤ run.zero_budget) fits.there fits.in_bounds.zeros;
  rows = subst (λ number. number < run.row_budget) fits.number fits.in_rows;
  each = subst (AreWordsOf (states_in run.members)) fits.states (joined_words run.members at.states fits.has_words);
}

-- Where a run may be opened, the position with the words as states fits.
pub fits_parted : (run : Composition) (row : ℕ) (point : Point) (words : List ℤ) → MayOpen run row point words
    → FitsPosition run row point words (position_with point (parted run.members words) row)
fits_parted run row point words may = record {
  number = refl;
  there = refl;
  states = joined_parted run.members words (words_long (states_in run.members) words may.each);
  has_words = parted_words run.members words may.each;
  in_bounds = record { stop = may.stop; zeros = may.zeros };
  in_rows = may.rows;
}

-- This holds for units to which the words were restored.
pub fits_restored : (plan lent shared : Planned) (row : ℕ) (point : Point) (words : List ℤ) (units restored : Fleet) → MayOpen lent.run row point words
    → lent ≡ plan → units.plan ≡ shared → shared ≡ plan → restored ≡ with_words units words
    → FitsPosition plan.run row point words (position_with point restored.states row)
fits_restored plan lent shared row point words units restored may lent_is tied shared_is given =
    let states : restored.states ≡ parted plan.run.members words =
    ap (λ (u : Fleet). u.states) given ∙ ap (λ (p : Planned). parted p.run.members words) (tied ∙ shared_is) in
    subst (λ all. FitsPosition plan.run row point words (position_with point all row)) (sym states)
    (fits_parted plan.run row point words (subst (λ (p : Planned). MayOpen p.run row point words) lent_is may))

-- There are as many words as the units have states.
pub words_for : (plan lent shared : Planned) (row : ℕ) (point : Point) (words : List ℤ) (units : Fleet) → MayOpen lent.run row point words
    → lent ≡ plan → units.plan ≡ shared → shared ≡ plan → length words ≡ length (states_in units.plan.run.members)
words_for plan lent shared row point words units may lent_is tied shared_is =
    words_long (states_in lent.run.members) words may.each
    ∙ ap (λ (p : Planned). length (states_in p.run.members)) (lent_is ∙ sym (tied ∙ shared_is))

pub opened_at : (plan : Planned) (row : ℕ) (point : Point) (words : List ℤ) (at : Position) (r : RunState) → FitsPosition plan.run row point words at
    → IsOpened plan at r → IsOpenedAt plan row point words r
opened_at plan row point words at r fits opened =
    let there : r.opened ≡ at = ap (λ (s : RunState). s.opened) opened.is in
    record {
      fits = subst (FitsPosition plan.run row point words) (sym there) fits;
      opened = subst (λ from. IsOpened plan from r) (sym there) opened;
    }

pub fits_once : (run : Composition) (row : ℕ) (point : Point) (words : List ℤ) (one other : Position) → FitsPosition run row point words one
    → FitsPosition run row point words other → one ≡ other
fits_once run row point words one other is also =
    let states = parted_once run.members one.states other.states is.has_words also.has_words (is.states ∙ sym also.states) in
    let points = is.there ∙ sym also.there in
    let numbers = is.number ∙ sym also.number in
    λ i. record { point = points i; states = states i; number = numbers i }
