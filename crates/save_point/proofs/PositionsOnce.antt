-- At most one position has a number, and at most one fits what was saved.
use Rattle.std.proofs.Common.{◌≡◌, ℕ, leb, zero, suc, ◌<◌, ◌≤◌, Bool, true, false, ℤ, List, [], ◌∷◌, ◌++◌, map, length, length-append}
use Rattle.std.proofs.Common.{Option, Some, None, ◌⊎◌, inl, inr, refl, sym, ap, subst, ◌∙◌, arith}
use Rattle.std.specs.Str.{bytes_eq}
use Rattle.std.proofs.lemmas.Bool.Decides.{leb_tells}
use Rattle.std.proofs.lemmas.Slice.Eq.{bytes_eq-Decides}
use Rattle.run_laws.specs.RunLaws.{HasOneTrace}
use Rattle.save_point.specs.Laws.{NumbersHaveOnePosition, SavedFitOnce}
use Rattle.save_point.specs.Reading.{same_names}
use Rattle.save_point.specs.Saving.{FitsNone, FitsSaved, HasNoPosition}
use Rattle.save_point.specs.declared.reading.Saved.{Saved}
use Rattle.save_point.proofs.CountLaws.{names_decide}
use Rattle.super_time.specs.declared.point.Point.{Point}
use Rattle.trace_core.specs.Arriving.{position_with}
use Rattle.trace_core.specs.OpenedAt.{FitsPosition}
use Rattle.trace_core.specs.StateWords.{MayOpen, parted, states_in, words_behind}
use Rattle.trace_core.proofs.FitLaws.{fits_once, fits_parted, may_be_opened}
use Rattle.trace_core.proofs.StateWordLaws.{each_word, none_behind}
use Rattle.trace_plan.specs.Plans.{Planned}
use Rattle.unit_tree.specs.Compositions.{Composition}
use Rattle.unit_tree.specs.Successor.{Position}
use Rattle.unit_tree.specs.Trace.{AreWordsOf, IsPositionOf, IsTrace, Stand}
use Rattle.unit_tree.specs.declared.unit.State.{State}

-- ---- A place in a list

-- An element at a place, with the elements before and after it.
record StandsAt {A : Type 0} (xs : List A) (place : ℕ) : Type 0 where
  before : List A
  here : A
  later : List A
  cut : xs ≡ before ++ (here ∷ later)
  place_is : place ≡ length before

stands_at : {A : Type 0} (xs : List A) (place : ℕ) → StandsAt xs place ⊎ (length xs ≤ place)
stands_at [] place = inr (omega arith)
stands_at (x ∷ xs) zero = inl (record { before = []; here = x; later = xs; cut = refl; place_is = refl })
stands_at (x ∷ xs) (suc place) = next (stands_at xs place)
  where
    next : StandsAt xs place ⊎ (length xs ≤ place) → StandsAt (x ∷ xs) (suc place) ⊎ (length (x ∷ xs) ≤ suc place)
    next (inl there) = inl (record {
      before = x ∷ there.before;
      here = there.here;
      later = there.later;
      cut = ap (λ rest. x ∷ rest) there.cut;
      place_is = ap suc there.place_is;
    })
    next (inr long) = inr (omega (arith, long))

-- Two elements at the same place of a list.
same_there : {A : Type 0} (ones others : List A) (one other : A) (later behind : List A) → ones ++ (one ∷ later) ≡ others ++ (other ∷ behind)
    → length ones ≡ length others → one ≡ other
same_there [] [] one other later behind is long = cc
same_there [] (first ∷ others) one other later behind is long = absurd (omega (arith, long))
same_there (first ∷ ones) [] one other later behind is long = absurd (omega (arith, long))
same_there (x ∷ ones) (y ∷ others) one other later behind is long =
    same_there ones others one other later behind (cc) (omega (arith, long))

-- ---- Positions of a trace

module _ (run : Composition) (number : ℕ) (one : HasOneTrace run) where
  position_by : StandsAt one.stands number ⊎ (length one.stands ≤ number) → ((at : Position) × IsPositionOf run number at) ⊎ HasNoPosition run number
  position_by (inl there) = inl (
    there.here.at,
    record {
      before = there.before;
      here = there.here;
      later = there.later;
      ending = one.ending;
      trace = subst (λ stands. IsTrace run stands one.ending) there.cut one.is_trace;
      place = there.place_is;
      is = refl;
    },
  )
  position_by (inr short) = inr (λ at of.
      let same = ap length (one.is_only (of.before ++ (of.here ∷ of.later)) of.ending of.trace).0 in
      absurd (omega (arith, short, same, of.place, length-append of.before (of.here ∷ of.later))))

  same_position : (a b : Position) → IsPositionOf run number a → IsPositionOf run number b → a ≡ b
  same_position a b of also =
      let stands =
      (one.is_only (of.before ++ (of.here ∷ of.later)) of.ending of.trace).0
      ∙ sym (one.is_only (also.before ++ (also.here ∷ also.later)) also.ending also.trace).0 in
      of.is
      ∙ ap (λ (stand : Stand). stand.at)
      (same_there of.before also.before of.here also.here of.later also.later stands (sym of.place ∙ also.place))
      ∙ sym also.is

pub one_position : NumbersHaveOnePosition
one_position run number one = record {
  some = position_by run number one (stands_at one.stands number);
  once = same_position run number one;
}

-- ---- Positions that fit

-- A test decides whether something holds.
by_test : (P : Type 0) (told : Bool) → (told ≡ true → P) × (P → told ≡ true) → P ⊎ (P → ⊥)
by_test P true tells = inl (tells.0 refl)
by_test P false tells = inr (λ is. false_is_true (tells.1 is))
  where
    false_is_true : false ≡ true → ⊥
    false_is_true is = cc

are_words : (states : List State) (words : List ℤ) → AreWordsOf states words ⊎ (AreWordsOf states words → ⊥)
are_words states words = by (words_behind states words) refl
  where
    some_is_none : (found : Option (List ℤ)) → found ≡ Some [] → found ≡ None → ⊥
    some_is_none found some none = cc

    more_is_none : (found : Option (List ℤ)) (word : ℤ) (more : List ℤ) → found ≡ Some [] → found ≡ Some (word ∷ more) → ⊥
    more_is_none found word more some many = cc

    by : (found : Option (List ℤ)) → words_behind states words ≡ found → AreWordsOf states words ⊎ (AreWordsOf states words → ⊥)
    by (Some []) is = inl (each_word states words is)
    by (Some (word ∷ more)) is = inr (λ each. more_is_none (words_behind states words) word more (none_behind states words each) is)
    by None is = inr (λ each. some_is_none (words_behind states words) (none_behind states words each) is)

at_most : (a b : ℕ) → (a ≤ b) ⊎ (a ≤ b → ⊥)
at_most a b = by (leb_tells a b)
  where
    by : ((leb a b ≡ true) × (a ≤ b)) ⊎ ((leb a b ≡ false) × (b < a)) → (a ≤ b) ⊎ (a ≤ b → ⊥)
    by (inl (told, is)) = inl is
    by (inr (told, above)) = inr (λ is. absurd (omega (arith, is, above)))

module _ (run : Composition) (row : ℕ) (point : Point) (words : List ℤ) where
  may_open : MayOpen run row point words ⊎ (MayOpen run row point words → ⊥)
  may_open = stop (at_most point.t run.stop)
    where
      each : point.t ≤ run.stop → point.n ≤ run.zero_budget → row < run.row_budget
          → AreWordsOf (states_in run.members) words ⊎ (AreWordsOf (states_in run.members) words → ⊥)
          → MayOpen run row point words ⊎ (MayOpen run row point words → ⊥)
      each ticks zeros rows (inl are) = inl (record { stop = ticks; zeros = zeros; rows = rows; each = are })
      each ticks zeros rows (inr none) = inr (λ may. none may.each)

      rows : point.t ≤ run.stop → point.n ≤ run.zero_budget → (row < run.row_budget) ⊎ (row < run.row_budget → ⊥)
          → MayOpen run row point words ⊎ (MayOpen run row point words → ⊥)
      rows ticks zeros (inl within) = each ticks zeros within (are_words (states_in run.members) words)
      rows ticks zeros (inr past) = inr (λ may. past may.rows)

      zeros : point.t ≤ run.stop → (point.n ≤ run.zero_budget) ⊎ (point.n ≤ run.zero_budget → ⊥)
          → MayOpen run row point words ⊎ (MayOpen run row point words → ⊥)
      zeros ticks (inl within) = rows ticks within (at_most (suc row) run.row_budget)
      zeros ticks (inr past) = inr (λ may. past may.zeros)

      stop : (point.t ≤ run.stop) ⊎ (point.t ≤ run.stop → ⊥) → MayOpen run row point words ⊎ (MayOpen run row point words → ⊥)
      stop (inl within) = zeros within (at_most point.n run.zero_budget)
      stop (inr past) = inr (λ may. past may.stop)

module _ (plan : Planned) (saved : Saved) where
  -- The only position that may fit.
  abbrev there : Position
  there = position_with saved.point (parted plan.run.members saved.states) saved.row

  fits_there : FitsPosition plan.run saved.row saved.point saved.states there → (at : Position) → FitsSaved plan saved at → at ≡ there
  fits_there fits at is = fits_once plan.run saved.row saved.point saved.states at there is.position fits

  abbrev Fits : Type 0
  Fits = ((at : Position) × FitsSaved plan saved at) ⊎ FitsNone plan saved

  abbrev AreNames : Type 0
  AreNames = saved.names ≡ map (λ instance. instance.name) plan.system.instances

  abbrev AreCounts : Type 0
  AreCounts = saved.counts ≡ map length there.states

  by_counts : MayOpen plan.run saved.row saved.point saved.states → AreNames → AreCounts ⊎ (AreCounts → ⊥) → Fits
  by_counts may names (inl counts) = inl (
    there,
    record {
      position = fits_parted plan.run saved.row saved.point saved.states may;
      names_are = names;
      counts_are = counts;
    },
  )
  by_counts may names (inr differ) = inr (λ at is.
      let same = fits_there (fits_parted plan.run saved.row saved.point saved.states may) at is in
      differ (is.counts_are ∙ ap (λ (p : Position). map length p.states) same))

  by_names : MayOpen plan.run saved.row saved.point saved.states → AreNames ⊎ (AreNames → ⊥) → Fits
  by_names may (inl names) =
      by_counts may names (by_test AreCounts (bytes_eq saved.counts (map length there.states)) (bytes_eq-Decides saved.counts (map length there.states)))
  by_names may (inr differ) = inr (λ at is. differ is.names_are)

  by_opening : MayOpen plan.run saved.row saved.point saved.states ⊎ (MayOpen plan.run saved.row saved.point saved.states → ⊥) → Fits
  by_opening (inl may) =
      by_names may
      (by_test AreNames (same_names saved.names plan.system.instances)
      (names_decide saved.names plan.system.instances (same_names saved.names plan.system.instances) refl))
  by_opening (inr never) = inr (λ at is. never (may_be_opened plan.run saved.row saved.point saved.states at is.position))

pub fits_one_or_none : SavedFitOnce
fits_one_or_none plan saved = record {
  some = by_opening plan saved (may_open plan.run saved.row saved.point saved.states);
  once = λ one other is also. fits_once plan.run saved.row saved.point saved.states one other is.position also.position;
}
