-- Sorting places keeps its invariant.
use Rattle.std.proofs.Common.{◌≡◌, ℕ, ◌+◌, ◌<◌, ◌≤◌, Bool, true, false, List, [], ◌∷◌, ◌++◌, length, get_or, set, Some, inl, inr, refl, ap, sym, subst, ◌∙◌}
use Rattle.std.proofs.Common.{◌⊎◌, arith, append-nil, append_assoc, length-append}
use Rattle.std.specs.Prelude.{slice_get, unwrap_or, replicate}
use Rattle.std.specs.Option.{option_map}
use Rattle.std.specs.List.{AllByRecursion, list_all}
use Rattle.std.proofs.lemmas.List.{get_or-set_same, get_or-set_other, get_or_past, length-set, length-replicate, get_or-replicate}
use Rattle.std.proofs.lemmas.List.Sums.{sum_by-set}
use Rattle.std.proofs.lemmas.List.Folds.{sum_by-replicate}
use Rattle.std.proofs.lemmas.Bool.{and_parts, cases_lt, cases_eq}
use Rattle.unit_tree.specs.Ports.{IsAmong}
use Rattle.unit_tree.specs.Routes.{IsRoutedAfter, needs_on}
use Rattle.unit_tree.specs.declared.order.Route.{Route}
use Rattle.unit_tree.specs.declared.order.Routes.{Routes}
use Rattle.wire_graph.specs.Sorting.{IsSorting, Grows, IsTried, IsClosed, not_yet, left_of}
use Rattle.list_laws.proofs.Truths.{true_is_false}
use Rattle.list_laws.proofs.Lists.{each_so}
use Rattle.run_laws.proofs.EquationLaws.{among_front, among_last, among_either}

-- ---- Places among others

-- ---- Growing

pub grows_same : (places : List ℕ) → Grows places places
grows_same places = record { holds = λ place stands. stands; longer = omega arith; same = λ _. refl }

pub grows_further : (one other last : List ℕ) → Grows one other → Grows other last → Grows one last
grows_further one other last first later = record {
  holds = λ place stands. later.holds place (first.holds place stands);
  longer = omega (arith, first.longer, later.longer);
  same = λ is. later.same (omega (arith, first.longer, later.longer, is)) ∙ first.same (omega (arith, first.longer, later.longer, is));
}

pub grows_by : (places : List ℕ) (place : ℕ) → Grows places (places ++ (place ∷ []))
grows_by places place = record {
  holds = among_front places (place ∷ []);
  longer = omega (arith, length-append places (place ∷ []));
  same = λ is. absurd (omega (arith, length-append places (place ∷ []), is));
}

-- ---- One more place

routed_more : (routes : Routes) (before places : List ℕ) (place : ℕ) → IsRoutedAfter routes before places → place < length routes.outputs
    → (IsAmong (before ++ places) place → ⊥) → AllByRecursion (IsAmong (before ++ places)) (needs_on routes place)
    → IsRoutedAfter routes before (places ++ (place ∷ []))
routed_more routes before [] place routed within apart needs = (
  within,
  subst (λ all. IsAmong all place → ⊥) (append-nil before) apart,
  subst (λ all. AllByRecursion (IsAmong all) (needs_on routes place)) (append-nil before) needs,
  tt,
)
routed_more routes before (first ∷ places) place routed within apart needs =
    let same : before ++ (first ∷ places) ≡ (before ++ (first ∷ [])) ++ places = sym (append_assoc before (first ∷ []) places) in (
      routed.0,
      routed.1,
      routed.2,
      routed_more routes (before ++ (first ∷ [])) places place routed.3 within
          (subst (λ all. IsAmong all place → ⊥) same apart)
          (subst (λ all. AllByRecursion (IsAmong all) (needs_on routes place)) same needs),
    )

pub all_told : (placed : List Bool) (P : ℕ → Type 0) (needs : List ℕ) → ((place : ℕ) → get_or placed place false ≡ true → P place)
    → list_all (λ need. get_or placed need false) needs ≡ true → AllByRecursion P needs
all_told placed P [] holds told = tt
all_told placed P (need ∷ needs) holds told =
    let both = and_parts (get_or placed need false) (list_all (λ one. get_or placed one false) needs) told in
    (holds need both.0, all_told placed P needs holds both.1)

pub told_all : (placed : List Bool) (P : ℕ → Type 0) (needs : List ℕ) → ((place : ℕ) → P place → get_or placed place false ≡ true) → AllByRecursion P needs
    → list_all (λ need. get_or placed need false) needs ≡ true
told_all placed P [] holds all = refl
told_all placed P (need ∷ needs) holds all = rw (holds need all.0) (told_all placed P needs holds all.1)

-- The needs of an output that was found.
pub needs_of_found : (routes : Routes) (place : ℕ) (route : Route) → Some route ≡ slice_get routes.outputs place → needs_on routes place ≡ route.needs
needs_of_found routes place route is = ap (λ found. unwrap_or (option_map (λ (r : Route). r.needs) found) []) (sym is)

pub put : (routes : Routes) (places : List ℕ) (placed : List Bool) (place : ℕ) → IsSorting routes places placed → place < length routes.outputs
    → get_or placed place false ≡ false → list_all (λ need. get_or placed need false) (needs_on routes place) ≡ true
    → IsSorting routes (places ++ (place ∷ [])) (set placed place true)
put routes places placed place kept within new ready = record {
  routed = routed_more routes [] places place kept.routed within (λ stands. true_is_false (get_or placed place false) (kept.among place stands) new)
      (all_told placed (IsAmong places) (needs_on routes place) kept.marked ready);
  one_each = length-set placed place true ∙ kept.one_each;
  marked = λ other told. marked other (cases_eq other place) told;
  among = λ other stands. among other (among_either places place other stands);
  left = omega (arith, kept.left, length-append places (place ∷ []), left_is);
}
  where
    within_placed : place < length placed
    within_placed = omega (arith, within, kept.one_each)

    marked : (other : ℕ) → (other ≡ place) ⊎ (other ≡ place → ⊥) → get_or (set placed place true) other false ≡ true → IsAmong (places ++ (place ∷ [])) other
    marked other (inl is) told = subst (IsAmong (places ++ (place ∷ []))) (sym is) (among_last places place)
    marked other (inr isnt) told = among_front places (place ∷ []) other (kept.marked other (sym (get_or-set_other placed place other true false isnt) ∙ told))

    among_other : (other : ℕ) → (other ≡ place) ⊎ (other ≡ place → ⊥) → IsAmong places other → get_or (set placed place true) other false ≡ true
    among_other other (inl is) stands = rw is (get_or-set_same placed place true false within_placed)
    among_other other (inr isnt) stands = get_or-set_other placed place other true false isnt ∙ kept.among other stands

    among : (other : ℕ) → IsAmong places other ⊎ (place ≡ other) → get_or (set placed place true) other false ≡ true
    among other (inl stands) = among_other other (cases_eq other place) stands
    among other (inr is) = rw (sym is) (get_or-set_same placed place true false within_placed)

    left_is : left_of (set placed place true) + 1 ≡ left_of placed
    left_is =
        let e = sum_by-set not_yet placed place true false within_placed in
        let f = ap not_yet new in
        omega (arith, e, f)

-- ---- No place yet

pub none_yet : (routes : Routes) → IsSorting routes [] (replicate (length routes.outputs) false)
none_yet routes = record {
  routed = tt;
  one_each = length-replicate (length routes.outputs) false;
  marked = λ place told. none place (cases_lt place (length routes.outputs)) told;
  among = λ place none. absurd none;
  left = omega (arith, sum_by-replicate not_yet (length routes.outputs) false);
}
  where
    none : (place : ℕ) → (place < length routes.outputs) ⊎ (length routes.outputs ≤ place)
        → get_or (replicate (length routes.outputs) false) place false ≡ true → IsAmong [] place
    none place (inl within) told =
        true_is_false (get_or (replicate (length routes.outputs) false) place false) told (get_or-replicate (length routes.outputs) place false false within)
    none place (inr beyond) told =
        true_is_false (get_or (replicate (length routes.outputs) false) place false) told
        (get_or_past (replicate (length routes.outputs) false) place false (omega (arith, beyond, length-replicate (length routes.outputs) false)))

-- ---- What was tried before needs no new try after more places

pub tried_further : (routes : Routes) (old new newer : List ℕ) (place : ℕ) → IsTried routes old new place → Grows new newer → IsTried routes old newer place
tried_further routes old new newer place tried grows = λ within needs. grows.holds place (tried within needs)

pub tried_from : (routes : Routes) (old new newer : List ℕ) (place : ℕ) → IsTried routes new newer place → Grows old new → IsTried routes old newer place
tried_from routes old new newer place tried grows =
    λ within needs. tried within (each_so (IsAmong old) (IsAmong new) grows.holds (needs_on routes place) needs)

-- Where a try added nothing, another one adds nothing.
pub closed : (routes : Routes) (old new : List ℕ) → Grows old new → length new ≡ length old → ((place : ℕ) → IsTried routes old new place) → IsClosed routes new
closed routes old new grows same tried = λ place. subst (λ from. IsTried routes from new place) (sym (grows.same same)) (tried place)

-- Whether all that an output needs is placed, as the code tests it.
pub ready_is : (routes : Routes) (place : ℕ) (route : Route) (placed told : List Bool) (needs : List ℕ) (ready : Bool)
    → Some route ≡ slice_get routes.outputs place → told ≡ placed → needs ≡ route.needs → ready ≡ list_all (λ need. get_or told need false) needs
    → list_all (λ need. get_or placed need false) (needs_on routes place) ≡ ready
ready_is routes place route placed told needs ready found told_is needs_is is =
    ap (λ all. list_all (λ need. get_or all need false) (needs_on routes place)) (sym told_is)
    ∙ ap (list_all (λ need. get_or told need false)) (needs_of_found routes place route found ∙ sym needs_is)
    ∙ sym is

pub not_ready : (routes : Routes) (places : List ℕ) (placed : List Bool) (place : ℕ) → IsSorting routes places placed
    → list_all (λ need. get_or placed need false) (needs_on routes place) ≡ false → IsTried routes places places place
not_ready routes places placed place kept isnt =
    λ within needs.
    true_is_false (list_all (λ need. get_or placed need false) (needs_on routes place))
    (told_all placed (IsAmong places) (needs_on routes place) kept.among needs) isnt

-- ---- One round over all outputs

pub record IsRound (routes : Routes) (old new : List ℕ) (placed : List Bool) (count : ℕ) : Type 0 where
  pub kept : IsSorting routes new placed
  pub grown : Grows old new
  pub tried : (place : ℕ) → place < count → IsTried routes old new place

pub round_begins : (routes : Routes) (places : List ℕ) (placed : List Bool) → IsSorting routes places placed → IsRound routes places places placed 0
round_begins routes places placed kept = record { kept = kept; grown = grows_same places; tried = λ place none. absurd (omega (arith, none)) }

pub round_goes : (routes : Routes) (old new newer : List ℕ) (placed more : List Bool) (count : ℕ) → IsRound routes old new placed count
    → IsSorting routes newer more → Grows new newer → IsTried routes new newer count → IsRound routes old newer more (count + 1)
round_goes routes old new newer placed more count round kept grown tried = record {
  kept = kept;
  grown = grows_further old new newer round.grown grown;
  tried = λ place within. by place within (cases_eq place count);
}
  where
    by : (place : ℕ) → place < count + 1 → (place ≡ count) ⊎ (place ≡ count → ⊥) → IsTried routes old newer place
    by place within (inl is) = subst (IsTried routes old newer) (sym is) (tried_from routes old new newer count tried round.grown)
    by place within (inr isnt) = tried_further routes old new newer place (round.tried place (omega (arith, within, isnt))) grown

pub round_ends : (routes : Routes) (old new : List ℕ) (placed : List Bool) (count : ℕ) → count ≡ length routes.outputs → IsRound routes old new placed count
    → (place : ℕ) → IsTried routes old new place
round_ends routes old new placed count is round place = λ within needs. round.tried place (omega (arith, is, within)) within needs

-- There are no more places than outputs.
pub at_most : (routes : Routes) (places : List ℕ) (placed : List Bool) → IsSorting routes places placed → length places ≤ length routes.outputs
at_most routes places placed kept = omega (arith, kept.left)
