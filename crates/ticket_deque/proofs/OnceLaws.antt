-- The consequences of the rule: each item once, and each place with one taker.
use Rattle.std.proofs.Common.{◌≡◌, ◌≢◌, ◌==◌, ℕ, zero, suc, ◌+◌, ◌<◌, cond, true, false, List, [], ◌∷◌, ◌++◌, map, take, sym, refl, ap, ◌∙◌, subst, ⊎_elim}
use Rattle.std.proofs.Common.{arith, add-one}
use Rattle.std.specs.Prelude.{All, slice_get, Some, IsPermutation}
use Rattle.std.proofs.lemmas.List.{take-append-drop}
use Rattle.std.proofs.lemmas.List.Elements.{All-nil, All-cons, All-head, All-tail}
use Rattle.std.proofs.lemmas.List.Sorted.{All-permutation, sum_by-IsPermutation, IsPermutation-refl, IsPermutation-sym, IsPermutation-trans}
use Rattle.std.proofs.lemmas.List.Sorted.{IsPermutation-middle, IsPermutation-append, IsPermutation-map, IsPermutation-cons, IsPermutation-to_front}
use Rattle.std.proofs.lemmas.List.Sums.{sum_by-cons, sum_by-append}
use Rattle.std.proofs.lemmas.Bool.Decides.{eqb_tells}
use native.Mathlib.Decide.{ℕ_discrete}
use mathlib.Core.Option.{some, some-injective, some-ne-none}
use lib.ListN.{get_elem?}
use Rattle.list_laws.proofs.Members.{take_next}
use Rattle.ticket_deque.specs.Rule.{taken, all_taken, times}
use Rattle.ticket_deque.specs.Laws.{HasOneTaker, IsEachItemOnce, IsEachPlaceTakenOnce}
use Rattle.ticket_deque.specs.declared.view.View.{View}
use Rattle.ticket_deque.proofs.Rules.{Before, IsAt}

module _ {T : Type 0} where
  times-cons : (place : ℕ) (e : ℕ × T) (es : List (ℕ × T)) → times place (e ∷ es) ≡ IsAt place e + times place es
  times-cons place e es = sum_by-cons (IsAt place) e es

  times-append : (place : ℕ) (xs ys : List (ℕ × T)) → times place (xs ++ ys) ≡ times place xs + times place ys
  times-append place xs ys = sum_by-append (IsAt place) xs ys

  -- Where a place occurs, it can be moved to the beginning.
  pub record Brought (place : ℕ) (es : List (ℕ × T)) : Type 0 where
    pub entry : ℕ × T
    pub rest : List (ℕ × T)
    pub place_is : entry.0 ≡ place
    pub moved : IsPermutation es (entry ∷ rest)

  brings : (place : ℕ) (es : List (ℕ × T)) → 0 < times place es → Brought place es
  brings place [] some_there = absurd (omega arith)
  brings place (e ∷ es) some_there =
      ⊎_elim (λ (h : (e.0 == place ≡ true) × (e.0 ≡ place)). record { entry = e; rest = es; place_is = h.1; moved = IsPermutation-refl (e ∷ es) })
      (λ (h : (e.0 == place ≡ false) × (e.0 ≢ place)).
      let no : IsAt place e ≡ 0 = ap (λ b. cond {A = ℕ} b 1 0) h.0 in
      let behind : 0 < times place es = omega (arith, times-cons place e es) in
      let b = brings place es behind in record {
        entry = b.entry;
        rest = e ∷ b.rest;
        place_is = b.place_is;
        moved = IsPermutation-trans _ (e ∷ b.entry ∷ b.rest) _ (IsPermutation-cons e es (b.entry ∷ b.rest) b.moved)
            (IsPermutation-middle (e ∷ []) b.entry b.rest);
      }) (eqb_tells e.0 place)

  abbrev Matches : List T → ℕ × T → Type 0
  Matches puts e = slice_get puts e.0 ≡ Some e.1

  -- Without the last place, all places are below it.
  narrower : (k : ℕ) (es : List (ℕ × T)) → All (Before (suc k)) es → times k es ≡ 0 → All (Before k) es
  narrower k [] all none = All-nil (Before k)
  narrower k (e ∷ es) all none =
      let here : e.0 < suc k = All-head (Before (suc k)) e es all in
      let count = times-cons k e es in
      let rest : times k es ≡ 0 = omega arith in
      let mine : IsAt k e ≡ 0 = omega arith in
      let less : e.0 < k = ⊎_elim (λ (h : (e.0 == k ≡ true) × (e.0 ≡ k)). let one : IsAt k e ≡ 1 = ap (λ b. cond {A = ℕ} b 1 0) h.0 in absurd (omega arith))
      (λ (h : (e.0 == k ≡ false) × (e.0 ≢ k)). let other : e.0 ≢ k = h.1 in omega arith) (eqb_tells e.0 k) in
      All-cons (Before k) e es less (narrower k es (All-tail (Before (suc k)) e es all) rest)

  at_one : (k : ℕ) (e : ℕ × T) → e.0 ≡ k → IsAt k e ≡ 1
  at_one k e is =
      ⊎_elim (λ (h : (e.0 == k ≡ true) × (e.0 ≡ k)). ap (λ b. cond {A = ℕ} b 1 0) h.0) (λ (h : (e.0 == k ≡ false) × (e.0 ≢ k)). absurd (h.1 is))
      (eqb_tells e.0 k)

  at_none : (k : ℕ) (e : ℕ × T) → e.0 ≢ k → IsAt k e ≡ 0
  at_none k e other =
      ⊎_elim (λ (h : (e.0 == k ≡ true) × (e.0 ≡ k)). absurd (other h.1)) (λ (h : (e.0 == k ≡ false) × (e.0 ≢ k)). ap (λ b. cond {A = ℕ} b 1 0) h.0)
      (eqb_tells e.0 k)

  -- What was taken is the items that were added below `front`.
  taken_once : (puts : List T) (k : ℕ) (es : List (ℕ × T)) → All (Before k) es → ((place : ℕ) → place < k → times place es ≡ 1) → All (Matches puts) es
      → IsPermutation (map (λ e. e.1) es) (take k puts)
  taken_once puts zero [] below once matching = IsPermutation-refl []
  taken_once puts zero (e ∷ es) below once matching = let no : e.0 < 0 = All-head (Before 0) e es below in absurd (omega arith)
  taken_once puts (suc k) es below once matching =
      let one : times k es ≡ 1 = once k (omega arith) in
      let b = brings k es (omega arith) in
      let e : ℕ × T = b.entry in let rest : List (ℕ × T) = b.rest in
      let count = λ (place : ℕ). sum_by-IsPermutation (IsAt place) es (e ∷ rest) b.moved in
      let split = λ (place : ℕ). sym (times-cons place e rest) ∙ count place in
      let below' = All-permutation (Before (suc k)) es (e ∷ rest) b.moved below in
      let matching' = All-permutation (Matches puts) es (e ∷ rest) b.moved matching in
      let none : times k rest ≡ 0 = omega (arith, split k, at_one k e b.place_is, one) in
      let once' = λ (place : ℕ) (less : place < k). let other : e.0 ≢ place = omega (arith, b.place_is) in
      let p : times place rest ≡ 1 = omega (arith, split place, at_none place e other, once place (omega arith)) in p in
      let behind = taken_once puts k rest (narrower k rest (All-tail (Before (suc k)) e rest below') none) once' (All-tail (Matches puts) e rest matching') in
      let here : slice_get puts k ≡ Some e.1 = ap (slice_get puts) (sym b.place_is) ∙ All-head (Matches puts) e rest matching' in
      subst (λ l. IsPermutation (map (λ (x : ℕ × T). x.1) es) l) (sym (ap (λ n. take n puts) (sym (add-one k)) ∙ take_next puts k e.1 here))
      (IsPermutation-trans _ (e.1 ∷ map (λ (x : ℕ × T). x.1) rest) _ (IsPermutation-map (λ (x : ℕ × T). x.1) es (e ∷ rest) b.moved)
      (IsPermutation-trans _ (e.1 ∷ take k puts) _ (IsPermutation-cons e.1 _ _ behind) (IsPermutation-sym _ _ (IsPermutation-to_front (take k puts) e.1))))

  none_of : (views : List (View T)) (port : ℕ) (v : View T) (place : ℕ) → times place (all_taken views) ≡ 0 → get_elem? views port ≡ some v
      → times place (taken v) ≡ 0
  none_of [] port v place none at = absurd (some-ne-none v (sym at))
  none_of (u ∷ us) zero v place none at = ap (λ (y : View T). times place (taken y)) (sym (some-injective u v at))
      ∙ omega (arith, times-append place (taken u) (all_taken us), none)
  none_of (u ∷ us) (suc port) v place none at = none_of us port v place (omega (arith, times-append place (taken u) (all_taken us), none)) at

  later_alone : (u : View T) (us : List (View T)) (place : ℕ) → times place (taken u) ≡ 0 → (r : HasOneTaker us place)
      → (other : ℕ) (v : View T) → other ≢ suc r.port → get_elem? (u ∷ us) other ≡ some v → times place (taken v) ≡ 0
  later_alone u us place none r zero v apart at = ap (λ (y : View T). times place (taken y)) (sym (some-injective u v at)) ∙ none
  later_alone u us place none r (suc n) v apart at = r.alone n v (λ e. apart (ap suc e)) at

  first_alone : (u : View T) (us : List (View T)) (place : ℕ) → times place (all_taken us) ≡ 0 → (other : ℕ) (v : View T) → other ≢ 0
      → get_elem? (u ∷ us) other ≡ some v → times place (taken v) ≡ 0
  first_alone u us place none zero v apart at = absurd (apart refl)
  first_alone u us place none (suc n) v apart at = none_of us n v place none at

  first_taker : (u : View T) (us : List (View T)) (place : ℕ) → times place (taken u) ≡ 1 → times place (all_taken us) ≡ 0 → HasOneTaker (u ∷ us) place
  first_taker u us place one none = record { port = 0; taker = u; at = refl; once = one; alone = first_alone u us place none }

  later_taker : (u : View T) (us : List (View T)) (place : ℕ) → times place (taken u) ≡ 0 → HasOneTaker us place → HasOneTaker (u ∷ us) place
  later_taker u us place none r = record {
    port = suc r.port;
    taker = r.taker;
    at = r.at;
    once = r.once;
    alone = later_alone u us place none r;
  }

  one_taker : (views : List (View T)) (place : ℕ) → times place (all_taken views) ≡ 1 → HasOneTaker views place
  one_taker [] place one = absurd (omega arith)
  one_taker (u ∷ us) place one =
      let sum : times place (taken u) + times place (all_taken us) ≡ 1 = sym (times-append place (taken u) (all_taken us)) ∙ one in
      elim (ℕ_discrete (times place (taken u)) 0) [
        | yes none ↦ later_taker u us place none (one_taker us place (omega (arith, none, sum)))
        | no some_here ↦
            first_taker u us place (omega (arith, some_here, sum)) (omega (arith, some_here, sum))
      ]

pub each_item_once : (T : Type 0) → IsEachItemOnce T
each_item_once T queue views state =
    let items : List T = map (λ (e : ℕ × T). e.1) (all_taken views) in
    subst (λ l. IsPermutation (items ++ queue) l) (take-append-drop state.front state.puts)
    (IsPermutation-append _ _ _ _ (taken_once state.puts state.front (all_taken views) state.below state.once state.matching)
    (subst (λ l. IsPermutation queue l) state.queued.1 (IsPermutation-refl queue)))

pub each_place_taken_once : (T : Type 0) → IsEachPlaceTakenOnce T
each_place_taken_once T queue views state place less = one_taker views place (state.once place less)
