-- Systems of equations, one for each place, whose places have an order: they have exactly one solution.
use Rattle.std.proofs.Common.{◌≡◌, ℕ, zero, suc, ◌+◌, ◌<◌, List, [], ◌∷◌, ◌++◌, length, Some, None, append_assoc, append-nil, replicate, inl, inr, refl, ap}
use Rattle.std.proofs.Common.{sym, subst, ◌∙◌, arith, ◌⊎◌}
use Rattle.std.proofs.lemmas.List.{length-replicate}
use Rattle.std.specs.Prelude.{slice_get}
use Rattle.std.specs.List.{AllByRecursion}
use Rattle.unit_tree.specs.Compositions.{Composition}
use Rattle.unit_tree.specs.Ports.{Ports, IsAmong, IsOrderedAfter, IsPlaceOrder, needs_at, needs_of_places}
use Rattle.list_laws.proofs.Lists.{each_more}

-- ---- Lists of places

pub each_place : (P : ℕ → Type 0) (places : List ℕ) (place : ℕ) → AllByRecursion P places → IsAmong places place → P place
each_place P [] place all stands = absurd stands
each_place P (first ∷ places) place all (inl is) = subst P is all.0
each_place P (first ∷ places) place all (inr later) = each_place P places place all.1 later

pub all_among : (P : ℕ → Type 0) (places asked : List ℕ) → AllByRecursion P places → AllByRecursion (IsAmong places) asked → AllByRecursion P asked
all_among P places [] all among = tt
all_among P places (first ∷ asked) all among = (each_place P places first all among.0, all_among P places asked all among.1)

pub among_front : (places behind : List ℕ) (place : ℕ) → IsAmong places place → IsAmong (places ++ behind) place
among_front [] behind place stands = absurd stands
among_front (first ∷ places) behind place (inl is) = inl is
among_front (first ∷ places) behind place (inr later) = inr (among_front places behind place later)

pub among_last : (places : List ℕ) (place : ℕ) → IsAmong (places ++ (place ∷ [])) place
among_last [] place = inl refl
among_last (first ∷ places) place = inr (among_last places place)

pub among_either : (places : List ℕ) (last place : ℕ) → IsAmong (places ++ (last ∷ [])) place → IsAmong places place ⊎ (last ≡ place)
among_either [] last place (inl is) = inr is
among_either [] last place (inr none) = absurd none
among_either (first ∷ places) last place (inl is) = inl (inl is)
among_either (first ∷ places) last place (inr later) = elim (among_either places last place later) [ inl stands ↦ inl (inr stands) | inr is ↦ inr is ]

-- Two lists of equal length with equal elements at each place are equal.
pub same_lists : {A : Type 0} (xs ys : List A) (count : ℕ) → length xs ≡ count → length ys ≡ count
    → ((place : ℕ) → place < count → slice_get xs place ≡ slice_get ys place) → xs ≡ ys
same_lists [] [] count x y each = refl
same_lists [] (y ∷ ys) count is_x is_y each = absurd (omega (arith, is_x, is_y))
same_lists (x ∷ xs) [] count is_x is_y each = absurd (omega (arith, is_x, is_y))
same_lists (x ∷ xs) (y ∷ ys) count is_x is_y each =
    let first : Some x ≡ Some y = each 0 (omega (arith, is_x)) in
    let same : x ≡ y = cc in
    let others : xs ≡ ys = same_lists xs ys (length xs) refl (omega (arith, is_x, is_y)) (λ place within. each (suc place) (omega (arith, is_x))) in
    ap (λ z. z ∷ xs) same ∙ ap (λ zs. y ∷ zs) others

-- ---- Equations

-- The condition on the right sides of equations: there is one for each place, and each depends only on the places
-- that it needs.
pub record AreEquations (run : Composition) (sides : Ports → Ports) : Type 0 where
  pub count : (ports : Ports) → length (sides ports) ≡ length (needs_of_places run)
  pub looks_at_needs : (one other : Ports) (place : ℕ) → place < length (needs_of_places run)
      → AllByRecursion (λ needed. slice_get one needed ≡ slice_get other needed) (needs_at run place)
      → slice_get (sides one) place ≡ slice_get (sides other) place

module _ (run : Composition) (sides : Ports → Ports) (equations : AreEquations run sides) where
  -- Two solutions agree along an order.
  agree_along : (one other : Ports) → one ≡ sides one → other ≡ sides other → (before order : List ℕ) → IsOrderedAfter run before order
      → AllByRecursion (λ place. slice_get one place ≡ slice_get other place) before
      → AllByRecursion (λ place. slice_get one place ≡ slice_get other place) order
  agree_along one other is_one is_other before [] ordered agree = tt
  agree_along one other is_one is_other before (place ∷ later) ordered agree =
      let needed = all_among (λ place. slice_get one place ≡ slice_get other place) before (needs_at run place) agree ordered.2 in
      let here : slice_get one place ≡ slice_get other place =
      ap (λ ports. slice_get ports place) is_one ∙ equations.looks_at_needs one other place ordered.0 needed
      ∙ ap (λ ports. slice_get ports place) (sym is_other) in (
        here,
        agree_along one other is_one is_other (before ++ (place ∷ [])) later ordered.3
            (each_more (λ place. slice_get one place ≡ slice_get other place) before place agree here),
      )

  pub one_solution : (order : List ℕ) → IsPlaceOrder run order → (one other : Ports) → one ≡ sides one → other ≡ sides other → one ≡ other
  one_solution order is_order one other is_one is_other =
      let agree = agree_along one other is_one is_other [] order is_order.ordered tt in
      same_lists one other (length (needs_of_places run)) (ap length is_one ∙ equations.count one) (ap length is_other ∙ equations.count other)
      (λ place within. each_place (λ place. slice_get one place ≡ slice_get other place) order place agree (is_order.all place within))

  -- The right sides, applied this many times, from given ports.
  abbrev pub repeated : Ports → ℕ → Ports
  repeated start zero = start
  repeated start (suc count) = sides (repeated start count)

  repeated_at : (start : Ports) (j k place : ℕ) → j ≡ k → slice_get (repeated start j) place ≡ slice_get (repeated start k) place
  repeated_at start j k place same = ap (λ times. slice_get (repeated start times) place) same

  -- A place keeps its word from some number of applications on.
  abbrev Settled : Ports → ℕ → ℕ → Type 0
  Settled start count place = (more : ℕ) → slice_get (repeated start (more + count)) place ≡ slice_get (repeated start count) place

  still_settled : (start : Ports) (count place : ℕ) → Settled start count place → Settled start (suc count) place
  still_settled start count place settled more =
      repeated_at start (more + suc count) (suc more + count) place (omega arith) ∙ settled (suc more) ∙ sym (settled 1)
      ∙ repeated_at start (1 + count) (suc count) place (omega arith)

  all_settled_on : (start : Ports) (count : ℕ) (places : List ℕ) → AllByRecursion (Settled start count) places
      → AllByRecursion (Settled start (suc count)) places
  all_settled_on start count [] all = tt
  all_settled_on start count (place ∷ places) all = (still_settled start count place all.0, all_settled_on start count places all.1)

  agree_now : (start : Ports) (count more : ℕ) (places : List ℕ) → AllByRecursion (Settled start count) places
      → AllByRecursion (λ place. slice_get (repeated start (more + count)) place ≡ slice_get (repeated start count) place) places
  agree_now start count more [] all = tt
  agree_now start count more (place ∷ places) all = (all.0 more, agree_now start count more places all.1)

  settle_along : (start : Ports) (count : ℕ) (before order : List ℕ) → IsOrderedAfter run before order → AllByRecursion (Settled start count) before
      → AllByRecursion (Settled start (length order + count)) (before ++ order)
  settle_along start count before [] ordered settled =
      subst (λ k. AllByRecursion (Settled start k) (before ++ [])) (omega arith)
      (subst (AllByRecursion (Settled start count)) (sym (append-nil before)) settled)
  settle_along start count before (place ∷ later) ordered settled =
      let here : Settled start (suc count) place =
      λ more.
      repeated_at start (more + suc count) (suc (more + count)) place (omega arith)
      ∙ equations.looks_at_needs (repeated start (more + count)) (repeated start count) place ordered.0
      (agree_now start count more (needs_at run place) (all_among (Settled start count) before (needs_at run place) settled ordered.2)) in
      let all = each_more (Settled start (suc count)) before place (all_settled_on start count before settled) here in
      let rest = settle_along start (suc count) (before ++ (place ∷ [])) later ordered.3 all in
      let at_end : AllByRecursion (Settled start (length (place ∷ later) + count)) ((before ++ (place ∷ [])) ++ later) =
      subst (λ k. AllByRecursion (Settled start k) ((before ++ (place ∷ [])) ++ later)) (omega arith) rest in
      subst (AllByRecursion (Settled start (length (place ∷ later) + count))) (append_assoc before (place ∷ []) later) at_end

  length_repeated : (start : Ports) (count : ℕ) → length start ≡ length (needs_of_places run) → length (repeated start count) ≡ length (needs_of_places run)
  length_repeated start zero is = is
  length_repeated start (suc count) is = equations.count (repeated start count)

  -- The right sides, applied once for each place from ports of which none is defined, are a solution.
  pub has_solution : (order : List ℕ) → IsPlaceOrder run order → (ports : Ports) × (ports ≡ sides ports)
  has_solution order is_order =
      let start : Ports = replicate (length (needs_of_places run)) None in
      let settled = settle_along start 0 [] order is_order.ordered tt in
      let length_is : length (repeated start (length order + 0)) ≡ length (needs_of_places run) =
      length_repeated start (length order + 0) (length-replicate _ _) in (
        repeated start (length order + 0),
        same_lists (repeated start (length order + 0)) (sides (repeated start (length order + 0))) (length (needs_of_places run)) length_is (equations.count _)
            (λ place within.
            sym (each_place (Settled start (length order + 0)) order place settled (is_order.all place within) 1)
            ∙ repeated_at start (1 + (length order + 0)) (suc (length order + 0)) place (omega arith)),
      )
