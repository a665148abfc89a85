-- A system has an order of all its outputs, or one output that is the first without an order.
use Rattle.std.proofs.Common.{◌≡◌, ℕ, zero, suc, ◌+◌, ◌<◌, ◌≤◌, Bool, true, false, cond, List, [], ◌∷◌, ◌++◌, inl, inr, ◌⊎◌, refl, ap, sym, subst, ◌∙◌, arith}
use Rattle.std.proofs.Common.{append-nil, append_assoc}
use Rattle.std.specs.Prelude.{◌||◌}
use Rattle.std.specs.List.{AllByRecursion, list_any}
use Rattle.std.proofs.lemmas.Bool.{or_right, or_cases}
use Rattle.language_laws.specs.Language.{CyclesAreJudgedOnce}
use Rattle.unit_tree.specs.Names.{same_port}
use Rattle.unit_tree.specs.Orders.{IsIn, IsOrderlyAfter, IsOrderly, HasNoCycle, HasNoOrder, IsFirstWithoutOrder, outputs_of, needed_by}
use Rattle.unit_tree.specs.declared.system.PortName.{PortName}
use Rattle.unit_tree.specs.declared.system.System.{System}
use Rattle.language_laws.proofs.NameLaws.{same_port_of}
use Rattle.language_laws.proofs.OrderLaws.{each_in, in_front}
use Rattle.run_laws.proofs.PlaceOrders.{has_in, same_port_is}
use Rattle.list_laws.proofs.Members.{has_behind}
use Rattle.list_laws.proofs.Truths.{true_is_false}
use Rattle.list_laws.proofs.Lists.{each_so, same_rest}

-- ---- Whether a port is in a list

abbrev stands : List PortName → PortName → Bool
stands ports port = list_any (same_port port) ports

is_in : (ports : List PortName) (port : PortName) → stands ports port ≡ true → IsIn ports port
is_in [] port told = absurd (cc)
is_in (first ∷ ports) port told =
    elim (or_cases (same_port port first) (stands ports port) told) [
      | inl same ↦ inl (sym (same_port_is port first same))
      | inr later ↦ inr (is_in ports port later)
    ]

told_in : (ports : List PortName) (port : PortName) → IsIn ports port → stands ports port ≡ true
told_in [] port here = absurd here
told_in (first ∷ ports) port (inl is) = ap (λ told. told || stands ports port) (same_port_of port first (sym is))
told_in (first ∷ ports) port (inr later) = or_right (same_port port first) (stands ports port) (told_in ports port later)

not_in : (ports : List PortName) (port : PortName) → stands ports port ≡ false → IsIn ports port → ⊥
not_in ports port isnt here = true_is_false (stands ports port) (told_in ports port here) isnt

all_or_not : (before needed : List PortName) → AllByRecursion (IsIn before) needed ⊎ (AllByRecursion (IsIn before) needed → ⊥)
all_or_not before [] = inl tt
all_or_not before (first ∷ needed) = by (stands before first) refl (all_or_not before needed)
  where
    by : (told : Bool) → stands before first ≡ told → AllByRecursion (IsIn before) needed ⊎ (AllByRecursion (IsIn before) needed → ⊥)
        → AllByRecursion (IsIn before) (first ∷ needed) ⊎ (AllByRecursion (IsIn before) (first ∷ needed) → ⊥)
    by true is (inl all) = inl (is_in before first is, all)
    by true is (inr none) = inr (λ all. none all.1)
    by false is rest = inr (λ all. not_in before first is all.0)

-- ---- How many outputs are left

abbrev left : List PortName → List PortName → ℕ
left order [] = 0
left order (port ∷ ports) = cond (stands order port) (left order ports) (1 + left order ports)

with_last : (order : List PortName) (last port : PortName) → stands order port ≡ true → stands (order ++ (last ∷ [])) port ≡ true
with_last order last port told = told_in (order ++ (last ∷ [])) port (in_front order (last ∷ []) port (is_in order port told))

last_stands : (order : List PortName) (last : PortName) → stands (order ++ (last ∷ [])) last ≡ true
last_stands order last = told_in (order ++ (last ∷ [])) last (has_in (order ++ (last ∷ [])) last (has_behind order (last ∷ []) last (inl refl)))

at_most_by : (was is : Bool) (rest later : ℕ) → (was ≡ true → is ≡ true) → later ≤ rest → cond is later (1 + later) ≤ cond was rest (1 + rest)
at_most_by true true rest later stays below = below
at_most_by true false rest later stays below = true_is_false false (stays refl) refl
at_most_by false true rest later stays below = omega (arith, below)
at_most_by false false rest later stays below = omega (arith, below)

at_most : (order ports : List PortName) (last : PortName) → left (order ++ (last ∷ [])) ports ≤ left order ports
at_most order [] last = omega arith
at_most order (port ∷ ports) last =
    at_most_by (stands order port) (stands (order ++ (last ∷ [])) port) (left order ports) (left (order ++ (last ∷ [])) ports) (with_last order last port)
    (at_most order ports last)

fewer_here : (was is : Bool) (rest later : ℕ) → was ≡ false → is ≡ true → later ≤ rest → cond is later (1 + later) < cond was rest (1 + rest)
fewer_here true is rest later was_is is_is below = true_is_false true refl was_is
fewer_here false true rest later was_is is_is below = omega (arith, below)
fewer_here false false rest later was_is is_is below = true_is_false false is_is refl

fewer_later : (was is : Bool) (rest later : ℕ) → (was ≡ true → is ≡ true) → later < rest → cond is later (1 + later) < cond was rest (1 + rest)
fewer_later true true rest later stays below = below
fewer_later true false rest later stays below = true_is_false false (stays refl) refl
fewer_later false true rest later stays below = omega (arith, below)
fewer_later false false rest later stays below = omega (arith, below)

fewer : (order ports : List PortName) (last : PortName) → IsIn ports last → stands order last ≡ false → left (order ++ (last ∷ [])) ports < left order ports
fewer order [] last here isnt = absurd here
fewer order (port ∷ ports) last (inl is) isnt =
    fewer_here (stands order port) (stands (order ++ (last ∷ [])) port) (left order ports) (left (order ++ (last ∷ [])) ports)
    (ap (stands order) is ∙ isnt) (ap (stands (order ++ (last ∷ []))) is ∙ last_stands order last) (at_most order ports last)
fewer order (port ∷ ports) last (inr later) isnt =
    fewer_later (stands order port) (stands (order ++ (last ∷ [])) port) (left order ports) (left (order ++ (last ∷ [])) ports) (with_last order last port)
    (fewer order ports last later isnt)

none_by : (was : Bool) (rest : ℕ) → cond was rest (1 + rest) ≤ 0 → (was ≡ true) × (rest ≤ 0)
none_by true rest none = (refl, none)
none_by false rest none = absurd (omega (arith, none))

none_left : (order ports : List PortName) → left order ports ≤ 0 → (port : PortName) → IsIn ports port → IsIn order port
none_left order [] none port here = absurd here
none_left order (first ∷ ports) none port (inl is) = subst (IsIn order) is (is_in order first (none_by (stands order first) (left order ports) none).0)
none_left order (first ∷ ports) none port (inr later) = none_left order ports (none_by (stands order first) (left order ports) none).1 port later

-- ---- A closed orderly list

in_either : (front : List PortName) (last port : PortName) → IsIn (front ++ (last ∷ [])) port → IsIn front port ⊎ (last ≡ port)
in_either [] last port (inl is) = inr is
in_either [] last port (inr none) = absurd none
in_either (first ∷ front) last port (inl is) = inl (inl is)
in_either (first ∷ front) last port (inr later) = elim (in_either front last port later) [ inl here ↦ inl (inr here) | inr is ↦ inr is ]

module _ (system : System) where
  -- An output whose needs are all in the list is in the list itself.
  abbrev IsClosed : List PortName → Type 0
  IsClosed order = (port : PortName) → IsIn (outputs_of system) port → AllByRecursion (IsIn order) (needed_by system port) → IsIn order port

  within_by : (order before : List PortName) (first port : PortName) → IsIn order first → ((p : PortName) → IsIn before p → IsIn order p)
      → IsIn (before ++ (first ∷ [])) port → IsIn order port
  within_by order before first port here came is =
      elim (in_either before first port is) [ inl earlier ↦ came port earlier | inr same ↦ subst (IsIn order) same here ]

  within : (order before other : List PortName) → IsClosed order → ((port : PortName) → IsIn before port → IsIn order port)
      → IsOrderlyAfter system before other → (port : PortName) → IsIn other port → IsIn order port
  within order before [] closed came orderly port none = absurd none
  within order before (first ∷ other) closed came orderly port (inl is) =
      subst (IsIn order) is (closed first orderly.0 (each_so (IsIn before) (IsIn order) came (needed_by system first) orderly.2))
  within order before (first ∷ other) closed came orderly port (inr later) =
      within order (before ++ (first ∷ [])) other closed
      (λ p. within_by order before first p (closed first orderly.0 (each_so (IsIn before) (IsIn order) came (needed_by system first) orderly.2)) came)
      orderly.3 port later

  longer : (before order : List PortName) (last : PortName) → IsOrderlyAfter system before order → IsIn (outputs_of system) last
      → (IsIn (before ++ order) last → ⊥) → AllByRecursion (IsIn (before ++ order)) (needed_by system last)
      → IsOrderlyAfter system before (order ++ (last ∷ []))
  longer before [] last orderly output apart needs = (
    output,
    subst (λ all. IsIn all last → ⊥) (append-nil before) apart,
    subst (λ all. AllByRecursion (IsIn all) (needed_by system last)) (append-nil before) needs,
    tt,
  )
  longer before (first ∷ order) last orderly output apart needs =
      let same : before ++ (first ∷ order) ≡ (before ++ (first ∷ [])) ++ order = sym (append_assoc before (first ∷ []) order) in (
        orderly.0,
        orderly.1,
        orderly.2,
        longer (before ++ (first ∷ [])) order last orderly.3 output (subst (λ all. IsIn all last → ⊥) same apart)
            (subst (λ all. AllByRecursion (IsIn all) (needed_by system last)) same needs),
      )

  -- An output that can be added.
  record Addable (order : List PortName) : Type 0 where
    port : PortName
    output : IsIn (outputs_of system) port
    new : stands order port ≡ false
    needs : AllByRecursion (IsIn order) (needed_by system port)

  addable : (order ports : List PortName) → ((port : PortName) → IsIn ports port → IsIn (outputs_of system) port)
      → Addable order ⊎ ((port : PortName) → IsIn ports port → AllByRecursion (IsIn order) (needed_by system port) → IsIn order port)
  addable order [] are = inr (λ port none. absurd none)
  addable order (first ∷ ports) are =
      by (stands order first) refl (all_or_not order (needed_by system first)) (addable order ports (λ port later. are port (inr later)))
    where
      here : ((port : PortName) → IsIn ports port → AllByRecursion (IsIn order) (needed_by system port) → IsIn order port)
          → (AllByRecursion (IsIn order) (needed_by system first) → IsIn order first) → (port : PortName) → IsIn (first ∷ ports) port
          → AllByRecursion (IsIn order) (needed_by system port) → IsIn order port
      here rest at port (inl is) needs = subst (IsIn order) is (at (subst (λ p. AllByRecursion (IsIn order) (needed_by system p)) (sym is) needs))
      here rest at port (inr later) needs = rest port later needs

      by : (told : Bool) → stands order first ≡ told
          → AllByRecursion (IsIn order) (needed_by system first) ⊎ (AllByRecursion (IsIn order) (needed_by system first) → ⊥)
          → Addable order ⊎ ((port : PortName) → IsIn ports port → AllByRecursion (IsIn order) (needed_by system port) → IsIn order port)
          → Addable order ⊎ ((port : PortName) → IsIn (first ∷ ports) port → AllByRecursion (IsIn order) (needed_by system port) → IsIn order port)
      by told is needs (inl found) = inl found
      by true is needs (inr rest) = inr (here rest (λ _. is_in order first is))
      by false is (inl all) (inr rest) = inl (record { port = first; output = are first (inl refl); new = is; needs = all })
      by false is (inr none) (inr rest) = inr (here rest (λ all. absurd (none all)))

  record Closed : Type 0 where
    order : List PortName
    orderly : IsOrderly system order
    closed : IsClosed order

  grown : (fuel : ℕ) (order : List PortName) → IsOrderly system order → left order (outputs_of system) ≤ fuel → Closed
  grown zero order orderly below =
      record { order = order; orderly = orderly; closed = λ port output needs. none_left order (outputs_of system) below port output }
  grown (suc fuel) order orderly below =
      elim (addable order (outputs_of system) (λ port output. output)) [
        | inl found ↦
            grown fuel (order ++ (found.port ∷ []))
            (longer [] order found.port orderly found.output (not_in order found.port found.new) found.needs)
            (omega (arith, below, fewer order (outputs_of system) found.port found.output found.new))
        | inr closed ↦ record { order = order; orderly = orderly; closed = closed }
      ]

  greatest : Closed
  greatest = grown (left [] (outputs_of system)) [] tt (omega arith)

  -- ---- The first output that it leaves out

  first_outside : (order before later : List PortName) (port : PortName) → IsClosed order → IsOrderly system order
      → outputs_of system ≡ before ++ (port ∷ later) → AllByRecursion (IsIn order) before → (IsIn order port → ⊥) → IsFirstWithoutOrder system port
  first_outside order before later port closed orderly cut inside outside = record {
    before = before;
    later = later;
    cut = cut;
    has_no_order = λ other is_orderly here. outside (within order [] other closed (λ p none. absurd none) is_orderly port here);
    is_first = each_so (IsIn order) (λ other. HasNoOrder system other → ⊥) (λ p here none. none order orderly here) before inside;
  }

  all_more : (order before : List PortName) (port : PortName) → AllByRecursion (IsIn order) before → IsIn order port
      → AllByRecursion (IsIn order) (before ++ (port ∷ []))
  all_more order [] port all here = (here, tt)
  all_more order (first ∷ before) port all here = (all.0, all_more order before port all.1 here)

  judged_from : (c : Closed) (before later : List PortName) → outputs_of system ≡ before ++ later → AllByRecursion (IsIn c.order) before
      → HasNoCycle system ⊎ ((port : PortName) × IsFirstWithoutOrder system port)
  judged_from c before [] cut inside = inl (c.order, c.orderly, subst (AllByRecursion (IsIn c.order)) (sym (cut ∙ append-nil before)) inside)
  judged_from c before (port ∷ later) cut inside =
      by (stands c.order port) refl
      (λ here. judged_from c (before ++ (port ∷ [])) later (cut ∙ sym (append_assoc before (port ∷ []) later)) (all_more c.order before port inside here))
    where
      by : (told : Bool) → stands c.order port ≡ told → (IsIn c.order port → HasNoCycle system ⊎ ((one : PortName) × IsFirstWithoutOrder system one))
          → HasNoCycle system ⊎ ((one : PortName) × IsFirstWithoutOrder system one)
      by true is go = go (is_in c.order port is)
      by false is go = inr (port, first_outside c.order before later port c.closed c.orderly cut inside (not_in c.order port is))

  judged : HasNoCycle system ⊎ ((port : PortName) × IsFirstWithoutOrder system port)
  judged = judged_from greatest [] (outputs_of system) refl tt

  not_both : (port : PortName) → HasNoCycle system → IsFirstWithoutOrder system port → ⊥
  not_both port (order, orderly, all) first =
      let output : IsIn (outputs_of system) port =
      subst (λ ports. IsIn ports port) (sym first.cut)
      (has_in (first.before ++ (port ∷ first.later)) port (has_behind first.before (port ∷ first.later) port (inl refl))) in
      first.has_no_order order orderly (each_in (IsIn order) (outputs_of system) port all output)

  -- Two ways to split the outputs, each at the first without an order.
  one_cut : (one_before other_before one_later other_later : List PortName) (one other : PortName)
      → one_before ++ (one ∷ one_later) ≡ other_before ++ (other ∷ other_later) → HasNoOrder system one → HasNoOrder system other
      → AllByRecursion (λ port. HasNoOrder system port → ⊥) one_before → AllByRecursion (λ port. HasNoOrder system port → ⊥) other_before → one ≡ other
  one_cut [] [] one_later other_later one other is one_none other_none one_first other_first = cc
  one_cut [] (first ∷ other_before) one_later other_later one other is one_none other_none one_first other_first =
      let same : one ≡ first = cc in absurd (other_first.0 (subst (HasNoOrder system) same one_none))
  one_cut (first ∷ one_before) [] one_later other_later one other is one_none other_none one_first other_first =
      let same : other ≡ first = cc in absurd (one_first.0 (subst (HasNoOrder system) same other_none))
  one_cut (first ∷ one_before) (second ∷ other_before) one_later other_later one other is one_none other_none one_first other_first =
      one_cut one_before other_before one_later other_later one other
      (same_rest first second (one_before ++ (one ∷ one_later)) (other_before ++ (other ∷ other_later)) is) one_none other_none one_first.1 other_first.1

  one_port : (one other : PortName) → IsFirstWithoutOrder system one → IsFirstWithoutOrder system other → one ≡ other
  one_port one other first second =
      one_cut first.before second.before first.later second.later one other
      (sym first.cut ∙ second.cut) first.has_no_order second.has_no_order first.is_first second.is_first

pub cycles_are_judged_once : CyclesAreJudgedOnce
cycles_are_judged_once = record { judged = judged; not_both = not_both; one_port = one_port }
