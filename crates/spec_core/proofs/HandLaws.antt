-- Tickets in hands: their sums after a change of one hand, and which are outstanding.
use Rattle.std.proofs.Common.{◌≡◌, ◌∙◌, ℕ, ◌+◌, ◌≤◌, ◌==◌, Bool, true, false, ◌||◌, if◌then◌else◌, List, [], ◌∷◌, ◌++◌, set, Some, refl, sym, ap, subst, arith}
use Rattle.std.proofs.lemmas.Bool.{eqb-true, eq-eqb}
use Rattle.std.proofs.lemmas.List.Sums.{get_or-le-sum_by, sum_by-cons, sum_by_push, sum_by-set}
use Rattle.std.proofs.lemmas.Option.{get_or_from_slice_get, slice_get_within}
use Rattle.std.specs.List.{sum_by}
use Rattle.std.specs.Prelude.{slice_get}
use Rattle.guess_board.specs.Journals.{is_listed, without}
use Rattle.guess_board.specs.Lanes.{TicketState}
use Rattle.spec_core.specs.Worlds.{AreInHands, counted}

-- ---- Sums

-- The sum over all hands after a change of one.
abbrev in_hands : (TicketState → ℕ) → List (List TicketState) → ℕ
in_hands f hands = sum_by (λ hand. sum_by f hand) hands

hand_set : (f : TicketState → ℕ) (hands : List (List TicketState)) (worker : ℕ) (old new : List TicketState) → slice_get hands worker ≡ Some old
    → in_hands f (set hands worker new) + sum_by f old ≡ in_hands f hands + sum_by f new
hand_set f hands worker old new at =
    ap (λ hand. in_hands f (set hands worker new) + sum_by f hand) (sym (get_or_from_slice_get hands worker old old at))
    ∙ sum_by-set (λ hand. sum_by f hand) hands worker new old (slice_get_within hands worker old at)

pub sum_without : (count : ℕ → ℕ) (n : ℕ) (ns : List ℕ) → is_listed n ns ≡ true → sum_by count (without n ns) + count n ≡ sum_by count ns
sum_without count n [] is = absurd (cc)
sum_without count n (m ∷ ms) is = at (m == n) refl is (sum_without count n ms)
  where
    at : (b : Bool) → (m == n) ≡ b → (b || is_listed n ms) ≡ true → (is_listed n ms ≡ true → sum_by count (without n ms) + count n ≡ sum_by count ms)
        → sum_by count (if b then ms else m ∷ without n ms) + count n ≡ sum_by count (m ∷ ms)
    at true same is others =
        let one = sum_by-cons count m ms in
        let own = ap count (eqb-true m n same) in
        omega arith
    at false same is others =
        let left = others is in
        let one = sum_by-cons count m ms in
        let two = sum_by-cons count m (without n ms) in
        omega arith

-- ---- One number

abbrev unit_at : ℕ → ℕ → ℕ
unit_at n m = if m == n then 1 else 0

unit_itself : (n : ℕ) → unit_at n n ≡ 1
unit_itself n = ap {B = ℕ} (λ (b : Bool). if b then 1 else 0) (eq-eqb n n refl)

is_there : (n : ℕ) (ns : List ℕ) → 1 ≤ sum_by (unit_at n) ns → is_listed n ns ≡ true
is_there n [] heavy = absurd (omega arith)
is_there n (m ∷ ms) heavy = at (m == n) refl (is_there n ms)
  where
    at : (b : Bool) → (m == n) ≡ b → (1 ≤ sum_by (unit_at n) ms → is_listed n ms ≡ true) → (b || is_listed n ms) ≡ true
    at true same others = refl
    at false same others =
        let one = sum_by-cons (unit_at n) m ms in
        let none = ap {B = ℕ} (λ (b : Bool). if b then 1 else 0) same in
        others (omega (arith, one, none, heavy))

-- ---- Hands and outstanding tickets

own_counts : (instance : ℕ) (count : ℕ → ℕ) (ticket : TicketState) → ticket.instance ≡ instance → counted instance count ticket ≡ count ticket.number
own_counts instance count ticket same = ap (λ (b : Bool). if b then count ticket.number else 0) (eq-eqb ticket.instance instance same)

other_counts : (instance : ℕ) (count : ℕ → ℕ) (ticket : TicketState) → (ticket.instance ≡ instance → ⊥) → counted instance count ticket ≡ 0
other_counts instance count ticket differ = at (ticket.instance == instance) refl
  where
    at : (b : Bool) → (ticket.instance == instance) ≡ b → (if b then count ticket.number else 0) ≡ 0
    at true same = absurd (differ (eqb-true ticket.instance instance same))
    at false same = refl

-- The value of one element is at most the sum of all.
weighs_in : {A : Type 0} (f : A → ℕ) (xs : List A) (k : ℕ) (x : A) → slice_get xs k ≡ Some x → f x ≤ sum_by f xs
weighs_in f xs k x at = subst (λ y. f y ≤ sum_by f xs) (get_or_from_slice_get xs k x x at) (get_or-le-sum_by f xs k x (slice_get_within xs k x at))

module _ (instance : ℕ) (outstanding : List ℕ) (hands : List (List TicketState)) (out : AreInHands instance outstanding hands) where
  -- Each ticket in a hand is outstanding.
  pub ticket_is_out : (worker place : ℕ) (hand : List TicketState) (ticket : TicketState) → slice_get hands worker ≡ Some hand
      → slice_get hand place ≡ Some ticket → ticket.instance ≡ instance → is_listed ticket.number outstanding ≡ true
  ticket_is_out worker place hand ticket at there same =
      let f = counted instance (unit_at ticket.number) in
      let all = out (unit_at ticket.number) in
      let own = own_counts instance (unit_at ticket.number) ticket same in
      let one = unit_itself ticket.number in
      let in_hand = weighs_in f hand place ticket there in
      let in_all = weighs_in (λ tickets. sum_by f tickets) hands worker hand at in
      is_there ticket.number outstanding (omega (arith, all, own, one, in_hand, in_all))

  pub first_is_out : (worker : ℕ) (ticket : TicketState) (others : List TicketState) → slice_get hands worker ≡ Some (ticket ∷ others)
      → ticket.instance ≡ instance → is_listed ticket.number outstanding ≡ true
  first_is_out worker ticket others at same = ticket_is_out worker 0 (ticket ∷ others) ticket at refl same

  -- A ticket that has ended is no longer outstanding and no longer in its hand.
  pub end_keeps : (worker : ℕ) (ticket : TicketState) (others : List TicketState) → slice_get hands worker ≡ Some (ticket ∷ others)
      → ticket.instance ≡ instance → AreInHands instance (without ticket.number outstanding) (set hands worker others)
  end_keeps worker ticket others at same count =
      let f = counted instance count in
      let gone = sum_without count ticket.number outstanding (first_is_out worker ticket others at same) in
      let all = out count in
      let left = hand_set f hands worker (ticket ∷ others) others at in
      let own = own_counts instance count ticket same in
      let first = sum_by-cons f ticket others in
      omega (arith, gone, all, left, own, first)

  -- A ticket of another instance changes nothing for this one.
  pub other_end_keeps : (worker : ℕ) (ticket : TicketState) (others : List TicketState) → slice_get hands worker ≡ Some (ticket ∷ others)
      → (ticket.instance ≡ instance → ⊥) → AreInHands instance outstanding (set hands worker others)
  other_end_keeps worker ticket others at differ count =
      let f = counted instance count in
      let all = out count in
      let left = hand_set f hands worker (ticket ∷ others) others at in
      let none = other_counts instance count ticket differ in
      let first = sum_by-cons f ticket others in
      omega (arith, all, left, none, first)

  -- A ticket that is taken is outstanding, and in a hand.
  pub take_keeps : (worker : ℕ) (hand : List TicketState) (ticket : TicketState) → slice_get hands worker ≡ Some hand → ticket.instance ≡ instance
      → AreInHands instance (outstanding ++ ticket.number ∷ []) (set hands worker (hand ++ ticket ∷ []))
  take_keeps worker hand ticket at same count =
      let f = counted instance count in
      let more = sum_by_push count outstanding ticket.number in
      let all = out count in
      let put = sum_by_push f hand ticket in
      let left = hand_set f hands worker hand (hand ++ ticket ∷ []) at in
      let own = own_counts instance count ticket same in
      omega (arith, more, all, put, left, own)

  pub other_take_keeps : (worker : ℕ) (hand : List TicketState) (ticket : TicketState) → slice_get hands worker ≡ Some hand
      → (ticket.instance ≡ instance → ⊥) → AreInHands instance outstanding (set hands worker (hand ++ ticket ∷ []))
  other_take_keeps worker hand ticket at differ count =
      let f = counted instance count in
      let all = out count in
      let put = sum_by_push f hand ticket in
      let left = hand_set f hands worker hand (hand ++ ticket ∷ []) at in
      let none = other_counts instance count ticket differ in
      omega (arith, all, put, left, none)

  -- A ticket that goes from hand to hand is still in a hand.
  pub steal_keeps : (worker from : ℕ) (hand others : List TicketState) (ticket : TicketState) → slice_get hands from ≡ Some (ticket ∷ others)
      → slice_get (set hands from others) worker ≡ Some hand
      → AreInHands instance outstanding (set (set hands from others) worker (hand ++ ticket ∷ []))
  steal_keeps worker from hand others ticket first at count =
      let f = counted instance count in
      let all = out count in
      let taken = hand_set f hands from (ticket ∷ others) others first in
      let put = hand_set f (set hands from others) worker hand (hand ++ ticket ∷ []) at in
      let one = sum_by-cons f ticket others in
      let last = sum_by_push f hand ticket in
      omega (arith, all, taken, put, one, last)
