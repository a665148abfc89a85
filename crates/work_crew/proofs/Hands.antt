-- Hands whose items are taken one after the other: each take leaves fewer.
use Rattle.std.proofs.Common.{ℕ, suc, ◌-◌, ◌<◌, ◌≤◌, max, List, [], ◌∷◌, ◌++◌, length, ap, arith}
use Rattle.std.proofs.Math.Nat.{le-max_left, le-max_right, max-le}
use Rattle.std.proofs.lemmas.Option.{slice_get_within}
use Rattle.std.specs.List.{All}
use Rattle.ticket_deque.specs.Ends.{HandState, HandTakes}

module _ {T : Type 0} where
  -- No place from this one on was taken.
  pub taken_below : List (ℕ × T) → ℕ
  taken_below [] = 0
  taken_below (e ∷ es) = max (suc e.0) (taken_below es)

  -- How many of the added items of a hand may be left.
  abbrev pub left_in : HandState T → ℕ
  left_in hand = length hand.puts - taken_below hand.taken

  pub below_most : (taken : List (ℕ × T)) (place : ℕ) → All (λ e. e.0 < place) taken → taken_below taken ≤ place
  unfolding taken_below
  below_most [] place all = omega (arith)
  below_most (e ∷ es) place all =
      max-le {a = suc e.0} {b = taken_below es} {k = place} (all 0 e (omega (arith)))
      (below_most es place (λ k d within. all (suc k) d (omega (arith, within))))

  pub below_push : (taken : List (ℕ × T)) (e : ℕ × T) → suc e.0 ≤ taken_below (taken ++ e ∷ [])
  unfolding taken_below
  below_push [] e = le-max_left (suc e.0) 0
  below_push (first ∷ es) e =
      let others = below_push es e in
      let most = le-max_right (suc first.0) (taken_below (es ++ e ∷ [])) in
      omega (arith, others, most)

  pub fewer_left_in : (old new : HandState T) (item : T) → HandTakes old new item → left_in new < left_in old
  fewer_left_in old new item takes =
      let within = slice_get_within old.puts takes.place item takes.is_put in
      let before = below_most old.taken takes.place takes.later in
      let pushed = below_push old.taken (takes.place, item) in
      let puts = ap (λ (hand : HandState T). length hand.puts) takes.added in
      let taken = ap (λ (hand : HandState T). taken_below hand.taken) takes.added in
      omega (arith, within, before, pushed, puts, taken)
