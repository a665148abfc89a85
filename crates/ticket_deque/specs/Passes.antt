-- What was taken by the passes of a reach.
use Rattle.std.specs.Prelude.{◌≡◌, ℕ, List, [], ◌++◌, Option, None, Some, Box}
use Rattle.std.specs.declared.alloc.Global.{Global}
use Rattle.crossbeam_deque.specs.Handles.{view}
use Rattle.ticket_deque.specs.Ends.{DequeId}
use Rattle.ticket_deque.specs.Rule.{taken}
use Rattle.ticket_deque.specs.declared.passes.Passes.{Passes, Passes', Held-Passes-joined, None', Some'}

abbrev mutual
  -- What the passes of a tree took: those next to it, those below it, and then its own.
  pub entries : {T : Type 0} → Passes T → List (ℕ × T)
  entries (Passes' own joined next) = held_entries next ++ (held_entries joined ++ taken (view own))

  pub held_entries : {T : Type 0} → Held-Passes-joined T → List (ℕ × T)
  held_entries None' = []
  held_entries (Some' p passes) = entries passes

abbrev mutual
  -- Every pass of a tree is of this deque.
  pub AreOf : {T : Type 0} → DequeId → Passes T → Type 0
  AreOf deque (Passes' own joined next) = (own.rows ≡ deque) × AreHeldOf deque joined × AreHeldOf deque next

  pub AreHeldOf : {T : Type 0} → DequeId → Held-Passes-joined T → Type 0
  AreHeldOf deque None' = Unit {0}
  AreHeldOf deque (Some' p passes) = AreOf deque passes

module _ {T : Type 0} where
  -- The same, where there may be no tree.
  abbrev pub entries_below : Option (Box (Passes T) Global) → List (ℕ × T)
  entries_below None = []
  entries_below (Some b) = entries b.value

  abbrev pub AreBelowOf : DequeId → Option (Box (Passes T) Global) → Type 0
  AreBelowOf deque None = Unit {0}
  AreBelowOf deque (Some b) = AreOf deque b.value
