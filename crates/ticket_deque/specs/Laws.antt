-- The consequences of the rule.
use Rattle.std.specs.Prelude.{◌≡◌, ◌≢◌, ℕ, ◌<◌, List, ◌++◌, map, IsPermutation}
use mathlib.Core.Option.{some}
use lib.ListN.{get_elem?}
use Rattle.ticket_deque.specs.Rule.{taken, all_taken, times, IsInOrder}
use Rattle.ticket_deque.specs.declared.view.View.{View}

-- The items that all ends took and those in the queue are the added items, each once.
abbrev pub IsEachItemOnce : Type 0 → Type 0
IsEachItemOnce T = (queue : List T) (views : List (View T)) (state : IsInOrder queue views)
    → IsPermutation (map (λ e. e.1) (all_taken views) ++ queue) state.puts

module _ {T : Type 0} where
  -- One end took this place, once, and no other did.
  pub record HasOneTaker (views : List (View T)) (place : ℕ) : Type 0 where
    pub port : ℕ
    pub taker : View T
    pub at : get_elem? views port ≡ some taker
    pub once : times place (taken taker) ≡ 1
    pub alone : (other : ℕ) (v : View T) → other ≢ port → get_elem? views other ≡ some v → times place (taken v) ≡ 0

-- Every place that has left the queue was taken by one end, once, and by no other.
abbrev pub IsEachPlaceTakenOnce : Type 0 → Type 0
IsEachPlaceTakenOnce T = (queue : List T) (views : List (View T)) (state : IsInOrder queue views) (place : ℕ) → place < state.front → HasOneTaker views place
