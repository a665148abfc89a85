-- The rule of a deque: how its queue relates to what its ends have done.
use Rattle.std.specs.Prelude.{◌≡◌, ◌==◌, ℕ, ◌<◌, ◌≤◌, List, [], ◌∷◌, ◌++◌, length, drop, count_by, All, slice_get, Some}
use Rattle.ticket_deque.specs.declared.view.View.{View}
use Rattle.ticket_deque.specs.declared.view.View.TheVariants.{Owner, Thief}

module _ {T : Type 0} where
  -- The places and items that an end took, in the order in which it took them.
  abbrev pub taken : View T → List (ℕ × T)
  taken (Owner puts got) = got
  taken (Thief got) = got

  -- The end is not the owner's.
  abbrev pub IsThief : View T → Type 0
  IsThief (Owner puts got) = ⊥
  IsThief (Thief got) = Unit {0}

  -- What all ends took together, one end after another.
  abbrev pub all_taken : List (View T) → List (ℕ × T)
  all_taken [] = []
  all_taken (v ∷ vs) = taken v ++ all_taken vs

  -- How many times a place is among these.
  abbrev pub times : ℕ → List (ℕ × T) → ℕ
  times place entries = count_by (λ e. e.0 == place) entries

  -- A queue and the views of all ends are in order. `puts` is all that was added, and `front` the place of the next item to leave.
  pub record IsInOrder (queue : List T) (views : List (View T)) : Type 0 where
    pub puts : List T
    pub front : ℕ
    -- The first end is the owner's, which knows the added items, and all others are thieves.
    pub owner : (got : List (ℕ × T)) × (others : List (View T)) × (views ≡ Owner puts got ∷ others) × All IsThief others
    -- The queue has the items added from the place `front` on, in order.
    pub queued : (front ≤ length puts) × (queue ≡ drop front puts)
    -- Every place that was taken is below `front`.
    pub below : All (λ e. e.0 < front) (all_taken views)
    -- Every place below `front` was taken once, by one end.
    pub once : (place : ℕ) → place < front → times place (all_taken views) ≡ 1
    -- A taken item is the one that was added at its place.
    pub matching : All (λ e. slice_get puts e.0 ≡ Some e.1) (all_taken views)
