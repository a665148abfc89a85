-- What contracts see of a hand and of a reach, and what a take does to them.
use Rattle.std.specs.Prelude.{◌≡◌, ℕ, ◌<◌, List, [], ◌∷◌, ◌++◌, All, slice_get, Some}
use Rattle.ticket_deque.specs.Steps.{WasFirst, WasEmpty}
use Rattle.ticket_deque.specs.declared.view.View.TheVariants.{Owner, Thief}

-- The identity of a deque.
abbrev pub DequeId : Type 0
DequeId = ℕ × ℕ

-- A hand: its deque, the items that it added, in order, and the places and items that it took.
pub record HandState (T : Type 0) : Type 0 where
  pub deque : DequeId
  pub puts : List T
  pub taken : List (ℕ × T)

-- A reach: its deque, the places and items that it took, and those that the reaches which it joined had taken.
pub record ReachState (T : Type 0) : Type 0 where
  pub deque : DequeId
  pub taken : List (ℕ × T)
  pub joined : List (ℕ × T)

module _ {T : Type 0} where
  -- All that a reach and those which it joined took.
  abbrev pub entries_of : ReachState T → List (ℕ × T)
  entries_of reach = reach.joined ++ reach.taken

  -- The hand took the first item: the one that was added at a place after all that it took before.
  pub record HandTakes (old new : HandState T) (item : T) : Type 0 where
    pub place : ℕ
    pub added : new ≡ record old { taken = old.taken ++ (place, item) ∷ [] }
    pub later : All (λ e. e.0 < place) old.taken
    pub is_put : slice_get old.puts place ≡ Some item
    pub first : WasFirst (Owner old.puts old.taken) place item

  -- The hand found the deque empty.
  abbrev pub HandFindsNone : HandState T → HandState T → Type 0
  HandFindsNone old new = (new ≡ old) × WasEmpty (Owner old.puts old.taken)

  -- The reach took the first item, from a place after all that it took before.
  pub record ReachTakes (old new : ReachState T) (item : T) : Type 0 where
    pub place : ℕ
    pub added : new ≡ record old { taken = old.taken ++ (place, item) ∷ [] }
    pub later : All (λ e. e.0 < place) old.taken
    pub first : WasFirst (Thief old.taken) place item

  -- The reach found the deque empty.
  abbrev pub ReachFindsNone : ReachState T → ReachState T → Type 0
  ReachFindsNone old new = (new ≡ old) × WasEmpty (Thief old.taken)
