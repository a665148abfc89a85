-- The effect of one step on a deque on the view of the end that makes it.
use Rattle.std.specs.Prelude.{◌≡◌, ℕ, ◌<◌, List, [], ◌∷◌, ◌++◌, All, slice_get, Some}
use mathlib.Core.Option.{some}
use lib.ListN.{get_elem?}
use Rattle.ticket_deque.specs.Rule.{taken, IsInOrder}
use Rattle.ticket_deque.specs.declared.view.View.{View}
use Rattle.ticket_deque.specs.declared.view.View.TheVariants.{Owner, Thief}

module _ {T : Type 0} where
  -- The view after these items were added.
  abbrev pub after_put : View T → List T → View T
  after_put (Owner puts got) xs = Owner (puts ++ xs) got
  after_put (Thief got) xs = Thief got

  -- The view after the item of this place was taken.
  abbrev pub after_take : View T → ℕ → T → View T
  after_take (Owner puts got) place x = Owner puts (got ++ (place, x) ∷ [])
  after_take (Thief got) place x = Thief (got ++ (place, x) ∷ [])

  -- Where the end knows the added items, the item is the one that was added at the place.
  abbrev pub IsPut : View T → ℕ → T → Type 0
  IsPut (Owner puts got) place x = slice_get puts place ≡ Some x
  IsPut (Thief got) place x = Unit {0}

  -- In some state in order, in which an end has this view, the item is the first of the queue and has this place.
  pub record WasFirst (v : View T) (place : ℕ) (x : T) : Type 0 where
    pub queue : List T
    pub views : List (View T)
    pub port : ℕ
    pub at : get_elem? views port ≡ some v
    pub state : IsInOrder (x ∷ queue) views
    pub place_is : place ≡ state.front

  -- In some state in order, in which an end has this view, the queue is empty.
  pub record WasEmpty (v : View T) : Type 0 where
    pub views : List (View T)
    pub port : ℕ
    pub at : get_elem? views port ≡ some v
    pub state : IsInOrder [] views

  -- The first item was taken, from a place after all that this end took.
  pub record TakesFirst (v : View T) (x : T) (w : View T) : Type 0 where
    pub place : ℕ
    pub after : w ≡ after_take v place x
    pub later : All (λ e. e.0 < place) (taken v)
    pub is_put : IsPut v place x
    pub first : WasFirst v place x

  -- The same for the list of the items that left, which is one item.
  abbrev pub Takes : View T → List T → View T → Type 0
  Takes v [] w = Unit {0}
  Takes v (x ∷ xs) w = TakesFirst v x w
