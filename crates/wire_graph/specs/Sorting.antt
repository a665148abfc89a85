-- Sorting of places one by one: the invariant, and when no place can be added.
use Rattle.std.specs.Prelude.{◌≡◌, ℕ, ◌+◌, ◌<◌, ◌≤◌, Bool, true, false, List, [], length, slice_index_or}
use Rattle.std.specs.List.{AllByRecursion, sum_by}
use Rattle.unit_tree.specs.Ports.{IsAmong}
use Rattle.unit_tree.specs.Routes.{IsRoutedAfter, needs_on}
use Rattle.unit_tree.specs.declared.order.Routes.{Routes}

-- 1 for an output that is not placed yet, and 0 for one that is.
abbrev pub not_yet : Bool → ℕ
not_yet true = 0
not_yet false = 1

-- How many outputs are not placed yet.
abbrev pub left_of : List Bool → ℕ
left_of placed = sum_by not_yet placed

-- Places in order, each after all that its output depends on, and for each output whether it is among
-- them.
pub record IsSorting (routes : Routes) (places : List ℕ) (placed : List Bool) : Type 0 where
  pub routed : IsRoutedAfter routes [] places
  pub one_each : length placed ≡ length routes.outputs
  pub marked : (place : ℕ) → slice_index_or placed place false ≡ true → IsAmong places place
  pub among : (place : ℕ) → IsAmong places place → slice_index_or placed place false ≡ true
  pub left : length places + left_of placed ≡ length routes.outputs

-- Places to which others may have been added: all are still there, and if there are no more of them,
-- nothing has changed.
pub record Grows (old new : List ℕ) : Type 0 where
  pub holds : (place : ℕ) → IsAmong old place → IsAmong new place
  pub longer : length old ≤ length new
  pub same : length new ≡ length old → new ≡ old

-- An output that can be added after the old places is among the new ones.
abbrev pub IsTried : Routes → List ℕ → List ℕ → ℕ → Type 0
IsTried routes old new place = place < length routes.outputs → AllByRecursion (IsAmong old) (needs_on routes place) → IsAmong new place

-- No output can be added: each output whose needs are all among the places is among them itself.
abbrev pub IsClosed : Routes → List ℕ → Type 0
IsClosed routes places = (place : ℕ) → IsTried routes places places place
