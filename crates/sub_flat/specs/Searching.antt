-- How groups are searched: which were found, and which are still to be visited.
use Rattle.std.specs.Prelude.{◌≡◌, ◌⊎◌, ◌≤◌, ◌<◌, ℕ, ◌+◌, Bool, true, false, not, List, length, map, get_or}
use Rattle.std.specs.List.{count_by}
use Rattle.unit_tree.specs.Ports.{IsAmong}
use Rattle.nest_text.specs.declared.nest.Nest.{Nest}
use Rattle.nest_names.specs.Tables.{inside_of}
use Rattle.sub_flat.specs.Cycles.{LeadsBack, inner_places}
use Rattle.sub_flat.specs.declared.cycles.Nesting.{Nesting}

-- ---- Groups by places

-- Each number in a list is that of a list.
abbrev pub AreWithin : List (List ℕ) → Type 0
AreWithin lists = (place other : ℕ) → IsAmong (inside_of lists place) other → other < length lists

abbrev pub level_at : List ℕ → ℕ → ℕ
level_at levels place = get_or levels place 0

-- No group is on a lower level than one inside it.
abbrev pub AreFalling : List (List ℕ) → List ℕ → Type 0
AreFalling lists levels = (place other : ℕ) → IsAmong (inside_of lists place) other → level_at levels other ≤ level_at levels place

-- A group that isn't doubtful doesn't contain itself.
abbrev pub AreSure : List (List ℕ) → List Bool → Type 0
AreSure lists doubtful = (place : ℕ) → get_or doubtful place true ≡ false → LeadsBack (inside_of lists) place → ⊥

abbrev pub lists_in : Nesting → List (List ℕ)
lists_in nesting = map (λ one. one.items) nesting.inner.items

-- The lists are those of a nest, and only doubtful groups may contain themselves.
pub record IsNesting (nest : Nest) (nesting : Nesting) : Type 0 where
  pub inner : (place : ℕ) → inside_of (lists_in nesting) place ≡ inner_places nest place
  pub within : AreWithin (lists_in nesting)
  pub sure : AreSure (lists_in nesting) nesting.doubtful.items

-- ---- Searching

-- The group at the place was found.
abbrev pub IsSeen : List Bool → ℕ → Type 0
IsSeen seen place = get_or seen place false ≡ true

-- How much is left to do: the groups that weren't found, and those that are still to be visited.
abbrev pub work_left : List Bool → List ℕ → ℕ
work_left seen pending = count_by not seen + length pending

-- More groups were found. Each of them is marked as seen, each group that is seen now was seen before or is to be
-- visited, and each group to be visited is one of them or was to be visited before.
pub record Finds (found : List ℕ) (seen seen' : List Bool) (pending pending' : List ℕ) : Type 0 where
  pub long : length seen' ≡ length seen
  pub all : (place : ℕ) → IsAmong found place → IsSeen seen' place
  pub kept : (place : ℕ) → IsSeen seen place → IsSeen seen' place
  pub new : (place : ℕ) → IsSeen seen' place → IsSeen seen place ⊎ IsAmong pending' place
  pub still : (place : ℕ) → IsAmong pending place → IsAmong pending' place
  pub from : (place : ℕ) → IsAmong pending' place → IsAmong pending place ⊎ IsAmong found place
  pub work : work_left seen' pending' ≤ work_left seen pending

-- True: the searched group is among the inner groups. False: it isn't, and all inner groups were found.
abbrev pub Spreads : List ℕ → ℕ → List Bool → List Bool → List ℕ → List ℕ → Bool → Type 0
Spreads inner wanted seen seen' pending pending' true = IsAmong inner wanted
Spreads inner wanted seen seen' pending pending' false = (IsAmong inner wanted → ⊥) × Finds inner seen seen' pending pending'
