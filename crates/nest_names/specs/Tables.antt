-- The contents of tables of names: the first place of a name, and whether it occurs more than once.
use Rattle.std.specs.Prelude.{◌≡◌, ◌<◌, ℕ, List, [], Some, true, is_some, length, map, slice_get}
use Rattle.std.specs.List.{filter, filter_map}
use Rattle.std.specs.Option.{option_map, unwrap_or}
use Rattle.std.specs.Str.{bytes_eq}
use Rattle.unit_names.specs.Found.{FindsPlaces, found_in}
use Rattle.nest_names.specs.GroupPorts.{stands_again}
use Rattle.nest_names.specs.declared.lists.PlacesByName.{PlacesByName}
use Rattle.nest_names.specs.declared.tables.Names.{Names}

pub record FindsNames (names : List (List ℕ)) (tables : Names) : Type 0 where
  pub first : FindsPlaces names tables.first
  pub again : (name : List ℕ) → is_some (found_in tables.again name) ≡ stands_again names name

-- The list with a number; empty where there is none.
abbrev pub inside_of : List (List ℕ) → ℕ → List ℕ
inside_of lists number = unwrap_or (slice_get lists number) []

-- The places that the tables list for a name.
abbrev pub places_of : PlacesByName → List ℕ → List ℕ
places_of tables name = unwrap_or (option_map (inside_of (map (λ one. one.items) tables.lists.items)) (found_in tables.numbers name)) []

-- Each name that has a number has a list of its own.
pub record AreNumbered (tables : PlacesByName) : Type 0 where
  pub within : (name : List ℕ) (number : ℕ) → found_in tables.numbers name ≡ Some number → number < length tables.lists.items
  pub apart : (name other : List ℕ) (number : ℕ) → found_in tables.numbers name ≡ Some number → found_in tables.numbers other ≡ Some number
      → bytes_eq name other ≡ true

-- The elements at places.
abbrev pub items_at : {A : Type 0} → List A → List ℕ → List A
items_at items places = filter_map (slice_get items) places

-- The tables list the places of the elements with each name.
abbrev pub ListsNamed : {A : Type 0} → (A → List ℕ) → List A → PlacesByName → Type 0
ListsNamed name items tables = (q : List ℕ) → items_at items (places_of tables q) ≡ filter (λ item. bytes_eq (name item) q) items
