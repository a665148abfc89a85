-- How a name is found among those that are declared: by its first declaration.
use Rattle.std.specs.Prelude.{◌≡◌, ℕ, ◌+◌, ◌++◌, List, [], ◌∷◌, map, Option, Some, None, if◌then◌else◌}
use Rattle.std.specs.List.{position_from}
use Rattle.std.specs.BTreeMap.{BTreeMap, get_by}
use Rattle.std.specs.Borrow.{Bor}
use Rattle.std.specs.Cmp.Lexicographic.{slice_cmp}
use Rattle.std.specs.Ordering.{nat_cmp}
use Rattle.std.specs.Str.{bytes_eq}
use Rattle.unit_names.specs.Entries.{Named, port_as_named}
use Rattle.unit_names.specs.declared.tables.Declared.{Declared}
use Rattle.unit_names.specs.declared.tables.Entry.{Entry}
use Rattle.unit_tree.specs.Names.{Port}
use Rattle.unit_tree.specs.declared.unit.Unit.{Unit}

-- The first place of a name in a list, from 0.
abbrev pub first_place : List (List ℕ) → List ℕ → Option ℕ
first_place names name = position_from (bytes_eq name) 0 names

-- All names that a unit declares, in the canonical order of its lines.
abbrev pub declared_names : Unit → List (List ℕ)
declared_names unit =
    map (λ param. param.name) unit.params
    ++ map (λ state. state.name) unit.states
    ++ map (λ local. local.name) unit.locals
    ++ map (λ input. input.name) unit.inputs
    ++ map (λ event. event.name) unit.events_in
    ++ map (λ output. output.name) unit.outputs
    ++ map (λ event. event.name) unit.events_out

-- A declaration with its place in a list.
abbrev pub declared_at : ℕ → Named → Declared
declared_at place one = record { place = place; ty = one.ty; is_event = one.is_event }

-- The first declaration of a name, where the list starts at this place.
abbrev pub declared_from : ℕ → List Named → List ℕ → Option Declared
declared_from place [] name = None
declared_from place (first ∷ others) name =
    if bytes_eq name first.name then Some (declared_at place first) else declared_from (place + 1) others name

abbrev pub declared_among : List Named → List ℕ → Option Declared
declared_among all name = declared_from 0 all name

-- The first port of a name, with its place among the ports.
abbrev pub port_among : List Port → List ℕ → Option Declared
port_among ports name = declared_among (map port_as_named ports) name

-- An entry of a table's list, as it is declared.
abbrev pub as_named : Entry → Named
as_named entry = record { name = entry.name.now; ty = entry.ty; is_event = entry.is_event }

-- The value that a table has for a name, by its bytes.
abbrev pub found_in : {V : Type 0} → BTreeMap (Bor (List ℕ)) V → List ℕ → Option V
found_in table name = get_by (λ key. slice_cmp nat_cmp name key.now) table

-- The table finds each name's first declaration among these.
abbrev pub FindsDeclared : List Named → BTreeMap (Bor (List ℕ)) Declared → Type 0
FindsDeclared all table = (name : List ℕ) → found_in table name ≡ declared_among all name

-- The table finds each name's first place in a list.
abbrev pub FindsPlaces : List (List ℕ) → BTreeMap (Bor (List ℕ)) ℕ → Type 0
FindsPlaces names table = (name : List ℕ) → found_in table name ≡ first_place names name
