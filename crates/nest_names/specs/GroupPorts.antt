-- Names that occur more than once, and which ports units and groups have.
use Rattle.std.specs.Prelude.{ℕ, Bool, false, nat_lt, List, map}
use Rattle.std.specs.List.{count_by, list_any}
use Rattle.std.specs.Option.{option_map, unwrap_or}
use Rattle.std.specs.Str.{bytes_eq}
use Rattle.unit_tree.specs.Names.{input_names, is_among, output_names, unit_named}
use Rattle.unit_tree.specs.declared.unit.Unit.{Unit}
use Rattle.nest_text.specs.declared.nest.Bind.{Bind}
use Rattle.nest_text.specs.declared.nest.Group.{Group}
use Rattle.nest_text.specs.declared.nest.Nest.{Nest}
use Rattle.nest_names.specs.Flattening.{group_place, of_group}

-- The name occurs more than once.
abbrev pub stands_again : List (List ℕ) → List ℕ → Bool
stands_again names name = nat_lt 1 (count_by (bytes_eq name) names)

-- The name of some `out` line occurs twice.
abbrev pub says_out_twice : List Bind → Bool
says_out_twice binds = list_any (λ bind. stands_again (map (λ other. other.port) binds) bind.port) binds

-- Whether this unit or group has the port: one of the `in` or `out` lines of a group, or one of the inputs or outputs
-- of a unit, also of events.
abbrev pub has_port : Nest → (Unit → List (List ℕ)) → (Group → List Bind) → List ℕ → List ℕ → Bool
has_port nest of_unit binds unit port =
    unwrap_or (option_map (λ place. is_among (map (λ bind. bind.port) (of_group nest binds place)) port) (group_place nest unit))
    (unwrap_or (option_map (λ found. is_among (of_unit found) port) (unit_named nest.main.units unit)) false)

abbrev pub has_input : Nest → List ℕ → List ℕ → Bool
has_input nest unit port = has_port nest input_names (λ group. group.ins) unit port

abbrev pub has_output : Nest → List ℕ → List ℕ → Bool
has_output nest unit port = has_port nest output_names (λ group. group.outs) unit port
