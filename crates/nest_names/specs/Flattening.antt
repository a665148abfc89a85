-- The flat system of a nest: components alone, with the connections from component to component.
--
-- An instance is in a scope: that of `main`, or that of an instance of a group. The prefix of the scope has the names
-- of the instances around it, each with a `_` after it.
use Rattle.std.specs.Prelude.{ℕ, zero, suc, Bool, true, false, ◌&&◌, ◌==◌, is_none, List, [], ◌∷◌, ◌++◌, map, find, Option, Some, None, if◌then◌else◌, slice_get}
use Rattle.std.specs.List.{filter, flat_map, list_all, list_any}
use Rattle.std.specs.Option.{option_and_then, option_map, unwrap_or}
use Rattle.std.specs.Str.{bytes_eq}
use Rattle.unit_names.specs.Found.{first_place}
use Rattle.unit_tree.specs.Names.{same_port}
use Rattle.unit_tree.specs.declared.system.Instance.{Instance}
use Rattle.unit_tree.specs.declared.system.PortName.{PortName}
use Rattle.unit_tree.specs.declared.system.System.{System}
use Rattle.unit_tree.specs.declared.system.Wire.{Wire}
use Rattle.nest_text.specs.declared.nest.Bind.{Bind}
use Rattle.nest_text.specs.declared.nest.Group.{Group}
use Rattle.nest_text.specs.declared.nest.Nest.{Nest}
use Rattle.nest_names.specs.declared.scope.GroupScope.{GroupScope}
use Rattle.nest_names.specs.declared.scope.Spot.{Spot}

-- ---- Names

-- The place, from 0, of the first group of the name.
abbrev pub group_place : Nest → List ℕ → Option ℕ
group_place nest name = first_place (map (λ group. group.name) nest.groups) name

-- The list of the group at a place; empty where there is none.
abbrev pub of_group : {A : Type 0} → Nest → (Group → List A) → ℕ → List A
of_group nest part place = unwrap_or (option_map part (slice_get nest.groups place)) []

-- The instances and the connections of `main`, or of a group.
abbrev pub instances_of : Nest → Option ℕ → List Instance
instances_of nest None = nest.main.instances
instances_of nest (Some place) = of_group nest (λ group. group.instances) place

abbrev pub wires_of : Nest → Option ℕ → List Wire
wires_of nest None = nest.main.wires
wires_of nest (Some place) = of_group nest (λ group. group.wires) place

abbrev pub binds_of : Nest → (Group → List Bind) → Option ℕ → List Bind
binds_of nest part None = []
binds_of nest part (Some place) = of_group nest part place

-- The first of instances with the name.
abbrev pub instance_among : List Instance → List ℕ → Option Instance
instance_among instances name = find (λ instance. bytes_eq instance.name name) instances

-- ---- Scopes

abbrev pub top : GroupScope
top = record { prefix = []; group = None }

-- The scope inside an instance of the group at a place.
abbrev pub inside : GroupScope → List ℕ → ℕ → GroupScope
inside scope name place = record { prefix = scope.prefix ++ (name ++ 95 ∷ []); group = Some place }

-- The scope inside an instance, if its unit is a group.
abbrev pub scope_of : Nest → GroupScope → Instance → Option GroupScope
scope_of nest scope instance = option_map (inside scope instance.name) (group_place nest instance.unit)

-- The place of the group of the instance with a name, and the scope inside it.
abbrev pub place_at : Nest → Option ℕ → List ℕ → Option ℕ
place_at nest group name = option_and_then (λ instance. group_place nest instance.unit) (instance_among (instances_of nest group) name)

abbrev pub scope_at : Nest → GroupScope → List ℕ → Option GroupScope
scope_at nest scope name = option_map (inside scope name) (place_at nest scope.group name)

-- How deep scopes may be nested. A flat name has a `_` for each instance around it, and at most 32 bytes, so no deeper
-- name is short enough.
abbrev pub levels : ℕ
levels = 33

-- ---- Components

abbrev pub named_in : GroupScope → Instance → Instance
named_in scope instance = record instance { name = scope.prefix ++ instance.name }

-- The components in a scope, depth first: an instance of a unit itself, and for an instance of a group those inside it.
abbrev pub leaves : Nest → ℕ → GroupScope → List Instance
leaves nest zero scope = map (named_in scope) (instances_of nest scope.group)
leaves nest (suc depth) scope =
    flat_map (λ instance. unwrap_or (option_map (leaves nest depth) (scope_of nest scope instance)) (named_in scope instance ∷ []))
    (instances_of nest scope.group)

-- ---- Ports

-- A port in a scope, as a port of the flat system.
abbrev pub flat_port : Spot → PortName
flat_port spot = record { instance = spot.scope.prefix ++ spot.port.instance; port = spot.port.port }

abbrev pub spot_in : GroupScope → Bind → Spot
spot_in scope bind = record { scope = scope; port = bind.inner }

-- The `in` and `out` lines of the group of a scope that have this port.
abbrev pub ins_in : Nest → GroupScope → List ℕ → List Bind
ins_in nest scope port = filter (λ bind. bytes_eq bind.port port) (binds_of nest (λ group. group.ins) scope.group)

abbrev pub out_in : Nest → GroupScope → List ℕ → Option Bind
out_in nest scope port = find (λ bind. bytes_eq bind.port port) (binds_of nest (λ group. group.outs) scope.group)

-- From an output of a group to the inner output of its `out` line, one level down.
abbrev pub step_down : Nest → Spot → Option Spot
step_down nest spot =
    option_and_then (λ scope. option_map (spot_in scope) (out_in nest scope spot.port.port)) (scope_at nest spot.scope spot.port.instance)

-- The output of a component that is reached from an output by `out` lines, with at most `depth` of them.
abbrev pub follow : Nest → ℕ → Spot → Spot
follow nest zero spot = spot
follow nest (suc depth) spot = unwrap_or (option_map (follow nest depth) (step_down nest spot)) spot

-- From an input of a group to the inner inputs of its `in` lines, in their order. An input of a component gives itself.
abbrev pub expand : Nest → Spot → List Spot
expand nest spot =
    unwrap_or (option_map (λ scope. map (spot_in scope) (ins_in nest scope spot.port.port)) (scope_at nest spot.scope spot.port.instance)) (spot ∷ [])

abbrev pub is_component : Nest → Spot → Bool
is_component nest spot = is_none (place_at nest spot.scope.group spot.port.instance)

abbrev pub same_group : Option ℕ → Option ℕ → Bool
same_group None None = true
same_group (Some one) (Some other) = one == other
same_group _ _ = false

abbrev pub same_spot : Spot → Spot → Bool
same_spot one other = bytes_eq one.scope.prefix other.scope.prefix && (same_group one.scope.group other.scope.group && same_port one.port other.port)

-- Each port once, at its first place, without those that are kept already.
abbrev pub distinct : List Spot → List Spot → List Spot
distinct kept [] = []
distinct kept (spot ∷ spots) = if list_any (same_spot spot) kept then distinct kept spots else (spot ∷ distinct (kept ++ (spot ∷ [])) spots)

-- The inputs of components that are reached from inputs by `in` lines, level by level. An input that is reached several
-- times is listed once.
abbrev pub reach : Nest → ℕ → List Spot → List Spot
reach nest zero spots = spots
reach nest (suc depth) spots =
    if list_all (is_component nest) spots then spots else reach nest depth (distinct [] (flat_map (expand nest) spots))

-- ---- Connections

-- What a connection of a scope becomes: one connection for each input that it reaches.
abbrev pub flat_wire : Nest → GroupScope → Wire → List Wire
flat_wire nest scope wire =
    map
    (λ to. record { from = flat_port (follow nest levels (record { scope = scope; port = wire.from })); to = flat_port to })
    (reach nest levels (record { scope = scope; port = wire.to } ∷ []))

-- The connections in a scope: its own, and then those inside each of its instances.
abbrev pub flat_wires : Nest → ℕ → GroupScope → List Wire
flat_wires nest zero scope = flat_map (flat_wire nest scope) (wires_of nest scope.group)
flat_wires nest (suc depth) scope =
    flat_map (flat_wire nest scope) (wires_of nest scope.group)
    ++ flat_map (λ instance. unwrap_or (option_map (flat_wires nest depth) (scope_of nest scope instance)) []) (instances_of nest scope.group)

-- ---- The flat system

abbrev pub flat_sample : Nest → PortName → PortName
flat_sample nest port = flat_port (follow nest levels (record { scope = top; port = port }))

abbrev pub flat_of : Nest → System
flat_of nest = record nest.main {
  instances = leaves nest levels top;
  wires = flat_wires nest levels top;
  samples = map (flat_sample nest) nest.main.samples;
}
