-- Ports of a nest: the scopes of its lines, the ports that lines name, and how these are connected.
use Rattle.std.specs.Prelude.{◌≡◌, ℕ, zero, suc, false, if◌then◌else◌, Some, Contains}
use Rattle.unit_tree.specs.declared.system.Instance.{Instance}
use Rattle.unit_tree.specs.declared.system.PortName.{PortName}
use Rattle.unit_tree.specs.declared.system.Wire.{Wire}
use Rattle.nest_text.specs.declared.nest.Nest.{Nest}
use Rattle.nest_names.specs.Flattening.{top, scope_of, instances_of, wires_of, is_component, flat_port, expand, step_down}
use Rattle.nest_names.specs.declared.scope.GroupScope.{GroupScope}
use Rattle.nest_names.specs.declared.scope.Spot.{Spot}

-- ---- Scopes

-- One scope is inside another: it is that of an instance there, whose unit is a group.
pub record IsInside (nest : Nest) (outer scope : GroupScope) : Type 0 where
  pub instance : Instance
  pub stands : Contains (instances_of nest outer.group) instance
  pub leads : scope_of nest outer instance ≡ Some scope

-- A scope at this depth: that of `main`, or one inside a scope that is one level less deep.
abbrev pub IsScopeAt : Nest → ℕ → GroupScope → Type 0
IsScopeAt nest zero scope = scope ≡ top
IsScopeAt nest (suc depth) scope = (outer : GroupScope) × IsScopeAt nest depth outer × IsInside nest outer scope

abbrev pub IsScope : Nest → GroupScope → Type 0
IsScope nest scope = (depth : ℕ) × IsScopeAt nest depth scope

-- ---- Ports

-- A port of a component or of a group. A port of a group is given by the scope and the name of its instance. A
-- component has one name in all scopes, which is its name in the flat system.
pub data NestPort : Type 0 where
  OfComponent : PortName → NestPort
  OfGroup : Spot → NestPort

abbrev pub spot_of : GroupScope → PortName → Spot
spot_of scope port = record { scope = scope; port = port }

-- The port that a name in a scope means. Of several instances with one name the first is meant. A port of an instance
-- that doesn't exist there may be one of a component of another scope.
abbrev pub port_at : Nest → Spot → NestPort
port_at nest spot = if is_component nest spot then OfComponent (flat_port spot) else OfGroup spot

-- ---- Lines

-- A connection of some scope goes from an output to an input.
pub record Connects (nest : Nest) (from to : NestPort) : Type 0 where
  pub scope : GroupScope
  pub wire : Wire
  pub is_scope : IsScope nest scope
  pub stands : Contains (wires_of nest scope.group) wire
  pub from_is : from ≡ port_at nest (spot_of scope wire.from)
  pub to_is : to ≡ port_at nest (spot_of scope wire.to)

-- An `in` line goes from an input of a group to an input inside.
pub record LeadsIn (nest : Nest) (outer inner : NestPort) : Type 0 where
  pub spot : Spot
  pub next : Spot
  pub is_scope : IsScope nest spot.scope
  pub of_group : is_component nest spot ≡ false
  pub line : Contains (expand nest spot) next
  pub outer_is : outer ≡ port_at nest spot
  pub inner_is : inner ≡ port_at nest next

-- An `out` line goes from an output inside to an output of a group.
pub record LeadsOut (nest : Nest) (outer inner : NestPort) : Type 0 where
  pub spot : Spot
  pub next : Spot
  pub is_scope : IsScope nest spot.scope
  pub line : step_down nest spot ≡ Some next
  pub outer_is : outer ≡ port_at nest spot
  pub inner_is : inner ≡ port_at nest next
