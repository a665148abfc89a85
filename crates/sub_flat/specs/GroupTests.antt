-- The tests of groups that the rules make.
use Rattle.std.specs.Prelude.{ℕ, Bool, false, not, ◌&&◌, ◌||◌, List, map, is_none}
use Rattle.std.specs.List.{list_any}
use Rattle.std.specs.Option.{option_map, unwrap_or}
use Rattle.unit_tree.specs.Names.{is_among, is_empty}
use Rattle.unit_tree.specs.declared.system.Instance.{Instance}
use Rattle.unit_tree.specs.declared.system.PortName.{PortName}
use Rattle.unit_tree.specs.declared.system.Wire.{Wire}
use Rattle.nest_text.specs.declared.nest.Bind.{Bind}
use Rattle.nest_text.specs.declared.nest.Group.{Group}
use Rattle.nest_text.specs.declared.nest.Nest.{Nest}
use Rattle.nest_names.specs.Flattening.{group_place, instance_among}
use Rattle.nest_names.specs.GroupPorts.{has_input, has_output, says_out_twice, stands_again}
use Rattle.sub_flat.specs.declared.asks.Side.{Side}
use Rattle.sub_flat.specs.declared.asks.Side.TheVariants as sides

-- ---- Names

abbrev pub has_wrong_name : Nest → Group → Bool
has_wrong_name nest group =
    stands_again (map (λ other. other.name) nest.groups) group.name || is_among (map (λ unit. unit.name) nest.main.units) group.name

abbrev pub is_misnamed : Nest → Group → Bool
is_misnamed nest group = has_wrong_name nest group || is_empty group.instances

-- ---- Ports

-- Whether the port of an instance exists; `has` is whether its unit has it.
abbrev pub is_there : (List ℕ → List ℕ → Bool) → List Instance → PortName → Bool
is_there has instances port = unwrap_or (option_map (λ instance. has instance.unit port.port) (instance_among instances port.instance)) false

-- The end of a connection at a group doesn't exist. Ends at components, and at instances that don't exist, are judged
-- by the rules of the flat system.
abbrev pub misses_group : Nest → (List ℕ → List ℕ → Bool) → PortName → Instance → Bool
misses_group nest has port instance = not (is_none (group_place nest instance.unit)) && not (has instance.unit port.port)

abbrev pub misses : Nest → (List ℕ → List ℕ → Bool) → List Instance → PortName → Bool
misses nest has instances port = unwrap_or (option_map (misses_group nest has port) (instance_among instances port.instance)) false

abbrev pub wire_misses : Nest → List Instance → Wire → Bool
wire_misses nest instances wire = misses nest (has_output nest) instances wire.from || misses nest (has_input nest) instances wire.to

abbrev pub misbinds : (List ℕ → List ℕ → Bool) → List Instance → Bind → Bool
misbinds has instances bind = not (is_there has instances bind.inner)

abbrev pub misses_port : Nest → Group → Bool
misses_port nest group =
    list_any (misbinds (has_input nest) group.instances) group.ins
    || (list_any (misbinds (has_output nest) group.instances) group.outs
    || (list_any (wire_misses nest group.instances) group.wires || says_out_twice group.outs))

abbrev pub sets_group : Nest → Instance → Bool
sets_group nest instance = not (is_none (group_place nest instance.unit)) && not (is_empty instance.settings)

abbrev pub main_misses_port : Nest → Bool
main_misses_port nest =
    list_any (wire_misses nest nest.main.instances) nest.main.wires
    || (list_any (misses nest (has_output nest) nest.main.instances) nest.main.samples || list_any (sets_group nest) nest.main.instances)

-- ---- In the form of the code

-- The inputs or the outputs of a unit or group.
abbrev pub has_side : Nest → Side → List ℕ → List ℕ → Bool
has_side nest sides.Input = has_input nest
has_side nest sides.Output = has_output nest
