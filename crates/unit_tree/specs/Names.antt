-- The names of a unit, which of them each expression may use, and how deep an expression is.
use Rattle.std.specs.Prelude.{ℕ, suc, max, Bool, true, false, not, ◌&&◌, ◌||◌, List, [], ◌∷◌, ◌++◌, map, Option, Some, None, if◌then◌else◌}
use Rattle.std.specs.List.{list_any, list_all, find}
use Rattle.std.specs.Option.{option_map, option_and_then}
use Rattle.std.specs.Str.{bytes_eq}
use Rattle.fixed_words.specs.Types.{kind_of}
use Rattle.fixed_words.specs.declared.types.Ty.{Ty}
use Rattle.unit_tree.specs.Components.{variable, variables_of}
use Rattle.unit_tree.specs.Kinds.{KindsOfNames}
use Rattle.unit_tree.specs.LineForms.{Tail, OfExpression, tail_of}
use Rattle.unit_tree.specs.declared.environment.Variable.{Variable}
use Rattle.unit_tree.specs.declared.expr.Expr.{Expr, fold-Expr}
use Rattle.unit_tree.specs.declared.expr.Expr.TheOpen.{Expr-F}
use Rattle.unit_tree.specs.declared.line_form.LineForm.{LineForm}
use Rattle.unit_tree.specs.declared.system.Instance.{Instance}
use Rattle.unit_tree.specs.declared.system.PortName.{PortName}
use Rattle.unit_tree.specs.declared.system.System.{System}
use Rattle.unit_tree.specs.declared.unit.Param.{Param}
use Rattle.unit_tree.specs.declared.unit.Unit.{Unit}

-- ---- Expressions

-- The names in an expression, also those in `present`.
abbrev pub node_names : Expr-F (List (List ℕ)) → List (List ℕ)
node_names (Expr-F.Var name) = name ∷ []
node_names (Expr-F.Unary op arg) = arg
node_names (Expr-F.Binary op left right) = left ++ right
node_names (Expr-F.Clamp value low high) = value ++ low ++ high
node_names (Expr-F.Choose cond then_part else_part) = cond ++ then_part ++ else_part
node_names (Expr-F.Present name) = name ∷ []
node_names _ = []

abbrev pub names_in : Expr → List (List ℕ)
names_in = fold-Expr (List (List ℕ)) node_names

-- The names in `present` alone.
abbrev pub node_events : Expr-F (List (List ℕ)) → List (List ℕ)
node_events (Expr-F.Unary op arg) = arg
node_events (Expr-F.Binary op left right) = left ++ right
node_events (Expr-F.Clamp value low high) = value ++ low ++ high
node_events (Expr-F.Choose cond then_part else_part) = cond ++ then_part ++ else_part
node_events (Expr-F.Present name) = name ∷ []
node_events _ = []

abbrev pub events_asked_in : Expr → List (List ℕ)
events_asked_in = fold-Expr (List (List ℕ)) node_events

-- Which of the two clocks `t` and `h` an expression uses.
pub record Clocks : Type 0 where
  pub time : Bool
  pub step : Bool

abbrev pub no_clock : Clocks
no_clock = record { time = false; step = false }

abbrev pub either : Clocks → Clocks → Clocks
either one other = record { time = one.time || other.time; step = one.step || other.step }

-- The clocks that an expression uses.
abbrev pub node_clocks : Expr-F Clocks → Clocks
node_clocks Expr-F.Time = record { time = true; step = false }
node_clocks Expr-F.Step = record { time = false; step = true }
node_clocks (Expr-F.Unary op arg) = arg
node_clocks (Expr-F.Binary op left right) = either left right
node_clocks (Expr-F.Clamp value low high) = either value (either low high)
node_clocks (Expr-F.Choose cond then_part else_part) = either cond (either then_part else_part)
node_clocks _ = no_clock

abbrev pub clocks_in : Expr → Clocks
clocks_in = fold-Expr Clocks node_clocks

abbrev pub expression_in : Tail → Option Expr
expression_in (OfExpression value) = Some value
expression_in _ = None

-- The expression on a line, where it has one.
abbrev pub expression_on : LineForm → Option Expr
expression_on line = expression_in (tail_of line)

-- The depth of a tree: 1 for a leaf, else one more than its deepest part.
abbrev pub node_depth : Expr-F ℕ → ℕ
node_depth (Expr-F.Unary op arg) = suc arg
node_depth (Expr-F.Binary op left right) = suc (max left right)
node_depth (Expr-F.Clamp value low high) = suc (max value (max low high))
node_depth (Expr-F.Choose cond then_part else_part) = suc (max cond (max then_part else_part))
node_depth _ = 1

abbrev pub depth_of : Expr → ℕ
depth_of = fold-Expr ℕ node_depth

-- ---- The names of a unit

abbrev pub is_empty : {A : Type 0} → List A → Bool
is_empty [] = true
is_empty _ = false

abbrev pub is_among : List (List ℕ) → List ℕ → Bool
is_among names name = list_any (bytes_eq name) names

abbrev pub are_among : List (List ℕ) → List (List ℕ) → Bool
are_among names used = list_all (is_among names) used

abbrev pub param_names : Unit → List (List ℕ)
param_names unit = map (λ param. param.name) unit.params

-- A port of a unit: its type, whether it is an event port, and of an output the inputs in its needs.
pub record Port : Type 0 where
  pub name : List ℕ
  pub ty : Ty
  pub is_event : Bool
  pub needs : List (List ℕ)

-- The inputs of a unit in the order of declaration, with event inputs after the plain ones.
abbrev pub input_ports : Unit → List Port
input_ports unit =
    map (λ input. record { name = input.name; ty = input.ty; is_event = false; needs = [] }) unit.inputs
    ++ map (λ event. record { name = event.name; ty = event.ty; is_event = true; needs = [] }) unit.events_in

-- The outputs of a unit in the order of declaration, with event outputs after the plain ones.
abbrev pub output_ports : Unit → List Port
output_ports unit =
    map (λ output. record { name = output.name; ty = output.ty; is_event = false; needs = output.needs }) unit.outputs
    ++ map (λ event. record { name = event.name; ty = event.ty; is_event = true; needs = event.needs }) unit.events_out

abbrev pub port_names : List Port → List (List ℕ)
port_names ports = map (λ port. port.name) ports

abbrev pub input_names : Unit → List (List ℕ)
input_names unit = port_names (input_ports unit)

abbrev pub output_names : Unit → List (List ℕ)
output_names unit = port_names (output_ports unit)

abbrev pub event_input_names : Unit → List (List ℕ)
event_input_names unit = map (λ event. event.name) unit.events_in

-- What an expression may use: names, event inputs in `present`, and whether `t` and `h`.
pub record Uses : Type 0 where
  pub names : List (List ℕ)
  pub events : List (List ℕ)
  pub clocks : Clocks

-- An output may use parameters, states and inputs.
abbrev pub shared_names : Unit → List (List ℕ)
shared_names unit = param_names unit ++ map (λ state. state.name) unit.states ++ input_names unit

abbrev pub output_uses : Unit → Uses
output_uses unit = record { names = shared_names unit; events = event_input_names unit; clocks = no_clock }

-- `max` may use the same, and `t`.
abbrev pub max_uses : Unit → Uses
max_uses unit = record { names = shared_names unit; events = event_input_names unit; clocks = record { time = true; step = false } }

-- A step may use the same, locals, `t` and `h`.
abbrev pub step_uses : Unit → Uses
step_uses unit = record {
  names = map (λ local. local.name) unit.locals ++ shared_names unit;
  events = event_input_names unit;
  clocks = record { time = true; step = true };
}

abbrev pub are_allowed : Clocks → Clocks → Bool
are_allowed allowed used = (allowed.time || not used.time) && (allowed.step || not used.step)

-- The expression uses nothing but these.
abbrev pub keeps_to : Uses → Expr → Bool
keeps_to uses value =
    are_among uses.names (names_in value) && (are_among uses.events (events_asked_in value) && are_allowed uses.clocks (clocks_in value))

-- Everything that is declared in a unit, with its type.
abbrev pub declared_in : Unit → List Variable
declared_in unit =
    variables_of unit
    ++ map (λ event. variable event.name event.ty) unit.events_in
    ++ map (λ port. variable port.name port.ty) (output_ports unit)

-- The type that a name is declared with.
abbrev pub type_among : List Variable → List ℕ → Option Ty
type_among variables name = option_map (λ declared. declared.ty) (find (λ declared. bytes_eq declared.name name) variables)

abbrev pub type_in : Unit → List ℕ → Option Ty
type_in unit name = type_among (declared_in unit) name

abbrev pub kinds_in : Unit → KindsOfNames
kinds_in unit name = option_map kind_of (type_in unit name)

-- ---- The names of a system

-- The first unit of the name.
abbrev pub unit_named : List Unit → List ℕ → Option Unit
unit_named [] name = None
unit_named (unit ∷ units) name = if bytes_eq unit.name name then Some unit else unit_named units name

abbrev pub instance_named : System → List ℕ → Option Instance
instance_named system name = find (λ instance. bytes_eq instance.name name) system.instances

-- The unit of an instance.
abbrev pub unit_of_instance : System → Instance → Option Unit
unit_of_instance system instance = unit_named system.units instance.unit

-- The unit of the instance that a port names.
abbrev pub unit_at : System → PortName → Option Unit
unit_at system port = option_and_then (unit_of_instance system) (instance_named system port.instance)

abbrev pub port_named : List Port → List ℕ → Option Port
port_named ports name = find (λ port. bytes_eq port.name name) ports

abbrev pub param_named : List ℕ → Unit → Option Param
param_named name unit = find (λ param. bytes_eq param.name name) unit.params

-- The output, and the input, that a port names.
abbrev pub output_at : System → PortName → Option Port
output_at system port = option_and_then (λ unit. port_named (output_ports unit) port.port) (unit_at system port)

abbrev pub input_at : System → PortName → Option Port
input_at system port = option_and_then (λ unit. port_named (input_ports unit) port.port) (unit_at system port)

abbrev pub same_port : PortName → PortName → Bool
same_port one other = bytes_eq one.instance other.instance && bytes_eq one.port other.port
