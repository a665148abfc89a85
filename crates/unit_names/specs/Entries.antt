-- What is declared in a unit, as lists of names with their types.
use Rattle.std.specs.Prelude.{ℕ, Bool, true, false, List, ◌++◌, map}
use Rattle.fixed_words.specs.declared.types.Ty.{Ty}
use Rattle.unit_tree.specs.Names.{Port}
use Rattle.unit_tree.specs.declared.unit.EventIn.{EventIn}
use Rattle.unit_tree.specs.declared.unit.EventOut.{EventOut}
use Rattle.unit_tree.specs.declared.unit.Input.{Input}
use Rattle.unit_tree.specs.declared.unit.Local.{Local}
use Rattle.unit_tree.specs.declared.unit.Output.{Output}
use Rattle.unit_tree.specs.declared.unit.Param.{Param}
use Rattle.unit_tree.specs.declared.unit.State.{State}
use Rattle.unit_tree.specs.declared.unit.Unit.{Unit}

-- A name with the type that it is declared with, and whether it is an event port.
pub record Named : Type 0 where
  pub name : List ℕ
  pub ty : Ty
  pub is_event : Bool

abbrev pub named : List ℕ → Ty → Named
named name ty = record { name = name; ty = ty; is_event = false }

abbrev pub event : List ℕ → Ty → Named
event name ty = record { name = name; ty = ty; is_event = true }

-- ---- The names of one sort

abbrev pub params_named : List Param → List Named
params_named params = map (λ param. named param.name param.ty) params

abbrev pub states_named : List State → List Named
states_named states = map (λ state. named state.name state.ty) states

abbrev pub locals_named : List Local → List Named
locals_named locals = map (λ local. named local.name local.ty) locals

abbrev pub inputs_named : List Input → List Named
inputs_named inputs = map (λ input. named input.name input.ty) inputs

abbrev pub events_in_named : List EventIn → List Named
events_in_named events = map (λ input. event input.name input.ty) events

abbrev pub outputs_named : List Output → List Named
outputs_named outputs = map (λ output. named output.name output.ty) outputs

abbrev pub events_out_named : List EventOut → List Named
events_out_named events = map (λ output. event output.name output.ty) events

-- ---- Lists of names that are searched together

-- All that a unit declares, in the canonical order of its lines.
abbrev pub lines_named : Unit → List Named
lines_named unit =
    params_named unit.params
    ++ states_named unit.states
    ++ locals_named unit.locals
    ++ inputs_named unit.inputs
    ++ events_in_named unit.events_in
    ++ outputs_named unit.outputs
    ++ events_out_named unit.events_out

-- All that a unit declares, in the order in which a name's type is searched.
abbrev pub types_named : Unit → List Named
types_named unit =
    params_named unit.params
    ++ states_named unit.states
    ++ inputs_named unit.inputs
    ++ locals_named unit.locals
    ++ events_in_named unit.events_in
    ++ outputs_named unit.outputs
    ++ events_out_named unit.events_out

-- The names that every expression of a unit may use.
abbrev pub shared_named : Unit → List Named
shared_named unit =
    params_named unit.params ++ states_named unit.states ++ inputs_named unit.inputs ++ events_in_named unit.events_in

-- The inputs, and the outputs, in the order of declaration, with event ports after the plain ones.
abbrev pub all_inputs_named : Unit → List Named
all_inputs_named unit = inputs_named unit.inputs ++ events_in_named unit.events_in

abbrev pub all_outputs_named : Unit → List Named
all_outputs_named unit = outputs_named unit.outputs ++ events_out_named unit.events_out

-- A port with its name, its type and whether it is an event port.
abbrev pub port_as_named : Port → Named
port_as_named port = record { name = port.name; ty = port.ty; is_event = port.is_event }
