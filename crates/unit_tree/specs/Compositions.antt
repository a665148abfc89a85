-- Compositions, which are what is run: the instances of a system as components, each with its clock and with the
-- source of each of its inputs. Names are resolved here; the definitions after this one use numbers.
use Rattle.std.specs.Prelude.{◌≡◌, ◌≤◌, ℕ, ◌-◌, ◌/◌, ◌^◌, min, ℤ, List, [], ◌∷◌, map, length, if◌then◌else◌, Option, Some, None}
use Rattle.std.specs.List.{AllByRecursion, filter_map, position_or_len}
use Rattle.std.specs.Option.{unwrap_or}
use Rattle.std.specs.Str.{bytes_eq}
use Rattle.model_rules.specs.Limits.{cell_limit, default_rows_limit, default_zeros}
use Rattle.fixed_words.specs.declared.types.Literal.{Literal}
use Rattle.super_time.specs.Seconds.{ticks_in}
use Rattle.unit_tree.specs.Components.{Component, start_word}
use Rattle.unit_tree.specs.Names.{unit_of_instance, same_port}
use Rattle.unit_tree.specs.Orders.{port_of, outputs_of, sources_of}
use Rattle.unit_tree.specs.Plain.{plain_form}
use Rattle.unit_tree.specs.WellFormed.{resolution_of}
use Rattle.unit_tree.specs.declared.system.Instance.{Instance}
use Rattle.unit_tree.specs.declared.system.PortName.{PortName}
use Rattle.unit_tree.specs.declared.system.Setting.{Setting}
use Rattle.unit_tree.specs.declared.system.System.{System}
use Rattle.unit_tree.specs.declared.unit.Input.{Input}
use Rattle.unit_tree.specs.declared.unit.Param.{Param}
use Rattle.unit_tree.specs.declared.unit.Unit.{Unit}

-- Where the word of an input comes from: its start word, or the output at a place. Places count all outputs, by
-- instance and then by declaration, from 0.
pub data InputSource : Type 0 where
  Start : ℤ → InputSource
  AtPlace : ℕ → InputSource

-- An instance as it is run: its component, how many ticks of the system one of its local ticks is, and the source
-- of each of its inputs.
pub record Member : Type 0 where
  pub component : Component
  pub factor : ℕ
  pub sources : List InputSource

-- A local tick is at least one tick of the system. Each parameter has a word, and each input a source.
pub record IsMember (member : Member) : Type 0 where
  pub factor : 1 ≤ member.factor
  pub params : length member.component.params ≡ length member.component.unit.params
  pub sources : length member.sources ≡ length member.component.unit.inputs

-- A composition: its members, the stop, the longest step, the zero budget (how many steps of length zero may
-- follow each other), and the row budget (how many rows there may be). The stop and the longest step are in
-- ticks.
pub record Composition : Type 0 where
  pub members : List Member
  pub stop : ℕ
  pub longest : ℕ
  pub zero_budget : ℕ
  pub row_budget : ℕ

abbrev pub AreMembers : Composition → Type 0
AreMembers run = AllByRecursion IsMember run.members

-- ---- The composition of a system

-- The literal of a parameter in an instance: the first that the instance sets, else the start of the parameter.
abbrev pub literal_set : List Setting → Param → Literal
literal_set [] param = param.start
literal_set (setting ∷ settings) param = if bytes_eq setting.name param.name then setting.value else literal_set settings param

abbrev pub component_with : List Setting → Unit → Component
component_with settings unit =
    record { unit = unit; params = map (λ param. start_word param.ty (literal_set settings param)) unit.params }

-- The place of an output: how many outputs come before it.
abbrev pub place_of : System → PortName → ℕ
place_of system port = position_or_len (same_port port) (outputs_of system)

-- The source of an input, given the outputs that are connected to it. No system that is run has more than one.
abbrev pub source_from : System → Input → List PortName → InputSource
source_from system input [] = Start (start_word input.ty input.start)
source_from system input (port ∷ others) = AtPlace (place_of system port)

abbrev pub source_of : System → Instance → Input → InputSource
source_of system instance input = source_from system input (sources_of system (port_of instance input.name))

-- An instance's local tick, in ticks of the system.
abbrev pub factor_of : System → Unit → ℕ
factor_of system unit = 10 ^ (resolution_of system - unwrap_or unit.resolution 0)

abbrev pub member_with : System → Instance → Option Unit → Option Member
member_with system instance None = None
member_with system instance (Some unit) = Some (record {
  component = component_with instance.settings unit;
  factor = factor_of system unit;
  sources = map (source_of system instance) unit.inputs;
})

-- The members of a system, in the order of its instances. An instance of a unit that is not declared is left out.
abbrev pub members_of : System → List Member
members_of system = filter_map (λ instance. member_with system instance (unit_of_instance system instance)) system.instances

-- A number of seconds in ticks of the system, or the default where none is given. Where it is not a whole number
-- of ticks it is 0; such a system is never run.
abbrev pub ticks_or : ℕ → ℕ → Option Literal → ℕ
ticks_or default resolution None = default
ticks_or default resolution (Some seconds) = unwrap_or (ticks_in resolution seconds) 0

abbrev pub stop_of : System → ℕ
stop_of system = ticks_or 0 (resolution_of system) system.stop

-- The row budget where the text gives none, by the version of the language. Rows times instances have a limit.
abbrev pub default_rows : ℕ → ℕ → ℕ
default_rows version instances = min (default_rows_limit version) (cell_limit / instances)

-- A system without event ports. The plain form of every system in range is one.
abbrev pub HasNoEvents : System → Type 0
HasNoEvents system = AllByRecursion (λ unit. (unit.events_in ≡ []) × (unit.events_out ≡ [])) system.units

-- What is run for a system without event ports. `longest` is `stop` where it is not given.
abbrev pub composition_of : System → Composition
composition_of system = record {
  members = members_of system;
  stop = stop_of system;
  longest = ticks_or (stop_of system) (resolution_of system) system.longest;
  zero_budget = unwrap_or system.zero (default_zeros system.version);
  row_budget = unwrap_or system.rows (default_rows system.version (length system.instances));
}

-- What is run for any system: the composition of its plain form.
abbrev pub run_of : System → Composition
run_of system = composition_of (plain_form system)
