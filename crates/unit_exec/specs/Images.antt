-- The image of a component: its program, and the words with which states and inputs begin.
use Rattle.std.specs.Prelude.{◌≡◌, ℕ, ℤ, List, map, length, is_some, Option, slice_get}
use Rattle.std.specs.Option.{IfSome}
use Rattle.code_units.specs.Calls.{Computes}
use Rattle.code_units.specs.Scopes.{sizes_of}
use Rattle.code_units.specs.UnitPrograms.{program_of}
use Rattle.unit_tree.specs.Components.{Component, initial, start_word}
use Rattle.unit_tree.specs.Plain.{plain_form}
use Rattle.unit_tree.specs.declared.system.System.{System}
use Rattle.unit_tree.specs.declared.unit.Unit.{Unit}
use Rattle.unit_vm.specs.Programs.{program_words}
use Rattle.unit_vm.specs.Reading.{program_in}
use Rattle.unit_vm.specs.declared.program.Program.{Program}

pub record Compiled : Type 0 where
  pub program : Program
  pub start : List ℤ
  pub start_inputs : List ℤ

-- The words with which the inputs of a unit begin.
abbrev pub start_inputs_of : Unit → List ℤ
start_inputs_of unit = map (λ input. start_word input.ty input.start) unit.inputs

-- The image of a component: its program is the unit's, which computes the component's calls, for all words of states and
-- inputs. It has as many states, inputs and locals as the unit, and is read back from its words. The start words are the
-- component's.
pub record IsImageOf (component : Component) (image : Compiled) : Type 0 where
  pub is_program : image.program ≡ program_of component.unit component.params
  pub computes : Computes image.program component
  pub is_read : program_in (program_words image.program) ≡ image.program
  pub sizes : image.program.sizes ≡ sizes_of component.unit
  pub outputs : length image.program.outputs ≡ length component.unit.outputs
  pub limit : is_some image.program.limit ≡ is_some component.unit.max
  pub starts : image.start ≡ initial component
  pub inputs_start : image.start_inputs ≡ start_inputs_of component.unit

-- There is a start word for each state, and for each input.
pub record HasStarts (image : Compiled) : Type 0 where
  pub each_state : length image.start ≡ image.program.sizes.states
  pub each_input : length image.start_inputs ≡ image.program.sizes.inputs

-- The unit with this number in the plain form of a system.
abbrev pub unit_of_plain_form : System → ℕ → Option Unit
unit_of_plain_form system number = slice_get (plain_form system).units number

-- There is a word for each parameter of the unit.
abbrev pub HasParams : System → ℕ → List ℤ → Type 0
HasParams system number params = IfSome (unit_of_plain_form system number) (λ unit. length params ≡ length unit.params)

-- The image is that of the unit with this number, with words of its parameters.
abbrev pub IsCompiled : System → ℕ → List ℤ → Compiled → Type 0
IsCompiled system number params image = IfSome (unit_of_plain_form system number) (λ unit. IsImageOf (record { unit = unit; params = params }) image)
