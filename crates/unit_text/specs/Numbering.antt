-- The numbers of the lines of a text that were read so far, by groups.
use Rattle.std.specs.Prelude.{ℕ, List, [], ◌∷◌, ◌++◌, Option, Some, None}
use Rattle.std.specs.Borrow.{Bor}
use Rattle.std.specs.List.{flat_map, fold}
use Rattle.unit_tree.specs.Parts.{joined}
use Rattle.unit_tree.specs.declared.line_form.LineForm.{LineForm}
use Rattle.unit_tree.specs.declared.line_form.LineForm.TheVariants as form
use Rattle.unit_text.specs.Nesting.{Open, AtTop, InUnit, InStep, InInstance}
use Rattle.unit_text.specs.declared.draft.OpenBlock.{OpenBlock}
use Rattle.unit_text.specs.declared.draft.OpenBlock.TheVariants as block
use Rattle.unit_text.specs.declared.numbers.Group.{Group}
use Rattle.unit_text.specs.declared.numbers.Group.TheVariants as lines
use Rattle.unit_text.specs.declared.numbers.Mark.{Mark}
use Rattle.unit_text.specs.declared.numbers.Numbers.{Numbers}
use Rattle.unit_text.specs.declared.numbers.BlockPlace.{BlockPlace}
use Rattle.unit_text.specs.declared.numbers.BlockPlace.TheVariants as place
use Rattle.unit_text.specs.declared.numbers.UnitNumbers.{UnitNumbers}

-- The numbers in slices, joined in their order.
abbrev pub joined_slices : List (Bor (List ℕ)) → List ℕ
joined_slices = flat_map (λ slice. slice.now)

-- ---- Places

-- The place of a line that follows the open block.
abbrev pub place_in : OpenBlock → BlockPlace
place_in block.Top = place.Top
place_in (block.Unit unit) = place.Unit
place_in (block.Step unit step) = place.Step
place_in (block.Instance instance) = place.Instance

-- The same for what lines nest to.
abbrev pub place_of : Open → BlockPlace
place_of AtTop = place.Top
place_of (InUnit name unit_parts) = place.Unit
place_of (InStep name unit_parts inner) = place.Step
place_of (InInstance instance) = place.Instance

-- ---- No lines

-- No numbers of a unit.
abbrev pub no_unit_numbers : UnitNumbers
no_unit_numbers = record {
  head = [];
  resolution = [];
  params = [];
  states = [];
  locals = [];
  inputs = [];
  events_in = [];
  outputs = [];
  events_out = [];
  max = [];
  step = [];
}

-- The number of the header alone.
abbrev pub bare_numbers : ℕ → Numbers
bare_numbers header = record {
  header = header ∷ [];
  units = [];
  instances = [];
  wires = [];
  stop = [];
  longest = [];
  zero = [];
  rows = [];
  samples = [];
  unit = no_unit_numbers;
}

-- ---- Groups

-- The group of a line in this place, after the header. None where it is not allowed there.
abbrev pub group_of : BlockPlace → LineForm → Option Group
group_of place.Step some = Some lines.Step
group_of place.Instance some = Some lines.Instances
group_of place.Unit (form.Resolution decimals) = Some lines.Resolution
group_of place.Unit (form.Param param) = Some lines.Params
group_of place.Unit (form.State state) = Some lines.States
group_of place.Unit (form.Local local) = Some lines.Locals
group_of place.Unit (form.Input input) = Some lines.Inputs
group_of place.Unit (form.EventInput event) = Some lines.EventInputs
group_of place.Unit (form.Output output) = Some lines.Outputs
group_of place.Unit (form.EventOutput event) = Some lines.EventOutputs
group_of place.Unit (form.Max value) = Some lines.Max
group_of place.Unit form.Step = Some lines.Step
group_of place.Unit form.End = Some lines.UnitEnd
group_of place.Unit _ = None
group_of place.Top (form.Unit name) = Some lines.UnitHead
group_of place.Top (form.Instance name unit) = Some lines.Instances
group_of place.Top (form.Connect wire) = Some lines.Wires
group_of place.Top (form.Stop seconds) = Some lines.Stop
group_of place.Top (form.Longest seconds) = Some lines.Longest
group_of place.Top (form.Zero count) = Some lines.Zero
group_of place.Top (form.Rows count) = Some lines.Rows
group_of place.Top (form.Sample port) = Some lines.Samples
group_of place.Top _ = None

-- ---- One line more

-- With a line of the open unit that does not end it.
abbrev pub in_unit_group : UnitNumbers → Group → ℕ → UnitNumbers
in_unit_group unit lines.UnitHead number = record unit { head = unit.head ++ (number ∷ []) }
in_unit_group unit lines.Resolution number = record unit { resolution = unit.resolution ++ (number ∷ []) }
in_unit_group unit lines.Params number = record unit { params = unit.params ++ (number ∷ []) }
in_unit_group unit lines.States number = record unit { states = unit.states ++ (number ∷ []) }
in_unit_group unit lines.Locals number = record unit { locals = unit.locals ++ (number ∷ []) }
in_unit_group unit lines.Inputs number = record unit { inputs = unit.inputs ++ (number ∷ []) }
in_unit_group unit lines.EventInputs number = record unit { events_in = unit.events_in ++ (number ∷ []) }
in_unit_group unit lines.Outputs number = record unit { outputs = unit.outputs ++ (number ∷ []) }
in_unit_group unit lines.EventOutputs number = record unit { events_out = unit.events_out ++ (number ∷ []) }
in_unit_group unit lines.Max number = record unit { max = unit.max ++ (number ∷ []) }
in_unit_group unit lines.Step number = record unit { step = unit.step ++ (number ∷ []) }
in_unit_group unit _ number = unit

-- The numbers of a unit in canonical order, without its `end`.
abbrev pub unit_in_order : UnitNumbers → List ℕ
unit_in_order unit =
    joined (unit.head ∷ unit.resolution ∷ unit.params ∷ unit.states ∷ unit.locals ∷ unit.inputs ∷ unit.events_in ∷ unit.outputs ∷ unit.events_out ∷ unit.max
    ∷ unit.step ∷ [])

-- The `end` of a unit: its lines are added to those of the units before it.
abbrev pub unit_end : Numbers → ℕ → Numbers
unit_end numbers number =
    record numbers { units = numbers.units ++ unit_in_order numbers.unit ++ (number ∷ []); unit = no_unit_numbers }

-- A line of an instance.
abbrev pub instance_line : Numbers → ℕ → Numbers
instance_line numbers number = record numbers { instances = numbers.instances ++ (number ∷ []) }

-- A line of a group.
abbrev pub with_number : Numbers → Group → ℕ → Numbers
with_number numbers lines.UnitEnd number = unit_end numbers number
with_number numbers lines.Instances number = instance_line numbers number
with_number numbers lines.Wires number = record numbers { wires = numbers.wires ++ (number ∷ []) }
with_number numbers lines.Stop number = record numbers { stop = numbers.stop ++ (number ∷ []) }
with_number numbers lines.Longest number = record numbers { longest = numbers.longest ++ (number ∷ []) }
with_number numbers lines.Zero number = record numbers { zero = numbers.zero ++ (number ∷ []) }
with_number numbers lines.Rows number = record numbers { rows = numbers.rows ++ (number ∷ []) }
with_number numbers lines.Samples number = record numbers { samples = numbers.samples ++ (number ∷ []) }
with_number numbers of_unit number = record numbers { unit = in_unit_group numbers.unit of_unit number }

-- A line, if it is in a group.
abbrev pub with_group : Numbers → Option Group → ℕ → Numbers
with_group numbers None number = numbers
with_group numbers (Some some) number = with_number numbers some number

-- A line in this place, after the header.
abbrev pub with_line : Numbers → BlockPlace → LineForm → ℕ → Numbers
with_line numbers at some number = with_group numbers (group_of at some) number

-- ---- Marks

abbrev pub marks_of : Option Group → ℕ → List Mark
marks_of None number = []
marks_of (Some some) number = record { group = some; number = number } ∷ []

abbrev pub with_mark : Numbers → Mark → Numbers
with_mark numbers mark = with_number numbers mark.group mark.number

-- With lines, in their order.
abbrev pub with_marks : Numbers → List Mark → Numbers
with_marks numbers marks = fold with_mark numbers marks

-- All numbers in canonical order, if no unit is open.
abbrev pub in_order : Numbers → List ℕ
in_order numbers =
    joined (numbers.header ∷ numbers.units ∷ numbers.instances ∷ numbers.wires ∷ numbers.stop ∷ numbers.longest ∷ numbers.zero ∷ numbers.rows
    ∷ numbers.samples ∷ [])
