-- The invariants of units: each runs the component of its member.
use Rattle.std.specs.Prelude.{◌≡◌, map, ℤ, List}
use Rattle.std.specs.List.{AllZip}
use Rattle.trace_units.specs.Fleets.{Fleet}
use Rattle.trace_units.specs.declared.units.Units.TheInside.{Inside}
use Rattle.code_units.specs.Calls.{HasWordsFor}
use Rattle.unit_exec.specs.Images.{IsImageOf}
use Rattle.unit_exec.specs.Running.{Running}
use Rattle.unit_tree.specs.Components.{Component}
use Rattle.unit_tree.specs.Compositions.{Composition, run_of}

-- The unit runs the component, with a word for each of its states and inputs.
pub record IsRunOf (component : Component) (unit : Running) : Type 0 where
  pub image : IsImageOf component unit.image
  pub words : HasWordsFor unit.image.program unit.state unit.inputs

-- There is a unit for each member.
abbrev pub RunMembers : Composition → List Running → Type 0
RunMembers run units = AllZip (λ member unit. IsRunOf member.component unit) run.members units

abbrev pub states_held : List Running → List (List ℤ)
states_held units = map (λ unit. unit.state) units

abbrev pub inputs_held : List Running → List (List ℤ)
inputs_held units = map (λ unit. unit.inputs) units

abbrev pub fleet : Inside → Fleet
fleet units = record { plan = units.plan.value; states = states_held units.list.items; inputs = inputs_held units.list.items }

-- The plan is that of the run, and the units are those of its members.
pub record AreUnits (units : Inside) : Type 0 where
  pub run : units.plan.value.run ≡ run_of units.plan.value.system
  pub members : RunMembers units.plan.value.run units.list.items
