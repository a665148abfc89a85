-- Laws of the code of units.
use Rattle.std.specs.Prelude.{◌≡◌, ◌≤◌, ℕ, List, Some, slice_get}
use Rattle.code_units.specs.Calls.{Computes}
use Rattle.code_units.specs.Scopes.{scope_of}
use Rattle.code_units.specs.UnitPrograms.{output_code, limit_code, program_of, IsCompilable}
use Rattle.unit_tree.specs.Components.{Component}
use Rattle.unit_tree.specs.Costs.{expression_call_cost, step_call_cost}
use Rattle.unit_tree.specs.declared.expr.Expr.{Expr}
use Rattle.unit_tree.specs.declared.line.Line.{Line}
use Rattle.unit_tree.specs.declared.unit.Output.{Output}
use Rattle.unit_vm.specs.Loops.{cost_of}
use Rattle.unit_vm.specs.Checking.{IsValid}

abbrev pub ProgramsComputeUnits : Type 0
ProgramsComputeUnits = (component : Component) → IsCompilable component.unit component.params → Computes (program_of component.unit component.params) component

abbrev pub UnitProgramsAreValid : Type 0
UnitProgramsAreValid = (component : Component) → IsCompilable component.unit component.params → IsValid (program_of component.unit component.params)

-- The code of each call costs at most what the call costs by its tree.
pub record CodesAreCheap (component : Component) : Type 0 where
  pub outputs : (number : ℕ) (output : Output) → slice_get component.unit.outputs number ≡ Some output
      → cost_of (output_code (scope_of component.unit component.params) output) ≤ expression_call_cost output.value
  pub limit : (value : Expr) → component.unit.max ≡ Some value
      → cost_of (limit_code (scope_of component.unit component.params) value) ≤ expression_call_cost value
  pub step : (lines : List Line) → component.unit.step ≡ Some lines → cost_of (program_of component.unit component.params).step ≤ step_call_cost lines

abbrev pub CodesCostWhatTreesDo : Type 0
CodesCostWhatTreesDo = (component : Component) → IsCompilable component.unit component.params → CodesAreCheap component
