-- Laws of units that run.
use Rattle.std.specs.Prelude.{◌<◌, Option, Result, ◌≡◌, ℕ, ℤ, List, length, Some, slice_get}
use Rattle.fixed_words.specs.Operations.{Outcome}
use Rattle.fixed_words.specs.declared.types.Fault.{Fault}
use Rattle.code_units.specs.Calls.{output_by, greatest_step_by, meaning_of, HasWordsFor}
use Rattle.code_units.specs.UnitPrograms.{IsCompilable}
use Rattle.unit_tree.specs.Components.{Moved}
use Rattle.unit_tree.specs.Plain.{plain_form}
use Rattle.unit_tree.specs.Printable.{IsRanged}
use Rattle.unit_tree.specs.WellFormed.{IsWellFormed}
use Rattle.unit_tree.specs.declared.system.System.{System}
use Rattle.unit_tree.specs.declared.unit.Unit.{Unit}
use Rattle.unit_vm.specs.Checking.{IsValid}
use Rattle.unit_vm.specs.declared.program.Program.{Program}

-- The units of the plain form of a system that is in range and well-formed may be compiled, with one word for each parameter.
abbrev pub CheckedUnitsAreCompilable : Type 0
CheckedUnitsAreCompilable =
    (system : System) → IsRanged system → IsWellFormed system → (number : ℕ) (unit : Unit) → slice_get (plain_form system).units number ≡ Some unit
    → (params : List ℤ) → length params ≡ length unit.params
    → IsCompilable unit params

-- Each entry of a program has a result for a state and words of inputs.
pub record Answers (program : Program) (state inputs : List ℤ) : Type 0 where
  pub output : (number : ℕ) → number < length program.outputs → (outcome : Outcome) × (output_by program state inputs number ≡ Some outcome)
  pub limit : (time : ℕ) → (told : Result (Option ℕ) Fault) × (greatest_step_by program state inputs time ≡ Some told)
  pub step : (time step : ℕ) → (moved : Result Moved Fault) × (meaning_of program state inputs time step ≡ Some moved)

-- A valid program has a result for each call, for all words of states and inputs, one each, and all times and steps.
abbrev pub ValidProgramsAnswer : Type 0
ValidProgramsAnswer = (program : Program) → IsValid program → (state inputs : List ℤ) → HasWordsFor program state inputs → Answers program state inputs
