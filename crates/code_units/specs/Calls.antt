-- Calls of a component as runs of code: the result of a run from an entry, for a state and words of inputs.
use Rattle.std.specs.Prelude.{◌≡◌, ℕ, ℤ, pos, List, [], ◌∷◌, ◌++◌, length, take, replicate, unsigned_abs, Option, Some, None, Result, Ok, Err, slice_get}
use Rattle.fixed_words.specs.Operations.{Outcome}
use Rattle.fixed_words.specs.declared.types.Fault.{Fault}
use Rattle.unit_tree.specs.Components.{Component, Moved, get_of, max_of, step_of}
use Rattle.unit_tree.specs.declared.unit.Output.{Output}
use Rattle.unit_vm.specs.Machine.{Course, Ends, Faults, run_of}
use Rattle.unit_vm.specs.declared.instruction.Instruction.{Instruction}
use Rattle.unit_vm.specs.declared.program.Entry.TheVariants as entry
use Rattle.unit_vm.specs.declared.program.Program.{Program}
use Rattle.unit_vm.specs.declared.program.Sizes.{Sizes}

-- The slots of a call: the state, the words of the inputs, locals at 0, the local time and the step.
abbrev pub slots_with : Sizes → List ℤ → List ℤ → ℕ → ℕ → List ℤ
slots_with sizes state inputs time step = state ++ (inputs ++ (replicate sizes.locals (pos 0) ++ (pos time ∷ pos step ∷ [])))

-- The result of a course that has ended or met a fault: a word, a limit, or the state after a step with the accepted length. A
-- run of valid code always has one.
abbrev pub word_given : Course → Option Outcome
word_given (Ends work (Some word)) = Some (Ok word)
word_given (Faults failed) = Some (Err failed)
word_given _ = None

abbrev pub limit_given : Course → Option (Result (Option ℕ) Fault)
limit_given (Ends work (Some word)) = Some (Ok (Some (unsigned_abs word)))
limit_given (Faults failed) = Some (Err failed)
limit_given _ = None

abbrev pub moved_given : ℕ → Course → Option (Result Moved Fault)
moved_given states (Ends work result) = Some (Ok (record { state = take states work.slots; accepted = work.accepted }))
moved_given states (Faults failed) = Some (Err failed)
moved_given states _ = None

-- The result of an output's entry.
abbrev pub output_by : Program → List ℤ → List ℤ → ℕ → Option Outcome
output_by program state inputs number = word_given (run_of program (entry.Output number) (slots_with program.sizes state inputs 0 0))

-- The result of the limit's entry at a local time. Without such an entry there is no limit.
abbrev pub greatest_step_with : Option (List Instruction) → Program → List ℤ → List ℤ → ℕ → Option (Result (Option ℕ) Fault)
greatest_step_with None program state inputs time = Some (Ok None)
greatest_step_with (Some code) program state inputs time = limit_given (run_of program entry.Limit (slots_with program.sizes state inputs time 0))

abbrev pub greatest_step_by : Program → List ℤ → List ℤ → ℕ → Option (Result (Option ℕ) Fault)
greatest_step_by program state inputs time = greatest_step_with program.limit program state inputs time

-- The meaning of a step's key: the result of the step's entry for a state and words of inputs, at a local time, by a local step.
abbrev pub meaning_of : Program → List ℤ → List ℤ → ℕ → ℕ → Option (Result Moved Fault)
meaning_of program state inputs time step = moved_given program.sizes.states (run_of program entry.Step (slots_with program.sizes state inputs time step))

-- One word for each state, and one for each input.
pub record HasWordsFor (program : Program) (state inputs : List ℤ) : Type 0 where
  pub each_state : length state ≡ program.sizes.states
  pub each_input : length inputs ≡ program.sizes.inputs

-- A program computes a component: its entries return what the calls of the component do, for all words of states and inputs,
-- one each, and all times and steps.
pub record Computes (program : Program) (component : Component) : Type 0 where
  pub get : (state inputs : List ℤ) → HasWordsFor program state inputs → (number : ℕ) (output : Output) → slice_get component.unit.outputs number ≡ Some output
      → output_by program state inputs number ≡ Some (get_of component state inputs output)
  pub max : (state inputs : List ℤ) → HasWordsFor program state inputs → (time : ℕ)
      → greatest_step_by program state inputs time ≡ Some (max_of component state inputs time)
  pub step : (state inputs : List ℤ) → HasWordsFor program state inputs → (time step : ℕ)
      → meaning_of program state inputs time step ≡ Some (step_of component state inputs time step)
