-- The result of a step, which a run takes from an answer.
use Rattle.std.specs.Prelude.{ℕ, Result, Ok, Err}
use Rattle.code_units.specs.Calls.{Computes}
use Rattle.fixed_words.specs.declared.types.Fault.{Fault}
use Rattle.trace_core.specs.Runs.{RunState, IsKeyAt}
use Rattle.trace_units.specs.Fleets.{Fleet, with_state}
use Rattle.unit_answers.specs.Answers.{Answered}
use Rattle.unit_tree.specs.Components.{Moved}
use Rattle.unit_vm.specs.Reading.{program_in}

-- How many local ticks a step accepted, or its fault.
abbrev pub accepted_of : Result Moved Fault → Result ℕ Fault
accepted_of (Ok moved) = Ok moved.accepted
accepted_of (Err fault) = Err fault

-- The units after an instance got the state of its step. A fault changes nothing.
abbrev pub with_step : Fleet → ℕ → Result Moved Fault → Fleet
with_step fleet instance (Ok moved) = with_state fleet instance moved.state
with_step fleet instance (Err fault) = fleet

-- The answer is that of the step of an instance in the phase, and its code computes the instance's component.
pub record IsAnswerTo (r : RunState) (instance : ℕ) (one : Answered) : Type 0 where
  pub key : IsKeyAt r instance one.key
  pub computes : Computes (program_in one.key.code) key.member.component
