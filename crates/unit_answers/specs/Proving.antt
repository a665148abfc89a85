-- How the code makes and stores proven answers.
use Rattle.std.specs.Prelude.{◌≡◌, ℕ, length, Some, IfOk}
use Rattle.code_units.specs.Calls.{meaning_of}
use Rattle.unit_answers.specs.Answers.{Answered, step_told}
use Rattle.unit_answers.specs.Keys.{key_held}
use Rattle.unit_answers.specs.declared.answer.Answer.{Answer}
use Rattle.unit_answers.specs.declared.proven.Proven.TheInside.{Inside}
use Rattle.unit_exec.specs.Running.{Running}

-- What contracts see of the private fields.
abbrev pub answered : Inside → Answered
answered one = record { row = one.row; key = key_held one.key; answer = step_told one.answer }

-- The answer is the result of the unit's step from its present state.
pub record IsStepOf (unit : Running) (time step : ℕ) (answer : Answer) : Type 0 where
  pub gives : meaning_of unit.image.program unit.state unit.inputs time step ≡ Some (step_told answer)
  pub each_state : IfOk (step_told answer) (λ moved. length moved.state ≡ length unit.state)
