-- Keys of steps, and what they mean.
use Rattle.std.specs.Prelude.{◌≤◌, ℕ, ◌+◌, ◌^◌, ℤ, List, Option, Result}
use Rattle.code_units.specs.Calls.{meaning_of, HasWordsFor}
use Rattle.fixed_words.specs.declared.types.Fault.{Fault}
use Rattle.unit_answers.specs.declared.key.Key.{Key}
use Rattle.unit_exec.specs.declared.want.Want.{Want}
use Rattle.unit_tree.specs.Components.{Moved}
use Rattle.unit_vm.specs.Programs.{program_words}
use Rattle.unit_vm.specs.Reading.{program_in}

-- All that a step of a component depends on: the words of its code, its state, the words of its inputs, the local time and the
-- local step.
pub record StepKey : Type 0 where
  pub code : List ℤ
  pub state : List ℤ
  pub inputs : List ℤ
  pub time : ℕ
  pub step : ℕ

-- The key of a required step.
abbrev pub key_of : Want → StepKey
key_of want = record {
  code = program_words want.image.now.value.program;
  state = want.state.now;
  inputs = want.inputs.now;
  time = want.time;
  step = want.step;
}

-- A stored key, which has an image in the place of its code.
abbrev pub key_held : Key → StepKey
key_held key = record {
  code = program_words key.image.value.program;
  state = key.state;
  inputs = key.inputs;
  time = key.time;
  step = key.step;
}

-- The key has one word for each state and for each input of its code, and the step ends within the range of times.
pub record FitsCode (key : StepKey) : Type 0 where
  pub words : HasWordsFor (program_in key.code) key.state key.inputs
  pub in_time : key.time + key.step ≤ 10 ^ 15

-- The meaning of a key: the result of its step. A run of the code from its entry for steps gives the state after the step and the
-- accepted length, or the fault. Valid code always gives one of the two (`valid_programs_answer` of unit_exec).
abbrev pub meaning : StepKey → Option (Result Moved Fault)
meaning key = meaning_of (program_in key.code) key.state key.inputs key.time key.step
