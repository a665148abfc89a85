-- A unit that runs.
use Rattle.std.specs.Prelude.{◌≡◌, ℕ, ◌+◌, ℤ, List, ◌++◌, length, take, drop, if◌then◌else◌, Some, Result, Ok, Err}
use Rattle.fixed_words.specs.Operations.{Outcome}
use Rattle.fixed_words.specs.Types.{is_word_of}
use Rattle.fixed_words.specs.declared.types.Fault.{Fault}
use Rattle.fixed_words.specs.declared.types.Fault.TheVariants as fault
use Rattle.fixed_words.specs.declared.types.Ty.{Ty}
use Rattle.code_units.specs.Calls.{meaning_of}
use Rattle.unit_exec.specs.Images.{Compiled}
use Rattle.unit_vm.specs.Frames.{Held}
use Rattle.unit_vm.specs.Valid.{HasFacts}

-- A unit: its image, its state, and the words of its inputs.
pub record Running : Type 0 where
  pub image : Compiled
  pub state : List ℤ
  pub inputs : List ℤ

-- A unit at its start.
abbrev pub opened : Compiled → Running
opened image = record { image = image; state = image.start; inputs = image.start_inputs }

-- The frame is made for the image, and there is one word for each state and each input.
pub record HasFrameFor (image : Compiled) (frame : Held) (words fed : List ℤ) : Type 0 where
  pub made : HasFacts image.program frame.facts
  pub each_state : length words ≡ image.program.sizes.states
  pub each_input : length fed ≡ image.program.sizes.inputs

-- A step was made: it changed the state and accepted a length, or met the fault and left the state. Image and inputs stay.
abbrev pub Steps : Running → ℕ → ℕ → Result ℕ Fault → Running → Type 0
Steps old time step (Ok accepted) new =
    (meaning_of old.image.program old.state old.inputs time step ≡ Some (Ok (record { state = new.state; accepted = accepted })))
    × (new ≡ record old { state = new.state })
Steps old time step (Err fault) new = (meaning_of old.image.program old.state old.inputs time step ≡ Some (Err fault)) × (new ≡ old)

-- Words with some of them overwritten, from a place on.
abbrev pub overwritten : List ℤ → ℕ → List ℤ → List ℤ
overwritten words first put = take first words ++ (put ++ drop (first + length put) words)

-- The result of an output: the word, where it is of the type, and otherwise the fault.
abbrev pub given_word : Ty → ℤ → Outcome
given_word ty word = if is_word_of ty word then Ok word else Err fault.Range
