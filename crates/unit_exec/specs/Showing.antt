-- Outputs that only return the word of a state, and limits that are the same in each state.
use Rattle.std.specs.Prelude.{◌≡◌, ℕ, pos, ◌<◌, List, [], ◌∷◌, Option, Some, slice_get}
use Rattle.fixed_words.specs.declared.types.Ty.{Ty}
use Rattle.unit_vm.specs.declared.instruction.Instruction.{Instruction}
use Rattle.unit_vm.specs.declared.instruction.Instruction.TheVariants.{Load, Give, Push, Limit}
use Rattle.unit_vm.specs.declared.program.Program.{Program}

-- A part returns the word of a state's slot, if it is of the type, and does nothing else.
pub record ShowsBy (part : List Instruction) (states : ℕ) (shown : ℕ × Ty) : Type 0 where
  pub is : part ≡ Load shown.0 ∷ Give shown.1 ∷ []
  pub within : shown.0 < states

-- An output of a program does so.
abbrev pub Shows : Program → ℕ → (ℕ × Ty) → Type 0
Shows program output shown = (part : List Instruction) → slice_get program.outputs output ≡ Some part → ShowsBy part program.sizes.states shown

-- Each output for which this is noted does so.
abbrev pub ShowStates : Program → List (Option (ℕ × Ty)) → Type 0
ShowStates program all = (output : ℕ) (shown : ℕ × Ty) → slice_get all output ≡ Some (Some shown) → Shows program output shown

-- The limit of a program is this one in each state, since its part only pushes it.
abbrev pub HasSteadyLimit : Program → ℕ → Type 0
HasSteadyLimit program limit = program.limit ≡ Some (Push (pos limit) ∷ Limit ∷ [])
