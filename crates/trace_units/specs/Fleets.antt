-- The units of a plan at some moment: what contracts see of them, and what a step of one does.
use Rattle.std.specs.Prelude.{◌≡◌, ℕ, ℤ, List, [], map, slice_get, slice_set, slice_index_or, Some, Result, Ok, Err}
use Rattle.fixed_words.specs.declared.types.Fault.{Fault}
use Rattle.trace_plan.specs.Plans.{Planned}
use Rattle.unit_exec.specs.Images.{start_inputs_of}
use Rattle.unit_tree.specs.Components.{step_of}
use Rattle.unit_tree.specs.Compositions.{Member, Composition}

-- A plan, with the state and the words of the inputs of each instance.
pub record Fleet : Type 0 where
  pub plan : Planned
  pub states : List (List ℤ)
  pub inputs : List (List ℤ)

-- The start words of all inputs.
abbrev pub start_inputs : Composition → List (List ℤ)
start_inputs run = map (λ member. start_inputs_of member.component.unit) run.members

-- The fact holds of the member, the state and the inputs of the instance with a number.
abbrev pub ForUnit : Fleet → ℕ → (Member → List ℤ → List ℤ → Type 0) → Type 0
ForUnit fleet instance Holds =
    (member : Member) (state inputs : List ℤ) → slice_get fleet.plan.run.members instance ≡ Some member → slice_get fleet.states instance ≡ Some state
    → slice_get fleet.inputs instance ≡ Some inputs
    → Holds member state inputs

-- The units after an instance got another state.
abbrev pub with_state : Fleet → ℕ → List ℤ → Fleet
with_state fleet instance state = record fleet { states = slice_set fleet.states instance state }

-- An instance made its step. It has moved to its present state and accepted a length, or it met the fault and kept its state.
abbrev pub Steps : Fleet → ℕ → ℕ → ℕ → Result ℕ Fault → Fleet → Type 0
Steps old instance time step (Ok accepted) new =
    ForUnit old instance (λ member state inputs. step_of member.component state inputs time step
    ≡ Ok (record { state = slice_index_or new.states instance []; accepted = accepted }))
    × (new ≡ with_state old instance (slice_index_or new.states instance []))
Steps old instance time step (Err fault) new =
    ForUnit old instance (λ member state inputs. step_of member.component state inputs time step ≡ Err fault) × (new ≡ old)
