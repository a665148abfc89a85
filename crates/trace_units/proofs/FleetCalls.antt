-- Calls of one of the units of a plan, from what contracts see of them.
use Rattle.std.proofs.Common.{◌≡◌, ◌∙◌, ◌<◌, ℕ, ℤ, List, [], length, get_or, set, Option, Some, Result, Ok, Err, refl, ap, sym, subst}
use Rattle.std.proofs.lemmas.Option.{same_Some}
use Rattle.std.specs.Prelude.{slice_get, slice_set, slice_index_or}
use Rattle.fixed_words.specs.declared.types.Fault.{Fault}
use Rattle.port_solve.specs.Solved.{HaveStates, HaveInputs}
use Rattle.trace_plan.specs.Plans.{Planned}
use Rattle.trace_units.specs.Fleets.{Fleet, ForUnit, Steps, with_state}
use Rattle.trace_units.specs.Members.{RunMembers, states_held, inputs_held}
use Rattle.trace_units.proofs.FleetLaws.{IsAt, unit_at, as_many, have_states, have_inputs, still_run, states_with, inputs_with, states_stay, inputs_stay}
use Rattle.trace_units.proofs.FleetLaws.{state_of_changed, state_there, inputs_there}
use Rattle.code_units.specs.Calls.{greatest_step_by, meaning_of}
use Rattle.unit_exec.specs.Running.{Running}
use Rattle.unit_exec.specs.Running as one
use Rattle.unit_tree.specs.Components.{Moved, max_of, step_of}
use Rattle.unit_tree.specs.Compositions.{Member}
use Rattle.unit_tree.specs.Given.{with_input}

-- What contracts see of units of a plan.
abbrev pub seen_of : Planned → List Running → Fleet
seen_of plan units = record { plan = plan; states = states_held units; inputs = inputs_held units }

same_seen : (plan : Planned) (states others inputs fed : List (List ℤ)) → states ≡ others → inputs ≡ fed
    → ◌≡◌ {A = Fleet} (record { plan = plan; states = states; inputs = inputs }) (record { plan = plan; states = others; inputs = fed })
same_seen plan states others inputs fed one other =
    ap (λ some. record { plan = plan; states = some; inputs = inputs }) one ∙ ap (λ some. record { plan = plan; states = others; inputs = some }) other

module _ (plan : Planned) (units : List Running) (seen : Fleet) (is : seen_of plan units ≡ seen) (runs : RunMembers plan.run units) where
  pub states_had : HaveStates seen.plan.run seen.states
  states_had = subst (λ fleet. HaveStates fleet.plan.run fleet.states) is (have_states plan.run units runs)

  pub inputs_had : HaveInputs seen.plan.run seen.inputs
  inputs_had = subst (λ fleet. HaveInputs fleet.plan.run fleet.inputs) is (have_inputs plan.run units runs)

  module _ (instance : ℕ) (there : instance < length seen.plan.run.members) where
    within : instance < length plan.run.members
    within = subst (λ fleet. instance < length fleet.plan.run.members) (sym is) there

    pub has_unit : instance < length units
    has_unit = subst (λ count. instance < count) (sym (as_many plan.run units runs)) within

    module _ (unit : Running) (here : unit ≡ get_or units instance unit) where
      at : IsAt plan.run.members units instance unit
      at = unit_at plan.run.members units instance unit runs within here

      pub state_seen : slice_get seen.states instance ≡ Some unit.state
      state_seen = subst (λ fleet. slice_get fleet.states instance ≡ Some unit.state) is at.state_is

      pub inputs_seen : slice_get seen.inputs instance ≡ Some unit.inputs
      inputs_seen = subst (λ fleet. slice_get fleet.inputs instance ≡ Some unit.inputs) is at.inputs_are

      pub as_long : slice_index_or seen.states instance [] ≡ unit.state
      as_long = subst (λ fleet. slice_index_or fleet.states instance [] ≡ unit.state) is (state_there plan.run.members units instance unit at)

      for_unit : (Holds : Member → List ℤ → List ℤ → Type 0) → Holds at.member unit.state unit.inputs → ForUnit seen instance Holds
      for_unit Holds holds = subst (λ fleet. ForUnit fleet instance Holds) is (λ member state inputs member_is state_is inputs_are.
          subst (λ some. Holds some state inputs) (same_Some at.member member (sym at.member_is ∙ member_is))
          (subst (λ some. Holds at.member some inputs) (same_Some unit.state state (sym at.state_is ∙ state_is))
          (subst (λ some. Holds at.member unit.state some) (same_Some unit.inputs inputs (sym at.inputs_are ∙ inputs_are)) holds)))

      pub limit_seen : (time : ℕ) (told : Result (Option ℕ) Fault) → greatest_step_by unit.image.program unit.state unit.inputs time ≡ Some told
          → ForUnit seen instance (λ member state inputs. max_of member.component state inputs time ≡ told)
      limit_seen time told gives =
          for_unit (λ member state inputs. max_of member.component state inputs time ≡ told)
          (same_Some (max_of at.member.component unit.state unit.inputs time) told
          (sym (at.runs.image.computes.max unit.state unit.inputs at.runs.words time) ∙ gives))

      moved_seen : (time step : ℕ) (moved : Result Moved Fault) → meaning_of unit.image.program unit.state unit.inputs time step ≡ Some moved
          → ForUnit seen instance (λ member state inputs. step_of member.component state inputs time step ≡ moved)
      moved_seen time step moved means =
          for_unit (λ member state inputs. step_of member.component state inputs time step ≡ moved)
          (same_Some (step_of at.member.component unit.state unit.inputs time step) moved
          (sym (at.runs.image.computes.step unit.state unit.inputs at.runs.words time step) ∙ means))

      -- The unit has another state.
      pub given_state : (new : Running) (state : List ℤ) → new ≡ record unit { state = state }
          → seen_of plan (set units instance new) ≡ with_state seen instance state
      given_state new state given =
          same_seen plan (states_held (set units instance new)) (set (states_held units) instance state)
          (inputs_held (set units instance new)) (inputs_held units)
          (states_with units instance new ∙ ap (λ (some : Running). set (states_held units) instance some.state) given)
          (inputs_stay plan.run.members units instance unit new at (ap (λ (some : Running). some.inputs) given))
          ∙ ap (λ fleet. with_state fleet instance state) is

      pub unit_stays : (new : Running) → new ≡ unit → seen_of plan (set units instance new) ≡ seen
      unit_stays new same =
          same_seen plan (states_held (set units instance new)) (states_held units) (inputs_held (set units instance new)) (inputs_held units)
          (states_stay plan.run.members units instance unit new at (ap (λ (some : Running). some.state) same))
          (inputs_stay plan.run.members units instance unit new at (ap (λ (some : Running). some.inputs) same))
          ∙ is

      pub step_seen : (time step : ℕ) (result : Result ℕ Fault) (new : Running) → one.Steps unit time step result new
          → Steps seen instance time step result (seen_of plan (set units instance new))
      step_seen time step (Ok accepted) new steps =
          let same : slice_index_or (states_held (set units instance new)) instance [] ≡ new.state =
          state_of_changed plan.run.members units instance unit new at in (
            subst (λ state. ForUnit seen instance
                (λ member had inputs. step_of member.component had inputs time step ≡ Ok (record { state = state; accepted = accepted })))
                (sym same)
                (moved_seen time step (Ok (record { state = new.state; accepted = accepted })) steps.0),
            subst (λ state. seen_of plan (set units instance new) ≡ with_state seen instance state) (sym same) (given_state new new.state steps.1),
          )
      step_seen time step (Err fault) new steps = (moved_seen time step (Err fault) steps.0, unit_stays new steps.1)

      -- Units run as before, where the unit keeps its image and how many words it has.
      pub kept_by : (new : Running) (state inputs : List ℤ) → new ≡ record unit { state = state; inputs = inputs } → length state ≡ length unit.state
          → length inputs ≡ length unit.inputs → RunMembers plan.run (set units instance new)
      kept_by new state inputs given states_long inputs_long = still_run plan.run units instance unit new here (record {
        image = ap (λ (some : Running). some.image) given;
        states = ap (λ (some : Running). length some.state) given ∙ states_long;
        inputs = ap (λ (some : Running). length some.inputs) given ∙ inputs_long;
      }) runs

      pub kept_stepped : (time step : ℕ) (result : Result ℕ Fault) (new : Running) → one.Steps unit time step result new
          → length new.state ≡ length unit.state → RunMembers plan.run (set units instance new)
      kept_stepped time step (Ok accepted) new steps long = kept_by new new.state unit.inputs steps.1 long refl
      kept_stepped time step (Err fault) new steps long = kept_by new unit.state unit.inputs steps.1 refl refl

      -- An input of the unit has another word.
      pub given_word : (new : Running) (number : ℕ) (word : ℤ) → new ≡ record unit { inputs = slice_set unit.inputs number word }
          → inputs_held (set units instance new) ≡ with_input seen.inputs instance number word
      given_word new number word given =
          inputs_with units instance new
          ∙ ap (λ (some : Running). set (inputs_held units) instance some.inputs) given
          ∙ ap (λ words. set (inputs_held units) instance (slice_set words number word)) (sym (inputs_there plan.run.members units instance unit at))
          ∙ ap (λ fleet. with_input fleet.inputs instance number word) is

      pub states_kept : (new : Running) (inputs : List ℤ) → new ≡ record unit { inputs = inputs } → states_held (set units instance new) ≡ seen.states
      states_kept new inputs given =
          states_stay plan.run.members units instance unit new at (ap (λ (some : Running). some.state) given) ∙ ap (λ fleet. fleet.states) is
