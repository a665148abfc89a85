-- Outputs and inputs of units of a plan by their numbers. The plain form of the plan's system is the run that the plan has.
use Rattle.std.proofs.Common.{◌≡◌, ◌∙◌, ◌<◌, ℕ, ℤ, List, length, get_or, Option, ap, sym, subst}
use Rattle.std.specs.Prelude.{IsSome}
use Rattle.fixed_words.specs.Operations.{Outcome}
use Rattle.trace_plan.specs.Plans.{Planned}
use Rattle.trace_units.specs.Fleets.{Fleet}
use Rattle.trace_units.specs.Members.{RunMembers, states_held, inputs_held}
use Rattle.trace_units.proofs.FleetCalls.{seen_of}
use Rattle.trace_units.proofs.FleetLaws.{Asks, unit_at, asks, asked_within, takes, set_within}
use Rattle.code_units.specs.Calls.{output_by}
use Rattle.unit_exec.specs.Running.{Running}
use Rattle.unit_tree.specs.Compositions.{Composition}
use Rattle.unit_tree.specs.Given.{given_by, IsInputWord}
use Rattle.unit_tree.specs.declared.system.System.{System}

module _ (run_from : System → Composition) (plan : Planned) (units : List Running) (seen : Fleet) (is : seen_of plan units ≡ seen)
    (tied : plan.run ≡ run_from plan.system) (runs : RunMembers plan.run units) (instance number : ℕ) where
  -- The outcome, as contracts see it.
  abbrev given : Fleet → Option Outcome
  given fleet = given_by (run_from fleet.plan.system) fleet.states fleet.inputs instance number

  given_is : given seen ≡ given_by plan.run (states_held units) (inputs_held units) instance number
  given_is = ap given (sym is) ∙ ap (λ run. given_by run (states_held units) (inputs_held units) instance number) (sym tied)

  module _ (there : IsSome (given seen)) where
    there_at : IsSome (given_by plan.run (states_held units) (inputs_held units) instance number)
    there_at = subst IsSome given_is there

    pub instance_asked : instance < length seen.plan.run.members
    instance_asked = subst (λ fleet. instance < length fleet.plan.run.members) is (asked_within plan.run units instance number there_at)

    module _ (unit : Running) (here : unit ≡ get_or units instance unit) where
      asked : Asks plan.run units instance unit number
      asked = asks plan.run units instance number unit
          (unit_at plan.run.members units instance unit runs (asked_within plan.run units instance number there_at) here) there_at

      pub output_within : number < length unit.image.program.outputs
      output_within = asked.within

      pub output_seen : given seen ≡ output_by unit.image.program unit.state unit.inputs number
      output_seen = given_is ∙ asked.gives

  module _ (word : ℤ) (suits : IsInputWord (run_from seen.plan.system) instance number word) where
    suits_at : IsInputWord plan.run instance number word
    suits_at =
        subst (λ run. IsInputWord run instance number word) (sym tied)
        (subst (λ (fleet : Fleet). IsInputWord (run_from fleet.plan.system) instance number word) (sym is) suits)

    pub instance_set : instance < length seen.plan.run.members
    instance_set = subst (λ fleet. instance < length fleet.plan.run.members) is (set_within plan.run units instance number word suits_at)

    pub input_within : (unit : Running) → unit ≡ get_or units instance unit → number < length unit.inputs
    input_within unit here =
        takes plan.run units instance number word unit
        (unit_at plan.run.members units instance unit runs (set_within plan.run units instance number word suits_at) here) suits_at
