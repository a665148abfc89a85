-- The steps of all members in a trial or a redo, by the replies that are known.
use Rattle.std.specs.Prelude.{ℕ, Bool, true, false, List, map, zip, Option, Some, None}
use Rattle.link_laws.specs.declared.fact.Said.{Said}
use Rattle.link_laws.specs.declared.fact.Said.TheVariants.{Accepted, Fault}
use Rattle.step_rule.specs.declared.steps.Slot.{Slot}
use Rattle.step_rule.specs.declared.steps.Slot.TheVariants.{Held, Empty, Took, Failed}
use Rattle.step_rule.specs.declared.steps.Step.{Step}
use Rattle.super_time.specs.LocalTime.{local_step}
use Rattle.unit_tree.specs.Compositions.{Member}
use Rattle.unit_tree.specs.Negotiation.{is_held}

-- The slot of a member that makes a step.
abbrev pub slot_said : Option Said → Slot
slot_said None = Empty
slot_said (Some (Accepted accepted)) = Took accepted
slot_said (Some (Fault fault)) = Failed fault

-- The slot of a member that is held, or that makes a step.
abbrev pub slot_known : Bool → Option Said → Slot
slot_known true said = Held
slot_known false said = slot_said said

-- The step of a member in a step of h from t, by its reply.
abbrev pub step_known : ℕ → ℕ → Member × Option Said → Step
step_known t h (member, said) = record {
  factor = member.factor;
  asked = local_step member.factor t h;
  slot = slot_known (is_held member.factor t h) said;
}

-- The steps of all members, by their replies.
abbrev pub steps_known : ℕ → ℕ → List Member → List (Option Said) → List Step
steps_known t h members replies = map (step_known t h) (zip members replies)
