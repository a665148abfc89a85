-- What follows from the steps of all components in a phase. An empty slot has no result yet: it neither ends the run nor shortens the
-- step.
use Rattle.std.specs.Prelude.{ℕ, nat_lt, Bool, true, false, List, map, zip, Option, Some, None, Result, Ok, Err, ◌≡◌}
use Rattle.std.specs.List.{AllByRecursion}
use Rattle.fixed_words.specs.declared.types.Fault.{Fault}
use Rattle.super_time.specs.LocalTime.{local_step}
use Rattle.step_rule.specs.declared.steps.Slot.{Slot}
use Rattle.step_rule.specs.declared.steps.Slot.TheVariants.{Held, Empty, Took, Failed}
use Rattle.step_rule.specs.declared.steps.Step.{Step}
use Rattle.unit_tree.specs.Components.{Moved}
use Rattle.unit_tree.specs.Compositions.{Member}
use Rattle.unit_tree.specs.Negotiation.{least_of, reply_of}
use Rattle.unit_tree.specs.Successor.{first_told, when}
use Rattle.unit_tree.specs.declared.ending.Ending.{Ending}
use Rattle.unit_tree.specs.declared.ending.Ending.TheVariants.{UnitFault, StepRefused}
use Rattle.unit_tree.specs.declared.ending.Place.TheVariants as place

-- ---- One step

-- The slot has the result of its step, or no step is made.
abbrev pub is_full : Slot → Bool
is_full Empty = false
is_full _ = true

-- The result of the step is known, or no step is made.
abbrev pub is_made : Step → Bool
is_made step = is_full step.slot

-- The reply to a step of h from t.
abbrev pub slot_reply : ℕ → ℕ → ℕ → Slot → ℕ
slot_reply factor t h (Took accepted) = reply_of factor t h accepted
slot_reply factor t h _ = h

-- The reply of the component.
abbrev pub reply_by : ℕ → ℕ → Step → ℕ
reply_by t h step = slot_reply step.factor t h step.slot

-- How the step ends the run in a trial: by its fault.
abbrev pub slot_end : ℕ → Slot → Option Ending
slot_end instance (Failed fault) = Some (UnitFault instance place.Step fault)
slot_end instance _ = None

abbrev pub ends_trial : ℕ × Step → Option Ending
ends_trial (instance, step) = slot_end instance step.slot

-- How the step ends the run in a redo: by its fault, or because it accepted less than was asked.
abbrev pub slot_redo_end : ℕ → ℕ → Slot → Option Ending
slot_redo_end instance asked (Took accepted) = when (nat_lt accepted asked) (StepRefused instance asked accepted)
slot_redo_end instance asked other = slot_end instance other

abbrev pub ends_redo : ℕ × Step → Option Ending
ends_redo (instance, step) = slot_redo_end instance step.asked step.slot

-- ---- All steps

-- The ending, where there is one, and otherwise the length.
abbrev pub ending_or : Option Ending → ℕ → Result ℕ Ending
ending_or (Some ending) length = Err ending
ending_or None length = Ok length

-- What follows from a trial of h from t: the end by the first fault, or the least of h and of all replies.
abbrev pub trial_result : ℕ → ℕ → List Step → Result ℕ Ending
trial_result t h steps = ending_or (first_told ends_trial steps) (least_of h (map (reply_by t h) steps))

-- How a redo ends the run, if it does: by the first component that has a fault or accepts less than was asked.
abbrev pub redo_result : List Step → Option Ending
redo_result steps = first_told ends_redo steps

-- ---- What is asked

-- The component is asked to make the local step of a step of h from t.
abbrev pub IsAsked : ℕ → ℕ → Step → Type 0
IsAsked t h step = step.asked ≡ local_step step.factor t h

-- Each component is asked to make its local step.
abbrev pub AreAsked : ℕ → ℕ → List Step → Type 0
AreAsked t h steps = AllByRecursion (IsAsked t h) steps

-- ---- Steps of members

-- The slot of the result of a member's step: a held member has none.
abbrev pub result_slot : Option (Result Moved Fault) → Slot
result_slot None = Held
result_slot (Some (Ok moved)) = Took moved.accepted
result_slot (Some (Err fault)) = Failed fault

-- The step of a member in a step of h from t, by its result.
abbrev pub member_step : ℕ → ℕ → Member × Option (Result Moved Fault) → Step
member_step t h (member, result) = record { factor = member.factor; asked = local_step member.factor t h; slot = result_slot result }

-- The steps of all members, by their results.
abbrev pub member_steps : ℕ → ℕ → List Member → List (Option (Result Moved Fault)) → List Step
member_steps t h members results = map (member_step t h) (zip members results)
