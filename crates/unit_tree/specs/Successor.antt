-- The successor of a position: the next one, or how the run ends there.
use Rattle.std.specs.Prelude.{ℕ, suc, ◌+◌, ◌==◌, nat_lt, Bool, true, false, ◌&&◌, ℤ, List, [], ◌∷◌, map, zip, if◌then◌else◌, Option, Some, None, Result, Ok}
use Rattle.std.specs.List.{enumerate_from, filter_map}
use Rattle.std.specs.Option.{option_map, option_and_then}
use Rattle.std.specs.Result.{result_err}
use Rattle.fixed_words.specs.declared.types.Fault.{Fault}
use Rattle.super_time.specs.LocalTime.{local_step}
use Rattle.super_time.specs.declared.point.Point.{Point}
use Rattle.unit_tree.specs.Components.{Moved, initial}
use Rattle.unit_tree.specs.Compositions.{Member, Composition}
use Rattle.unit_tree.specs.Negotiation.{proposal_of, agreed_step, max_at, limit_at, step_at, reply_at, state_after}
use Rattle.unit_tree.specs.Ports.{Ports, Standing, first_some, port_fault}
use Rattle.unit_tree.specs.declared.ending.Ending.{Ending}
use Rattle.unit_tree.specs.declared.ending.Ending.TheVariants.{Completed, RowBudget, ZeroBudget, UnitFault, StepRefused}
use Rattle.unit_tree.specs.declared.ending.Place.TheVariants as place

-- A point of the run, the state of each member there, and the number of the row, from 0.
pub record Position : Type 0 where
  pub point : Point
  pub states : List (List ℤ)
  pub number : ℕ

-- The position at which a run starts.
abbrev pub first_position : Composition → Position
first_position run =
    record { point = record { t = 0; n = 0 }; states = map (λ member. initial member.component) run.members; number = 0 }

-- The members with their states at a position.
abbrev pub standings : Composition → Position → List Standing
standings run at = zip run.members at.states

-- ---- The step from a position, for its port assignment

-- The limits that members set.
abbrev pub limits : Composition → Position → Ports → List ℕ
limits run at ports = filter_map (limit_at at.point.t ports) (standings run at)

-- The proposed step.
abbrev pub proposed : Composition → Position → Ports → ℕ
proposed run at ports = proposal_of run.stop run.longest at.point.t (limits run at ports)

-- The results of the members' steps of length h, from the states of the position.
abbrev pub steps_by : Composition → Position → Ports → ℕ → List (Option (Result Moved Fault))
steps_by run at ports h = map (step_at at.point.t h ports) (standings run at)

-- The trial: the results of steps of the proposed length.
abbrev pub trial : Composition → Position → Ports → List (Option (Result Moved Fault))
trial run at ports = steps_by run at ports (proposed run at ports)

-- The replies to a step of length h.
abbrev pub replies_to : Composition → Position → Ports → ℕ → List ℕ
replies_to run at ports h = map (reply_at at.point.t h) (zip run.members (steps_by run at ports h))

-- The agreed step: the least reply to the proposed step.
abbrev pub agreed : Composition → Position → Ports → ℕ
agreed run at ports = agreed_step (proposed run at ports) (replies_to run at ports (proposed run at ports))

-- The step from the position is made again where the agreed step is shorter than the proposed one.
abbrev pub is_redone : Composition → Position → Ports → Bool
is_redone run at ports = nat_lt (agreed run at ports) (proposed run at ports)

-- ---- How a run ends at a position. Each ending has its own condition, whether or not that of another holds too.

abbrev pub when : {A : Type 0} → Bool → A → Option A
when true given = Some given
when false given = None

-- The first ending that one of the items gives. Items are numbered from 0.
abbrev pub first_told : {A : Type 0} → (ℕ × A → Option Ending) → List A → Option Ending
first_told tell items = first_some (map tell (enumerate_from 0 items))

-- The ending at the stop.
abbrev pub stop_end : Composition → Position → Option Ending
stop_end run at = when (at.point.t == run.stop) Completed

-- The ending with the last row that there may be.
abbrev pub row_end : Composition → Position → Option Ending
row_end run at = when (suc at.number == run.row_budget) RowBudget

-- The ending by a fault of a `max`: the first, by instance.
abbrev pub max_end_of : ℕ × Result (Option ℕ) Fault → Option Ending
max_end_of (instance, told) = option_map (UnitFault instance place.Max) (result_err told)

abbrev pub max_end : Composition → Position → Ports → Option Ending
max_end run at ports = first_told max_end_of (map (max_at at.point.t ports) (standings run at))

-- The ending by a fault of a step: the first, by instance.
abbrev pub step_end_of : ℕ × Option (Result Moved Fault) → Option Ending
step_end_of (instance, step) = option_map (UnitFault instance place.Step) (option_and_then result_err step)

abbrev pub trial_end : Composition → Position → Ports → Option Ending
trial_end run at ports = first_told step_end_of (trial run at ports)

-- The ending in a redo, a step of the agreed length that is shorter than the proposed one. It is given by the first
-- member, by instance, with a fault or with an accepted length below its local step.
abbrev pub redo_end_of : ℕ → ℕ → ℕ × (Member × Option (Result Moved Fault)) → Option Ending
redo_end_of t h (instance, (member, Some (Ok moved))) =
    when (nat_lt moved.accepted (local_step member.factor t h)) (StepRefused instance (local_step member.factor t h) moved.accepted)
redo_end_of t h (instance, (member, step)) = step_end_of (instance, step)

abbrev pub redo_end_by : Composition → Position → Ports → ℕ → Option Ending
redo_end_by run at ports h = first_told (redo_end_of at.point.t h) (zip run.members (steps_by run at ports h))

abbrev pub redo_end : Composition → Position → Ports → Option Ending
redo_end run at ports = if is_redone run at ports then redo_end_by run at ports (agreed run at ports) else None

-- The ending by the zero budget: it is spent, and the agreed step has length zero.
abbrev pub zero_end : Composition → Position → Ports → Option Ending
zero_end run at ports = when ((agreed run at ports == 0) && (at.point.n == run.zero_budget)) ZeroBudget

-- The endings in the order in which they are judged.
abbrev pub ends_at : Composition → Position → Ports → List (Option Ending)
ends_at run at ports =
    port_fault run at.states ports
    ∷ stop_end run at
    ∷ row_end run at
    ∷ max_end run at ports
    ∷ trial_end run at ports
    ∷ redo_end run at ports
    ∷ zero_end run at ports
    ∷ []

-- ---- The successor

-- The point after a step.
abbrev pub point_after : Point → ℕ → Point
point_after point h = if h == 0 then record { t = point.t; n = suc point.n } else record { t = point.t + h; n = 0 }

-- The position after the agreed step.
abbrev pub after : Composition → Position → Ports → Position
after run at ports = record {
  point = point_after at.point (agreed run at ports);
  states = map state_after (zip at.states (steps_by run at ports (agreed run at ports)));
  number = suc at.number;
}

-- What follows a position: another one, or the end of the run.
pub data Next : Type 0 where
  goes : Position → Next
  ends : Ending → Next

abbrev pub ends_or : Option Ending → Position → Next
ends_or None next = goes next
ends_or (Some ending) next = ends ending

-- The successor of a position for its port assignment: the first ending that there is, or else the position after
-- the agreed step.
abbrev pub successor : Composition → Position → Ports → Next
successor run at ports = ends_or (first_some (ends_at run at ports)) (after run at ports)
