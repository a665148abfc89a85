-- Worlds: a run, the lanes of its instances, and the tickets in the hands of workers.
use Rattle.std.specs.Prelude.{◌≡◌, ◌≤◌, ℕ, ◌==◌, List, [], length, map, replicate, if◌then◌else◌, Some, slice_get}
use Rattle.std.specs.List.{AllByRecursion, sum_by}
use Rattle.guess_board.specs.Events.{opened}
use Rattle.guess_board.specs.Lanes.{FitsImage, IsLane, LaneState, TicketState}
use Rattle.guess_board.specs.declared.guesses.Policy.{Policy}
use Rattle.model_rules.specs.Limits.{window_limit}
use Rattle.lane_outlook.specs.Outlooks.{cut_window}
use Rattle.trace_core.specs.Runs.{IsOpened, RunState, Stands}
use Rattle.trace_plan.specs.Plans.{ForMember, Planned}
use Rattle.unit_exec.specs.Images.{Compiled, IsImageOf}
use Rattle.unit_tree.specs.Compositions.{Composition}
use Rattle.unit_tree.specs.Successor.{first_position}

-- What contracts see of a world: the run, for how many rows lines are guessed and how, a lane for each instance, and a hand for
-- each worker. The first ticket of a hand is the next one.
pub record WorldState : Type 0 where
  pub run : RunState
  pub window : ℕ
  pub policy : Policy
  pub lanes : List LaneState
  pub hands : List (List TicketState)

-- ---- Tickets in hands

-- The value of a ticket of this instance, by its number; 0 for a ticket of another instance.
abbrev pub counted : ℕ → (ℕ → ℕ) → TicketState → ℕ
counted instance count ticket = if ticket.instance == instance then count ticket.number else 0

abbrev pub counted_in_hands : ℕ → (ℕ → ℕ) → List (List TicketState) → ℕ
counted_in_hands instance count hands = sum_by (λ hand. sum_by (counted instance count) hand) hands

-- The hands have exactly the outstanding tickets of an instance: any sum over their numbers is the same for both.
abbrev pub AreInHands : ℕ → List ℕ → List (List TicketState) → Type 0
AreInHands instance outstanding hands = (count : ℕ → ℕ) → sum_by count outstanding ≡ counted_in_hands instance count hands

-- How many tickets are in the hands.
abbrev pub tickets_in : List (List TicketState) → ℕ
tickets_in hands = sum_by (λ hand. length hand) hands

-- ---- The invariant of a world

-- The lane of an instance: it has the image of the instance's component, and its outstanding tickets are those in the hands.
pub record IsLaneOf (run : Composition) (hands : List (List TicketState)) (instance : ℕ) (lane : LaneState) : Type 0 where
  pub is_lane : IsLane lane
  pub own : lane.instance ≡ instance
  pub image : ForMember run instance (λ member. IsImageOf member.component lane.image)
  pub out : AreInHands instance lane.journal.outstanding hands

abbrev pub images_of : List LaneState → List Compiled
images_of lanes = map (λ lane. lane.image) lanes

-- A ticket is of an existing instance, and fits its image.
pub record FitsInstance (images : List Compiled) (ticket : TicketState) : Type 0 where
  pub image : Compiled
  pub is_image : slice_get images ticket.instance ≡ Some image
  pub fits : FitsImage image ticket

pub record IsWorld (world : WorldState) : Type 0 where
  pub stands : Stands world.run
  pub window : world.window ≤ window_limit
  pub each_instance : length world.lanes ≡ length world.run.plan.run.members
  pub lanes : (instance : ℕ) (lane : LaneState) → slice_get world.lanes instance ≡ Some lane → IsLaneOf world.run.plan.run world.hands instance lane
  pub tickets : (worker : ℕ) (hand : List TicketState) → slice_get world.hands worker ≡ Some hand
      → AllByRecursion (FitsInstance (images_of world.lanes)) hand

-- ---- The opened world

-- A lane for each instance, opened with its image.
pub record AreLanesOpened (run : Composition) (lanes : List LaneState) : Type 0 where
  pub each_instance : length lanes ≡ length run.members
  pub each : (instance : ℕ) (lane : LaneState) → slice_get lanes instance ≡ Some lane → lane ≡ opened lane.image instance
  pub images : (instance : ℕ) (lane : LaneState) → slice_get lanes instance ≡ Some lane
      → ForMember run instance (λ member. IsImageOf member.component lane.image)

-- A world is opened with the run at its start, opened lanes, and an empty hand for each worker.
pub record IsOpenedWorld (plan : Planned) (workers window : ℕ) (policy : Policy) (world : WorldState) : Type 0 where
  pub run : IsOpened plan (first_position plan.run) world.run
  pub is_window : world.window ≡ cut_window plan.run window
  pub is_policy : world.policy ≡ policy
  pub lanes : AreLanesOpened plan.run world.lanes
  pub hands : world.hands ≡ replicate workers []
