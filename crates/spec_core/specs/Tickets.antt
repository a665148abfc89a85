-- Tickets of a world: the outstanding ones are exactly those in the hands, and none is outstanding after a drain.
use Rattle.std.specs.Prelude.{◌≡◌, ℕ, suc, ◌+◌, true, List, [], ◌∷◌, ◌++◌, length, map, replicate, None, Some, slice_get}
use Rattle.std.specs.List.{AllByRecursion, AllZip, sum_by}
use Rattle.guess_board.specs.Events.{is_of}
use Rattle.guess_board.specs.Journals.{Tally, replay_of}
use Rattle.guess_board.specs.Lanes.{LaneState, TicketState}
use Rattle.spec_core.specs.Interleavings.{Done, Leads}
use Rattle.spec_core.specs.Worlds.{IsWorld, WorldState, counted_in_hands, tickets_in}
use Rattle.spec_core.specs.declared.event.Event.{Event}
use Rattle.spec_core.specs.declared.event.Event.TheVariants as event
use Rattle.spec_core.specs.declared.event.Reply.TheVariants as reply

-- ---- Tickets in hands

-- What follows from the journal of a lane.
abbrev pub tally_of : LaneState → Tally
tally_of lane = replay_of lane.journal.records

-- A ticket is outstanding in the lane of its instance. So no post of it is refused there, and no back.
pub record IsOut (lanes : List LaneState) (ticket : TicketState) : Type 0 where
  pub lane : LaneState
  pub is_lane : slice_get lanes ticket.instance ≡ Some lane
  pub own : is_of lane ticket ≡ true

-- Each ticket in a hand is outstanding.
abbrev pub TicketsAreOut : Type 0
TicketsAreOut =
    (world : WorldState) (worker : ℕ) (hand : List TicketState) → IsWorld world → slice_get world.hands worker ≡ Some hand
    → AllByRecursion (IsOut world.lanes) hand

-- How many tickets of an instance are in the hands.
abbrev pub tickets_of_instance : ℕ → List (List TicketState) → ℕ
tickets_of_instance instance hands = counted_in_hands instance (λ number. 1) hands

-- Each ticket that a lane made was posted, was given back, or is in a hand.
abbrev pub TicketsAddUp : Type 0
TicketsAddUp =
    (world : WorldState) (instance : ℕ) (lane : LaneState) → IsWorld world → slice_get world.lanes instance ≡ Some lane
    → (tally_of lane).tickets ≡ (tally_of lane).posted + (tally_of lane).back + tickets_of_instance instance world.hands

-- The same of all tickets of all lanes.
abbrev pub AllTicketsAddUp : Type 0
AllTicketsAddUp =
    (world : WorldState) → IsWorld world
    → sum_by (λ lane. (tally_of lane).tickets) world.lanes
    ≡ sum_by (λ lane. (tally_of lane).posted) world.lanes + sum_by (λ lane. (tally_of lane).back) world.lanes + tickets_in world.hands

-- ---- Drained worlds

-- No ticket of a lane is outstanding or current any more: all were posted or given back. All else, including answers, is as before.
pub record IsDrainedLane (old new : LaneState) : Type 0 where
  pub is : new ≡ record old { journal = new.journal }
  pub none_out : new.journal.outstanding ≡ []
  pub none_current : new.journal.current ≡ None
  pub ended : (tally_of new).tickets ≡ (tally_of new).posted + (tally_of new).back

-- The tickets of hands are given back hand by hand, beginning with the worker of this number.
abbrev pub backs_from : ℕ → List (List TicketState) → List Event
backs_from worker [] = []
backs_from worker (hand ∷ hands) = replicate (length hand) (event.Back worker) ++ backs_from (suc worker) hands

-- All tickets of all hands were given back, so many, hand by hand from the first.
pub record IsDrained (old new : WorldState) (count : ℕ) : Type 0 where
  pub past : List Done
  pub leads : Leads old past new
  pub backs : map (λ one. one.event) past ≡ backs_from 0 old.hands
  pub each : AllByRecursion (λ one. one.reply ≡ reply.Back) past
  pub counted : count ≡ tickets_in old.hands
  pub hands : new.hands ≡ map (λ hand. []) old.hands
  pub run : new.run ≡ old.run
  pub lanes : AllZip IsDrainedLane old.lanes new.lanes
