-- How the code keeps a world, and what its parts do.
use Rattle.std.specs.Prelude.{◌≡◌, ◌+◌, ℕ, map, Bool, true, false, List, [], ◌∷◌, ◌++◌, length, Some, None, Result, Ok, Err, Vec, slice_get, slice_set}
use Rattle.std.specs.Global.{Global}
use Rattle.std.specs.List.{AllZip}
use Rattle.std.specs.Result.{IsErr}
use Rattle.guess_board.specs.Events.{is_of, taken, ticket_of}
use Rattle.guess_board.specs.Lanes.{FitsImage, IsLane, LaneState, TicketState}
use Rattle.guess_board.specs.declared.fault.LaneFault.{LaneFault}
use Rattle.guess_board.specs.declared.fault.LaneFault.TheVariants as fault
use Rattle.spec_core.specs.Events.{posted_by}
use Rattle.spec_core.specs.Worlds.{IsWorld, WorldState}
use Rattle.spec_core.specs.declared.event.Reply.{Reply}
use Rattle.spec_core.specs.declared.event.Reply.TheVariants as reply
use Rattle.spec_core.specs.declared.world.World.TheInside.{Inside}
use Rattle.unit_exec.specs.Running.{Running}

-- A hand, as the code has it.
abbrev pub Held : Type 0
Held = Vec TicketState Global

abbrev pub tickets_of : List Held → List (List TicketState)
tickets_of hands = map (λ hand. hand.items) hands

-- What contracts see of a world.
abbrev pub world_state : Inside → WorldState
world_state world = record {
  run = world.run;
  window = world.window;
  policy = world.policy;
  lanes = world.lanes.items;
  hands = tickets_of world.hands.items;
}

-- The unit that makes the answers to a lane's tickets has the image of the lane.
abbrev pub IsUnitOf : LaneState → Running → Type 0
IsUnitOf lane unit = unit.image ≡ lane.image

-- Each of the lanes has the invariant of lanes.
abbrev pub AreLanes : List LaneState → Type 0
AreLanes lanes = (instance : ℕ) (lane : LaneState) → slice_get lanes instance ≡ Some lane → IsLane lane

-- It is a world, its run is that of its plan, and it has a unit for each lane.
pub record IsKept (world : Inside) : Type 0 where
  pub is_world : IsWorld (world_state world)
  pub tied : world.run.plan ≡ world.plan.value
  pub units : AllZip IsUnitOf world.lanes.items world.units.items

-- A ticket of a lane was taken into a hand, or there was none.
abbrev pub TakesInto : LaneState → List TicketState → LaneState → List TicketState → Bool → Type 0
TakesInto lane hand new_lane new_hand true =
    (ticket : TicketState) × (ticket_of lane ≡ Some ticket) × (new_lane ≡ taken lane) × (new_hand ≡ hand ++ ticket ∷ [])
TakesInto lane hand new_lane new_hand false = (ticket_of lane ≡ None) × (new_lane ≡ lane) × (new_hand ≡ hand)

-- The reply to a take, by whether there was a ticket.
abbrev pub reply_of_take : {E : Type 0} → Result Bool E → Result Reply E
reply_of_take (Ok true) = Ok reply.Taken
reply_of_take (Ok false) = Ok reply.Refused
reply_of_take (Err fault) = Err fault

-- The reply to a publish: a full lane is refused.
abbrev pub IsReplyToPublish : {E : Type 0} → Result ℕ LaneFault → Result Reply E → Type 0
IsReplyToPublish (Ok kept) told = told ≡ Ok (reply.Published kept)
IsReplyToPublish (Err fault.Full) told = told ≡ Ok reply.Refused
IsReplyToPublish (Err fault.NoMemory) told = IsErr told

-- The hand of a worker has a first ticket.
pub record HasFirstIn (hands : List Held) (worker : ℕ) : Type 0 where
  pub ticket : TicketState
  pub others : List TicketState
  pub first : slice_get (tickets_of hands) worker ≡ Some (ticket ∷ others)

-- The first ticket of a hand was moved to the end of another one.
pub record MovesFirst (old : List (List TicketState)) (to from : ℕ) (new : List (List TicketState)) : Type 0 where
  pub ticket : TicketState
  pub others : List TicketState
  pub first : slice_get old from ≡ Some (ticket ∷ others)
  pub hand : List TicketState
  pub is_hand : slice_get old to ≡ Some hand
  pub is : new ≡ slice_set (slice_set old from others) to (hand ++ ticket ∷ [])

-- The first ticket of a hand is of the lane, fits it, and the unit can answer it.
pub record CanPost (lane : LaneState) (unit : Running) (hand : List TicketState) : Type 0 where
  pub ticket : TicketState
  pub others : List TicketState
  pub is : hand ≡ ticket ∷ others
  pub own : is_of lane ticket ≡ true
  pub fits : FitsImage lane.image ticket
  pub unit_is : unit.image ≡ lane.image

-- The answers to it were posted, and so many were appended.
pub record PostsFrom (cells : ℕ) (lane : LaneState) (hand : List TicketState) (new_lane : LaneState) (new_hand : List TicketState) (appended : ℕ) : Type 0 where
  pub ticket : TicketState
  pub is : hand ≡ ticket ∷ new_hand
  pub posted : new_lane ≡ posted_by lane ticket cells
  pub count : appended + length lane.answers ≡ length (posted_by lane ticket cells).answers

-- The reply to a post.
abbrev pub reply_of_post : {E : Type 0} → Result ℕ E → Result Reply E
reply_of_post (Ok appended) = Ok (reply.Posted appended)
reply_of_post (Err fault) = Err fault
