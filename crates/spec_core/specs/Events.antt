-- The effects of events on a world, and where they are refused.
use Rattle.std.specs.Prelude.{◌≡◌, ◌≢◌, ℕ, true, false, ℤ, List, [], ◌∷◌, ◌++◌, ◌+◌, length, take, Some, None, slice_get, slice_set, ◌⊎◌}
use Rattle.guess_board.specs.Chains.{chain_of, code_of}
use Rattle.guess_board.specs.Events.{backed, found, is_full, posted, published, taken, ticket_of}
use Rattle.guess_board.specs.Guesses.{Seen, guessed_line}
use Rattle.guess_board.specs.Lanes.{LaneState, TicketState}
use Rattle.lane_outlook.specs.Outlooks.{IsSeenAt}
use Rattle.spec_core.specs.Worlds.{WorldState}
use Rattle.spec_core.specs.declared.event.Event.{Event}
use Rattle.spec_core.specs.declared.event.Event.TheVariants as event
use Rattle.spec_core.specs.declared.event.Reply.{Reply}
use Rattle.spec_core.specs.declared.event.Reply.TheVariants as reply
use Rattle.trace_core.specs.Runs.{AreCellsFull, IsComputed, IsKeyAt, IsWanted, RunState, is_ended, with_found}
use Rattle.trace_core.specs.Settling.{Settled}
use Rattle.trace_core.specs.declared.phase.Settle.{Settle}
use Rattle.unit_answers.specs.Answers.{Answered}
use Rattle.unit_answers.specs.Keys.{StepKey}

-- ---- Parts of a world that change

abbrev pub with_lane : WorldState → ℕ → LaneState → WorldState
with_lane world instance lane = record world { lanes = slice_set world.lanes instance lane }

abbrev pub with_hand : WorldState → ℕ → List TicketState → WorldState
with_hand world worker hand = record world { hands = slice_set world.hands worker hand }

abbrev pub with_run : WorldState → RunState → WorldState
with_run world run = record world { run = run }

-- ---- Publish

-- The lane of an instance is published with its state at the run's stand, and with the line that is guessed from there. The
-- reply says how many answers it kept.
pub record Publishes (world : WorldState) (instance : ℕ) (told : Reply) (new : WorldState) : Type 0 where
  pub going : is_ended world.run.phase ≡ false
  pub lane : LaneState
  pub is_lane : slice_get world.lanes instance ≡ Some lane
  pub room : is_full lane ≡ false
  pub state : List ℤ
  pub is_state : slice_get world.run.stand.at.states instance ≡ Some state
  pub seen : Seen
  pub is_seen : IsSeenAt world.run instance seen
  pub is : new ≡ with_lane world instance (published lane seen.row state (guessed_line world.policy seen world.window))
  pub replied : told ≡ reply.Published (length (published lane seen.row state (guessed_line world.policy seen world.window)).answers)

-- ---- Tickets and hands

-- A worker takes the ticket that a lane makes, and appends it to its hand.
pub record Takes (world : WorldState) (worker instance : ℕ) (told : Reply) (new : WorldState) : Type 0 where
  pub hand : List TicketState
  pub is_hand : slice_get world.hands worker ≡ Some hand
  pub lane : LaneState
  pub is_lane : slice_get world.lanes instance ≡ Some lane
  pub ticket : TicketState
  pub gives : ticket_of lane ≡ Some ticket
  pub is : new ≡ with_hand (with_lane world instance (taken lane)) worker (hand ++ ticket ∷ [])
  pub replied : told ≡ reply.Taken

-- A worker has this first ticket, and the others after it.
abbrev pub HasFirst : WorldState → ℕ → TicketState → List TicketState → Type 0
HasFirst world worker ticket others = slice_get world.hands worker ≡ Some (ticket ∷ others)

-- A worker moves the first ticket of another one to the end of its own hand.
pub record Steals (world : WorldState) (worker from : ℕ) (told : Reply) (new : WorldState) : Type 0 where
  pub apart : worker ≢ from
  pub hand : List TicketState
  pub is_hand : slice_get world.hands worker ≡ Some hand
  pub ticket : TicketState
  pub others : List TicketState
  pub first : HasFirst world from ticket others
  pub is : new ≡ with_hand (with_hand world from others) worker (hand ++ ticket ∷ [])
  pub replied : told ≡ reply.Stolen

-- The lane of a ticket after the answers to so many of its cells were posted: the chain that its start and these cells determine.
abbrev pub posted_by : LaneState → TicketState → ℕ → LaneState
posted_by lane ticket cells = posted lane ticket.number (chain_of (code_of lane.image) ticket.start (take cells ticket.cells))

-- A worker posts the answers to the first of its tickets. The reply says how many were appended.
pub record Posts (world : WorldState) (worker cells : ℕ) (told : Reply) (new : WorldState) : Type 0 where
  pub ticket : TicketState
  pub others : List TicketState
  pub first : HasFirst world worker ticket others
  pub lane : LaneState
  pub is_lane : slice_get world.lanes ticket.instance ≡ Some lane
  pub is : new ≡ with_hand (with_lane world ticket.instance (posted_by lane ticket cells)) worker others
  pub appended : ℕ
  pub appended_is : appended + length lane.answers ≡ length (posted_by lane ticket cells).answers
  pub replied : told ≡ reply.Posted appended

-- A worker gives back the first of its tickets.
pub record GivesBack (world : WorldState) (worker : ℕ) (told : Reply) (new : WorldState) : Type 0 where
  pub ticket : TicketState
  pub others : List TicketState
  pub first : HasFirst world worker ticket others
  pub lane : LaneState
  pub is_lane : slice_get world.lanes ticket.instance ≡ Some lane
  pub is : new ≡ with_hand (with_lane world ticket.instance (backed lane ticket.number)) worker others
  pub replied : told ≡ reply.Back

-- ---- The run

-- The key of an instance's required step, and the lane in which the run looks for it.
pub record Looks (world : WorldState) (instance : ℕ) (lane : LaneState) (key : StepKey) : Type 0 where
  pub wanted : IsWanted world.run instance
  pub is_key : IsKeyAt world.run instance key
  pub is_lane : slice_get world.lanes instance ≡ Some lane

-- The run finds an answer to the required step of an instance, and accepts it.
pub record Finds (world : WorldState) (instance : ℕ) (told : Reply) (new : WorldState) : Type 0 where
  pub lane : LaneState
  pub key : StepKey
  pub looks : Looks world instance lane key
  pub one : Answered
  pub is_found : found lane key ≡ Some one
  pub is : new ≡ with_run world (with_found world.run instance one.answer)
  pub replied : told ≡ reply.Found

-- The run finds none.
pub record Misses (world : WorldState) (instance : ℕ) (told : Reply) (new : WorldState) : Type 0 where
  pub lane : LaneState
  pub key : StepKey
  pub looks : Looks world instance lane key
  pub none : found lane key ≡ None
  pub is : new ≡ world
  pub replied : told ≡ reply.Missed

-- The run makes the step itself.
pub record Computes (world : WorldState) (instance : ℕ) (told : Reply) (new : WorldState) : Type 0 where
  pub wanted : IsWanted world.run instance
  pub computed : IsComputed world.run instance new.run
  pub is : new ≡ with_run world new.run
  pub replied : told ≡ reply.Computed

-- The run settles its phase, when all steps of it are made.
pub record Settles (world : WorldState) (told : Reply) (new : WorldState) : Type 0 where
  pub to : Settle
  pub going : is_ended world.run.phase ≡ false
  pub full : AreCellsFull world.run.cells
  pub settled : Settled world.run new.run to
  pub is : new ≡ with_run world new.run
  pub replied : told ≡ reply.Settled to

-- ---- Refused events

-- The worker has a ticket.
pub record HasTicket (world : WorldState) (worker : ℕ) : Type 0 where
  pub ticket : TicketState
  pub others : List TicketState
  pub first : HasFirst world worker ticket others

-- The worker has no ticket, or doesn't exist.
abbrev pub HasNoTicket : WorldState → ℕ → Type 0
HasNoTicket world worker = (ticket : TicketState) (others : List TicketState) → HasFirst world worker ticket others → ⊥

-- An event is refused exactly where there is no such instance or worker, or where the run, the lane or the hand can't do it.
abbrev pub IsRefused : WorldState → Event → Type 0
IsRefused world (event.Publish instance) =
    (is_ended world.run.phase ≡ true) ⊎ ((lane : LaneState) → slice_get world.lanes instance ≡ Some lane → is_full lane ≡ true)
IsRefused world (event.Take worker instance) =
    (slice_get world.hands worker ≡ None) ⊎ ((lane : LaneState) → slice_get world.lanes instance ≡ Some lane → ticket_of lane ≡ None)
IsRefused world (event.Steal worker from) = (worker ≡ from) ⊎ ((slice_get world.hands worker ≡ None) ⊎ HasNoTicket world from)
IsRefused world (event.Post worker cells) = HasNoTicket world worker
IsRefused world (event.Back worker) = HasNoTicket world worker
IsRefused world (event.Find instance) = IsWanted world.run instance → ⊥
IsRefused world (event.Compute instance) = IsWanted world.run instance → ⊥
IsRefused world event.Settle = (is_ended world.run.phase ≡ true) ⊎ (AreCellsFull world.run.cells → ⊥)

-- The event is refused, and changes nothing.
pub record Refuses (world : WorldState) (one : Event) (told : Reply) (new : WorldState) : Type 0 where
  pub refused : IsRefused world one
  pub is : new ≡ world
  pub replied : told ≡ reply.Refused

-- ---- The table of events

-- The effect of an event that isn't refused.
abbrev pub Does : WorldState → Event → Reply → WorldState → Type 0
Does world (event.Publish instance) = Publishes world instance
Does world (event.Take worker instance) = Takes world worker instance
Does world (event.Steal worker from) = Steals world worker from
Does world (event.Post worker cells) = Posts world worker cells
Does world (event.Back worker) = GivesBack world worker
Does world (event.Find instance) = λ told new. Finds world instance told new ⊎ Misses world instance told new
Does world (event.Compute instance) = Computes world instance
Does world event.Settle = Settles world

-- An event happened to a world, with this reply.
abbrev pub Happens : WorldState → Event → Reply → WorldState → Type 0
Happens world one told new = Does world one told new ⊎ Refuses world one told new
