-- Worlds on the way to being drained. No promise depends on these definitions.
use Rattle.std.specs.Prelude.{◌≡◌, ℕ, List, [], ◌++◌, length, map, replicate, Some, slice_get, slice_set, take, drop}
use Rattle.std.specs.List.{AllByRecursion, AllZip}
use Rattle.guess_board.specs.Lanes.{LaneState, TicketState}
use Rattle.spec_core.specs.Interleavings.{Done, Leads}
use Rattle.spec_core.specs.Tickets.{backs_from}
use Rattle.spec_core.specs.Worlds.{WorldState, tickets_in}
use Rattle.spec_core.specs.declared.event.Event.{Event}
use Rattle.spec_core.specs.declared.event.Event.TheVariants as event
use Rattle.spec_core.specs.declared.event.Reply.TheVariants as reply

-- A lane after a change of only its journal.
abbrev pub IsSameButJournal : LaneState → LaneState → Type 0
IsSameButJournal old new = new ≡ record old { journal = new.journal }

-- These events gave back tickets, and changed nothing else but the hands.
pub record GivesAllBack (events : List Event) (old new : WorldState) (left : List (List TicketState)) : Type 0 where
  pub past : List Done
  pub leads : Leads old past new
  pub backs : map (λ one. one.event) past ≡ events
  pub each : AllByRecursion (λ one. one.reply ≡ reply.Back) past
  pub hands : new.hands ≡ left
  pub run : new.run ≡ old.run
  pub lanes : AllZip IsSameButJournal old.lanes new.lanes

-- So many of the tickets that a worker had at first were given back.
abbrev pub IsHandSoFar : WorldState → ℕ → List TicketState → ℕ → WorldState → Type 0
IsHandSoFar old worker hand count now = GivesAllBack (replicate count (event.Back worker)) old now (slice_set old.hands worker (drop count hand))

-- The same, where the worker had so many tickets at first.
pub record IsHandAt (old : WorldState) (worker tickets count : ℕ) (now : WorldState) : Type 0 where
  pub hand : List TicketState
  pub is_hand : slice_get old.hands worker ≡ Some hand
  pub long : tickets ≡ length hand
  pub gives : IsHandSoFar old worker hand count now

-- All tickets of a worker were given back.
pub record IsHandDrained (old : WorldState) (worker : ℕ) (new : WorldState) (count : ℕ) : Type 0 where
  pub hand : List TicketState
  pub is_hand : slice_get old.hands worker ≡ Some hand
  pub counted : count ≡ length hand
  pub gives : IsHandSoFar old worker hand count new

-- All tickets of the first workers were given back.
pub record AreHandsSoFar (old : WorldState) (workers : ℕ) (now : WorldState) (count : ℕ) : Type 0 where
  pub counted : count ≡ tickets_in (take workers old.hands)
  pub gives : GivesAllBack (backs_from 0 (take workers old.hands)) old now (map (λ hand. []) (take workers old.hands) ++ drop workers old.hands)
