-- How the rounds of a replay are made part by part, and how their replies are counted.
use Rattle.std.specs.Prelude.{◌≡◌, ◌≤◌, ◌+◌, ◌*◌, ℕ, zero, suc, Bool, cond, List, [], ◌∷◌, ◌++◌, length, map, Option, Result, Ok, Err}
use Rattle.std.specs.List.{flat_map, range_with_len}
use Rattle.draw_numbers.specs.Draws.{draw, draw_start, next_draw}
use Rattle.guess_board.specs.declared.guesses.Policy.TheVariants.{Hold}
use Rattle.spec_core.specs.Events.{Happens}
use Rattle.spec_core.specs.Interleavings.{Done, Leads}
use Rattle.spec_core.specs.Replays.{AreRounds, AreServed, IsServed, appended_by, events_of, is_back, is_found, is_own, is_posted, is_refused, is_taken}
use Rattle.spec_core.specs.Replays.{worker_event}
use Rattle.spec_core.specs.Worlds.{IsOpenedWorld, IsWorld, WorldState, tickets_in}
use Rattle.spec_core.specs.declared.counts.Counts.{Counts}
use Rattle.spec_core.specs.declared.event.Event.{Event}
use Rattle.spec_core.specs.declared.event.Event.TheVariants as event
use Rattle.spec_core.specs.declared.event.Reply.{Reply}
use Rattle.spec_core.specs.declared.event.Reply.TheVariants as reply
use Rattle.spec_core.specs.declared.replies.Replies.{Replies}
use Rattle.spec_core.specs.declared.rounds.ReplayState.{ReplayState}
use Rattle.trace_core.specs.Runs.{RunState}
use Rattle.trace_core.specs.declared.phase.Settle.{Settle}
use Rattle.trace_plan.specs.Plans.{Planned}
use Rattle.trace_rows.specs.Passing.{WentOn}
use Rattle.trace_rows.specs.Reports.{ReportsRest, report_of}
use Rattle.trace_rows.specs.declared.fault.CrewFault.{CrewFault}
use Rattle.trace_rows.specs.declared.tally.Tally.{Tally}
use Rattle.unit_tree.specs.Successor.{Position}
use Rattle.unit_tree.specs.declared.ending.Ending.{Ending}

-- ---- Counting replies

abbrev pub no_replies : Replies
no_replies = record { events = 0; refused = 0; found = 0; own = 0; tickets = 0; posted = 0; back = 0; appended = 0 }

-- The counts after one more reply.
abbrev pub with_reply : Replies → Reply → Replies
with_reply counts told = record {
  events = counts.events + 1;
  refused = counts.refused + cond (is_refused told) 1 0;
  found = counts.found + cond (is_found told) 1 0;
  own = counts.own + cond (is_own told) 1 0;
  tickets = counts.tickets + cond (is_taken told) 1 0;
  posted = counts.posted + cond (is_posted told) 1 0;
  back = counts.back + cond (is_back told) 1 0;
  appended = counts.appended + appended_by told;
}

-- The counts after the replies of a history.
abbrev pub with_replies : Replies → List Done → Replies
with_replies counts [] = counts
with_replies counts (one ∷ others) = with_replies (with_reply counts one.reply) others

-- No count is more than that of all events, each of which appends fewer than 2^32 answers.
pub record AreFew (counts : Replies) : Type 0 where
  pub refused : counts.refused ≤ counts.events
  pub found : counts.found ≤ counts.events
  pub own : counts.own ≤ counts.events
  pub tickets : counts.tickets ≤ counts.events
  pub posted : counts.posted ≤ counts.events
  pub back : counts.back ≤ counts.events
  pub appended : counts.appended ≤ 4294967296 * counts.events

-- ---- Parts of a round

-- These events were applied, and counted.
pub record DoesAll (events : List Event) (from : WorldState) (told : Replies) (to : WorldState) (now : Replies) : Type 0 where
  pub past : List Done
  pub events_are : events_of past ≡ events
  pub leads : Leads from past to
  pub counted : now ≡ with_replies told past
  pub few : AreFew now
  pub number : now.events ≡ told.events + length events

abbrev pub publishes : ℕ → List Event
publishes instances = map event.Publish (range_with_len 0 instances)

-- The draw that comes so many after this number.
abbrev pub draw_after : ℕ → ℕ → ℕ
draw_after x zero = x
draw_after x (suc count) = next_draw (draw_after x count)

-- So many events of workers, drawn after this number.
abbrev pub drawn_from : ℕ → ℕ → ℕ → ℕ → List Event
drawn_from x workers instances zero = []
drawn_from x workers instances (suc count) = drawn_from x workers instances count ++ worker_event (draw_after x (suc count)) workers instances ∷ []

-- One instance was served, or the first so many.
pub record Serves (instance : ℕ) (from : WorldState) (told : Replies) (to : WorldState) (now : Replies) : Type 0 where
  pub past : List Done
  pub serves : IsServed from.run instance past
  pub leads : Leads from past to
  pub counted : now ≡ with_replies told past
  pub few : AreFew now
  pub most : now.events ≤ told.events + 2

pub record AreServedAll (instances : ℕ) (from : WorldState) (told : Replies) (to : WorldState) (now : Replies) : Type 0 where
  pub past : List Done
  pub serves : AreServed from 0 instances past to
  pub counted : now ≡ with_replies told past
  pub few : AreFew now
  pub most : now.events ≤ told.events + 2 * instances

-- ---- A round

-- A round was made, with this result of settling.
pub record MakesRound (workers : ℕ) (old : ReplayState) (settled : Settle) (new : ReplayState) : Type 0 where
  pub lined : WorldState
  pub told_lined : Replies
  pub published : DoesAll (publishes (length old.world.lanes)) old.world old.replies lined told_lined
  pub worked : WorldState
  pub told_worked : Replies
  pub drawn : DoesAll (drawn_from old.draw workers (length old.world.lanes) (2 * workers)) lined told_lined worked told_worked
  pub draw : new.draw ≡ draw_after old.draw (2 * workers)
  pub filled : WorldState
  pub told_filled : Replies
  pub served : AreServedAll (length old.world.lanes) worked told_worked filled told_filled
  pub settles : Happens filled event.Settle (reply.Settled settled) new.world
  pub counted : new.replies ≡ with_reply told_filled (reply.Settled settled)
  pub few : AreFew new.replies

-- ---- Rounds

-- The number before the draw at a place.
abbrev pub before_draw : ℕ → ℕ → ℕ
before_draw seed zero = draw_start seed
before_draw seed (suc place) = draw seed place

-- Rounds were made that lead from one replay to the other. With any rounds after them, all are rounds from where these began.
pub record GoesRounds (workers : ℕ) (old new : ReplayState) : Type 0 where
  pub rounds : List (List Done)
  pub counted : new.replies ≡ with_replies old.replies (flat_map (λ round. round) rounds)
  pub draws : (seed number : ℕ) → old.draw ≡ before_draw seed (2 * workers * number)
      → new.draw ≡ before_draw seed (2 * workers * (number + length rounds))
  pub follow : (seed number : ℕ) → old.draw ≡ before_draw seed (2 * workers * number) → (rest : List (List Done)) (to : WorldState)
      → AreRounds seed workers (number + length rounds) new.world rest to → AreRounds seed workers number old.world (rounds ++ rest) to

-- The run went on from a row, by rounds, and so many events were counted for it.
pub record Advances (workers : ℕ) (old new : ReplayState) (came : Bool) : Type 0 where
  pub went : WentOn old.world.run new.world.run came
  pub rounds : GoesRounds workers old new
  pub few : AreFew new.replies
  pub most : new.replies.events ≤ old.replies.events + 450

-- ---- A replay, from its start to its counts

-- The replay of a seed at its start.
pub record IsBegun (plan : Planned) (seed workers : ℕ) (course : ReplayState) : Type 0 where
  pub opened : IsOpenedWorld plan workers 4 Hold course.world
  pub world : IsWorld course.world
  pub draw : course.draw ≡ draw_start seed
  pub none : course.replies ≡ no_replies

-- The rows from a position on were written by a run that ended in this way.
pub record PutsRows (plan : Planned) (from : Position) (run : RunState) (outcome : Ending) (old new : Option (List ℕ)) : Type 0 where
  pub tally : Tally
  pub reports : ReportsRest plan from old new (report_of run outcome tally)

-- Each ticket that was taken was posted or given back, or is in a hand.
abbrev pub AreSettled : ReplayState → Type 0
AreSettled course = course.replies.tickets ≡ course.replies.posted + course.replies.back + tickets_in course.world.hands

-- The counts of a replay that has ended.
abbrev pub counts_of : ReplayState → Ending → Counts
counts_of course outcome = record {
  outcome = outcome;
  last = course.world.run.stand.at.point;
  events = course.replies.events;
  refused = course.replies.refused;
  found = course.replies.found;
  own = course.replies.own;
  tickets = course.replies.tickets;
  posted = course.replies.posted;
  back = course.replies.back;
  lapsed = tickets_in course.world.hands;
  appended = course.replies.appended;
}

-- The same of a replay that has ended, or was given up.
abbrev pub counts_or_fault : ReplayState → Result Ending CrewFault → Result Counts CrewFault
counts_or_fault course (Ok outcome) = Ok (counts_of course outcome)
counts_or_fault course (Err fault) = Err fault
