-- The replay of a seed: rounds of events until the run has ended, in which the events of the workers are drawn; and its counts.
use Rattle.std.specs.Prelude.{◌≡◌, ◌≤◌, ℕ, zero, suc, ◌*◌, ◌/◌, ◌%◌, ◌==◌, nat_lt, Bool, true, false, List, [], ◌∷◌, ◌++◌, length, map}
use Rattle.std.specs.Prelude.{if◌then◌else◌, Option}
use Rattle.std.specs.Io.KnownBytes.{Appends}
use Rattle.std.specs.List.{count_by, flat_map, range_with_len, sum_by}
use Rattle.draw_numbers.specs.Draws.{draw}
use Rattle.guess_board.specs.declared.guesses.Policy.{Policy}
use Rattle.guess_board.specs.declared.guesses.Policy.TheVariants.{Hold}
use Rattle.model_rules.specs.Limits.{window_limit}
use Rattle.spec_core.specs.Interleavings.{Done, Leads}
use Rattle.spec_core.specs.Worlds.{IsOpenedWorld, IsWorld, WorldState, tickets_in}
use Rattle.spec_core.specs.declared.counts.Counts.{Counts}
use Rattle.spec_core.specs.declared.event.Event.{Event}
use Rattle.spec_core.specs.declared.event.Event.TheVariants as event
use Rattle.spec_core.specs.declared.event.Reply.{Reply}
use Rattle.spec_core.specs.declared.event.Reply.TheVariants as reply
use Rattle.super_time.specs.declared.point.Point.{Point}
use Rattle.trace_core.specs.Runs.{IsWanted, RunState, is_ended}
use Rattle.trace_core.specs.declared.phase.Phase.TheVariants.{Ended}
use Rattle.trace_csv.specs.TraceText.{trace_text}
use Rattle.trace_plan.specs.Plans.{HaveImages, IsBounded, Planned}
use Rattle.unit_tree.specs.Compositions.{AreMembers, run_of}
use Rattle.unit_tree.specs.Ports.{IsPlaceOrder}
use Rattle.unit_tree.specs.Trace.{IsTraceOf, Row}
use Rattle.unit_tree.specs.declared.ending.Ending.{Ending}
use Rattle.unit_tree.specs.declared.system.System.{System}

-- ---- Drawn events

-- The event of a worker, by a kind from 0 to 7 and a number that chooses the instance or the worker from which it steals.
abbrev pub event_of_kind : ℕ → ℕ → ℕ → ℕ → ℕ → Event
event_of_kind workers instances worker kind choice =
    if nat_lt kind 3 then event.Take worker (choice % instances)
    else (if nat_lt kind 6 then event.Post worker 16
    else (if kind == 6 then event.Steal worker (choice % workers)
    else event.Back worker))

-- The event of a draw. Its remainder by the number of workers is the worker, and the quotient's remainder by 8 the kind.
abbrev pub worker_event : ℕ → ℕ → ℕ → Event
worker_event x workers instances = event_of_kind workers instances (x % workers) (x / workers % 8) (x / workers / 8)

-- Two events for each worker, by the draws of a seed from a place on.
abbrev pub drawn_events : ℕ → ℕ → ℕ → ℕ → List Event
drawn_events seed place workers instances = map (λ at. worker_event (draw seed at) workers instances) (range_with_len place (2 * workers))

-- ---- A round

abbrev pub events_of : List Done → List Event
events_of past = map (λ one. one.event) past

-- What is done for an instance: its step is looked for where it is required, and made where nothing is found. Otherwise nothing.
abbrev pub IsServed : RunState → ℕ → List Done → Type 0
IsServed run instance [] = IsWanted run instance → ⊥
IsServed run instance (find ∷ []) = IsWanted run instance × (find.event ≡ event.Find instance) × (find.reply ≡ reply.Found)
IsServed run instance (find ∷ compute ∷ []) =
    IsWanted run instance × (find.event ≡ event.Find instance) × (find.reply ≡ reply.Missed) × (compute.event ≡ event.Compute instance)
IsServed run instance (find ∷ compute ∷ other ∷ others) = ⊥

-- What is done for so many instances from this number on, one after the other.
abbrev pub AreServed : WorldState → ℕ → ℕ → List Done → WorldState → Type 0
AreServed from instance zero past to = (past ≡ []) × (from ≡ to)
AreServed from instance (suc count) past to =
    (first : List Done) × (middle : WorldState) × (others : List Done) × (past ≡ first ++ others)
    × IsServed from.run instance first × Leads from first middle × AreServed middle (suc instance) count others to

-- A round: all lanes are published, the workers do what is drawn, all required steps are found or made, and the run settles.
-- Rounds are counted from 0.
pub record IsRound (seed workers number : ℕ) (from : WorldState) (past : List Done) (to : WorldState) : Type 0 where
  pub published : List Done
  pub lined : WorldState
  pub publishes : events_of published ≡ map event.Publish (range_with_len 0 (length from.lanes))
  pub leads_lined : Leads from published lined
  pub drawn : List Done
  pub worked : WorldState
  pub draws : events_of drawn ≡ drawn_events seed (2 * workers * number) workers (length from.lanes)
  pub leads_worked : Leads lined drawn worked
  pub served : List Done
  pub filled : WorldState
  pub serves : AreServed worked 0 (length from.lanes) served filled
  pub settle : Done
  pub settles : settle.event ≡ event.Settle
  pub leads_settled : Leads filled (settle ∷ []) to
  pub is : past ≡ published ++ (drawn ++ (served ++ settle ∷ []))

-- ---- All rounds

-- From the round with this number on, rounds follow each other until the run has ended.
abbrev pub AreRounds : ℕ → ℕ → ℕ → WorldState → List (List Done) → WorldState → Type 0
AreRounds seed workers number from [] to = (is_ended from.run.phase ≡ true) × (from ≡ to)
AreRounds seed workers number from (round ∷ rounds) to =
    (is_ended from.run.phase ≡ false) × (middle : WorldState) × IsRound seed workers number from round middle
    × AreRounds seed workers (suc number) middle rounds to

-- The events of rounds that a seed draws, from the opened world whose lines are guessed for so many rows by this policy.
pub record IsReplayBy (plan : Planned) (window : ℕ) (policy : Policy) (seed workers : ℕ) (past : List Done) (to : WorldState) : Type 0 where
  pub opened : WorldState
  pub is_opened : IsOpenedWorld plan workers window policy opened
  pub is_world : IsWorld opened
  pub rounds : List (List Done)
  pub follow : AreRounds seed workers 0 opened rounds to
  pub is : past ≡ flat_map (λ round. round) rounds

-- ---- The counts of a replay

abbrev pub is_refused : Reply → Bool
is_refused reply.Refused = true
is_refused _ = false

abbrev pub is_found : Reply → Bool
is_found reply.Found = true
is_found _ = false

abbrev pub is_own : Reply → Bool
is_own reply.Computed = true
is_own _ = false

abbrev pub is_taken : Reply → Bool
is_taken reply.Taken = true
is_taken _ = false

abbrev pub is_posted : Reply → Bool
is_posted (reply.Posted appended) = true
is_posted _ = false

abbrev pub is_back : Reply → Bool
is_back reply.Back = true
is_back _ = false

abbrev pub appended_by : Reply → ℕ
appended_by (reply.Posted appended) = appended
appended_by _ = 0

abbrev pub replies_of : List Done → List Reply
replies_of past = map (λ one. one.reply) past

-- The counts are those of the replies, how many tickets are left in the hands, and how and where the run ended.
pub record AreCounts (past : List Done) (to : WorldState) (counts : Counts) : Type 0 where
  pub outcome : to.run.phase ≡ Ended counts.outcome
  pub last : counts.last ≡ to.run.stand.at.point
  pub events : counts.events ≡ length past
  pub refused : counts.refused ≡ count_by is_refused (replies_of past)
  pub found : counts.found ≡ count_by is_found (replies_of past)
  pub own : counts.own ≡ count_by is_own (replies_of past)
  pub tickets : counts.tickets ≡ count_by is_taken (replies_of past)
  pub posted : counts.posted ≡ count_by is_posted (replies_of past)
  pub back : counts.back ≡ count_by is_back (replies_of past)
  pub lapsed : counts.lapsed ≡ tickets_in to.hands
  pub appended : counts.appended ≡ sum_by appended_by (replies_of past)

-- The counts are those of such a replay.
pub record IsReplayedBy (plan : Planned) (window : ℕ) (policy : Policy) (seed workers : ℕ) (counts : Counts) : Type 0 where
  pub past : List Done
  pub to : WorldState
  pub replay : IsReplayBy plan window policy seed workers past to
  pub counted : AreCounts past to counts

-- The counts are those of the replay of a seed. Its lines are guessed for 4 rows, by words that don't change.
abbrev pub IsReplayed : Planned → ℕ → ℕ → Counts → Type 0
IsReplayed plan seed workers counts = IsReplayedBy plan 4 Hold seed workers counts

-- ---- What a replay writes

-- The text of the system's trace was written; the trace ended in this way.
pub record PutsTrace (system : System) (last : Point) (outcome : Ending) (old new : Option (List ℕ)) : Type 0 where
  pub rows : List Row
  pub trace : IsTraceOf system rows last outcome
  pub out : Appends old new (trace_text system rows)

-- ---- What holds of replays

-- The run of the plan is that of its system, has an order, its members and images, and is bounded.
pub record CanReplay (plan : Planned) : Type 0 where
  pub composed : plan.run ≡ run_of plan.system
  pub order : List ℕ
  pub ordered : IsPlaceOrder plan.run order
  pub bounded : IsBounded plan.run
  pub members : AreMembers plan.run
  pub images : HaveImages plan.run

-- There is a replay for every window, policy and seed, and for every number of workers.
abbrev pub EverySeedIsReplayed : Type 0
EverySeedIsReplayed =
    (plan : Planned) (window : ℕ) (policy : Policy) (seed workers : ℕ) → CanReplay plan → window ≤ window_limit
    → (counts : Counts) × IsReplayedBy plan window policy seed workers counts

-- There is only one: no two counts of it differ.
abbrev pub ReplaysAreCountedOnce : Type 0
ReplaysAreCountedOnce =
    (plan : Planned) (window : ℕ) (policy : Policy) (seed workers : ℕ) (one other : Counts) → CanReplay plan
    → IsReplayedBy plan window policy seed workers one → IsReplayedBy plan window policy seed workers other → one ≡ other
