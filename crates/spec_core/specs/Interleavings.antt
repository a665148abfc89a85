-- The history of a world, as a list of events with their replies, and what holds of every such list.
use Rattle.std.specs.Prelude.{◌≡◌, ℕ, ◌==◌, List, [], ◌∷◌, ◌++◌, length, take, drop, if◌then◌else◌, Some, Result, slice_get, ◌⊎◌}
use Rattle.std.specs.List.{Contains, flat_map}
use Rattle.fixed_words.specs.declared.types.Fault.{Fault}
use Rattle.guess_board.specs.Events.{found}
use Rattle.guess_board.specs.Lanes.{LaneState}
use Rattle.guess_board.specs.declared.guesses.Policy.{Policy}
use Rattle.spec_core.specs.Events.{Happens, Looks}
use Rattle.spec_core.specs.Worlds.{IsOpenedWorld, WorldState}
use Rattle.spec_core.specs.declared.event.Event.{Event}
use Rattle.spec_core.specs.declared.event.Event.TheVariants as event
use Rattle.spec_core.specs.declared.event.Reply.{Reply}
use Rattle.spec_core.specs.declared.event.Reply.TheVariants as reply
use Rattle.trace_core.specs.Runs.{Filled, IsWanted, Stands}
use Rattle.trace_plan.specs.Plans.{Planned}
use Rattle.unit_answers.specs.Answers.{Answered}
use Rattle.unit_answers.specs.Keys.{StepKey}
use Rattle.unit_tree.specs.Components.{Moved}
use Rattle.unit_tree.specs.Compositions.{Composition}
use Rattle.unit_tree.specs.Trace.{IsTrace, Stand}
use Rattle.unit_tree.specs.declared.ending.Ending.{Ending}

-- ---- Lists of events

-- An event that happened, with its reply, and the world before and after it.
pub record Done : Type 0 where
  pub before : WorldState
  pub event : Event
  pub reply : Reply
  pub after : WorldState

-- A history leads from one world to another: each event happened to the world that the one before it left.
abbrev pub Leads : WorldState → List Done → WorldState → Type 0
Leads from [] to = from ≡ to
Leads from (one ∷ others) to = (one.before ≡ from) × Happens one.before one.event one.reply one.after × Leads one.after others to

-- ---- Where the run has been

-- The stand that the run left by an event: its number rose.
abbrev pub left_in : Done → List Stand
left_in one = if one.after.run.stand.at.number == one.before.run.stand.at.number then [] else one.before.run.stand ∷ []

-- The stands that the run has reached, in their order. The last of them is its present one.
abbrev pub stands_reached : List Done → WorldState → List Stand
stands_reached past now = flat_map left_in past ++ (now.run.stand ∷ [])

-- Stands are a prefix of every trace of a run.
abbrev pub BeginTraces : Composition → List Stand → Type 0
BeginTraces run reached = (stands : List Stand) (ending : Ending) → IsTrace run stands ending → take (length reached) stands ≡ reached

-- ---- Where answers come from

-- One of the events, with those before it and those after it.
pub record IsAmong (past earlier : List Done) (one : Done) : Type 0 where
  pub later : List Done
  pub split : past ≡ earlier ++ (one ∷ later)

-- An answer was appended to the lane of an instance by a post.
pub record WasPosted (past : List Done) (instance : ℕ) (one : Answered) : Type 0 where
  pub earlier : List Done
  pub post : Done
  pub among : IsAmong past earlier post
  pub worker : ℕ
  pub cells : ℕ
  pub is_post : post.event ≡ event.Post worker cells
  pub old : LaneState
  pub is_old : slice_get post.before.lanes instance ≡ Some old
  pub new : LaneState
  pub is_new : slice_get post.after.lanes instance ≡ Some new
  pub appended : Contains (drop (length old.answers) new.answers) one

-- The answer that a find accepted: the first of the instance's lane, with the key of the required step. It was posted before.
pub record WasFound (earlier : List Done) (find : Done) (instance : ℕ) (step : Result Moved Fault) : Type 0 where
  pub is_find : find.event ≡ event.Find instance
  pub replied : find.reply ≡ reply.Found
  pub lane : LaneState
  pub key : StepKey
  pub looks : Looks find.before instance lane key
  pub one : Answered
  pub is_found : found lane key ≡ Some one
  pub same_key : one.key ≡ key
  pub tells : one.answer ≡ step
  pub posted : WasPosted earlier instance one

-- The run made the step itself.
pub record WasComputed (compute : Done) (instance : ℕ) : Type 0 where
  pub is_compute : compute.event ≡ event.Compute instance
  pub replied : compute.reply ≡ reply.Computed

-- The cell of an instance was filled in the present phase of the run, by a find or a compute.
pub record WasFilled (past : List Done) (now : WorldState) (instance : ℕ) (step : Result Moved Fault) : Type 0 where
  pub earlier : List Done
  pub fill : Done
  pub among : IsAmong past earlier fill
  pub same_stand : fill.after.run.stand ≡ now.run.stand
  pub same_phase : fill.after.run.phase ≡ now.run.phase
  pub wanted : IsWanted fill.before.run instance
  pub holds : slice_get fill.after.run.cells instance ≡ Some (Filled step)
  pub by : WasFound earlier fill instance step ⊎ WasComputed fill instance

-- ---- What holds of every list of events

-- A history determines where the run is and what it has. The stands that it has reached are a prefix of the one trace. Each
-- filled cell was filled by a find or a compute. Each answer in a lane was posted.
pub record IsTold (run : Composition) (past : List Done) (now : WorldState) : Type 0 where
  pub reached : BeginTraces run (stands_reached past now)
  pub filled : (instance : ℕ) (step : Result Moved Fault) → slice_get now.run.cells instance ≡ Some (Filled step) → WasFilled past now instance step
  pub answered : (instance : ℕ) (lane : LaneState) (one : Answered) → slice_get now.lanes instance ≡ Some lane → Contains lane.answers one
      → WasPosted past instance one

-- This holds from an opened world, for every history.
abbrev pub EveryInterleavingIsTold : Type 0
EveryInterleavingIsTold =
    (plan : Planned) (workers window : ℕ) (policy : Policy) (opened now : WorldState) (past : List Done)
    → IsOpenedWorld plan workers window policy opened → Stands opened.run → Leads opened past now → IsTold plan.run past now
