-- What is known of an instance at the run's stand, and for how many rows its inputs are guessed.
use Rattle.std.specs.Prelude.{◌≡◌, ◌*◌, ◌/◌, ℕ, length, min, Some, slice_get}
use Rattle.guess_board.specs.Guesses.{Seen}
use Rattle.trace_core.specs.Runs.{RunState, step_length}
use Rattle.trace_plan.specs.Plans.{highest_words, lowest_words}
use Rattle.unit_tree.specs.Compositions.{Composition, Member}
use Rattle.unit_tree.specs.Negotiation.{all_inputs}

-- What is known of an instance at the run's stand: the step of the phase, and the words of the inputs there and at the row before.
pub record IsSeenAt (r : RunState) (instance : ℕ) (seen : Seen) : Type 0 where
  pub member : Member
  pub is_there : slice_get r.plan.run.members instance ≡ Some member
  pub row : seen.row ≡ r.stand.at.number
  pub time : seen.t ≡ r.stand.at.point.t
  pub step : seen.step ≡ step_length r.phase
  pub stop : seen.stop ≡ r.plan.run.stop
  pub factor : seen.factor ≡ member.factor
  pub last : slice_get (all_inputs r.plan.run r.stand.ports) instance ≡ Some seen.last
  pub before : slice_get r.before instance ≡ Some seen.before
  pub low : seen.low ≡ lowest_words member
  pub high : seen.high ≡ highest_words member

-- The window that a run uses where another is asked for: so small that there is memory for the answers of all lanes.
abbrev pub cut_window : Composition → ℕ → ℕ
cut_window run window = min window (4000000 / (run.row_budget * length run.members))
