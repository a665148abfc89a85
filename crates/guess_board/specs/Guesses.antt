-- Guessed lines: the steps that a component will make, as far as they can be guessed.
use Rattle.std.specs.Prelude.{◌≡◌, ◌≤◌, ◌<◌, ℕ, zero, suc, ◌+◌, ◌-◌, ◌*◌, ◌^◌, ◌==◌, min, Bool, not, ◌&&◌, ◌||◌, nat_lt}
use Rattle.std.specs.Prelude.{ℤ, List, [], ◌∷◌, ◌++◌, length, if◌then◌else◌}
use Rattle.guess_board.specs.declared.cell.Cell.{Cell}
use Rattle.guess_board.specs.declared.guesses.Outlook.{Outlook}
use Rattle.guess_board.specs.declared.guesses.Policy.{Policy}
use Rattle.guess_board.specs.declared.guesses.Policy.TheVariants.{Hold, Linear}
use Rattle.super_time.specs.LocalTime.{local_time, local_step}
use Rattle.word_lanes.specs.Guess.{EachAtMost, guesses}

-- What is known of a component at a row. Times and steps are in ticks of the system.
pub record Seen : Type 0 where
  -- The number of the row in its run.
  pub row : ℕ
  -- The time there, the step from there, and where the run stops.
  pub t : ℕ
  pub step : ℕ
  pub stop : ℕ
  -- How many ticks of the system a local tick of the component is.
  pub factor : ℕ
  -- The words of the inputs there, and at the row before.
  pub last : List ℤ
  pub before : List ℤ
  -- The least and the greatest words of the types of the inputs.
  pub low : List ℤ
  pub high : List ℤ

-- The contents of an outlook, as plain lists.
abbrev pub seen_of : Outlook → Seen
seen_of outlook = record {
  row = outlook.row;
  t = outlook.t;
  step = outlook.step;
  stop = outlook.stop;
  factor = outlook.factor;
  last = outlook.last.now;
  before = outlook.before.now;
  low = outlook.low.now;
  high = outlook.high.now;
}

-- An outlook from which lines are guessed: its step is in a run, its clock has a factor, and there are as many words of each kind,
-- of which no least word is above the greatest.
pub record IsOutlook (seen : Seen) : Type 0 where
  pub rows : seen.row + 16 < 2 ^ 64
  pub start : seen.t ≤ seen.stop
  pub step : seen.step ≤ 10 ^ 15
  pub stop : seen.stop ≤ 10 ^ 15
  pub factor : 1 ≤ seen.factor
  pub each_before : length seen.before ≡ length seen.last
  pub each_low : length seen.low ≡ length seen.last
  pub each_high : length seen.high ≡ length seen.last
  pub intervals : EachAtMost seen.low seen.high

-- The words of inputs at a row, and at the row before it.
pub record Inputs : Type 0 where
  pub words : List ℤ
  pub before : List ℤ

abbrev pub inputs_are : List ℤ → List ℤ → Inputs
inputs_are words before = record { words = words; before = before }

-- The words at the next row: they stay, or each continues in a straight line, where the sum wraps to 64 bits and is then clamped
-- to the range of its type.
abbrev pub go_on : Policy → List ℤ → List ℤ → Inputs → Inputs
go_on Hold low high inputs = inputs
go_on Linear low high inputs = inputs_are (guesses inputs.words inputs.before low high) inputs.words

-- The words at a row, which is given by how many rows come before it.
abbrev pub guessed_inputs : Policy → Seen → ℕ → Inputs
guessed_inputs policy seen zero = inputs_are seen.last seen.before
guessed_inputs policy seen (suc j) = go_on policy seen.low seen.high (guessed_inputs policy seen j)

-- The time of a row: all steps are as long as the first one.
abbrev pub planned_time : Seen → ℕ → ℕ
planned_time seen j = seen.t + j * seen.step

-- The step from there, which does not pass the stop.
abbrev pub planned_step : Seen → ℕ → ℕ
planned_step seen j = min seen.step (seen.stop - planned_time seen j)

-- Rows before the stop are planned. Where the step is 0, only the first one is.
abbrev pub is_planned : ℕ → ℕ → ℕ → ℕ → Bool
is_planned t step stop j = nat_lt t stop && (not (step == 0) || (j == 0))

-- The cell of a step, where a local tick ends in the step or its length is 0.
abbrev pub cells_of_step : ℕ → ℕ → ℕ → ℕ → List ℤ → List Cell
cells_of_step row t step factor words =
    if (step == 0) || nat_lt 0 (local_step factor t step) then record {
      row = row;
      time = local_time factor t;
      step = local_step factor t step;
      inputs = words;
    } ∷ [] else []

-- The cell of a row, where it has one.
abbrev pub cells_of_row : Policy → Seen → ℕ → List Cell
cells_of_row policy seen j =
    if is_planned (planned_time seen j) seen.step seen.stop j then cells_of_step (seen.row + j) (planned_time seen j)
    (planned_step seen j) seen.factor (guessed_inputs policy seen j).words else []

-- The guessed line of so many rows.
abbrev pub guessed_line : Policy → Seen → ℕ → List Cell
guessed_line policy seen zero = []
guessed_line policy seen (suc j) = guessed_line policy seen j ++ cells_of_row policy seen j
