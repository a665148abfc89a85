-- Laws of guessed lines: they end where no row is planned, and lanes accept them.
use Rattle.std.proofs.Common.{◌≡◌, ℕ, zero, suc, ◌+◌, ◌^◌, ◌<◌, ◌≤◌, ◌==◌, nat_lt, Bool, true, false, ◌||◌, if◌then◌else◌, ℤ}
use Rattle.std.proofs.Common.{List, [], ◌∷◌, ◌++◌, length, refl, sym, ap, subst, ◌∙◌, append-nil, arith, mul-le-mul_right}
use Rattle.std.proofs.lemmas.Bool.Decides.{nat_tests}
use Rattle.std.proofs.lemmas.List.{length_push}
use Rattle.std.specs.List.{AllByRecursion}
use Rattle.guess_board.specs.Cells.{FitsCell, RisesFrom}
use Rattle.guess_board.specs.Guesses.{Inputs, Seen, cells_of_row, cells_of_step, go_on, guessed_line, guessed_inputs, is_planned, planned_step, planned_time}
use Rattle.guess_board.specs.declared.cell.Cell.{Cell}
use Rattle.guess_board.specs.declared.guesses.Policy.{Policy}
use Rattle.guess_board.specs.declared.guesses.Policy.TheVariants.{Hold, Linear}
use Rattle.list_laws.proofs.Lists.{each_append}
use Rattle.super_time.specs.LocalTime.{local_time, local_step}
use Rattle.super_time.proofs.LimitLaws.{local_end}
use Rattle.word_lanes.specs.Guess.{guesses}

-- ---- Where no row is planned

pub time_more : (seen : Seen) (j : ℕ) → planned_time seen (suc j) ≡ planned_time seen j + seen.step
time_more seen j = omega arith

later : (seen : Seen) (j k : ℕ) → j ≤ k → planned_time seen j ≤ planned_time seen k
later seen j k le = omega (arith, mul-le-mul_right seen.step le)

unplanned : (seen : Seen) (j k : ℕ) → j ≤ k → is_planned (planned_time seen j) seen.step seen.stop j ≡ false
    → is_planned (planned_time seen k) seen.step seen.stop k ≡ false
unplanned seen j k le out = let more = later seen j k le in grind (arith, nat_tests)

nothing_at : (policy : Policy) (seen : Seen) (k : ℕ) → is_planned (planned_time seen k) seen.step seen.stop k ≡ false → cells_of_row policy seen k ≡ []
nothing_at policy seen k out =
    ap (λ (b : Bool). if b then cells_of_step (seen.row + k) (planned_time seen k) (planned_step seen k) seen.factor
    (guessed_inputs policy seen k).words else []) out

pub line_ends : (policy : Policy) (seen : Seen) (j k : ℕ) → j ≤ k → is_planned (planned_time seen j) seen.step seen.stop j ≡ false
    → guessed_line policy seen k ≡ guessed_line policy seen j
line_ends policy seen j zero le out = ap (guessed_line policy seen) (let e : zero ≡ j = omega arith in e)
line_ends policy seen j (suc k) le out = by (nat_lt j (suc k)) refl (line_ends policy seen j k)
  where
    by : (b : Bool) → nat_lt j (suc k) ≡ b
        → (j ≤ k → is_planned (planned_time seen j) seen.step seen.stop j ≡ false → guessed_line policy seen k ≡ guessed_line policy seen j)
        → guessed_line policy seen (suc k) ≡ guessed_line policy seen j
    by true is before =
        let lower : j ≤ k = grind (arith, nat_tests) in
        ap (λ cells. guessed_line policy seen k ++ cells) (nothing_at policy seen k (unplanned seen j k lower out))
        ∙ append-nil (guessed_line policy seen k) ∙ before lower out
    by false is before = ap (guessed_line policy seen) (let e : suc k ≡ j = grind (arith, nat_tests) in e)

-- ---- Words of inputs

length-guesses : (n : ℕ) (last before low high : List ℤ) → length last ≡ n → length before ≡ n → length low ≡ n → length high ≡ n
    → length (guesses last before low high) ≡ n
length-guesses n [] before low high a b c d = a
length-guesses n (l ∷ last) [] low high a b c d = absurd (omega arith)
length-guesses n (l ∷ last) (e ∷ before) [] high a b c d = absurd (omega arith)
length-guesses n (l ∷ last) (e ∷ before) (f ∷ low) [] a b c d = absurd (omega arith)
length-guesses zero (l ∷ last) (e ∷ before) (f ∷ low) (g ∷ high) a b c d = absurd (omega arith)
length-guesses (suc n) (l ∷ last) (e ∷ before) (f ∷ low) (g ∷ high) a b c d =
    ap suc (length-guesses n last before low high (omega arith) (omega arith) (omega arith) (omega arith))

pub record AreLong (n : ℕ) (inputs : Inputs) : Type 0 where
  pub words : length inputs.words ≡ n
  pub before : length inputs.before ≡ n

gone_on : (policy : Policy) (n : ℕ) (low high : List ℤ) (inputs : Inputs) → length low ≡ n → length high ≡ n → AreLong n inputs
    → AreLong n (go_on policy low high inputs)
gone_on Hold n low high inputs l h long = long
gone_on Linear n low high inputs l h long =
    record { words = length-guesses n inputs.words inputs.before low high long.words long.before l h; before = long.words }

pub inputs_long : (policy : Policy) (seen : Seen) (n j : ℕ) → length seen.last ≡ n → length seen.before ≡ n → length seen.low ≡ n
    → length seen.high ≡ n → AreLong n (guessed_inputs policy seen j)
inputs_long policy seen n zero last before low high = record { words = last; before = before }
inputs_long policy seen n (suc j) last before low high =
    gone_on policy n seen.low seen.high (guessed_inputs policy seen j) low high (inputs_long policy seen n j last before low high)

-- ---- What lanes take

-- The rows of cells rise, and are below a limit.
abbrev pub RisesTo : ℕ → List Cell → ℕ → Type 0
RisesTo low [] limit = low ≤ limit
RisesTo low (cell ∷ cells) limit = (low ≤ cell.row) × RisesTo (suc cell.row) cells limit

higher : (low : ℕ) (line : List Cell) (limit above : ℕ) → limit ≤ above → RisesTo low line limit → RisesTo low line above
higher low [] limit above le rises = omega arith
higher low (cell ∷ cells) limit above le rises = (rises.0, higher (suc cell.row) cells limit above le rises.1)

one_more : (low : ℕ) (line : List Cell) (cell : Cell) → RisesTo low line cell.row → RisesTo low (line ++ cell ∷ []) (suc cell.row)
one_more low [] cell rises = (rises, omega arith)
one_more low (first ∷ line) cell rises = (rises.0, one_more (suc first.row) line cell rises.1)

pub rises_from : (low : ℕ) (line : List Cell) (limit : ℕ) → RisesTo low line limit → RisesFrom low line
rises_from low [] limit rises = tt
rises_from low (cell ∷ cells) limit rises = (rises.0, rises_from (suc cell.row) cells limit rises.1)

-- A line of at most so many cells from a row on.
pub record Reaches (row n count : ℕ) (line : List Cell) : Type 0 where
  pub rises : RisesTo row line (row + count)
  pub few : length line ≤ count
  pub cells : AllByRecursion (FitsCell n) line

reaches_more : (row n count : ℕ) (line : List Cell) (planned moves : Bool) (cell : Cell) → cell.row ≡ row + count → (planned ≡ true → FitsCell n cell)
    → Reaches row n count line → Reaches row n (suc count) (line ++ (if planned then (if moves then cell ∷ [] else []) else []))
reaches_more row n count line true true cell is fits so_far = record {
  rises = subst (RisesTo row (line ++ cell ∷ [])) (let e : suc cell.row ≡ row + suc count = omega arith in e)
      (one_more row line cell (subst (RisesTo row line) (sym is) so_far.rises));
  few = let more = length_push line cell in omega (arith, so_far.few);
  cells = each_append (FitsCell n) line (cell ∷ []) so_far.cells (fits refl, tt);
}
reaches_more row n count line true false cell is fits so_far = subst (Reaches row n (suc count)) (sym (append-nil line)) (stays_so row n count line so_far)
  where
    stays_so : (row n count : ℕ) (line : List Cell) → Reaches row n count line → Reaches row n (suc count) line
    stays_so row n count line so_far = record {
      rises = higher row line (row + count) (row + suc count) (omega arith) so_far.rises;
      few = omega (arith, so_far.few);
      cells = so_far.cells;
    }
reaches_more row n count line false moves cell is fits so_far = subst (Reaches row n (suc count)) (sym (append-nil line)) (record {
  rises = higher row line (row + count) (row + suc count) (omega arith) so_far.rises;
  few = omega (arith, so_far.few);
  cells = so_far.cells;
})

-- A planned step ends within the range of times.
planned_end : (seen : Seen) (j : ℕ) → is_planned (planned_time seen j) seen.step seen.stop j ≡ true → planned_time seen j + planned_step seen j ≤ seen.stop
planned_end seen j is = let before : planned_time seen j < seen.stop = grind (arith, nat_tests) in omega arith

pub reaches : (policy : Policy) (seen : Seen) (n j : ℕ) → length seen.last ≡ n → length seen.before ≡ n → length seen.low ≡ n
    → length seen.high ≡ n
    → seen.stop ≤ 10 ^ 15 → Reaches seen.row n j (guessed_line policy seen j)
reaches policy seen n zero last before low high stop = record { rises = omega arith; few = omega arith; cells = tt }
reaches policy seen n (suc j) last before low high stop =
    reaches_more seen.row n j (guessed_line policy seen j) (is_planned (planned_time seen j) seen.step seen.stop j)
    ((planned_step seen j == 0) || nat_lt 0 (local_step seen.factor (planned_time seen j) (planned_step seen j)))
    (record {
      row = seen.row + j;
      time = local_time seen.factor (planned_time seen j);
      step = local_step seen.factor (planned_time seen j) (planned_step seen j);
      inputs = (guessed_inputs policy seen j).words;
    }) refl (λ is. record {
      each_input = (inputs_long policy seen n j last before low high).words;
      in_time = let ends = planned_end seen j is in let fits = local_end seen.factor (planned_time seen j) (planned_step seen j) in omega arith;
    }) (reaches policy seen n j last before low high stop)

pub reached : (policy : Policy) (seen : Seen) (n j : ℕ) (line : List Cell) → line ≡ guessed_line policy seen j → length seen.last ≡ n
    → length seen.before ≡ n → length seen.low ≡ n → length seen.high ≡ n → seen.stop ≤ 10 ^ 15 → Reaches seen.row n j line
reached policy seen n j line is last before low high stop =
    subst (Reaches seen.row n j) (sym is) (reaches policy seen n j last before low high stop)
