-- The options of a command line: in any order, each at most once, its value in the next word.
use Rattle.std.specs.Prelude.{ℕ, Bool, true, false, ◌&&◌, not, nat_le, List, [], ◌∷◌, length, codes, if◌then◌else◌}
use Rattle.std.specs.Prelude.{Option, Some, None, is_none, is_some}
use Rattle.std.specs.Bool.{then_some}
use Rattle.std.specs.List.{filter, filter_map, list_all}
use Rattle.std.specs.Option.{option_and_then, option_map}
use Rattle.std.specs.Str.{bytes_eq}
use Rattle.fixed_words.specs.Digits.{is_digit, number_from}
use Rattle.command_line.specs.declared.options.Given.{Given}
use Rattle.guess_board.specs.declared.guesses.Policy.{Policy}
use Rattle.guess_board.specs.declared.guesses.Policy.TheVariants.{Hold, Linear}
use Rattle.command_line.specs.declared.options.CommandOption.{CommandOption}
use Rattle.command_line.specs.declared.options.CommandOption.TheVariants.{Workers, Window, Guess, Seed, Instances, Rows, Row, Rounds, Report}

-- The result of a function on the value, where there is one.
infixl 10 ◌>>=◌
abbrev pub ◌>>=◌ : {A B : Type 0} → Option A → (A → Option B) → Option B
given >>= next = option_and_then next given

-- No option was given.
abbrev pub is_given_none : Given → Bool
is_given_none given =
    is_none given.workers
    && (is_none given.window
    && (is_none given.guess
    && (is_none given.seed
    && (is_none given.instances && (is_none given.rows && (is_none given.row && (is_none given.rounds && not given.report)))))))

abbrev pub no_options : Given
no_options = record { workers = None; window = None; guess = None; seed = None; instances = None; rows = None; row = None; rounds = None; report = false }

-- ---- Words as options

-- The number of a word: one to nineteen digits, leading zeros allowed.
abbrev pub number_of_word : List ℕ → Option ℕ
number_of_word word = if nat_le 1 (length word) && (nat_le (length word) 19 && list_all is_digit word) then Some (number_from 0 word) else None

abbrev pub policy_named : List ℕ → Option Policy
policy_named name = if bytes_eq name (codes "hold") then Some Hold else (if bytes_eq name (codes "linear") then Some Linear else None)

-- The option of a flag with the word after it. None where it is not a flag, or the word is not a value of it.
unfoldable pub option_of : List ℕ → List ℕ → Option CommandOption
option_of flag word =
    if bytes_eq flag (codes "--workers") then option_map Workers (number_of_word word)
    else (if bytes_eq flag (codes "--window") then option_map Window (number_of_word word)
    else (if bytes_eq flag (codes "--guess") then option_map Guess (policy_named word)
    else (if bytes_eq flag (codes "--seed") then option_map Seed (number_of_word word)
    else (if bytes_eq flag (codes "--instances") then option_map Instances (number_of_word word)
    else (if bytes_eq flag (codes "--rows") then option_map Rows (number_of_word word)
    else (if bytes_eq flag (codes "--row") then option_map Row (number_of_word word)
    else (if bytes_eq flag (codes "--rounds") then option_map Rounds (number_of_word word)
    else None)))))))

-- Words as options: `--report` is alone, and any other flag has its value in the next word. None where some word is not of an option.
abbrev pub options_of : List (List ℕ) → Option (List CommandOption)
options_of [] = Some []
options_of (flag ∷ []) = if bytes_eq flag (codes "--report") then Some (Report ∷ []) else None
options_of (flag ∷ word ∷ rest) =
    if bytes_eq flag (codes "--report") then option_map (λ more. Report ∷ more) (options_of (word ∷ rest))
    else (option_of flag word >>= λ first. option_map (λ more. first ∷ more) (options_of rest))

-- ---- What options give

-- The value of an option of each kind.
abbrev pub workers_in : CommandOption → Option ℕ
workers_in (Workers number) = Some number
workers_in _ = None

abbrev pub window_in : CommandOption → Option ℕ
window_in (Window number) = Some number
window_in _ = None

abbrev pub guess_in : CommandOption → Option Policy
guess_in (Guess policy) = Some policy
guess_in _ = None

abbrev pub seed_in : CommandOption → Option ℕ
seed_in (Seed number) = Some number
seed_in _ = None

abbrev pub instances_in : CommandOption → Option ℕ
instances_in (Instances number) = Some number
instances_in _ = None

abbrev pub rows_in : CommandOption → Option ℕ
rows_in (Rows number) = Some number
rows_in _ = None

abbrev pub row_in : CommandOption → Option ℕ
row_in (Row number) = Some number
row_in _ = None

abbrev pub rounds_in : CommandOption → Option ℕ
rounds_in (Rounds number) = Some number
rounds_in _ = None

-- Whether the option without a value is given.
abbrev pub is_report : CommandOption → Bool
is_report Report = true
is_report _ = false

-- The one of these, or that there is none. Nothing where there are more.
abbrev pub at_most_one : {A : Type 0} → List A → Option (Option A)
at_most_one [] = Some None
at_most_one (one ∷ []) = Some (Some one)
at_most_one (one ∷ other ∷ rest) = None

-- What options give: of each kind the one value that there is, or that there is none. Nothing where there are two of a kind.
unfoldable pub given_of : List CommandOption → Option Given
given_of options = do
  workers ← at_most_one (filter_map workers_in options)
  window ← at_most_one (filter_map window_in options)
  guess ← at_most_one (filter_map guess_in options)
  seed ← at_most_one (filter_map seed_in options)
  instances ← at_most_one (filter_map instances_in options)
  rows ← at_most_one (filter_map rows_in options)
  row ← at_most_one (filter_map row_in options)
  rounds ← at_most_one (filter_map rounds_in options)
  report ← at_most_one (filter is_report options)
  Some (record {
    workers = workers;
    window = window;
    guess = guess;
    seed = seed;
    instances = instances;
    rows = rows;
    row = row;
    rounds = rounds;
    report = is_some report;
  })

-- What words give. Nothing where they are not options, or two of them are of a kind.
abbrev pub given_by : List (List ℕ) → Option Given
given_by words = options_of words >>= given_of

-- ---- The options read so far. No promise depends on these definitions

-- The number that digits spell after the digits of another number.
abbrev pub number_behind : ℕ → List ℕ → Option ℕ
number_behind before word = if list_all is_digit word then Some (number_from before word) else None

-- The options with one more. Nothing where one of its kind was given before.
abbrev pub with_one : Given → CommandOption → Option Given
with_one given (Workers number) = then_some (is_none given.workers) (record given { workers = Some number })
with_one given (Window number) = then_some (is_none given.window) (record given { window = Some number })
with_one given (Guess policy) = then_some (is_none given.guess) (record given { guess = Some policy })
with_one given (Seed number) = then_some (is_none given.seed) (record given { seed = Some number })
with_one given (Instances number) = then_some (is_none given.instances) (record given { instances = Some number })
with_one given (Rows number) = then_some (is_none given.rows) (record given { rows = Some number })
with_one given (Row number) = then_some (is_none given.row) (record given { row = Some number })
with_one given (Rounds number) = then_some (is_none given.rounds) (record given { rounds = Some number })
with_one given Report = then_some (not given.report) (record given { report = true })

-- And with all of these, one after the other.
abbrev pub with_all : Given → List CommandOption → Option Given
with_all given [] = Some given
with_all given (first ∷ rest) = with_one given first >>= λ more. with_all more rest
