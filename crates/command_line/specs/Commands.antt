-- The commands of the program, by their words, and how much each reads.
use Rattle.std.specs.Prelude.{ℕ, Bool, true, false, nat_le, List, [], ◌∷◌, ◌≤◌, length, codes, IfSome, Option, Some, None, if◌then◌else◌, ⊤}
use Rattle.std.specs.Option.{option_map, unwrap_or}
use Rattle.std.specs.Str.{bytes_eq}
use Rattle.model_rules.specs.Limits.{round_limit, rows_limit, text_limit, window_limit, worker_limit}
use Rattle.guess_board.specs.declared.guesses.Policy.TheVariants.{Hold}
use Rattle.command_line.specs.Generations.{Asked, CanGive, asked_by}
use Rattle.command_line.specs.Options.{◌>>=◌, given_by, is_given_none}
use Rattle.command_line.specs.declared.commands.Command.{Command}
use Rattle.command_line.specs.declared.commands.Command.TheVariants.{Run, Check, Print, Upgrade, Replay, Gen, Bench, Save, Resume, Verify, Stimulus, Flatten}
use Rattle.command_line.specs.declared.commands.Command.TheVariants.{Nodes}
use Rattle.command_line.specs.Ranges.{required_within, within_or}
use Rattle.command_line.specs.declared.options.Given.{Given}
use Rattle.command_line.specs.declared.replaying.Replaying.{Replaying}
use Rattle.command_line.specs.declared.running.Running.{Running}
use Rattle.command_line.specs.declared.saving.Saving.{Saving}
use Rattle.command_line.specs.declared.splitting.Splitting.{Splitting}

-- A command where no option was given. For a command with options, these are the other ones, which its row doesn't name.
abbrev pub without_options : {A : Type 0} → A → Given → Option A
without_options command given = if is_given_none given then Some command else None

-- What a command that generates its system is given: a seed, components and rows, and nothing else.
abbrev pub generation_of : Given → Option Asked
generation_of given = asked_by given >>= λ asked. without_options asked (record given { seed = None; instances = None; rows = None })

-- What `run` is given: 0 to 16 workers, by default none; a window of 0 to 16 rows, by default 4; the policy of guesses, by default
-- `hold`; and whether to report.
abbrev pub running_of : Given → Option Running
running_of given = do
  workers ← within_or 0 worker_limit 0 given.workers
  window ← within_or 0 window_limit 4 given.window
  without_options (record { workers = workers; window = window; guess = unwrap_or given.guess Hold; report = given.report })
      (record given { workers = None; window = None; guess = None; report = false })

-- What `replay` is given: a seed, and 0 to 16 workers, and nothing else.
abbrev pub replaying_of : Given → Option Replaying
replaying_of given = do
  seed ← given.seed
  workers ← required_within 0 worker_limit given.workers
  without_options (record { seed = seed; workers = workers }) (record given { seed = None; workers = None })

-- What `save` is given: a row from 0 to 99,999, and nothing else.
abbrev pub saving_of : Given → Option Saving
saving_of given = do
  row ← required_within 0 99999 given.row
  without_options (record { row = row }) (record given { row = None })

-- What `nodes` is given: a seed and 1 to 100,000 rounds, and nothing else.
abbrev pub splitting_of : Given → Option Splitting
splitting_of given = do
  seed ← given.seed
  rounds ← required_within 1 round_limit given.rounds
  without_options (record { seed = seed; rounds = rounds }) (record given { seed = None; rounds = None })

-- The command of a word with the given options. There is a row for each command, with the options that it takes.
abbrev pub command_with : List ℕ → Given → Option Command
command_with word given =
    if bytes_eq word (codes "run") then option_map Run (running_of given)
    else (if bytes_eq word (codes "check") then without_options Check given
    else (if bytes_eq word (codes "print") then without_options Print given
    else (if bytes_eq word (codes "upgrade") then without_options Upgrade given
    else (if bytes_eq word (codes "replay") then option_map Replay (replaying_of given)
    else (if bytes_eq word (codes "gen") then option_map Gen (generation_of given)
    else (if bytes_eq word (codes "bench") then option_map Bench (generation_of given)
    else (if bytes_eq word (codes "save") then option_map Save (saving_of given)
    else (if bytes_eq word (codes "resume") then without_options Resume given
    else (if bytes_eq word (codes "verify") then without_options Verify given
    else (if bytes_eq word (codes "stimulus") then without_options Stimulus given
    else (if bytes_eq word (codes "flatten") then without_options Flatten given
    else (if bytes_eq word (codes "nodes") then option_map Nodes (splitting_of given)
    else None))))))))))))

-- The command of some words. Words of no command have no form.
abbrev pub command_of : List (List ℕ) → Option Command
command_of [] = None
command_of (word ∷ words) = given_by words >>= command_with word

-- The greatest number of bytes that `resume` reads: those of a text, and as many for the lines before it.
abbrev pub saved_limit : ℕ
saved_limit = 2097152

-- The greatest number of bytes that `verify` reads: those of a text with a long trace after it.
abbrev pub verify_limit : ℕ
verify_limit = 67108864

-- The greatest number of bytes that `stimulus` reads.
abbrev pub stimulus_limit : ℕ
stimulus_limit = 1048576

-- The greatest number of bytes that a command reads, or none where it reads nothing.
abbrev pub input_of : Command → Option ℕ
input_of (Run asked) = Some text_limit
input_of Check = Some text_limit
input_of Print = Some text_limit
input_of Upgrade = Some text_limit
input_of (Replay asked) = Some text_limit
input_of (Gen asked) = None
input_of (Bench asked) = None
input_of (Save asked) = Some text_limit
input_of Resume = Some saved_limit
input_of Verify = Some verify_limit
input_of Stimulus = Some stimulus_limit
input_of Flatten = Some text_limit
input_of (Nodes asked) = Some text_limit

-- The commands that are run with workers: a run that asks for some, and `bench`.
abbrev pub has_workers : Command → Bool
has_workers (Run asked) = nat_le 1 asked.workers
has_workers (Bench asked) = true
has_workers _ = false

-- What `bench` asks for is in its ranges, so that its system exists. The answers of other commands require no more of their numbers.
abbrev pub KeepsRanges : Command → Type 0
KeepsRanges (Bench asked) = CanGive asked
KeepsRanges _ = ⊤

-- A text is not longer than what a command reads at most.
abbrev pub IsReadable : Command → List ℕ → Type 0
IsReadable command text = IfSome (input_of command) (λ limit. length text ≤ limit)

-- Words without a form read nothing.
abbrev pub input_of_words : Option Command → Option ℕ
input_of_words (Some command) = input_of command
input_of_words None = None
