-- Words that were worked out by hand: which numbers they are, which options they give, and which command they are of.
use Rattle.std.specs.Prelude.{◌≡◌, ℕ, true, false, List, [], ◌∷◌, codes, Some, None}
use Rattle.command_line.specs.Commands.{command_of}
use Rattle.command_line.specs.Options.{given_by, no_options, number_of_word}
use Rattle.command_line.specs.Ranges.{required_within, within, within_or}
use Rattle.command_line.specs.declared.commands.Command.TheVariants.{Run, Check, Print, Upgrade, Replay, Gen, Bench, Save, Resume, Verify, Stimulus, Flatten}
use Rattle.command_line.specs.declared.commands.Command.TheVariants.{Nodes}
use Rattle.command_line.specs.declared.options.Given.{Given}
use Rattle.guess_board.specs.declared.guesses.Policy.TheVariants.{Hold, Linear}

abbrev all_options : Given
all_options = record {
  workers = Some 4;
  window = Some 0;
  guess = Some Linear;
  seed = Some 7;
  instances = Some 2;
  rows = Some 3;
  row = Some 5;
  rounds = Some 6;
  report = true;
}

-- A number has one to nineteen digits, and no other bytes.
pub record NumbersAreWorked : Type 0 where
  pub leading_zeros : number_of_word (codes "0016") ≡ Some 16
  pub nineteen : number_of_word (codes "9999999999999999999") ≡ Some 9999999999999999999
  pub twenty : number_of_word (codes "00000000000000000000") ≡ None
  pub no_digit : number_of_word [] ≡ None
  pub signed : number_of_word (codes "+1") ≡ None
  pub behind : number_of_word (codes "1 ") ≡ None

-- A range includes both of its ends and nothing beyond them, for a given number or a default.
pub record RangesAreWorked : Type 0 where
  pub below : within 1 16 0 ≡ None
  pub least : within 1 16 1 ≡ Some 1
  pub greatest : within 1 16 16 ≡ Some 16
  pub beyond : within 1 16 17 ≡ None
  pub single : within 4 4 4 ≡ Some 4
  pub empty : within 4 3 4 ≡ None
  pub required : required_within 1 16 (Some 16) ≡ Some 16
  pub required_beyond : required_within 1 16 (Some 17) ≡ None
  pub left_out : required_within 1 16 None ≡ None
  pub given : within_or 0 16 4 (Some 0) ≡ Some 0
  pub given_beyond : within_or 0 16 4 (Some 17) ≡ None
  pub default : within_or 0 16 4 None ≡ Some 4

-- Options come in any order, each at most once, and have their values.
pub record OptionsAreWorked : Type 0 where
  pub none : given_by [] ≡ Some no_options
  pub all : given_by
      (codes "--workers" ∷ codes "4" ∷ codes "--window" ∷ codes "0" ∷ codes "--guess" ∷ codes "linear" ∷ codes "--seed" ∷ codes "7"
      ∷ codes "--instances" ∷ codes "2" ∷ codes "--rows" ∷ codes "3" ∷ codes "--row" ∷ codes "5" ∷ codes "--rounds" ∷ codes "6"
      ∷ codes "--report" ∷ []) ≡ Some all_options
  pub turned : given_by
      (codes "--rounds" ∷ codes "006" ∷ codes "--row" ∷ codes "5" ∷ codes "--rows" ∷ codes "3" ∷ codes "--instances" ∷ codes "02"
      ∷ codes "--seed" ∷ codes "7" ∷ codes "--report" ∷ codes "--guess" ∷ codes "linear" ∷ codes "--window" ∷ codes "00"
      ∷ codes "--workers" ∷ codes "04" ∷ []) ≡ Some all_options
  pub one : given_by (codes "--guess" ∷ codes "hold" ∷ []) ≡ Some (record no_options { guess = Some Hold })
  pub number_twice : given_by (codes "--window" ∷ codes "4" ∷ codes "--window" ∷ codes "4" ∷ []) ≡ None
  pub policy_twice : given_by (codes "--guess" ∷ codes "hold" ∷ codes "--guess" ∷ codes "hold" ∷ []) ≡ None
  pub report_twice : given_by (codes "--report" ∷ codes "--report" ∷ []) ≡ None
  pub no_value : given_by (codes "--report" ∷ codes "--workers" ∷ []) ≡ None
  pub other_value : given_by (codes "--workers" ∷ codes "--report" ∷ []) ≡ None
  pub other_policy : given_by (codes "--guess" ∷ codes "Hold" ∷ []) ≡ None
  pub no_number : given_by (codes "--window" ∷ codes "four" ∷ []) ≡ None
  pub empty : given_by (codes "--window" ∷ [] ∷ []) ≡ None
  pub word_over : given_by (codes "--window" ∷ codes "1" ∷ codes "1" ∷ []) ≡ None
  pub other_case : given_by (codes "--Window" ∷ codes "1" ∷ []) ≡ None
  pub joined : given_by (codes "--workers=4" ∷ []) ≡ None
  pub other_option : given_by (codes "--help" ∷ []) ≡ None

-- What `gen` and `bench` are given in this order.
abbrev asking : List ℕ → List ℕ → List ℕ → List (List ℕ)
asking seed instances rows = codes "--seed" ∷ seed ∷ codes "--instances" ∷ instances ∷ codes "--rows" ∷ rows ∷ []

-- Each command has its word, with the options that it takes. Other words are of no command.
pub record CommandsAreWorked : Type 0 where
  pub run : command_of (codes "run" ∷ []) ≡ Some (Run (record { workers = 0; window = 4; guess = Hold; report = false }))
  pub run_crew : command_of
      (codes "run" ∷ codes "--guess" ∷ codes "linear" ∷ codes "--report" ∷ codes "--window" ∷ codes "16" ∷ codes "--workers" ∷ codes "016" ∷ [])
      ≡ Some (Run (record { workers = 16; window = 16; guess = Linear; report = true }))
  pub no_window : command_of (codes "run" ∷ codes "--window" ∷ codes "0" ∷ [])
      ≡ Some (Run (record { workers = 0; window = 0; guess = Hold; report = false }))
  pub long_window : command_of (codes "run" ∷ codes "--window" ∷ codes "17" ∷ []) ≡ None
  pub large_crew : command_of (codes "run" ∷ codes "--workers" ∷ codes "17" ∷ []) ≡ None
  pub window_twice : command_of (codes "run" ∷ codes "--window" ∷ codes "4" ∷ codes "--window" ∷ codes "4" ∷ []) ≡ None
  pub seed_of_none : command_of (codes "run" ∷ codes "--seed" ∷ codes "1" ∷ []) ≡ None
  pub check : command_of (codes "check" ∷ []) ≡ Some Check
  pub print : command_of (codes "print" ∷ []) ≡ Some Print
  pub upgrade : command_of (codes "upgrade" ∷ []) ≡ Some Upgrade
  pub upgrade_rows : command_of (codes "upgrade" ∷ codes "--rows" ∷ codes "3" ∷ []) ≡ None
  pub replay : command_of (codes "replay" ∷ codes "--workers" ∷ codes "0" ∷ codes "--seed" ∷ codes "9999999999999999999" ∷ [])
      ≡ Some (Replay (record { seed = 9999999999999999999; workers = 0 }))
  pub all_workers : command_of (codes "replay" ∷ codes "--seed" ∷ codes "1" ∷ codes "--workers" ∷ codes "16" ∷ [])
      ≡ Some (Replay (record { seed = 1; workers = 16 }))
  pub many_workers : command_of (codes "replay" ∷ codes "--seed" ∷ codes "1" ∷ codes "--workers" ∷ codes "17" ∷ []) ≡ None
  pub replay_alone : command_of (codes "replay" ∷ []) ≡ None
  pub no_workers : command_of (codes "replay" ∷ codes "--seed" ∷ codes "1" ∷ []) ≡ None
  pub window_of_none : command_of (codes "replay" ∷ codes "--seed" ∷ codes "1" ∷ codes "--workers" ∷ codes "1" ∷ codes "--window" ∷ codes "4" ∷ []) ≡ None
  pub gen : command_of (codes "gen" ∷ asking (codes "0") (codes "2") (codes "3")) ≡ Some (Gen (record { seed = 0; instances = 2; rows = 3 }))
  pub least : command_of (codes "bench" ∷ asking (codes "0") (codes "1") (codes "1")) ≡ Some (Bench (record { seed = 0; instances = 1; rows = 1 }))
  pub most : command_of (codes "bench" ∷ asking (codes "9999999999999999999") (codes "64") (codes "15625"))
      ≡ Some (Bench (record { seed = 9999999999999999999; instances = 64; rows = 15625 }))
  pub most_rows : command_of (codes "gen" ∷ asking (codes "1") (codes "10") (codes "100000"))
      ≡ Some (Gen (record { seed = 1; instances = 10; rows = 100000 }))
  pub no_instance : command_of (codes "gen" ∷ asking (codes "0") (codes "0") (codes "3")) ≡ None
  pub many_instances : command_of (codes "gen" ∷ asking (codes "0") (codes "65") (codes "3")) ≡ None
  pub no_row : command_of (codes "gen" ∷ asking (codes "0") (codes "2") (codes "0")) ≡ None
  pub many_rows : command_of (codes "gen" ∷ asking (codes "0") (codes "1") (codes "100001")) ≡ None
  pub many_steps : command_of (codes "bench" ∷ asking (codes "0") (codes "64") (codes "15626")) ≡ None
  pub no_seed : command_of (codes "gen" ∷ codes "--instances" ∷ codes "2" ∷ codes "--rows" ∷ codes "3" ∷ []) ≡ None
  pub reported : command_of (codes "bench" ∷ codes "--report" ∷ asking (codes "0") (codes "2") (codes "3")) ≡ None
  pub save : command_of (codes "save" ∷ codes "--row" ∷ codes "0" ∷ []) ≡ Some (Save (record { row = 0 }))
  pub last_row : command_of (codes "save" ∷ codes "--row" ∷ codes "0099999" ∷ []) ≡ Some (Save (record { row = 99999 }))
  pub late_row : command_of (codes "save" ∷ codes "--row" ∷ codes "100000" ∷ []) ≡ None
  pub saved_row : command_of (codes "save" ∷ []) ≡ None
  pub saved_rows : command_of (codes "save" ∷ codes "--rows" ∷ codes "2" ∷ []) ≡ None
  pub resume : command_of (codes "resume" ∷ []) ≡ Some Resume
  pub resumed_row : command_of (codes "resume" ∷ codes "--row" ∷ codes "2" ∷ []) ≡ None
  pub verify : command_of (codes "verify" ∷ []) ≡ Some Verify
  pub verified_rows : command_of (codes "verify" ∷ codes "--rows" ∷ codes "2" ∷ []) ≡ None
  pub stimulus : command_of (codes "stimulus" ∷ []) ≡ Some Stimulus
  pub seeded_stimulus : command_of (codes "stimulus" ∷ codes "--seed" ∷ codes "1" ∷ []) ≡ None
  pub flatten : command_of (codes "flatten" ∷ []) ≡ Some Flatten
  pub flattened_rows : command_of (codes "flatten" ∷ codes "--rows" ∷ codes "2" ∷ []) ≡ None
  pub nodes : command_of (codes "nodes" ∷ codes "--rounds" ∷ codes "100000" ∷ codes "--seed" ∷ codes "9999999999999999999" ∷ [])
      ≡ Some (Nodes (record { seed = 9999999999999999999; rounds = 100000 }))
  pub one_round : command_of (codes "nodes" ∷ codes "--seed" ∷ codes "0" ∷ codes "--rounds" ∷ codes "1" ∷ [])
      ≡ Some (Nodes (record { seed = 0; rounds = 1 }))
  pub no_round : command_of (codes "nodes" ∷ codes "--seed" ∷ codes "0" ∷ codes "--rounds" ∷ codes "0" ∷ []) ≡ None
  pub many_rounds : command_of (codes "nodes" ∷ codes "--seed" ∷ codes "0" ∷ codes "--rounds" ∷ codes "100001" ∷ []) ≡ None
  pub no_rounds : command_of (codes "nodes" ∷ codes "--seed" ∷ codes "0" ∷ []) ≡ None
  pub rounds_of_none : command_of (codes "replay" ∷ codes "--seed" ∷ codes "1" ∷ codes "--rounds" ∷ codes "1" ∷ []) ≡ None
  pub no_word : command_of [] ≡ None
  pub empty : command_of ([] ∷ []) ≡ None
  pub other_case : command_of (codes "Run" ∷ []) ≡ None
  pub two_commands : command_of (codes "check" ∷ codes "print" ∷ []) ≡ None
  pub option_of_none : command_of (codes "check" ∷ codes "--report" ∷ []) ≡ None
