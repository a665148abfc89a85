use Rattle.std.proofs.Common.{refl}
use Rattle.command_line.specs.Options.{given_of, option_of}
use Rattle.command_line.proofs.commands.words_are_worked.Goals as goal

pub returns-clause-numbers : goal.returns-clause-numbers
returns-clause-numbers c = record { leading_zeros = refl; nineteen = refl; twenty = refl; no_digit = refl; signed = refl; behind = refl }

pub returns-clause-ranges : goal.returns-clause-ranges
returns-clause-ranges c = record {
  below = refl;
  least = refl;
  greatest = refl;
  beyond = refl;
  single = refl;
  empty = refl;
  required = refl;
  required_beyond = refl;
  left_out = refl;
  given = refl;
  given_beyond = refl;
  default = refl;
}

pub returns-clause-options : goal.returns-clause-options
unfolding given_of option_of
returns-clause-options c = record {
  none = refl;
  all = refl;
  turned = refl;
  one = refl;
  number_twice = refl;
  policy_twice = refl;
  report_twice = refl;
  no_value = refl;
  other_value = refl;
  other_policy = refl;
  no_number = refl;
  empty = refl;
  word_over = refl;
  other_case = refl;
  joined = refl;
  other_option = refl;
}

pub returns-clause-commands : goal.returns-clause-commands
unfolding given_of option_of
returns-clause-commands c = record {
  run = refl;
  run_crew = refl;
  no_window = refl;
  long_window = refl;
  large_crew = refl;
  window_twice = refl;
  seed_of_none = refl;
  check = refl;
  print = refl;
  upgrade = refl;
  upgrade_rows = refl;
  replay = refl;
  all_workers = refl;
  many_workers = refl;
  replay_alone = refl;
  no_workers = refl;
  window_of_none = refl;
  gen = refl;
  least = refl;
  most = refl;
  most_rows = refl;
  no_instance = refl;
  many_instances = refl;
  no_row = refl;
  many_rows = refl;
  many_steps = refl;
  no_seed = refl;
  reported = refl;
  save = refl;
  last_row = refl;
  late_row = refl;
  saved_row = refl;
  saved_rows = refl;
  resume = refl;
  resumed_row = refl;
  verify = refl;
  verified_rows = refl;
  stimulus = refl;
  seeded_stimulus = refl;
  flatten = refl;
  flattened_rows = refl;
  nodes = refl;
  one_round = refl;
  no_round = refl;
  many_rounds = refl;
  no_rounds = refl;
  rounds_of_none = refl;
  no_word = refl;
  empty = refl;
  other_case = refl;
  two_commands = refl;
  option_of_none = refl;
}
