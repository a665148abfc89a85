use Rattle.std.proofs.Common.{◌≡◌}
use Rattle.guess_board.specs.Guesses.{guessed_line, inputs_are, guessed_inputs, planned_time, seen_of}
use Rattle.guess_board.proofs.guesses.guess_line.Given as goal

abbrev pub invariant-loop-j : goal.invariant-loop-j
invariant-loop-j l = record {
  line_is : l.line.items ≡ guessed_line l.policy (seen_of l.seen) l.j;
  inputs : inputs_are l.words.items l.before.items ≡ guessed_inputs l.policy (seen_of l.seen) l.j;
  t_is : l.t ≡ planned_time (seen_of l.seen) l.j;
}
