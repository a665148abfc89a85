use Rattle.std.proofs.Common.{◌≡◌, take}
use Rattle.word_lanes.specs.Guess.{guesses}
use Rattle.word_lanes.proofs.guess_words.Given as goal

abbrev pub invariant-loop-place : goal.invariant-loop-place
invariant-loop-place l = take l.place l.out ≡ take l.place (guesses l.last l.before l.low l.high)
