use Rattle.std.proofs.Common.{rules}
use Rattle.word_lanes.proofs.GuessLemmas.{take-EachAtMost}
use Rattle.word_lanes.proofs.tests.lists_of_every_length_are_guessed_whole.Goals as goal

pub extrapolate-requires-clause-intervals : goal.extrapolate-requires-clause-intervals
extrapolate-requires-clause-intervals g c = take-EachAtMost c.loop-length.length _ _ (search rules)
