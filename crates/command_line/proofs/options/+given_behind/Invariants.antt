use Rattle.std.proofs.Common.{length}
use Rattle.command_line.proofs.options.+given_behind.Given as goal

abbrev pub decreases-given_behind : goal.decreases-given_behind
decreases-given_behind l = length l.words.now
