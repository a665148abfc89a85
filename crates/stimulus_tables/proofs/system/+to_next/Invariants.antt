use Rattle.std.proofs.Common.{length}
use Rattle.stimulus_tables.proofs.system.+to_next.Given as goal

abbrev pub decreases-to_next : goal.decreases-to_next
decreases-to_next l = length l.later.now
