use Rattle.std.proofs.Common.{length}
use Rattle.link_core.proofs.lengths.+read_limits.Given as goal

abbrev pub decreases-read_limits : goal.decreases-read_limits
decreases-read_limits l = length l.units.now
