use Rattle.std.proofs.Common.{length}
use Rattle.lane_tests.proofs.fronts.+rises.Given as goal

abbrev pub decreases-rises : goal.decreases-rises
decreases-rises l = length l.line.now
