use Rattle.std.proofs.Common.{length}
use Rattle.sub_flat.proofs.levels.Walk.close.Given as goal

abbrev pub decreases-loop-other : goal.decreases-loop-other
decreases-loop-other l = length l.self.open.items
