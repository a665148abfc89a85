use Rattle.std.proofs.Common.{length}
use Rattle.stimulus_tables.proofs.system.+last_time.Given as goal

abbrev pub decreases-last_time : goal.decreases-last_time
decreases-last_time l = length l.later.now
