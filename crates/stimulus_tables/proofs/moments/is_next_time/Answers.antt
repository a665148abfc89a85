use Rattle.stimulus_tables.proofs.MomentLaws.{last_next}
use Rattle.stimulus_tables.proofs.moments.is_next_time.Goals as goal

pub returns-in-len1-up : goal.returns-in-len1-up
returns-in-len1-up c = last_next c.args.before.now c.last-item.result c.args.time c.in-len1-up.len_at_least c.last-item.is
