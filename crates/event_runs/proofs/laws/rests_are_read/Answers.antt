use Rattle.event_runs.proofs.RestLaws.{positions_read, rests_fit, rests_once, rests_read, stands_read}
use Rattle.event_runs.proofs.laws.rests_are_read.Goals as goal

pub returns : goal.returns
returns c = record { positions = positions_read; read = rests_read; once = rests_once; rows = rests_fit; stands = stands_read }
