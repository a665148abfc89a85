use Rattle.trace_rows.proofs.BoundLaws.{cells_are_bounded, times_are_bounded}
use Rattle.trace_rows.proofs.laws.work_is_bounded.Goals as goal

pub returns : goal.returns
returns c = record { cells = cells_are_bounded; times = times_are_bounded }
