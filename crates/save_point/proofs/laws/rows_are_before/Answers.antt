use Rattle.save_point.proofs.RowsBefore.{rows_before}
use Rattle.save_point.proofs.laws.rows_are_before.Goals as goal

pub returns : goal.returns
returns c = rows_before
