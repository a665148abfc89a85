-- What a run without workers reports of steps by others.
use Rattle.std.specs.Prelude.{◌≡◌}
use Rattle.trace_rows.specs.declared.report.Report.{Report}

-- No step was taken from answers of others, and no ticket was made.
pub record IsAlone (report : Report) : Type 0 where
  pub found : report.found ≡ 0
  pub tickets : report.tickets ≡ 0
  pub posted : report.posted ≡ 0
  pub back : report.back ≡ 0
  pub lapsed : report.lapsed ≡ 0
