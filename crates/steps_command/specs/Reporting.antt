-- The effects of the parts of the call.
use Rattle.std.specs.Prelude.{◌≡◌, Result, Ok, Err}
use Rattle.cosim_answers.specs.Accepted.{status_of, traced_notes}
use Rattle.cosim_answers.specs.SourcePlaces.{source_end}
use Rattle.cosim_call.specs.Calls.{Fails, Stream}
use Rattle.cosim_call.specs.declared.coming.Served.{Served}
use Rattle.cosim_call.specs.declared.coming.Stopped.{Stopped}
use Rattle.cosim_call.specs.declared.coming.Stopped.TheVariants as stopped
use Rattle.step_log.specs.Reports.{AppendsReportPrefix, ReportsSteps}
use Rattle.step_log.specs.declared.report.RunEnd.{RunEnd}
use Rattle.step_log.specs.declared.report.StepReport.{StepReport}
use Rattle.unit_tree.specs.declared.system.System.{System}

-- The steps of a system's run were reported, or the run was given up, and what was written is a prefix of the report.
abbrev pub Reports : StepReport → System → Stream → Stream → Result RunEnd Stopped → Type 0
Reports report system out out' (Ok end) = ReportsSteps report system out.bytes out'.bytes end × (out'.faults ≡ out.faults)
Reports report system out out' (Err stopped.WriteFault) = AppendsReportPrefix report system out.bytes out'.bytes × Fails out out'
Reports report system out out' (Err stopped.NoMemory) = AppendsReportPrefix report system out.bytes out'.bytes × (out'.faults ≡ out.faults)
Reports report system out out' (Err _) = ⊥

-- The end of a run of the system is reported as that of `cosim run`. Or there was no memory for this.
abbrev pub TellsReported : System → RunEnd → Result Served Stopped → Type 0
TellsReported system end (Ok served) =
    (served.status ≡ status_of end.outcome) × (served.notes ≡ traced_notes system (source_end system end.outcome) end.last)
TellsReported system end (Err why) = why ≡ stopped.NoMemory
