-- When a run that was given up reports a failed write.
use Rattle.std.specs.Prelude.{◌≡◌, ℕ, ◌≤◌, Result, Err}
use Rattle.cosim_io.specs.Faults.{Rose}
use Rattle.trace_rows.specs.declared.fault.CrewFault.{CrewFault}
use Rattle.trace_rows.specs.declared.fault.CrewFault.TheVariants.{WriteFault}

-- A run reports a failed write exactly where one failed: there the sink's count of faults rose, and otherwise it stayed.
pub record TellsFault {T : Type 0} (before now : ℕ) (result : Result T CrewFault) : Type 0 where
  pub later : before ≤ now
  pub failed : result ≡ Err WriteFault → Rose before now
  pub same : (result ≡ Err WriteFault → ⊥) → now ≡ before
