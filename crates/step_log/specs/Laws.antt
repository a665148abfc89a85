-- Laws of the steps of a trace.
use Rattle.std.specs.Prelude.{◌≡◌, List, map}
use Rattle.event_runs.specs.EventRuns.{event_members_of, event_run_of}
use Rattle.event_runs.specs.Readings.{read_stand}
use Rattle.step_log.specs.Reports.{event_steps, plain_steps}
use Rattle.unit_tree.specs.Compositions.{run_of}
use Rattle.unit_tree.specs.Orders.{HasNoCycle}
use Rattle.unit_tree.specs.Printable.{IsRanged}
use Rattle.unit_tree.specs.Trace.{IsTrace, Stand}
use Rattle.unit_tree.specs.WellFormed.{IsWellFormed}
use Rattle.unit_tree.specs.declared.ending.Ending.{Ending}
use Rattle.unit_tree.specs.declared.system.System.{System}

-- The agreed steps of the plain form's trace are those of the same trace, read as signals, which is the trace of the system.
abbrev pub StepsAreRead : Type 0
StepsAreRead =
    (system : System) → IsRanged system → IsWellFormed system → HasNoCycle system
    → (stands : List Stand) (ending : Ending) → IsTrace (run_of system) stands ending
    → plain_steps (run_of system) stands ≡ event_steps (event_run_of system) (map (read_stand (event_members_of system)) stands)
