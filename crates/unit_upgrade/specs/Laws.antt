-- Laws of upgrades: the upgrade of a system is read, judged and run as the system is.
use Rattle.std.specs.Prelude.{◌≡◌, ◌↔◌, List}
use Rattle.event_runs.specs.EventRuns.{IsEventTraceOf}
use Rattle.event_runs.specs.EventTrace.{EventRow}
use Rattle.super_time.specs.declared.point.Point.{Point}
use Rattle.unit_tree.specs.Orders.{HasNoCycle}
use Rattle.unit_tree.specs.Printable.{IsPrintable, IsRanged}
use Rattle.unit_tree.specs.WellFormed.{IsWellFormed}
use Rattle.unit_tree.specs.declared.ending.Ending.{Ending}
use Rattle.unit_tree.specs.declared.system.System.{System}
use Rattle.unit_upgrade.specs.Upgrades.{IsShortEnough, upgraded}

-- Its text is read back as the upgrade, where it is not too long.
abbrev pub UpgradesArePrintable : Type 0
UpgradesArePrintable =
    (system : System) → IsPrintable system → IsWellFormed system → IsShortEnough (upgraded system) → IsPrintable (upgraded system)

-- It breaks no rule.
abbrev pub UpgradesAreWellFormed : Type 0
UpgradesAreWellFormed = (system : System) → IsWellFormed system → IsWellFormed (upgraded system)

-- It has no cycle where the system has none.
abbrev pub UpgradesHaveNoCycle : Type 0
UpgradesHaveNoCycle = (system : System) → HasNoCycle system → HasNoCycle (upgraded system)

-- It is of version 2.
abbrev pub UpgradesAreOfVersion2 : Type 0
UpgradesAreOfVersion2 = (system : System) → IsRanged system → (upgraded system).version ≡ 2

-- Its own upgrade is itself.
abbrev pub UpgradesAreTheirOwn : Type 0
UpgradesAreTheirOwn = (system : System) → upgraded (upgraded system) ≡ upgraded system

-- It has the rows, the last point and the end of the system, and no others.
abbrev pub UpgradesRunTheSame : Type 0
UpgradesRunTheSame =
    (system : System) (rows : List EventRow) (last : Point) (ending : Ending)
    → IsEventTraceOf (upgraded system) rows last ending ↔ IsEventTraceOf system rows last ending
