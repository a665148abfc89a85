-- Upgrades: the same system in version 2 for a system of version 1.
use Rattle.std.specs.Prelude.{◌<◌, ◌≤◌, ◌==◌, if◌then◌else◌, length, Some, ⊤}
use Rattle.std.specs.Option.{unwrap_or}
use Rattle.unit_tree.specs.Canonical.{canonical_text}
use Rattle.model_rules.specs.Limits.{default_zeros}
use Rattle.unit_tree.specs.Compositions.{default_rows}
use Rattle.model_rules.specs.Limits.{text_limit}
use Rattle.unit_tree.specs.declared.system.System.{System}
use Rattle.unit_upgrade.specs.declared.fault.UpgradeFault.{UpgradeFault}
use Rattle.unit_upgrade.specs.declared.fault.UpgradeFault.TheVariants as fault

-- A system of version 1 in version 2. Where it has no budget, it gets the default of version 1, since that of version 2 differs.
abbrev pub in_version_2 : System → System
in_version_2 system = record system {
  version = 2;
  zero = Some (unwrap_or system.zero (default_zeros 1));
  rows = Some (unwrap_or system.rows (default_rows 1 (length system.instances)));
}

-- The upgrade of a system. A system of version 2 is its own.
abbrev pub upgraded : System → System
upgraded system = if system.version == 1 then in_version_2 system else system

-- The canonical text of a system is not longer than a text may be.
abbrev pub IsShortEnough : System → Type 0
IsShortEnough system = length (canonical_text system) ≤ text_limit

-- Why a system has no upgrade: its text would be too long. Lack of memory says nothing of the system.
abbrev pub IsRightFault : System → UpgradeFault → Type 0
IsRightFault system fault.TooLong = text_limit < length (canonical_text (upgraded system))
IsRightFault system fault.NoMemory = ⊤
