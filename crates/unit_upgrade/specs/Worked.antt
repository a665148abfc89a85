-- Upgrades that were worked out by hand.
use Rattle.std.specs.Prelude.{◌≡◌, ℕ, [], codes, replicate, Some}
use Rattle.unit_tree.specs.Parts.{bare_system}
use Rattle.unit_tree.specs.declared.system.Instance.{Instance}
use Rattle.unit_tree.specs.declared.system.System.{System}
use Rattle.unit_upgrade.specs.Upgrades.{upgraded}

abbrev one_instance : Instance
one_instance = record { name = codes "a"; unit = codes "A"; settings = [] }

-- A system of version 1 with so many instances, and nothing else.
abbrev pub bare : ℕ → System
bare instances = record (bare_system 1) { instances = replicate instances one_instance }

-- Missing budgets become the defaults of version 1, by which 1,000,000 rows are shared among the instances. Present budgets stay.
-- A system of version 2 stays as it is.
pub record UpgradesAreWorked : Type 0 where
  pub one : upgraded (bare 1) ≡ record (bare 1) { version = 2; zero = Some 100; rows = Some 100000 }
  pub ten : (upgraded (bare 10)).rows ≡ Some 100000
  pub eleven : (upgraded (bare 11)).rows ≡ Some 90909
  pub most : (upgraded (bare 64)).rows ≡ Some 15625
  pub given : upgraded (record (bare 2) { zero = Some 7; rows = Some 20 }) ≡ record (bare 2) { version = 2; zero = Some 7; rows = Some 20 }
  pub zeros_given : upgraded (record (bare 2) { zero = Some 0 }) ≡ record (bare 2) { version = 2; zero = Some 0; rows = Some 100000 }
  pub version_2 : upgraded (bare_system 2) ≡ bare_system 2
