use Rattle.unit_upgrade.proofs.PrintedUpgrades.{upgrades_are_printable}
use Rattle.unit_upgrade.proofs.RulesKept.{upgrades_are_well_formed}
use Rattle.unit_upgrade.proofs.SameRuns.{upgrades_are_of_version_2, upgrades_are_their_own, upgrades_have_no_cycle, upgrades_run_the_same}
use Rattle.unit_upgrade.proofs.laws.upgrades_are_right.Goals as goal

pub returns : goal.returns
returns c = record {
  printable = upgrades_are_printable;
  well_formed = upgrades_are_well_formed;
  no_cycle = upgrades_have_no_cycle;
  version = upgrades_are_of_version_2;
  own = upgrades_are_their_own;
  trace = upgrades_run_the_same;
}
