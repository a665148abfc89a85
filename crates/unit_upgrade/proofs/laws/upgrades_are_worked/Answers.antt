use Rattle.std.proofs.Common.{refl}
use Rattle.unit_upgrade.proofs.laws.upgrades_are_worked.Goals as goal

pub returns : goal.returns
returns c = record { one = refl; ten = refl; eleven = refl; most = refl; given = refl; zeros_given = refl; version_2 = refl }
