use Rattle.std.proofs.Common.{◌≡◌, ◌++◌, drop}
use Rattle.unit_tree.specs.Plain.{plain_needs}
use Rattle.unit_plain.proofs.units.plain_needs.Given as goal

abbrev pub invariant-loop-name : goal.invariant-loop-name
invariant-loop-name l = plain_needs l.unit l.names ≡ l.needs ++ plain_needs l.unit (drop l.name-index l.names)
