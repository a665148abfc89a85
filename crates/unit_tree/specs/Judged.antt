-- What is known of a judged system.
use Rattle.std.specs.Prelude.{◌≡◌}
use Rattle.unit_tree.specs.Plain.{plain_form}
use Rattle.unit_tree.specs.Printable.{IsRanged}
use Rattle.unit_tree.specs.WellFormed.{IsWellFormed}
use Rattle.unit_tree.specs.declared.checked.Checked.TheInside.{Inside}
use Rattle.unit_tree.specs.declared.system.System.{System}

abbrev pub source_of : Inside → System
source_of judged = judged.source

-- The system is in range and well-formed, and the system that is kept with it is its plain form.
pub record IsJudged (judged : Inside) : Type 0 where
  pub ranged : IsRanged judged.source
  pub well_formed : IsWellFormed judged.source
  pub plain : judged.plain ≡ plain_form judged.source
