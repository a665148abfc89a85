use Rattle.language_laws.proofs.JudgementLaws.{well_formed as judged, refused as by_rule, only as no_other}
use Rattle.language_laws.proofs.laws.each_system_is_judged_once.Goals as goal

pub returns : goal.returns
returns c = record { well_formed = judged; refused = by_rule; only = no_other }
