use Rattle.language_laws.proofs.RankLaws.{each_once}
use Rattle.language_laws.proofs.SourceLaws.{forms_are}
use Rattle.language_laws.proofs.laws.source_lines_are_right.Goals as goal

pub returns : goal.returns
returns c = record { forms = forms_are; each_once = each_once }
