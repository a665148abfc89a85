use Rattle.text_laws.proofs.SourceCounts.{one_for_one}
use Rattle.text_laws.proofs.laws.source_lines_are_one_for_one.Goals as goal

pub returns : goal.returns
returns c = one_for_one
