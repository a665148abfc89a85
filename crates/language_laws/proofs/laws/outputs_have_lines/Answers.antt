use Rattle.language_laws.proofs.LineLaws.{has_line}
use Rattle.language_laws.proofs.laws.outputs_have_lines.Goals as goal

pub returns : goal.returns
returns c = has_line
