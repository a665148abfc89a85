use Rattle.language_laws.proofs.PlainLines.{plain_lines_are}
use Rattle.language_laws.proofs.laws.plain_lines_are_those.Goals as goal

pub returns : goal.returns
returns c = plain_lines_are
