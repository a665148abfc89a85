use Rattle.text_laws.proofs.ShortestLines.{shortest}
use Rattle.text_laws.proofs.laws.canonical_lines_are_shortest.Goals as goal

pub returns : goal.returns
returns c = shortest
