use Rattle.language_laws.proofs.PhraseLaws.{right}
use Rattle.language_laws.proofs.laws.canonical_phrases_are_right.Goals as goal

pub returns : goal.returns
returns c = λ value unsigned. let is = right value unsigned in record { is_tree = is.is_tree; stands_so = is.stands_so }
