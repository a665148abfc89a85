use Rattle.fixed_words.proofs.ReadBack.{read_back}
use Rattle.fixed_words.proofs.laws.texts_are_read_back.Goals as goal

pub returns : goal.returns
returns c = read_back
