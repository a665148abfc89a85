use Rattle.fixed_words.proofs.Spellings.{one_literal}
use Rattle.fixed_words.proofs.laws.texts_spell_one_literal.Goals as goal

pub returns : goal.returns
returns c = one_literal
