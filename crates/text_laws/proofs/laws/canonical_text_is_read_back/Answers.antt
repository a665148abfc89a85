use Rattle.text_laws.proofs.ReadBack.{read_back}
use Rattle.text_laws.proofs.laws.canonical_text_is_read_back.Goals as goal

pub returns : goal.returns
returns c = read_back
