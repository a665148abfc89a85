use Rattle.text_laws.proofs.ReadIsPrintable.{read_is_printable}
use Rattle.text_laws.proofs.laws.what_is_read_is_printable.Goals as goal

pub returns : goal.returns
returns c = read_is_printable
