use Rattle.stimulus_tables.proofs.Printing.{is_printable}
use Rattle.stimulus_tables.proofs.laws.tables_are_printable.Goals as goal

pub returns : goal.returns
returns c = is_printable
