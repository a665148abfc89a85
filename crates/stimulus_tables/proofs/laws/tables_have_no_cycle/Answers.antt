use Rattle.stimulus_tables.proofs.OutputLaws.{no_cycle}
use Rattle.stimulus_tables.proofs.laws.tables_have_no_cycle.Goals as goal

pub returns : goal.returns
returns c names first later is = no_cycle names first later is.are_names.differ
