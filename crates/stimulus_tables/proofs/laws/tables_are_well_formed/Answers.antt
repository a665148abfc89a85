use Rattle.stimulus_tables.proofs.WellFormedTables.{is_well_formed}
use Rattle.stimulus_tables.proofs.laws.tables_are_well_formed.Goals as goal

pub returns : goal.returns
returns c = is_well_formed
