use Rattle.stimulus_tables.proofs.PlayedLaws.{table_played}
use Rattle.stimulus_tables.proofs.laws.tables_are_played.Goals as goal

pub returns : goal.returns
returns c = table_played
