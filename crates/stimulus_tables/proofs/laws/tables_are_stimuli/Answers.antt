use Rattle.stimulus_tables.proofs.StimulusLaws.{table_is_stimulus}
use Rattle.stimulus_tables.proofs.laws.tables_are_stimuli.Goals as goal

pub returns : goal.returns
returns c = table_is_stimulus
