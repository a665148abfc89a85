use Rattle.stimulus_tables.proofs.ReadTables.{no_moments}
use Rattle.stimulus_tables.proofs.stimuli.system_of.Goals as goal

pub returns-in-empty : goal.returns-in-empty
returns-in-empty c records begins = no_moments records c.args.names.now c.args.moments.now c.in-empty.len_below begins
