use Rattle.stimulus_tables.proofs.OneTable.{judged_once}
use Rattle.stimulus_tables.proofs.laws.records_are_judged_once.Goals as goal

pub returns : goal.returns
returns c = judged_once
