use Rattle.link_laws.proofs.StageLaws.{stage_is_right}
use Rattle.link_laws.proofs.laws.stages_are_right.Goals as goal

pub returns : goal.returns
returns c = stage_is_right
