use Rattle.sub_flat.proofs.JudgedOnce.{judged_once}
use Rattle.sub_flat.proofs.laws.nests_are_judged_once.Goals as goal

pub returns : goal.returns
returns c = judged_once
