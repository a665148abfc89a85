use Rattle.trace_verify.proofs.PartingLaws.{parted_once}
use Rattle.trace_verify.proofs.laws.texts_are_parted_once.Goals as goal

pub returns : goal.returns
returns c = parted_once
