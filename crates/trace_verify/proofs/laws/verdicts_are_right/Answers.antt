use Rattle.trace_verify.proofs.VerdictLaws.{verdict_right}
use Rattle.trace_verify.proofs.laws.verdicts_are_right.Goals as goal

pub returns : goal.returns
returns c = verdict_right
