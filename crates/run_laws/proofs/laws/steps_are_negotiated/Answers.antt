use Rattle.run_laws.proofs.PositionLaws.{agreed_is_at_most}
use Rattle.run_laws.proofs.StepLaws.{proposal_is_greatest, reply_is_at_most, agreed_is_least}
use Rattle.run_laws.proofs.laws.steps_are_negotiated.Goals as goal

pub returns : goal.returns
returns c = record {
  proposal = proposal_is_greatest;
  reply = reply_is_at_most;
  agreed = agreed_is_least;
  at_most = agreed_is_at_most;
}
