use Rattle.event_runs.proofs.EventLaws.{two}
use Rattle.event_runs.proofs.NoneLaws.{same as none_same}
use Rattle.event_runs.proofs.ValueLaws.{same}
use Rattle.event_runs.proofs.laws.plain_expressions_mean_the_same.Goals as goal

pub returns : goal.returns
returns c = record {
  values = λ occurring events env plain value shows said. same occurring events env plain shows value said;
  events = λ occurring events env plain ty value shows said. two occurring events env plain ty shows value said;
  none = none_same;
}
