use Rattle.run_laws.proofs.Rests.{rest_ends_trace}
use Rattle.run_laws.proofs.laws.rests_end_traces.Goals as goal

pub returns : goal.returns
returns c = rest_ends_trace
