use Rattle.run_laws.proofs.RunTraces.{one_trace}
use Rattle.run_laws.proofs.laws.ordered_runs_have_one_trace.Goals as goal

pub returns : goal.returns
returns c = one_trace
