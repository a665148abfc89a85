use Rattle.nest_runs.proofs.TraceLaws.{one_trace, same_traces}
use Rattle.nest_runs.proofs.laws.nests_run_as_they_are_flat.Goals as goal

pub returns : goal.returns
returns c = record { same = same_traces; one = one_trace }
