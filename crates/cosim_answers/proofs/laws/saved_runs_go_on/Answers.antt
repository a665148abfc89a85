use Rattle.cosim_answers.proofs.SavedRuns.{saved_runs_go_on}
use Rattle.cosim_answers.proofs.laws.saved_runs_go_on.Goals as goal

pub returns : goal.returns
returns c = saved_runs_go_on
