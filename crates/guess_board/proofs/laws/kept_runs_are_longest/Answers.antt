use Rattle.guess_board.proofs.RunLaws.{longest_run}
use Rattle.guess_board.proofs.laws.kept_runs_are_longest.Goals as goal

pub returns : goal.returns
returns c = longest_run
