use Rattle.step_rule.proofs.MemberLaws.{redo_by_results, trial_by_results}
use Rattle.step_rule.proofs.laws.steps_are_read.Goals as goal

pub returns-clause-trials : goal.returns-clause-trials
returns-clause-trials c = trial_by_results

pub returns-clause-redos : goal.returns-clause-redos
returns-clause-redos c = redo_by_results
