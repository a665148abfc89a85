use Rattle.cosim_answers.proofs.CommandLaws.{notes_agree, runs_agree}
use Rattle.cosim_answers.proofs.laws.workers_change_nothing.Goals as goal

pub returns-clause-agree : goal.returns-clause-agree
returns-clause-agree c = runs_agree

pub returns-clause-notes : goal.returns-clause-notes
returns-clause-notes c = notes_agree
