use Rattle.cosim_answers.proofs.CommandLaws.{ends_are_served, refusals_are_of_rules}
use Rattle.cosim_answers.proofs.laws.statuses_have_causes.Goals as goal

pub returns-clause-refused : goal.returns-clause-refused
returns-clause-refused c = refusals_are_of_rules

pub returns-clause-served : goal.returns-clause-served
returns-clause-served c = ends_are_served
