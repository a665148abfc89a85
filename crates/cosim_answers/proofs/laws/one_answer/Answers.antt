use Rattle.cosim_answers.proofs.CommandLaws.{answers_agree, every_call_is_answered, no_call_is_answered_twice}
use Rattle.cosim_answers.proofs.laws.one_answer.Goals as goal

pub returns-clause-some : goal.returns-clause-some
returns-clause-some c = every_call_is_answered

pub returns-clause-agree : goal.returns-clause-agree
returns-clause-agree c = answers_agree

pub returns-clause-only : goal.returns-clause-only
returns-clause-only c = no_call_is_answered_twice
