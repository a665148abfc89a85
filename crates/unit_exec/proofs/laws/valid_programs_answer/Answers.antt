use Rattle.unit_exec.proofs.ValidAnswers.{valid_answers}
use Rattle.unit_exec.proofs.laws.valid_programs_answer.Goals as goal

pub returns : goal.returns
returns c = valid_answers
