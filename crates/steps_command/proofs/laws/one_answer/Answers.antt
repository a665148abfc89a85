use Rattle.steps_command.proofs.ReportLaws.{every_call_is_answered, no_call_is_answered_twice}
use Rattle.steps_command.proofs.laws.one_answer.Goals as goal

pub returns : goal.returns
returns c = record { some = every_call_is_answered; once = no_call_is_answered_twice }
