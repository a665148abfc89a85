use Rattle.std.proofs.Common.{refl}
use Rattle.worked_facts.proofs.language.blocks_are_worked.Goals as goal

pub returns : goal.returns
returns c = record {
  in_else = refl;
  after_end = refl;
  max_in_unit = refl;
  stop_in_unit = refl;
  stop_at_top = refl;
  end_at_top = refl;
  step_in_step = refl;
  assignment_in_choice = refl;
  assignment_in_unit = refl;
  event_in_unit = refl;
  event_in_step = refl;
  else_in_if = refl;
  second_else = refl;
  else_in_step = refl;
  else_of_inner = refl;
  second_header = refl;
  second_stop = refl;
  second_max = refl;
  max_of_next_unit = refl;
  second_step = refl;
  sixteenth = refl;
  seventeenth = refl;
}
