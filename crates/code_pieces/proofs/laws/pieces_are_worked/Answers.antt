use Rattle.std.proofs.Common.{refl}
use Rattle.code_pieces.proofs.laws.pieces_are_worked.Goals as goal

pub returns : goal.returns
returns c = record {
  choice = refl;
  when = refl;
  loop = refl;
  empty_loop = refl;
  chooses_first = refl;
  chooses_second = refl;
  lacks_a_word = refl;
  leaves_out = refl;
  turns = refl;
  faults_in_a_turn = refl;
  costs = refl;
  loop_costs = refl;
  code_costs = refl;
  height = refl;
  two_heights = refl;
  grows_in_a_turn = refl;
  operand_is_missing = refl;
  top = refl;
  slot_is_there = refl;
  slot_is_not_there = refl;
  no_turn = refl;
  too_many_turns = refl;
  jump_by_itself = refl;
  ends = refl;
  output = refl;
  step = refl;
  step_faults = refl;
}
