use Rattle.std.proofs.Common.{refl}
use Rattle.unit_vm.proofs.laws.machine_is_worked.Goals as goal

pub returns : goal.returns
returns c = record {
  difference = refl;
  clamped = refl;
  zero_divisor = refl;
  out_of_type = refl;
  no_operand = refl;
  false_goes_ahead = refl;
  loops_turn = refl;
  accepted = refl;
  cost = refl;
  around = refl;
  words = refl;
  local_begins_as_0 = refl;
  limit_below_0 = refl;
  output_out_of_type = refl;
  result_kept = λ facts done. refl;
}
