use Rattle.std.proofs.Common.{refl}
use Rattle.std.specs.Fmt.{digits}
use Rattle.unit_tree.specs.declared.expr.Expr.{the_lemmas as expr_lemmas}
use Rattle.unit_tree.specs.declared.line.Line.{the_lemmas as line_lemmas}
use Rattle.language_laws.proofs.KindLemmas.{kind_laws}
use Rattle.language_laws.proofs.PlainLemmas.{plain_measures}
use Rattle.worked_facts.proofs.language.systems_are_worked.Goals as goal

pub returns : goal.returns
unfolding digits
returns c = record {
  thermostat_is = simp (kind_laws, expr_lemmas, line_lemmas) refl;
  step_first = simp line_lemmas refl;
  scopes = simp line_lemmas refl;
  equal_units = refl;
  equal_instances = refl;
  equal_names = refl;
  local_in_max = simp (kind_laws, expr_lemmas, line_lemmas) refl;
  output_in_step = simp (kind_laws, expr_lemmas, line_lemmas) refl;
  no_such_need = simp (kind_laws, expr_lemmas, line_lemmas) refl;
  no_such_unit = refl;
  no_such_param = simp (kind_laws, expr_lemmas, line_lemmas) refl;
  from_an_input = simp (kind_laws, expr_lemmas, line_lemmas) refl;
  fixed_with_int = simp (kind_laws, expr_lemmas, line_lemmas) refl;
  bool_output = simp (kind_laws, expr_lemmas, line_lemmas) refl;
  decimals_of_int = refl;
  number_as_condition = simp (kind_laws, expr_lemmas, line_lemmas) refl;
  truth_for_a_param = simp (kind_laws, expr_lemmas, line_lemmas) refl;
  one_above_int8 = refl;
  least_int8 = refl;
  scaled_too_great = refl;
  hidden_need = simp (kind_laws, expr_lemmas, line_lemmas) refl;
  connected_twice = simp (kind_laws, expr_lemmas, line_lemmas) refl;
  other_type = simp (kind_laws, expr_lemmas, line_lemmas) refl;
  depth_32 = simp plain_measures (simp (kind_laws, expr_lemmas, line_lemmas) refl);
  depth_33 = simp plain_measures (simp (kind_laws, expr_lemmas, line_lemmas) refl);
  no_stop = simp (kind_laws, expr_lemmas, line_lemmas) refl;
  whole_by_value = simp (kind_laws, expr_lemmas, line_lemmas) refl;
  longest_zero = simp (kind_laws, expr_lemmas, line_lemmas) refl;
  rows_of_eleven = simp (kind_laws, expr_lemmas, line_lemmas) refl;
  rows_of_ten = simp (kind_laws, expr_lemmas, line_lemmas) refl;
  param_assigned = simp (kind_laws, expr_lemmas, line_lemmas) refl;
  no_instance = refl;
  half_a_tick_first = refl;
  set_twice = refl;
  sampled_twice = simp (kind_laws, expr_lemmas, line_lemmas) refl;
  needed_twice = simp (kind_laws, expr_lemmas, line_lemmas) refl;
  time_by_param = simp (kind_laws, expr_lemmas, line_lemmas) refl;
  step_by_state = simp (kind_laws, expr_lemmas, line_lemmas) refl;
  variable_t = simp (kind_laws, expr_lemmas, line_lemmas) refl;
  time_in_max = simp (kind_laws, expr_lemmas, line_lemmas) refl;
  clocks_in_step = simp (kind_laws, expr_lemmas, line_lemmas) refl;
  local_in_step = simp (kind_laws, expr_lemmas, line_lemmas) refl;
  name_in_if = simp (kind_laws, expr_lemmas, line_lemmas) refl;
  name_in_accept = simp (kind_laws, expr_lemmas, line_lemmas) refl;
  no_such_target = simp (kind_laws, expr_lemmas, line_lemmas) refl;
  to_an_output = simp (kind_laws, expr_lemmas, line_lemmas) refl;
  input_sampled = simp (kind_laws, expr_lemmas, line_lemmas) refl;
  fixed_max = simp (kind_laws, expr_lemmas, line_lemmas) refl;
  truth_accepted = simp (kind_laws, expr_lemmas, line_lemmas) refl;
  fixed_0_and_int = simp (kind_laws, expr_lemmas, line_lemmas) refl;
  fixed_0 = simp (kind_laws, expr_lemmas, line_lemmas) refl;
  form_of_a_setting = refl;
  form_of_an_input = refl;
  range_of_a_param = refl;
  cost_100000 = simp (kind_laws, expr_lemmas, line_lemmas) refl;
  cost_100001 = simp (kind_laws, expr_lemmas, line_lemmas) refl;
  longest_run = simp (kind_laws, expr_lemmas, line_lemmas) refl;
  too_long_a_run = simp (kind_laws, expr_lemmas, line_lemmas) refl;
  stop_zero = simp (kind_laws, expr_lemmas, line_lemmas) refl;
  negative_stop = simp (kind_laws, expr_lemmas, line_lemmas) refl;
  resolution_of_unit_without_instance = simp (kind_laws, expr_lemmas, line_lemmas) refl;
  input_assigned = simp (kind_laws, expr_lemmas, line_lemmas) refl;
  output_assigned = simp (kind_laws, expr_lemmas, line_lemmas) refl;
}
