use Rattle.std.proofs.Common.{refl}
use Rattle.unit_tree.specs.declared.expr.Expr.{the_lemmas as expr_lemmas}
use Rattle.unit_tree.specs.declared.line.Line.{the_lemmas as line_lemmas}
use Rattle.language_laws.proofs.KindLemmas.{kind_laws}
use Rattle.worked_facts.proofs.language.kinds_and_costs_are_worked.Goals as goal

pub returns-clause-kinds : goal.returns-clause-kinds
returns-clause-kinds c = record {
  sum = simp kind_laws refl;
  product = simp kind_laws refl;
  ratio = simp kind_laws refl;
  quotient = simp kind_laws refl;
  order = simp kind_laws refl;
  equal_truths = simp kind_laws refl;
  whole_of_truth = simp kind_laws refl;
  rescaled = simp kind_laws refl;
  clamped = simp kind_laws refl;
  chosen = simp kind_laws refl;
}

pub returns-clause-wrong_kinds : goal.returns-clause-wrong_kinds
returns-clause-wrong_kinds c = record {
  sum_of_other_decimals = simp kind_laws refl;
  sum_of_truths = simp kind_laws refl;
  negated_truth = simp kind_laws refl;
  magnitude_of_truth = simp kind_laws refl;
  ratio_of_ints = simp kind_laws refl;
  quotient_of_fixed = simp kind_laws refl;
  remainder_of_fixed = simp kind_laws refl;
  order_of_truths = simp kind_laws refl;
  int_equal_to_truth = simp kind_laws refl;
  conjunction_with_int = simp kind_laws refl;
  disjunction_of_ints = simp kind_laws refl;
  not_of_int = simp kind_laws refl;
  fixed_of_truth = simp kind_laws refl;
  clamped_by_fixed = simp kind_laws refl;
  clamped_truth = simp kind_laws refl;
  chosen_by_int = simp kind_laws refl;
  chosen_of_two_kinds = simp kind_laws refl;
  undeclared = simp kind_laws refl;
  wrong_inside = simp kind_laws refl;
}

pub returns-clause-line_kinds : goal.returns-clause-line_kinds
returns-clause-line_kinds c = record {
  assignment_of_int_to_fixed = simp (line_lemmas, kind_laws) refl;
  assignment_to_undeclared = simp (line_lemmas, kind_laws) refl;
  acceptance = simp (line_lemmas, kind_laws) refl;
  acceptance_of_fixed = simp (line_lemmas, kind_laws) refl;
  wrong_in_then = simp (line_lemmas, kind_laws) refl;
  right_in_blocks = simp (line_lemmas, kind_laws) refl;
  wrong_in_blocks = simp (line_lemmas, kind_laws) refl;
  second_line_wrong = simp (line_lemmas, kind_laws) refl;
}

pub returns-clause-costs : goal.returns-clause-costs
returns-clause-costs c = record {
  leaf = simp (expr_lemmas, line_lemmas) refl;
  clamp = simp (expr_lemmas, line_lemmas) refl;
  choice = simp (expr_lemmas, line_lemmas) refl;
  nested = simp (expr_lemmas, line_lemmas) refl;
  assignment = simp (expr_lemmas, line_lemmas) refl;
  acceptance = simp (expr_lemmas, line_lemmas) refl;
  without_else = simp (expr_lemmas, line_lemmas) refl;
  with_else = simp (expr_lemmas, line_lemmas) refl;
  empty_else = simp (expr_lemmas, line_lemmas) refl;
  repeated = simp (expr_lemmas, line_lemmas) refl;
  repeated_nothing = simp (expr_lemmas, line_lemmas) refl;
  blocks_in_blocks = simp (expr_lemmas, line_lemmas) refl;
  expression_call = simp (expr_lemmas, line_lemmas) refl;
  step_call = simp (expr_lemmas, line_lemmas) refl;
}
