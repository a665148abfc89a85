use Rattle.std.proofs.Common.{refl, arith}
use Rattle.unit_tree.specs.declared.expr.Expr.{the_lemmas as expr_lemmas}
use Rattle.unit_tree.specs.declared.line.Line.{the_lemmas as line_lemmas}
use Rattle.language_laws.proofs.PlainLemmas.{plain_measures}
use Rattle.worked_facts.proofs.language.limits_are_worked.Goals as goal

pub returns : goal.returns
returns c = record {
  units = record { last = refl; first_too_many = refl };
  instances = record { last = refl; first_too_many = refl };
  connections = record { last = refl; first_too_many = refl };
  samples = record { last = refl; first_too_many = refl };
  params = record { last = refl; first_too_many = refl };
  states = record { last = refl; first_too_many = refl };
  locals = record { last = refl; first_too_many = refl };
  inputs = record { last = refl; first_too_many = refl };
  outputs = record { last = refl; first_too_many = refl };
  step_lines = record { last = refl; first_too_many = refl };
  depth_33_in_if = simp plain_measures (simp expr_lemmas refl);
  only_alike = refl;
  resolutions = (omega arith, omega arith, λ fits. omega arith);
  repeats = ((omega arith, omega arith), (omega arith, omega arith), (λ fits. omega (arith, fits.0)), λ fits. omega (arith, fits.1));
  zeros = (omega arith, omega arith, λ fits. omega arith);
  rows = ((omega arith, omega arith), (omega arith, omega arith), (λ fits. omega (arith, fits.0)), λ fits. omega (arith, fits.1));
  decimals = (omega arith, λ fits. omega arith);
  longest_word = (refl, refl, omega arith);
  too_long_word = λ is. omega (arith, is.2);
  digit_first = λ is. absurd (cc (is.0));
  underscore_first = (refl, refl, omega arith);
  least_literal = refl;
  too_great_literal = refl;
  greatest_seconds = refl;
  negative_seconds = refl;
  true_seconds = refl;
  block_depth = simp line_lemmas refl;
  depth_of_else = simp line_lemmas refl;
}
