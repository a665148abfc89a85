use Rattle.std.proofs.Common.{refl}
use Rattle.std.specs.Fmt.{digits}
use Rattle.unit_tree.specs.declared.expr.Expr.{the_lemmas as expr_lemmas}
use Rattle.unit_tree.specs.declared.line.Line.{the_lemmas as line_lemmas}
use Rattle.worked_answers.proofs.answers.tables_are_worked.Goals as goal

pub returns : goal.returns
unfolding digits
returns c = record {
  changes_twice = simp (line_lemmas, expr_lemmas) refl;
  one_moment = simp (line_lemmas, expr_lemmas) refl;
  two_columns = simp (line_lemmas, expr_lemmas) refl;
}
