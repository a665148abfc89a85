use Rattle.std.proofs.Common.{refl}
use Rattle.std.specs.Fmt.{digits}
use Rattle.save_point.specs.SavedTexts.{saved_text}
use Rattle.unit_tree.specs.declared.expr.Expr.{the_lemmas as expr_lemmas}
use Rattle.unit_tree.specs.declared.line.Line.{the_lemmas as line_lemmas}
use Rattle.worked_answers.proofs.answers.saved_texts_are_worked.Goals as goal

pub returns : goal.returns
unfolding digits saved_text
returns c = record { third_row = simp (line_lemmas, expr_lemmas) refl }
