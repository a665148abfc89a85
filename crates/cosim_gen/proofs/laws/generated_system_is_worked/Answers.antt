use Rattle.std.proofs.Common.{refl}
use Rattle.std.specs.Fmt.{digits}
use Rattle.unit_tree.specs.declared.expr.Expr.{the_lemmas as expr_lemmas}
use Rattle.unit_tree.specs.declared.line.Line.{the_lemmas as line_lemmas}
use Rattle.cosim_gen.proofs.laws.generated_system_is_worked.Goals as goal

pub returns : goal.returns
unfolding digits
returns c = simp (expr_lemmas, line_lemmas) refl
