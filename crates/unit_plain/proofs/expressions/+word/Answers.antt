use Rattle.std.proofs.Common.{◌≡◌, ◌∙◌, ap, sym, subst}
use Rattle.std.specs.Prelude.{IfOk}
use Rattle.unit_tree.specs.Plain.{plain_expression, word_expression_of, zero_of}
use Rattle.unit_tree.specs.declared.expr.Expr.{Expr}
use Rattle.unit_plain.proofs.ChoiceLaws.{changed, choice_plain}
use Rattle.unit_plain.proofs.expressions.+word.Goals as goal

pub plain_word-returns-in_default : goal.plain_word-returns-in_default
plain_word-returns-in_default t c =
    subst (λ (word : Expr). IfOk c.plain_expression.result (λ plain. plain ≡ plain_expression word))
    (sym (changed c.args.value.now (zero_of c.args.ty) (λ other. other) c.in_default.not-Choose c.in_default.not-Absent)) c.plain_expression.ensures

pub plain_word-returns-in_ok-boxed_word-in-Choose-2 :
    goal.plain_word-returns-in_ok-boxed_word-in-Choose-2
plain_word-returns-in_ok-boxed_word-in-Choose-2 t c =
    choice_plain (zero_of c.args.ty) (λ other. other) c.args.value.now c.in-Choose.cond c.in-Choose.yes c.in-Choose.no _ _ _ c.in-Choose.is
    (c.in_ok-boxed_plain-in-Choose.ensures ∙ ap plain_expression c.get.ensures)
    (c.in_ok-boxed_word-in-Choose.ensures ∙ ap (λ e. plain_expression (word_expression_of c.args.ty e)) c.get-in-Choose.ensures)
    (c.in_ok-boxed_word-in-Choose-2.ensures ∙ ap (λ e. plain_expression (word_expression_of c.args.ty e)) c.get-in-Choose-2.ensures)
