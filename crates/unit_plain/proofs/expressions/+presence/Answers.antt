use Rattle.std.proofs.Common.{◌∙◌, ap, sym, true, false}
use Rattle.language_laws.proofs.PlainLemmas.{plain-Truth}
use Rattle.unit_tree.specs.Plain.{plain_expression, presence_of}
use Rattle.unit_tree.specs.declared.expr.Expr as expr
use Rattle.unit_plain.proofs.ChoiceLaws.{changed, choice_plain}
use Rattle.unit_plain.proofs.expressions.+presence.Goals as goal

pub plain_presence-returns-in_default : goal.plain_presence-returns-in_default
plain_presence-returns-in_default t c =
    sym (plain-Truth true)
    ∙ ap plain_expression (sym (changed c.args.value.now (expr.Truth false) (λ other. expr.Truth true) c.in_default.not-Choose c.in_default.not-Absent))

pub plain_presence-returns-in_ok-boxed_presence-in-Choose-2 :
    goal.plain_presence-returns-in_ok-boxed_presence-in-Choose-2
plain_presence-returns-in_ok-boxed_presence-in-Choose-2 t c =
    choice_plain (expr.Truth false) (λ other. expr.Truth true) c.args.value.now c.in-Choose.cond c.in-Choose.yes c.in-Choose.no _ _ _ c.in-Choose.is
    (c.in_ok-boxed_plain-in-Choose.ensures ∙ ap plain_expression c.get.ensures)
    (c.in_ok-boxed_presence-in-Choose.ensures ∙ ap (λ e. plain_expression (presence_of e)) c.get-in-Choose.ensures)
    (c.in_ok-boxed_presence-in-Choose-2.ensures ∙ ap (λ e. plain_expression (presence_of e)) c.get-in-Choose-2.ensures)
