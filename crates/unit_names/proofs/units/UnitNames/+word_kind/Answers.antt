use Rattle.std.proofs.Common.{◌≡◌, ap, sym, ◌∙◌}
use Rattle.unit_tree.specs.Kinds.{kind_of_expression}
use Rattle.unit_tree.specs.Names.{kinds_in}
use Rattle.unit_tree.specs.Plain.{word_expression_of}
use Rattle.unit_names.proofs.EventOutputs.{word_other, word_kind-Choose}
use Rattle.unit_names.proofs.units.UnitNames.+word_kind.Goals as goal

pub returns-in-Choose : goal.returns-in-Choose
returns-in-Choose t c =
    let at_node = word_kind-Choose c.args.ty c.in-Choose.cond c.in-Choose.yes c.in-Choose.no (kinds_in c.args.self.now) in
    let parts : c.choice_kind.result
    ≡ kind_of_expression (word_expression_of c.args.ty (Rattle.unit_tree.specs.declared.expr.Expr.Choose c.in-Choose.cond c.in-Choose.yes c.in-Choose.no))
    (kinds_in c.args.self.now) =
    c.choice_kind.ensures
    ∙ rw (c.kind-in-Choose.ensures, c.word_kind.ensures, c.word_kind-in-Choose.ensures, c.get.ensures, c.get-in-Choose.ensures, c.get-in-Choose-2.ensures)
    (sym at_node) in
    parts ∙ ap (λ value. kind_of_expression (word_expression_of c.args.ty value) (kinds_in c.args.self.now)) (sym c.in-Choose.is)

pub returns-in_default : goal.returns-in_default
returns-in_default t c =
    c.kind-in_default.ensures
    ∙ ap (λ value. kind_of_expression value (kinds_in c.args.self.now))
    (sym (word_other c.args.ty c.args.expr.now c.in_default.not-Choose c.in_default.not-Absent))
