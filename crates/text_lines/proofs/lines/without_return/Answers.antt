use Rattle.std.proofs.Common.{ap, sym, ◌∙◌, eq-eqb}
use Rattle.std.proofs.lemmas.Bool.{ne_eqb}
use Rattle.unit_tree.specs.Lines.{without_return}
use Rattle.text_lines.proofs.LineEnds.{without_last, without_none}
use Rattle.text_lines.proofs.lines.without_return.Goals as goal

pub returns-in-Some : goal.returns-in-Some
returns-in-Some c =
    sym (ap without_return c.in-Some.ensures.cases.0
    ∙ without_last c.in-Some.front.now c.in-Some.last.now (eq-eqb c.in-Some.last.now 13 c.if-last-eq-RETURN.true))

pub returns-in_default : goal.returns-in_default
returns-in_default c =
    let is = c.in-Some.ensures.cases.0 in
    is ∙ sym (ap without_return is ∙ without_none c.in-Some.front.now c.in-Some.last.now (ne_eqb c.in-Some.last.now 13 c.if-last-eq-RETURN.false))
