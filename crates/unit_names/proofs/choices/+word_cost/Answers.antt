use Rattle.std.proofs.Common.{◌≡◌, min, ap, sym, ◌∙◌}
use Rattle.unit_tree.specs.Costs.{cost_of}
use Rattle.unit_tree.specs.Plain.{with_choices, zero_of}
use Rattle.unit_names.proofs.EventOutputs.{choice_costs, word_other}
use Rattle.unit_names.proofs.choices.+word_cost.Goals as goal

pub returns-in-Choose : goal.returns-in-Choose
returns-in-Choose t c =
    let one : c.cost.result ≡ min (cost_of c.in-Choose.cond) 100001 = c.cost.ensures ∙ ap (λ v. min (cost_of v) 100001) c.get.ensures in
    let two : c.word_cost.result ≡ min (cost_of (with_choices (zero_of c.args.ty) (λ other. other) c.in-Choose.yes)) 100001 = c.word_cost.ensures
    ∙ ap (λ v. min (cost_of (with_choices (zero_of c.args.ty) (λ other. other) v)) 100001) c.get-in-Choose.ensures in
    let three : c.word_cost-in-Choose.result ≡ min (cost_of (with_choices (zero_of c.args.ty) (λ other. other) c.in-Choose.no)) 100001 =
    c.word_cost-in-Choose.ensures
    ∙ ap (λ v. min (cost_of (with_choices (zero_of c.args.ty) (λ other. other) v)) 100001) c.get-in-Choose-2.ensures in
    choice_costs (zero_of c.args.ty)
    (λ other. other) c.args.expr.now c.in-Choose.cond c.in-Choose.yes c.in-Choose.no _ _ _ _ c.in-Choose.is c.choice_cost.ensures one two three

pub returns-in_default : goal.returns-in_default
returns-in_default t c = c.cost-in_default.ensures
    ∙ ap (λ v. min (cost_of v) 100001) (sym (word_other c.args.ty c.args.expr.now c.in_default.not-Choose c.in_default.not-Absent))
