use Rattle.std.proofs.Common.{◌≡◌, true, false, min, ap, ◌∙◌}
use Rattle.unit_tree.specs.Costs.{cost_of}
use Rattle.unit_tree.specs.Plain.{with_choices}
use Rattle.unit_tree.specs.declared.expr.Expr as expr
use Rattle.unit_names.proofs.EventOutputs.{choice_costs}
use Rattle.unit_names.proofs.choices.+presence_cost.Goals as goal

pub returns-in-Choose : goal.returns-in-Choose
returns-in-Choose t c =
    let one : c.cost.result ≡ min (cost_of c.in-Choose.cond) 100001 = c.cost.ensures ∙ ap (λ v. min (cost_of v) 100001) c.get.ensures in
    let two : c.presence_cost.result ≡ min (cost_of (with_choices (expr.Truth false) (λ other. expr.Truth true) c.in-Choose.yes)) 100001 =
    c.presence_cost.ensures
    ∙ ap (λ v. min (cost_of (with_choices (expr.Truth false) (λ other. expr.Truth true) v)) 100001) c.get-in-Choose.ensures in
    let three : c.presence_cost-in-Choose.result ≡ min (cost_of (with_choices (expr.Truth false) (λ other. expr.Truth true) c.in-Choose.no)) 100001 =
    c.presence_cost-in-Choose.ensures
    ∙ ap (λ v. min (cost_of (with_choices (expr.Truth false) (λ other. expr.Truth true) v)) 100001) c.get-in-Choose-2.ensures in
    choice_costs (expr.Truth false)
    (λ other. expr.Truth true) c.args.expr.now c.in-Choose.cond c.in-Choose.yes c.in-Choose.no _ _ _ _ c.in-Choose.is c.choice_cost.ensures one two three
