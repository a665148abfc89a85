use Rattle.std.proofs.Common.{◌≡◌, ◌+◌, true, false, nat_le, ap, ◌∙◌, arith}
use Rattle.unit_tree.specs.Names.{depth_of}
use Rattle.unit_tree.specs.Plain.{with_choices}
use Rattle.unit_tree.specs.declared.expr.Expr as expr
use Rattle.unit_names.proofs.EventOutputs.{choice_is_within}
use Rattle.unit_names.proofs.choices.+presence_is_within.Goals as goal

pub returns-in-Some : goal.returns-in-Some
returns-in-Some t c =
    let less = c.in-Some.less in
    let one : c.is_within.result ≡ nat_le (depth_of c.in-Choose.cond) less = c.is_within.ensures ∙ ap (λ v. nat_le (depth_of v) less) c.get.ensures in
    let two : c.presence_is_within.result ≡ nat_le (depth_of (with_choices (expr.Truth false) (λ other. expr.Truth true) c.in-Choose.yes)) less =
    c.presence_is_within.ensures
    ∙ ap (λ v. nat_le (depth_of (with_choices (expr.Truth false) (λ other. expr.Truth true) v)) less) c.get-in-Some.ensures in
    let three : c.presence_is_within-in-Some.result ≡ nat_le (depth_of (with_choices (expr.Truth false) (λ other. expr.Truth true) c.in-Choose.no)) less =
    c.presence_is_within-in-Some.ensures
    ∙ ap (λ v. nat_le (depth_of (with_choices (expr.Truth false) (λ other. expr.Truth true) v)) less) c.get-in-Some-2.ensures in
    let one_less : less + 1 ≡ c.args.depth = grind (arith) in
    choice_is_within (expr.Truth false) (λ other. expr.Truth true) c.args.expr.now c.in-Choose.cond c.in-Choose.yes c.in-Choose.no _ _ _ _ _ _
    c.in-Choose.is one_less c.all_hold.ensures one two three
