use Rattle.std.proofs.Common.{◌≡◌, ◌∙◌, length, sym, subst, arith}
use Rattle.std.proofs.lemmas.Bool.Decides.{nat_tests}
use Rattle.nest_text.proofs.TextCuts.{main_begin, main_found, main_next, main_none}
use Rattle.nest_text.specs.NestLines.{IsKind}
use Rattle.nest_text.proofs.parts.find_main.Goals as goal

pub loop-rest-init : goal.loop-rest-init
loop-rest-init c = main_begin c.args.text.now

pub returns-then-branch-clause-main : goal.returns-then-branch-clause-main
returns-then-branch-clause-main c =
    let kind = c.in_ok-is_main_line.ensures.0 in
    main_found c.args.text.now c.loop-rest.rest.now c.cut_line.result.0.now c.cut_line.result.1.now c.split_at.result.0.now c.loop-rest.number kind
    c.loop-rest.invariant c.cut_line.ensures.cut c.cut_line.ensures.shorter
    (subst (λ line. IsKind line kind) c.without_return.ensures c.in_ok-is_main_line.ensures.1)
    (sym c.in_ok-is_main_line.ensures.2 ∙ c.if-branch.true) c.split_at.ensures.front

pub loop-rest-preserved : goal.loop-rest-preserved
loop-rest-preserved c =
    let kind = c.in_ok-is_main_line.ensures.0 in
    main_next c.args.text.now c.loop-rest.rest.now c.cut_line.result.0.now c.cut_line.result.1.now c.loop-rest.number kind c.loop-rest.invariant
    c.cut_line.ensures.cut c.cut_line.ensures.behind c.cut_line.ensures.shorter
    (subst (λ line. IsKind line kind) c.without_return.ensures c.in_ok-is_main_line.ensures.1)
    (sym c.in_ok-is_main_line.ensures.2 ∙ c.if-branch.false)

pub returns-clause-main : goal.returns-clause-main
returns-clause-main c =
    let none : length c.loop-rest.rest.now ≡ 0 = grind (arith, nat_tests, c.loop-rest-test.ensures) in
    main_none c.args.text.now c.loop-rest.rest.now c.loop-rest.number c.loop-rest.invariant none
