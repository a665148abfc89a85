use Rattle.std.proofs.Common.{◌≡◌, ◌∙◌, ◌+◌, true, length, sym, subst, arith}
use Rattle.std.proofs.lemmas.Bool.Decides.{nat_tests}
use Rattle.nest_text.specs.NestLines.{IsKind}
use Rattle.nest_text.proofs.LineWalks.{StraysLeft, stray_found, stray_next, stray_none, strays_begin}
use Rattle.nest_text.proofs.parts.first_stray.Goals as goal

pub loop-rest-init : goal.loop-rest-init
loop-rest-init c = strays_begin c.args.text.now

pub returns-then-not-stands : goal.returns-then-not-stands
returns-then-not-stands c =
    stray_found c.args.text.now c.loop-rest.rest.now c.cut_line.result.0.now c.cut_line.result.1.now c.loop-rest.number c.loop-rest.place c.in_ok-kind.kind
    c.loop-rest.invariant c.cut_line.ensures.cut (subst (λ line. IsKind line c.in_ok-kind.kind) c.without_return.ensures c.in_ok-kind.ensures)
    (sym c.allows-stands.ensures ∙ c.if-not-stands.true)

pub loop-rest-preserved : goal.loop-rest-preserved
loop-rest-preserved c =
    let stands : c.allows-stands.result ≡ true = grind (arith, c.if-not-stands.false) in
    subst (StraysLeft c.args.text.now c.cut_line.result.1.now (c.loop-rest.number + 1)) (sym c.after-place.ensures)
    (stray_next c.args.text.now c.loop-rest.rest.now c.cut_line.result.0.now c.cut_line.result.1.now c.loop-rest.number c.loop-rest.place c.in_ok-kind.kind
    c.loop-rest.invariant c.cut_line.ensures.cut c.cut_line.ensures.shorter
    (subst (λ line. IsKind line c.in_ok-kind.kind) c.without_return.ensures c.in_ok-kind.ensures) (sym c.allows-stands.ensures ∙ stands))

pub returns : goal.returns
returns c =
    let none : length c.loop-rest.rest.now ≡ 0 = grind (arith, nat_tests, c.loop-rest-test.ensures) in
    stray_none c.args.text.now c.loop-rest.rest.now c.loop-rest.number c.loop-rest.place c.loop-rest.invariant none
