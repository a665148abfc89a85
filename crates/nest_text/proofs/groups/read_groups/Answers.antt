use Rattle.std.proofs.Common.{◌≡◌, ◌∙◌, ◌+◌, [], length, sym, subst, arith}
use Rattle.std.proofs.lemmas.Bool.Decides.{nat_tests}
use Rattle.nest_text.specs.NestLines.{IsKind}
use Rattle.nest_text.specs.Nests.{groups_of}
use Rattle.nest_text.specs.Reading.{GroupsAnswer, OfLines}
use Rattle.nest_text.proofs.GroupWalks.{ReadSoFar, group_ahead, group_failed, group_read, named_by, not_named, read_begin, read_end, read_next}
use Rattle.nest_text.proofs.NestAnswers.{handed_on}
use Rattle.nest_text.proofs.groups.read_groups.Goals as goal

pub loop-rest-init : goal.loop-rest-init
loop-rest-init c =
    subst (λ groups. ReadSoFar c.args.text.now c.args.text.now 0 groups c.new-heads.result) (sym c.new-groups.ensures)
    (subst (ReadSoFar c.args.text.now c.args.text.now 0 []) (sym c.new-heads.ensures) (read_begin c.args.text.now))

pub returns-in_err-group : goal.returns-in_err-group
returns-in_err-group c =
    let is = subst (λ line. IsKind line c.in_ok-kind.kind) c.without_return.ensures c.in_ok-kind.ensures in
    let why = c.in_err-group.field-0.0 in
    handed_on c.from_residual-in_err-group.result why (λ result. OfLines 1 c.args.text.now (λ lines. GroupsAnswer (groups_of lines) result))
    c.from_residual-in_err-group.ensures.1
    (group_failed c.args.text.now c.cut_line.result.1.now (c.loop-rest.number + 1) c.in-Some.name c.loop-rest.groups c.loop-rest.heads why
    (group_ahead c.args.text.now c.loop-rest.rest.now c.cut_line.result.0.now c.cut_line.result.1.now c.loop-rest.number c.in_ok-kind.kind c.in-Some.name
    c.loop-rest.groups c.loop-rest.heads c.loop-rest.invariant c.cut_line.ensures.cut c.cut_line.ensures.shorter is
    (named_by c.in_ok-kind.kind c.in-Some.name (sym c.group_name.ensures ∙ c.in-Some.is)))
    c.in_err-group.ensures.group)

pub loop-rest-preserved-in-Some : goal.loop-rest-preserved-in-Some
loop-rest-preserved-in-Some c =
    let is = subst (λ line. IsKind line c.in_ok-kind.kind) c.without_return.ensures c.in_ok-kind.ensures in
    group_read c.args.text.now c.cut_line.result.1.now c.in_ok-group.left.now (c.loop-rest.number + 1) c.in_ok-group.last c.in-Some.name c.loop-rest.groups
    c.push-in-Some.new.self c.loop-rest.heads c.push.new.self c.in_ok-group.group
    (group_ahead c.args.text.now c.loop-rest.rest.now c.cut_line.result.0.now c.cut_line.result.1.now c.loop-rest.number c.in_ok-kind.kind c.in-Some.name
    c.loop-rest.groups c.loop-rest.heads c.loop-rest.invariant c.cut_line.ensures.cut c.cut_line.ensures.shorter is
    (named_by c.in_ok-kind.kind c.in-Some.name (sym c.group_name.ensures ∙ c.in-Some.is)))
    c.in_ok-group.ensures.group c.in_ok-push-2.ensures.ok c.in_ok-push.ensures.ok c.in_ok-group.ensures.within

pub loop-rest-preserved : goal.loop-rest-preserved
loop-rest-preserved c =
    read_next c.args.text.now c.loop-rest.rest.now c.cut_line.result.0.now c.cut_line.result.1.now c.loop-rest.number c.in_ok-kind.kind c.loop-rest.groups
    c.loop-rest.heads c.loop-rest.invariant c.cut_line.ensures.cut c.cut_line.ensures.shorter
    (subst (λ line. IsKind line c.in_ok-kind.kind) c.without_return.ensures c.in_ok-kind.ensures)
    (not_named c.in_ok-kind.kind (sym c.group_name.ensures ∙ c.in_default.is))

pub returns : goal.returns
returns c =
    let none : length c.loop-rest.rest.now ≡ 0 = grind (arith, nat_tests, c.loop-rest-test.ensures) in
    read_end c.args.text.now c.loop-rest.rest.now c.loop-rest.number c.loop-rest.groups c.loop-rest.heads c.loop-rest.invariant none
