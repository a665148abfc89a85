use Rattle.std.proofs.Common.{◌≡◌, ◌∙◌, length, sym, subst, arith}
use Rattle.std.proofs.lemmas.Bool.Decides.{nat_tests}
use Rattle.unit_tree.specs.Lines.{without_return}
use Rattle.nest_text.specs.NestLines.{IsKind}
use Rattle.nest_text.proofs.GroupWalks.{begun_by, begun_not, gather_begin, gather_end, gather_next, gather_stop}
use Rattle.nest_text.proofs.groups.gather.Goals as goal

pub loop-alloc-init : goal.loop-alloc-init
loop-alloc-init c = gather_begin c.args.text.now c.args.before c.args.body.now

pub loop-alloc-preserved : goal.loop-alloc-preserved
loop-alloc-preserved c =
    gather_next c.args.text.now c.args.before c.args.body.now c.loop-alloc.rest.now c.cut_line.result.0.now c.cut_line.result.1.now c.loop-alloc.number
    c.in_ok-kind.kind c.loop-alloc.body c.add.new.self c.loop-alloc.invariant c.cut_line.ensures.cut c.cut_line.ensures.shorter
    (subst (λ line. IsKind line c.in_ok-kind.kind) c.without_return.ensures c.in_ok-kind.ensures)
    (begun_not c.in_ok-kind.kind (sym c.begins_group.ensures ∙ c.if-begins_group.false)) c.in_ok-add.ensures

pub returns-then-begins_group-clause-lines : goal.returns-then-begins_group-clause-lines
returns-then-begins_group-clause-lines c =
    let begun = begun_by c.in_ok-kind.kind (sym c.begins_group.ensures ∙ c.if-begins_group.true) in
    gather_stop c.args.text.now c.args.before c.args.body.now c.loop-alloc.rest.now c.cut_line.result.0.now c.cut_line.result.1.now c.loop-alloc.number
    begun.0 c.loop-alloc.body c.loop-alloc.invariant c.cut_line.ensures.cut
    (subst (IsKind (without_return c.cut_line.result.0.now)) begun.1
    (subst (λ line. IsKind line c.in_ok-kind.kind) c.without_return.ensures c.in_ok-kind.ensures))

pub returns-clause-lines : goal.returns-clause-lines
returns-clause-lines c =
    let none : length c.loop-alloc.rest.now ≡ 0 = grind (arith, nat_tests, c.loop-alloc-test.ensures) in
    gather_end c.args.text.now c.args.before c.args.body.now c.loop-alloc.rest.now c.loop-alloc.number c.loop-alloc.body c.loop-alloc.invariant none
