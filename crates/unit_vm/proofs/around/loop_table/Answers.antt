use Rattle.std.proofs.Common.{◌<◌, ◌^◌, sym, subst, arith, ◌∙◌, rules, pos, lit<}
use Rattle.std.proofs.lemmas.Option.{slice_get-get_or}
use Rattle.unit_vm.specs.declared.instruction.Instruction.TheVariants.{Push}
use Rattle.unit_vm.specs.Tables.{CanCount}
use Rattle.unit_vm.proofs.RunProgress.{read_at}
use Rattle.unit_vm.proofs.LoopTables.{walked_on, too_dear, place_small, depth_small, can_count, not_closed, whole_table, told_by, walked_as, walked_to}
use Rattle.unit_vm.proofs.around.loop_table.Goals as goal

pub returns-then-cost-gt-GREATEST_COST-clause-none : goal.returns-then-cost-gt-GREATEST_COST-clause-none
returns-then-cost-gt-GREATEST_COST-clause-none c =
    too_dear c.args.code.now c.requires c.loop-place.place c.loop-place.rows c.loop-place.here c.loop-place.cost c.loop-place.deepest c.loop-place.invariant
    (read_at c.args.code.now c.loop-place.place)
    (slice_get-get_or c.args.code.now c.loop-place.place (Push (pos 0)) c.loop-place-test.true) c.if-cost-gt-GREATEST_COST.true

pub overflow_cast-place : goal.overflow_cast-place
overflow_cast-place c =
    let s = place_small c.args.code.now c.requires c.loop-place.place c.loop-place.rows c.loop-place.here c.loop-place.cost c.loop-place.deepest
    c.loop-place.invariant
    (read_at c.args.code.now c.loop-place.place)
    (slice_get-get_or c.args.code.now c.loop-place.place (Push (pos 0)) c.loop-place-test.true) in
    let small : c.loop-place.place < 2 ^ 32 = (let big : 100000 < 2 ^ 32 = lit< tt in omega (arith, s, big)) in
    search rules

pub behind-requires-clause-depth : goal.behind-requires-clause-depth
behind-requires-clause-depth c =
    let s = depth_small c.args.code.now c.requires c.loop-place.place c.loop-place.rows c.loop-place.here c.loop-place.cost c.loop-place.deepest
    c.loop-place.invariant
    (read_at c.args.code.now c.loop-place.place)
    (slice_get-get_or c.args.code.now c.loop-place.place (Push (pos 0)) c.loop-place-test.true) in
    omega (arith, s)

pub behind-requires-clause-turns : goal.behind-requires-clause-turns
behind-requires-clause-turns c =
    subst (λ f. CanCount f c.loop-place.here) (sym c.flow-flow.ensures)
    (can_count c.args.code.now c.requires c.loop-place.place c.loop-place.rows c.loop-place.here c.loop-place.cost c.loop-place.deepest c.loop-place.invariant
    (read_at c.args.code.now c.loop-place.place)
    (slice_get-get_or c.args.code.now c.loop-place.place (Push (pos 0)) c.loop-place-test.true) (omega (arith, c.if-cost-gt-GREATEST_COST.false)))

pub returns-in-None-clause-none : goal.returns-in-None-clause-none
returns-in-None-clause-none c =
    not_closed c.args.code.now c.requires c.loop-place.place c.loop-place.rows c.loop-place.here c.loop-place.cost c.loop-place.deepest c.loop-place.invariant
    (read_at c.args.code.now c.loop-place.place)
    (slice_get-get_or c.args.code.now c.loop-place.place (Push (pos 0)) c.loop-place-test.true)
    (told_by _ _ _ _ _ _ _ _ c.behind.ensures c.flow-flow.ensures (c.as_slice.ensures ∙ c.in_ok-push.ensures.ok) c.in-None.is)

pub loop-place-preserved : goal.loop-place-preserved
loop-place-preserved c =
    walked_as _ _ _ _ _ _ _ _ c.in_ok-push.ensures.ok c.max-deepest.ensures
    (walked_on c.args.code.now c.requires c.loop-place.place c.loop-place.rows c.loop-place.here c.loop-place.cost c.loop-place.deepest c.loop-place.invariant
    (read_at c.args.code.now c.loop-place.place)
    (slice_get-get_or c.args.code.now c.loop-place.place (Push (pos 0)) c.loop-place-test.true) c.in-Some.next
    (told_by _ _ _ _ _ _ _ _ c.behind.ensures c.flow-flow.ensures (c.as_slice.ensures ∙ c.in_ok-push.ensures.ok) c.in-Some.is) c.if-cost-gt-GREATEST_COST.false)

pub returns-clause-some : goal.returns-clause-some
returns-clause-some c =
    whole_table c.args.code.now c.loop-place.rows c.loop-place.here c.loop-place.cost c.loop-place.deepest
    (walked_to c.args.code.now c.loop-place.place _ _ _ _ (omega arith) c.loop-place.invariant) (omega arith)
