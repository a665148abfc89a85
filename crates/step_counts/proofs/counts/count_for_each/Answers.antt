use Rattle.std.proofs.Common.{◌≡◌, ◌∙◌, ◌+◌, ◌<◌, suc, length, Some, get_or, slice_set, ap, subst, arith}
use Rattle.std.proofs.lemmas.Option.{slice_get-get_or}
use Rattle.std.specs.Prelude.{slice_get}
use Rattle.step_counts.proofs.CountLaws.{changed_all, changed_first, changed_next, length-changed, next_holds, nothing}
use Rattle.step_counts.specs.Counting.{IsBelowRows, with_step}
use Rattle.step_counts.specs.declared.counts.InstanceCounts.{InstanceCounts}
use Rattle.step_counts.proofs.counts.count_for_each.Goals as goal

pub with_step-requires-clause-limited : goal.with_step-requires-clause-limited
with_step-requires-clause-limited c =
    let change : InstanceCounts → InstanceCounts = λ counts. with_step counts c.args.step in
    let place = c.loop-place.place in
    let many = ap length c.loop-place.invariant ∙ length-changed change c.args.instances.now place in
    let within : place < length c.loop-place.instances = omega (arith, many, c.loop-place-test.true) in
    let there = slice_get-get_or c.loop-place.instances place nothing within in
    (next_holds IsBelowRows change c.args.instances.now place (get_or c.loop-place.instances place nothing) c.requires.room
    (subst (λ items. slice_get items place ≡ Some (get_or c.loop-place.instances place nothing)) c.loop-place.invariant there)).limited

pub with_step-requires-clause-shortened : goal.with_step-requires-clause-shortened
with_step-requires-clause-shortened c =
    let change : InstanceCounts → InstanceCounts = λ counts. with_step counts c.args.step in
    let place = c.loop-place.place in
    let many = ap length c.loop-place.invariant ∙ length-changed change c.args.instances.now place in
    let within : place < length c.loop-place.instances = omega (arith, many, c.loop-place-test.true) in
    let there = slice_get-get_or c.loop-place.instances place nothing within in
    (next_holds IsBelowRows change c.args.instances.now place (get_or c.loop-place.instances place nothing) c.requires.room
    (subst (λ items. slice_get items place ≡ Some (get_or c.loop-place.instances place nothing)) c.loop-place.invariant there)).shortened

pub loop-place-preserved : goal.loop-place-preserved
loop-place-preserved c =
    let change : InstanceCounts → InstanceCounts = λ counts. with_step counts c.args.step in
    let place = c.loop-place.place in
    let here = get_or c.loop-place.instances place nothing in
    let many = ap length c.loop-place.invariant ∙ length-changed change c.args.instances.now place in
    let within : place < length c.loop-place.instances = omega (arith, many, c.loop-place-test.true) in
    let there = slice_get-get_or c.loop-place.instances place nothing within in
    let next : suc place ≡ place + 1 = omega arith in
    ap (slice_set c.loop-place.instances place) c.with_step.ensures
    ∙ ap (λ items. slice_set items place (change here)) c.loop-place.invariant
    ∙ changed_next change c.args.instances.now place here (subst (λ items. slice_get items place ≡ Some here) c.loop-place.invariant there)
    ∙ ap (λ count. changed_first change count c.args.instances.now) next

pub returns : goal.returns
returns c =
    let past = c.loop-place-test.false in
    c.loop-place.invariant
    ∙ changed_all (λ counts. with_step counts c.args.step) c.args.instances.now c.loop-place.place (omega (arith, past))
