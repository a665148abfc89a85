use Rattle.std.proofs.Common.{◌∙◌, ◌<◌, ◌≤◌, length, sym, subst, arith}
use Rattle.trace_core.proofs.RestoredWords.{all_given, none_given, takes}
use Rattle.trace_units.specs.Fleets.{Fleet}
use Rattle.trace_core.proofs.opening_at.restore_words.Goals as goal

pub loop-instance-init : goal.loop-instance-init
loop-instance-init c = none_given c.args.units.now c.args.words.now c.count-instance-end.ensures.states c.requires

pub state-requires : goal.state-requires
state-requires c =
    let within : c.loop-instance.instance < length c.args.units.now.plan.run.members =
    omega (arith, c.loop-instance-test.true, c.count-instance-end.ensures.count) in
    subst (λ (units : Fleet). c.loop-instance.instance < length units.plan.run.members) (sym c.loop-instance.invariant.is) within

pub split_at-requires : goal.split_at-requires
split_at-requires c =
    let within : c.loop-instance.instance < length c.args.units.now.plan.run.members =
    omega (arith, c.loop-instance-test.true, c.count-instance-end.ensures.count) in
    let one =
    takes c.args.units.now c.args.words.now c.loop-instance.units c.loop-instance.instance c.loop-instance.rest.now c.state.result.now c.state.ensures within
    c.loop-instance.invariant in
    one.enough

pub restore-requires-clause-there : goal.restore-requires-clause-there
restore-requires-clause-there c =
    let within : c.loop-instance.instance < length c.args.units.now.plan.run.members =
    omega (arith, c.loop-instance-test.true, c.count-instance-end.ensures.count) in
    subst (λ (units : Fleet). c.loop-instance.instance < length units.plan.run.members) (sym c.loop-instance.invariant.is) within

pub restore-requires-clause-same_length : goal.restore-requires-clause-same_length
restore-requires-clause-same_length c =
    let within : c.loop-instance.instance < length c.args.units.now.plan.run.members =
    omega (arith, c.loop-instance-test.true, c.count-instance-end.ensures.count) in
    let one =
    takes c.args.units.now c.args.words.now c.loop-instance.units c.loop-instance.instance c.loop-instance.rest.now c.state.result.now c.state.ensures within
    c.loop-instance.invariant in
    c.split_at.ensures.front_len ∙ sym one.same

pub loop-instance-preserved : goal.loop-instance-preserved
loop-instance-preserved c =
    let within : c.loop-instance.instance < length c.args.units.now.plan.run.members =
    omega (arith, c.loop-instance-test.true, c.count-instance-end.ensures.count) in
    let one =
    takes c.args.units.now c.args.words.now c.loop-instance.units c.loop-instance.instance c.loop-instance.rest.now c.state.result.now c.state.ensures within
    c.loop-instance.invariant in
    one.next c.split_at.result.0.now c.split_at.result.1.now c.restore.new.self c.split_at.ensures.front c.split_at.ensures.back c.restore.ensures

pub returns : goal.returns
returns c =
    let past : length c.args.units.now.plan.run.members ≤ c.loop-instance.instance =
    omega (arith, c.loop-instance-test.false, c.count-instance-end.ensures.count) in
    all_given c.args.units.now c.args.words.now c.loop-instance.units c.loop-instance.instance c.loop-instance.rest.now past c.loop-instance.invariant
