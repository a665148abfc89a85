use Rattle.std.proofs.Common.{◌≡◌, ◌∷◌, ◌+◌, [], get_or, subst, sym, take}
use Rattle.std.proofs.lemmas.Option.{get_or_from_slice_get, same_Some}
use Rattle.list_laws.proofs.Members.{at_place, take_next}
use Rattle.list_laws.proofs.Pairs.{zip_at}
use Rattle.nest_ways.specs.Reaching.{IsStep, Puts}
use Rattle.nest_ways.specs.declared.steps.WayStep.TheVariants as step_is
use Rattle.nest_ways.proofs.WayLaws.{lines_end, puts_more}
use Rattle.nest_ways.proofs.kept.kept_ends.Goals as goal

pub loop-step-preserved : goal.loop-step-preserved
loop-step-preserved c nest height binds are steps =
    let scopes = c.args.scopes.now in
    let all = c.args.known.now in
    let group = c.args.group in
    let place = c.loop-step.step-index in
    let here = at_place c.args.steps.now place c.loop-step-test.true in
    let beside = zip_at (IsStep nest scopes all group height) c.args.steps.now binds place here.0 steps here.1 in
    let one = get_or c.args.steps.now place (step_is.Component 0) in
    let same : one ≡ here.0 = get_or_from_slice_get c.args.steps.now place here.0 (step_is.Component 0) here.1 in
    let is = subst (λ step. IsStep nest scopes all group height step beside.other) (sym same) beside.related in
    puts_more nest scopes group height [] c.loop-step.ends c.put_step.new.ends (take place binds) (beside.other ∷ []) (take (place + 1) binds)
    (c.loop-step.invariant nest height binds are steps)
    (c.in_ok-put_step.ensures nest height beside.other are is c.if-not-branch.false) (take_next binds place beside.other beside.is)

pub returns : goal.returns
returns c ends is nest height binds are steps =
    let scopes = c.args.scopes.now in
    let all = c.args.known.now in
    let group = c.args.group in
    let place = c.loop-step.step-index in
    subst (λ those. Puts nest scopes group height [] those binds) (same_Some c.loop-step.ends ends is)
    (subst (λ those. Puts nest scopes group height [] c.loop-step.ends those)
    (lines_end nest scopes all group height c.args.steps.now binds place steps c.loop-step-test.false)
    (c.loop-step.invariant nest height binds are steps))
