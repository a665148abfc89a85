use Rattle.std.proofs.Common.{◌≡◌, ◌∙◌, ◌++◌, ◌∷◌, [], ◌+◌, ap, sym, subst}
use native.Mathlib.Omega.{arith}
use Rattle.guess_board.specs.Events.{opened}
use Rattle.guess_board.specs.Lanes.{IsLane}
use Rattle.spec_core.proofs.OpeningLaws.{AreFirstLanes, all_opened, first_more, first_none}
use Rattle.trace_plan.specs.Plans.{ForMember}
use Rattle.unit_exec.specs.Images.{IsImageOf}
use Rattle.spec_core.proofs.opening.lanes_of.Goals as goal

pub loop-instance-init : goal.loop-instance-init
loop-instance-init c = first_none c.args.plan.now.run c.new-lanes.result.items c.new-lanes.ensures.items

pub loop-instance-preserved : goal.loop-instance-preserved
loop-instance-preserved c =
    let run = c.args.plan.now.run in
    let image : ForMember run c.loop-instance.instance (λ member. IsImageOf member.component c.in_ok-image.image.value) = λ member at.
    subst (IsImageOf member.component) (sym c.in_ok-image.ensures.cases) (c.image.ensures member at) in
    let items : c.push.new.self.items ≡ c.loop-instance.lanes.items ++ opened c.in_ok-image.image.value c.loop-instance.instance ∷ [] =
    c.in_ok-push.ensures.items ∙ ap (λ lane. c.loop-instance.lanes.items ++ lane ∷ []) c.in_ok-lane.ensures in
    subst (AreFirstLanes run (c.loop-instance.instance + 1)) (sym items)
    (first_more run c.loop-instance.instance c.loop-instance.lanes.items c.in_ok-image.image.value c.loop-instance.invariant image
    (subst IsLane c.in_ok-lane.ensures c.facts.ensures))

pub returns-clause-opened : goal.returns-clause-opened
returns-clause-opened c = all_opened c.args.plan.now.run c.loop-instance.instance c.loop-instance.lanes.items
    (omega (arith, c.loop-instance-test.false, c.loop-instance.auto.instance-end, c.instances-instance-end.ensures.count)) c.loop-instance.invariant

pub returns-clause-kept : goal.returns-clause-kept
returns-clause-kept c = c.loop-instance.invariant.are_lanes
