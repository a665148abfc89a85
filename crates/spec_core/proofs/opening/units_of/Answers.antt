use Rattle.std.proofs.Common.{◌∙◌, [], ◌+◌, ap, sym, subst, take}
use Rattle.std.proofs.lemmas.List.{take_all}
use Rattle.std.specs.List.{AllZip}
use Rattle.list_laws.proofs.Members.{read_at}
use Rattle.spec_core.proofs.OpeningLaws.{unit_more}
use Rattle.spec_core.specs.Keeping.{IsUnitOf}
use Rattle.unit_exec.specs.Running.{Running}
use Rattle.spec_core.proofs.opening.units_of.Goals as goal

pub loop-lane-init : goal.loop-lane-init
loop-lane-init c = subst (AllZip IsUnitOf []) (sym c.new-units.ensures.items) tt

pub loop-lane-preserved : goal.loop-lane-preserved
loop-lane-preserved c =
    let own = ap (λ (unit : Running). unit.image) c.in_ok-new.ensures ∙ c.in_ok-image.ensures.cases ∙ c.image.ensures in
    subst (AllZip IsUnitOf (take (c.loop-lane.lane-index + 1) c.args.lanes.now)) (sym c.in_ok-push.ensures.items)
    (unit_more c.args.lanes.now c.loop-lane.units.items c.loop-lane.lane-index c.lane-item.result c.in_ok-new.field-0
    (read_at c.args.lanes.now c.loop-lane.lane-index c.lane-item.result c.loop-lane-test.true c.lane-item.is) c.loop-lane.invariant own)

pub returns : goal.returns
returns c = subst (λ lanes. AllZip IsUnitOf lanes c.loop-lane.units.items) (take_all c.loop-lane.lane-index c.args.lanes.now c.loop-lane-test.false)
    c.loop-lane.invariant
