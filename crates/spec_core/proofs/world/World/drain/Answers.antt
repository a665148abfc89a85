use Rattle.std.proofs.Common.{◌∙◌, ◌≤◌, length, sym, ap, subst, arith}
use Rattle.std.proofs.lemmas.List.{length-map}
use Rattle.spec_core.specs.Keeping.{Held}
use Rattle.spec_core.specs.Worlds.{IsWorld, WorldState}
use Rattle.spec_core.proofs.DrainLaws.{drained, hands_first, hands_next, room_left}
use Rattle.spec_core.proofs.world.World.drain.Goals as goal

pub loop-worker-init : goal.loop-worker-init
loop-worker-init c = hands_first c.args.self.now

pub overflow_add-count : goal.overflow_add-count
overflow_add-count c =
    let most = room_left c.args.self.now c.loop-worker.self c.loop-worker.worker c.loop-worker.count c.drain_hand-count.result
    c.drain_hand-count.ensures.hand (subst IsWorld c.self.view_is c.self.invariant.is_world) c.loop-worker.invariant c.drain_hand-count.ensures.is_hand
    c.drain_hand-count.ensures.counted in
    omega (arith, most)

pub loop-worker-preserved : goal.loop-worker-preserved
loop-worker-preserved c =
    hands_next c.args.self.now c.loop-worker.self c.drain_hand-count.new.self c.loop-worker.worker c.loop-worker.count c.drain_hand-count.result
    c.loop-worker.invariant c.drain_hand-count.ensures

pub returns : goal.returns
returns c =
    let hands = c.self.inside.hands.items in
    let long : length c.args.self.now.hands ≤ c.loop-worker.worker =
    (let same = ap (λ (w : WorldState). length w.hands) (sym c.self.view_is) ∙ length-map hands (λ (one : Held). one.items) in
    let end = c.loop-worker-test.false in let count = c.len-worker-end.ensures in omega (arith, same, end, count, c.self.inside.hands.ok.0)) in
    drained c.args.self.now c.loop-worker.self c.loop-worker.worker c.loop-worker.count c.facts.ensures long c.loop-worker.invariant
