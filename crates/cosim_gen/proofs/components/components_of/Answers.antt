use Rattle.std.proofs.Common.{◌≡◌, ◌+◌, ◌-◌, ◌*◌, ap, ◌∙◌, arith}
use Rattle.draw_numbers.specs.Draws.{draw, next_draw}
use Rattle.cosim_gen.proofs.Turns.{k_draw, source_draw, more_instances, more_wires}
use Rattle.cosim_gen.proofs.components.components_of.Goals as goal

pub loop-place-preserved : goal.loop-place-preserved
loop-place-preserved c =
    let seed = c.args.seed in
    let place = c.loop-place.place in
    let first = c.next_draw-drawn-in-loop-place in
    let second = c.next_draw-drawn-in-loop-place-2 in
    let k_is : first.result ≡ draw seed (2 * place - 1) =
    first.ensures.value ∙ ap next_draw c.loop-place.invariant.drawn ∙ k_draw seed place c.loop-place.auto.place in
    let source_is : second.result ≡ draw seed (2 * place) = second.ensures.value ∙ ap next_draw k_is ∙ source_draw seed place c.loop-place.auto.place in
    let same : 2 * place ≡ 2 * (place + 1 - 1) = omega arith in
    record {
      drawn = source_is ∙ ap (draw seed) same;
      instances =
          more_instances seed place first.result c.loop-place.instances c.push.new.self c.in_ok-instance-2.field-0 c.loop-place.auto.place k_is
          c.loop-place.invariant.instances c.in_ok-instance-2.ensures c.in_ok-push.ensures.ok;
      wires =
          more_wires seed place second.result c.loop-place.wires c.push-in-loop-place.new.self c.in_ok-wire.field-0 c.loop-place.auto.place source_is
          c.loop-place.invariant.wires c.in_ok-wire.ensures c.in_ok-push-2.ensures.ok;
    }
