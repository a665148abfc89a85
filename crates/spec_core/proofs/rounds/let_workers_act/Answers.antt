use Rattle.std.proofs.Common.{◌∙◌, ◌++◌, ◌∷◌, [], ap, arith, refl, subst, sym}
use Rattle.draw_numbers.specs.Draws.{next_draw}
use Rattle.spec_core.specs.Replays.{worker_event}
use Rattle.spec_core.specs.Rounds.{DoesAll, drawn_from}
use Rattle.spec_core.proofs.DoneLaws.{does_more, does_none, draw_more, drawn_more, length-drawn_from}
use Rattle.spec_core.proofs.rounds.let_workers_act.Goals as goal

pub loop-init : goal.loop-init
loop-init c = record { did = does_none c.args.world.now c.args.replies.now c.requires.few; draw = refl }

pub happen-requires-clause-few : goal.happen-requires-clause-few
happen-requires-clause-few c = c.loop.invariant.did.few

pub happen-requires-clause-room : goal.happen-requires-clause-room
happen-requires-clause-room c =
    let number = c.loop.invariant.did.number in
    let long = length-drawn_from c.args.draw.now c.args.workers c.args.instances c.loop.counter in
    let room = c.requires.room in
    omega (arith, number, long, room)

pub loop-preserved : goal.loop-preserved
loop-preserved c = record {
  did =
      subst (λ events. DoesAll events c.args.world.now c.args.replies.now c.happen.new.world c.happen.new.replies)
      (ap (λ what. drawn_from c.args.draw.now c.args.workers c.args.instances c.loop.counter ++ what ∷ [])
      (c.worker_event-event.ensures ∙ ap (λ x. worker_event x c.args.workers c.args.instances) (c.next_draw.ensures.value ∙ ap next_draw c.loop.invariant.draw))
      ∙ sym (drawn_more c.args.draw.now c.args.workers c.args.instances c.loop.counter))
      (does_more (drawn_from c.args.draw.now c.args.workers c.args.instances c.loop.counter) c.worker_event-event.result c.in_ok-happen.field-0
      c.args.world.now c.loop.world c.happen.new.world c.args.replies.now c.loop.replies c.happen.new.replies c.loop.invariant.did
      c.in_ok-happen.ensures.happens c.in_ok-happen.ensures.counted c.in_ok-happen.ensures.few);
  draw = c.next_draw.ensures.value ∙ ap next_draw c.loop.invariant.draw ∙ sym (draw_more c.args.draw.now c.loop.counter);
}
