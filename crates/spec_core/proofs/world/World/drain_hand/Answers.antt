use Rattle.std.proofs.Common.{◌∙◌, ◌<◌, length, sym, ap, subst, arith}
use Rattle.std.proofs.lemmas.List.{length-map}
use Rattle.std.specs.Prelude.{slice_get}
use Rattle.spec_core.specs.Keeping.{Held}
use Rattle.spec_core.specs.Worlds.{WorldState}
use Rattle.spec_core.proofs.DrainLaws.{hand_first, hand_next}
use Rattle.spec_core.proofs.EndLaws.{hand_there}
use Rattle.spec_core.proofs.world.World.drain_hand.Goals as goal

pub loop-init : goal.loop-init
loop-init c =
    let hands = c.self.inside.hands.items in
    let within : c.args.worker < length hands =
    subst (λ n. c.args.worker < n)
    (ap (λ (w : WorldState). length w.hands) (sym c.self.view_is) ∙ length-map hands (λ (one : Held). one.items)) c.requires in
    let at = ap (λ (w : WorldState). slice_get w.hands c.args.worker) (sym c.self.view_is)
    ∙ hand_there hands c.args.worker c.index.result.now within c.index.ensures in
    record {
      hand = c.index.result.now.items;
      is_hand = at;
      long = c.len-tickets.ensures ∙ c.index.result.now.ok.0;
      gives = hand_first c.args.self.now c.args.worker c.index.result.now.items at;
    }

pub loop-preserved : goal.loop-preserved
loop-preserved c =
    let i = c.loop.invariant in
    record {
      hand = i.hand;
      is_hand = i.is_hand;
      long = i.long;
      gives = hand_next c.args.self.now c.loop.self c.give_back.new.self c.args.worker i.hand c.loop.counter c.give_back.result i.is_hand
          (let test = c.loop-test.true in let long = i.long in omega (arith, test, long)) i.gives c.give_back.ensures;
    }
