use Rattle.std.proofs.Common.{◌≡◌, ◌<◌, refl, sym, subst, length, arith}
use Rattle.std.specs.Prelude.{IfOk, OnErr}
use Rattle.guess_board.specs.Lanes.{IsLane}
use Rattle.spec_core.specs.Events.{Happens}
use Rattle.spec_core.specs.Keeping.{reply_of_take, world_state}
use Rattle.spec_core.specs.Worlds.{WorldState}
use Rattle.spec_core.specs.declared.event.Event.TheVariants as event
use Rattle.list_laws.proofs.Members.{read_at}
use Rattle.spec_core.proofs.EndLaws.{hand_there, put_read, units_kept}
use Rattle.spec_core.proofs.TakeLaws.{after_take, take_happens, take_image, take_keeps_world, take_kept}
use Rattle.spec_core.proofs.world.World.take.Goals as goal

pub invariant_of-self : goal.invariant_of-self
invariant_of-self c =
    let lane_within : c.args.instance < length c.self.inside.lanes.items =
    let past = c.if-place-len.false in let long = c.len-2.ensures in let ok = c.self.inside.lanes.ok.0 in omega (arith, past, long, ok) in
    let hand_within : c.args.worker < length c.self.inside.hands.items =
    let past = c.if-at-len.false in let long = c.len.ensures in let ok = c.self.inside.hands.ok.0 in omega (arith, past, long, ok) in
    let at_lane = read_at c.self.inside.lanes.items c.args.instance c.index_mut.result.now lane_within c.index_mut.ensures.value in
    let at_hand = hand_there c.self.inside.hands.items c.args.worker c.index_mut-2.result.now hand_within c.index_mut-2.ensures.value in
    let seen = put_read c.self.inside.lanes.items c.args.instance c.take_into-taken.new.lane c.index.result.now lane_within c.index.ensures in
    record {
      is_world =
          take_keeps_world (world_state c.self.inside) c.self.invariant.is_world c.self.inside.hands.items refl c.args.worker c.args.instance
          c.index_mut.result.now c.index_mut-2.result.now.items at_lane at_hand c.take_into-taken.new.lane c.take_into-taken.new.hand
          (subst IsLane seen c.facts.ensures) c.take_into-taken.result c.take_into-taken.ensures.taken c.take_into-taken.ensures.kept_lane
          c.take_into-taken.ensures.kept_hand;
      tied = c.self.invariant.tied;
      units =
          units_kept c.self.inside.lanes.items c.self.inside.units.items c.args.instance c.index_mut.result.now c.take_into-taken.new.lane
          c.self.invariant.units at_lane
          (take_image (world_state c.self.inside) c.self.invariant.is_world c.self.inside.hands.items refl c.args.worker c.args.instance
          c.index_mut.result.now c.index_mut-2.result.now.items at_lane at_hand c.take_into-taken.new.lane c.take_into-taken.new.hand
          (subst IsLane seen c.facts.ensures) c.take_into-taken.result c.take_into-taken.ensures.taken c.take_into-taken.ensures.kept_lane);
    }

pub returns-clause-happens : goal.returns-clause-happens
returns-clause-happens c =
    let lane_within : c.args.instance < length c.self.inside.lanes.items =
    let past = c.if-place-len.false in let long = c.len-2.ensures in let ok = c.self.inside.lanes.ok.0 in omega (arith, past, long, ok) in
    let hand_within : c.args.worker < length c.self.inside.hands.items =
    let past = c.if-at-len.false in let long = c.len.ensures in let ok = c.self.inside.hands.ok.0 in omega (arith, past, long, ok) in
    let at_lane = read_at c.self.inside.lanes.items c.args.instance c.index_mut.result.now lane_within c.index_mut.ensures.value in
    let at_hand = hand_there c.self.inside.hands.items c.args.worker c.index_mut-2.result.now hand_within c.index_mut-2.ensures.value in
    let seen = put_read c.self.inside.lanes.items c.args.instance c.take_into-taken.new.lane c.index.result.now lane_within c.index.ensures in
    let world = world_state c.self.inside in
    let after = after_take world c.self.invariant.is_world c.self.inside.hands.items refl c.args.worker c.args.instance
    c.index_mut.result.now c.index_mut-2.result.now.items at_lane at_hand c.take_into-taken.new.lane c.take_into-taken.new.hand in
    subst (λ r. IfOk r (λ answer. Happens c.args.self.now (event.Take c.args.worker c.args.instance) answer after)) (sym c.taken_or_refused.ensures)
    (subst (λ (w : WorldState). IfOk (reply_of_take c.take_into-taken.result) (λ answer. Happens w (event.Take c.args.worker c.args.instance) answer after))
    c.self.view_is
    (take_happens world c.self.invariant.is_world c.self.inside.hands.items refl c.args.worker c.args.instance
    c.index_mut.result.now c.index_mut-2.result.now.items at_lane at_hand c.take_into-taken.new.lane c.take_into-taken.new.hand
    (subst IsLane seen c.facts.ensures) c.take_into-taken.result c.take_into-taken.ensures.taken))

pub returns-clause-kept : goal.returns-clause-kept
returns-clause-kept c =
    let lane_within : c.args.instance < length c.self.inside.lanes.items =
    let past = c.if-place-len.false in let long = c.len-2.ensures in let ok = c.self.inside.lanes.ok.0 in omega (arith, past, long, ok) in
    let hand_within : c.args.worker < length c.self.inside.hands.items =
    let past = c.if-at-len.false in let long = c.len.ensures in let ok = c.self.inside.hands.ok.0 in omega (arith, past, long, ok) in
    let at_lane = read_at c.self.inside.lanes.items c.args.instance c.index_mut.result.now lane_within c.index_mut.ensures.value in
    let at_hand = hand_there c.self.inside.hands.items c.args.worker c.index_mut-2.result.now hand_within c.index_mut-2.ensures.value in
    let seen = put_read c.self.inside.lanes.items c.args.instance c.take_into-taken.new.lane c.index.result.now lane_within c.index.ensures in
    let world = world_state c.self.inside in
    let after = after_take world c.self.invariant.is_world c.self.inside.hands.items refl c.args.worker c.args.instance
    c.index_mut.result.now c.index_mut-2.result.now.items at_lane at_hand c.take_into-taken.new.lane c.take_into-taken.new.hand in
    subst (λ r. OnErr r (after ≡ c.args.self.now)) (sym c.taken_or_refused.ensures)
    (subst (λ (w : WorldState). OnErr (reply_of_take c.take_into-taken.result) (after ≡ w)) c.self.view_is
    (take_kept world c.self.invariant.is_world c.self.inside.hands.items refl c.args.worker c.args.instance
    c.index_mut.result.now c.index_mut-2.result.now.items at_lane at_hand c.take_into-taken.new.lane c.take_into-taken.new.hand
    (subst IsLane seen c.facts.ensures) c.take_into-taken.result c.take_into-taken.ensures.kept_lane c.take_into-taken.ensures.kept_hand))
