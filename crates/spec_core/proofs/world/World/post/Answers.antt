use Rattle.std.proofs.Common.{◌≡◌, ◌∙◌, ◌<◌, refl, sym, subst}
use Rattle.std.specs.Prelude.{IfOk, OnErr}
use Rattle.guess_board.specs.Lanes.{IsLane}
use Rattle.spec_core.specs.Events.{Happens, HasTicket}
use Rattle.spec_core.specs.Keeping.{reply_of_post, world_state}
use Rattle.spec_core.specs.Worlds.{WorldState}
use Rattle.spec_core.specs.declared.event.Event.TheVariants as event
use Rattle.spec_core.proofs.EndLaws.{hand_within, put_read, units_kept, units_long, units_run}
use Rattle.spec_core.proofs.PostLaws.{at_hand, at_lane, can_post, post_happens, post_image, post_keeps_world, post_kept, ticket_read}
use Rattle.spec_core.proofs.TakeLaws.{after_take}
use Rattle.spec_core.proofs.world.World.post.Goals as goal

pub index_mut-requires : goal.index_mut-requires
index_mut-requires c =
    let read = ticket_read (world_state c.self.inside) c.self.inside.hands.items c.args.worker c.index.result.now c.index-2.result.now c.instance-place.result
    c.self.invariant.is_world refl (subst (λ (w : WorldState). HasTicket w c.args.worker) (sym c.self.view_is) (c.if-not-has_ticket.ensures.there refl))
    c.index.ensures c.index-2.ensures c.instance-place.ensures in
    subst (λ n. c.instance-place.result < n) (sym c.self.inside.lanes.ok.0) read.within

pub index_mut-requires-2 : goal.index_mut-requires-2
index_mut-requires-2 c =
    let read = ticket_read (world_state c.self.inside) c.self.inside.hands.items c.args.worker c.index.result.now c.index-2.result.now c.instance-place.result
    c.self.invariant.is_world refl (subst (λ (w : WorldState). HasTicket w c.args.worker) (sym c.self.view_is) (c.if-not-has_ticket.ensures.there refl))
    c.index.ensures c.index-2.ensures c.instance-place.ensures in
    subst (λ n. c.instance-place.result < n)
    (sym (c.self.inside.units.ok.0 ∙ units_long c.self.inside.lanes.items c.self.inside.units.items c.self.invariant.units)) read.within

pub index_mut-requires-3 : goal.index_mut-requires-3
index_mut-requires-3 c =
    let read = ticket_read (world_state c.self.inside) c.self.inside.hands.items c.args.worker c.index.result.now c.index-2.result.now c.instance-place.result
    c.self.invariant.is_world refl (subst (λ (w : WorldState). HasTicket w c.args.worker) (sym c.self.view_is) (c.if-not-has_ticket.ensures.there refl))
    c.index.ensures c.index-2.ensures c.instance-place.ensures in
    subst (λ n. c.args.worker < n) (sym c.self.inside.hands.ok.0) (hand_within c.self.inside.hands.items c.args.worker _ read.at_hand)

pub post_from-appended-requires : goal.post_from-appended-requires
post_from-appended-requires c =
    let read = ticket_read (world_state c.self.inside) c.self.inside.hands.items c.args.worker c.index.result.now c.index-2.result.now c.instance-place.result
    c.self.invariant.is_world refl (subst (λ (w : WorldState). HasTicket w c.args.worker) (sym c.self.view_is) (c.if-not-has_ticket.ensures.there refl))
    c.index.ensures c.index-2.ensures c.instance-place.ensures in
    can_post (world_state c.self.inside) c.self.invariant.is_world c.self.inside.hands.items refl c.args.worker c.index-2.result.now
    c.instance-place.result read c.index_mut.result.now c.index_mut.ensures.value c.index_mut-3.result.now c.index_mut-3.ensures.value
    c.self.inside.units.items c.index_mut-2.result.now c.self.invariant.units c.index_mut-2.ensures.value

pub index-requires-3 : goal.index-requires-3
index-requires-3 c =
    let read = ticket_read (world_state c.self.inside) c.self.inside.hands.items c.args.worker c.index.result.now c.index-2.result.now c.instance-place.result
    c.self.invariant.is_world refl (subst (λ (w : WorldState). HasTicket w c.args.worker) (sym c.self.view_is) (c.if-not-has_ticket.ensures.there refl))
    c.index.ensures c.index-2.ensures c.instance-place.ensures in
    subst (λ n. c.instance-place.result < n) (sym c.self.inside.lanes.ok.0) read.within

pub invariant_of-self : goal.invariant_of-self
invariant_of-self c =
    let read = ticket_read (world_state c.self.inside) c.self.inside.hands.items c.args.worker c.index.result.now c.index-2.result.now c.instance-place.result
    c.self.invariant.is_world refl (subst (λ (w : WorldState). HasTicket w c.args.worker) (sym c.self.view_is) (c.if-not-has_ticket.ensures.there refl))
    c.index.ensures c.index-2.ensures c.instance-place.ensures in
    let seen = put_read c.self.inside.lanes.items c.instance-place.result c.post_from-appended.new.lane c.index-3.result.now read.within c.index-3.ensures in
    let is_lane = subst IsLane seen c.facts.ensures in
    let lane_at = at_lane (world_state c.self.inside) c.self.invariant.is_world c.self.inside.hands.items refl c.args.worker c.index-2.result.now
    c.instance-place.result read c.index_mut.result.now c.index_mut.ensures.value c.index_mut-3.result.now c.index_mut-3.ensures.value in
    record {
      is_world = post_keeps_world (world_state c.self.inside) c.self.invariant.is_world c.self.inside.hands.items refl c.args.worker c.index-2.result.now
          c.instance-place.result read c.index_mut.result.now c.index_mut.ensures.value c.index_mut-3.result.now c.index_mut-3.ensures.value
          c.post_from-appended.new.lane c.post_from-appended.new.hand c.args.cells is_lane c.post_from-appended.result
          c.post_from-appended.ensures.posted c.post_from-appended.ensures.kept_lane
          c.post_from-appended.ensures.kept_hand;
      tied = c.self.invariant.tied;
      units =
          units_run _ c.self.inside.units.items c.instance-place.result c.index_mut-2.result.now c.post_from-appended.new.unit
          (units_kept c.self.inside.lanes.items c.self.inside.units.items c.instance-place.result c.index_mut.result.now c.post_from-appended.new.lane
          c.self.invariant.units lane_at
          (post_image (world_state c.self.inside) c.self.invariant.is_world c.self.inside.hands.items refl c.args.worker c.index-2.result.now
          c.instance-place.result read c.index_mut.result.now c.index_mut.ensures.value c.index_mut-3.result.now c.index_mut-3.ensures.value
          c.post_from-appended.new.lane c.post_from-appended.new.hand c.args.cells is_lane c.post_from-appended.result
          c.post_from-appended.ensures.posted c.post_from-appended.ensures.kept_lane))
          c.index_mut-2.ensures.value c.post_from-appended.ensures.image;
    }

pub returns-clause-happens : goal.returns-clause-happens
returns-clause-happens c =
    let read = ticket_read (world_state c.self.inside) c.self.inside.hands.items c.args.worker c.index.result.now c.index-2.result.now c.instance-place.result
    c.self.invariant.is_world refl (subst (λ (w : WorldState). HasTicket w c.args.worker) (sym c.self.view_is) (c.if-not-has_ticket.ensures.there refl))
    c.index.ensures c.index-2.ensures c.instance-place.ensures in
    let seen = put_read c.self.inside.lanes.items c.instance-place.result c.post_from-appended.new.lane c.index-3.result.now read.within c.index-3.ensures in
    let is_lane = subst IsLane seen c.facts.ensures in
    let lane_at = at_lane (world_state c.self.inside) c.self.invariant.is_world c.self.inside.hands.items refl c.args.worker c.index-2.result.now
    c.instance-place.result read c.index_mut.result.now c.index_mut.ensures.value c.index_mut-3.result.now c.index_mut-3.ensures.value in
    let hand_at = at_hand (world_state c.self.inside) c.self.invariant.is_world c.self.inside.hands.items refl c.args.worker c.index-2.result.now
    c.instance-place.result read c.index_mut.result.now c.index_mut.ensures.value c.index_mut-3.result.now c.index_mut-3.ensures.value in
    let after = after_take (world_state c.self.inside) c.self.invariant.is_world c.self.inside.hands.items refl c.args.worker c.instance-place.result
    c.index_mut.result.now c.index_mut-3.result.now.items lane_at hand_at c.post_from-appended.new.lane c.post_from-appended.new.hand in
    subst (λ r. IfOk r (λ answer. Happens c.args.self.now (event.Post c.args.worker c.args.cells) answer after)) (sym c.posted.ensures)
    (subst (λ (w : WorldState). IfOk (reply_of_post c.post_from-appended.result) (λ answer. Happens w (event.Post c.args.worker c.args.cells) answer after))
    c.self.view_is
    (post_happens (world_state c.self.inside) c.self.invariant.is_world c.self.inside.hands.items refl c.args.worker c.index-2.result.now
    c.instance-place.result read c.index_mut.result.now c.index_mut.ensures.value c.index_mut-3.result.now c.index_mut-3.ensures.value
    c.post_from-appended.new.lane c.post_from-appended.new.hand c.args.cells is_lane c.post_from-appended.result c.post_from-appended.ensures.posted))

pub returns-clause-kept : goal.returns-clause-kept
returns-clause-kept c =
    let read = ticket_read (world_state c.self.inside) c.self.inside.hands.items c.args.worker c.index.result.now c.index-2.result.now c.instance-place.result
    c.self.invariant.is_world refl (subst (λ (w : WorldState). HasTicket w c.args.worker) (sym c.self.view_is) (c.if-not-has_ticket.ensures.there refl))
    c.index.ensures c.index-2.ensures c.instance-place.ensures in
    let seen = put_read c.self.inside.lanes.items c.instance-place.result c.post_from-appended.new.lane c.index-3.result.now read.within c.index-3.ensures in
    let is_lane = subst IsLane seen c.facts.ensures in
    let lane_at = at_lane (world_state c.self.inside) c.self.invariant.is_world c.self.inside.hands.items refl c.args.worker c.index-2.result.now
    c.instance-place.result read c.index_mut.result.now c.index_mut.ensures.value c.index_mut-3.result.now c.index_mut-3.ensures.value in
    let hand_at = at_hand (world_state c.self.inside) c.self.invariant.is_world c.self.inside.hands.items refl c.args.worker c.index-2.result.now
    c.instance-place.result read c.index_mut.result.now c.index_mut.ensures.value c.index_mut-3.result.now c.index_mut-3.ensures.value in
    let after = after_take (world_state c.self.inside) c.self.invariant.is_world c.self.inside.hands.items refl c.args.worker c.instance-place.result
    c.index_mut.result.now c.index_mut-3.result.now.items lane_at hand_at c.post_from-appended.new.lane c.post_from-appended.new.hand in
    subst (λ r. OnErr r (after ≡ c.args.self.now)) (sym c.posted.ensures)
    (subst (λ (w : WorldState). OnErr (reply_of_post c.post_from-appended.result) (after ≡ w)) c.self.view_is
    (post_kept (world_state c.self.inside) c.self.invariant.is_world c.self.inside.hands.items refl c.args.worker c.index-2.result.now
    c.instance-place.result read c.index_mut.result.now c.index_mut.ensures.value c.index_mut-3.result.now c.index_mut-3.ensures.value
    c.post_from-appended.new.lane c.post_from-appended.new.hand c.args.cells is_lane c.post_from-appended.result
    c.post_from-appended.ensures.kept_lane c.post_from-appended.ensures.kept_hand))
