use Rattle.std.proofs.Common.{◌≡◌, ◌∙◌, ◌<◌, set, refl, ap, sym, subst, inl, length}
use Rattle.std.proofs.lemmas.Option.{same_Some, slice_get_within}
use Rattle.std.specs.Prelude.{slice_get, vec_len}
use Rattle.guess_board.specs.Events.{is_of}
use Rattle.guess_board.specs.Lanes.{IsLane, LaneState}
use Rattle.spec_core.specs.Events.{Happens, HasTicket, with_hand, with_lane}
use Rattle.spec_core.specs.Keeping.{tickets_of, world_state}
use Rattle.spec_core.specs.Worlds.{IsWorld, WorldState}
use Rattle.spec_core.specs.declared.event.Event.TheVariants as event
use Rattle.spec_core.specs.declared.event.Reply.TheVariants as reply
use Rattle.list_laws.proofs.Members.{read_at}
use Rattle.spec_core.proofs.ActLaws.{never}
use Rattle.spec_core.proofs.EndLaws.{ended_world, put_read, taken_out, units_kept}
use Rattle.spec_core.proofs.WorldLaws.{keeps_end}
use Rattle.spec_core.proofs.world.World.give_back.Goals as goal

pub index_mut-requires-2 : goal.index_mut-requires-2
index_mut-requires-2 c =
    let out = taken_out (world_state c.self.inside) c.self.inside.hands.items c.args.worker c.index_mut.result.now c.remove-ticket.result
    c.remove-ticket.new.self c.self.invariant.is_world refl
    (subst (λ (w : WorldState). HasTicket w c.args.worker) (sym c.self.view_is) (c.if-not-has_ticket.ensures.there refl))
    c.index_mut.ensures.value c.remove-ticket.ensures.value c.remove-ticket.ensures.items in
    subst (λ k. k < vec_len c.self.inside.lanes) (sym c.instance-place.ensures)
    (subst (λ count. c.remove-ticket.result.instance < count) (sym c.self.inside.lanes.ok.0)
    (slice_get_within c.self.inside.lanes.items c.remove-ticket.result.instance out.is_first.lane out.is_first.there))

pub unreachable-requires : goal.unreachable-requires
unreachable-requires c =
    let out = taken_out (world_state c.self.inside) c.self.inside.hands.items c.args.worker c.index_mut.result.now c.remove-ticket.result
    c.remove-ticket.new.self c.self.invariant.is_world refl
    (subst (λ (w : WorldState). HasTicket w c.args.worker) (sym c.self.view_is) (c.if-not-has_ticket.ensures.there refl))
    c.index_mut.ensures.value c.remove-ticket.ensures.value c.remove-ticket.ensures.items in
    let within = slice_get_within c.self.inside.lanes.items c.remove-ticket.result.instance out.is_first.lane out.is_first.there in
    let there = read_at c.self.inside.lanes.items c.instance-place.result c.index_mut-2.result.now
    (subst (λ k. k < length c.self.inside.lanes.items) (sym c.instance-place.ensures) within) c.index_mut-2.ensures.value in
    let same : c.index_mut-2.result.now ≡ out.is_first.lane =
    same_Some c.index_mut-2.result.now out.is_first.lane
    (sym there ∙ ap (slice_get c.self.inside.lanes.items) c.instance-place.ensures ∙ out.is_first.there) in
    never (c.in-Err.ensures.own ∙ ap (λ lane. is_of lane c.remove-ticket.result) same ∙ out.is_first.own)

pub invariant_of-self : goal.invariant_of-self
invariant_of-self c =
    let out = taken_out (world_state c.self.inside) c.self.inside.hands.items c.args.worker c.index_mut.result.now c.remove-ticket.result
    c.remove-ticket.new.self c.self.invariant.is_world refl
    (subst (λ (w : WorldState). HasTicket w c.args.worker) (sym c.self.view_is) (c.if-not-has_ticket.ensures.there refl))
    c.index_mut.ensures.value c.remove-ticket.ensures.value c.remove-ticket.ensures.items in
    let within = slice_get_within c.self.inside.lanes.items c.remove-ticket.result.instance out.is_first.lane out.is_first.there in
    let at = subst (λ k. k < length c.self.inside.lanes.items) (sym c.instance-place.ensures) within in
    let there = read_at c.self.inside.lanes.items c.instance-place.result c.index_mut-2.result.now at c.index_mut-2.ensures.value in
    let there_by = ap (slice_get c.self.inside.lanes.items) (sym c.instance-place.ensures) ∙ there in
    let seen = put_read c.self.inside.lanes.items c.instance-place.result c.back.new.self c.index.result.now at c.index.ensures in
    let is_lane = subst IsLane seen c.facts.ensures in
    let now = c.in-Ok.ensures.backed in
    record {
      is_world = subst IsWorld
          (sym (ended_world (world_state c.self.inside) c.self.inside.hands.items c.args.worker c.instance-place.result c.back.new.self c.remove-ticket.new.self
          c.remove-ticket.result out.others refl c.instance-place.ensures out.left))
          (keeps_end (world_state c.self.inside) c.self.invariant.is_world c.args.worker c.remove-ticket.result out.others c.index_mut-2.result.now
          c.back.new.self out.is_first.first there_by is_lane (ap (λ (l : LaneState). l.instance) now) (ap (λ (l : LaneState). l.image) now)
          (ap (λ (l : LaneState). l.journal.outstanding) now));
      tied = c.self.invariant.tied;
      units = units_kept c.self.inside.lanes.items c.self.inside.units.items c.instance-place.result c.index_mut-2.result.now c.back.new.self
          c.self.invariant.units there (ap (λ (l : LaneState). l.image) now);
    }

pub returns : goal.returns
returns c =
    let out = taken_out (world_state c.self.inside) c.self.inside.hands.items c.args.worker c.index_mut.result.now c.remove-ticket.result
    c.remove-ticket.new.self c.self.invariant.is_world refl
    (subst (λ (w : WorldState). HasTicket w c.args.worker) (sym c.self.view_is) (c.if-not-has_ticket.ensures.there refl))
    c.index_mut.ensures.value c.remove-ticket.ensures.value c.remove-ticket.ensures.items in
    let within = slice_get_within c.self.inside.lanes.items c.remove-ticket.result.instance out.is_first.lane out.is_first.there in
    let at = subst (λ k. k < length c.self.inside.lanes.items) (sym c.instance-place.ensures) within in
    let there = read_at c.self.inside.lanes.items c.instance-place.result c.index_mut-2.result.now at c.index_mut-2.ensures.value in
    let there_by = ap (slice_get c.self.inside.lanes.items) (sym c.instance-place.ensures) ∙ there in
    let world = world_state c.self.inside in
    subst (λ (w : WorldState). Happens w (event.Back c.args.worker) reply.Back
    (record world {
      lanes = set c.self.inside.lanes.items c.instance-place.result c.back.new.self;
      hands = tickets_of (set c.self.inside.hands.items c.args.worker c.remove-ticket.new.self);
    }))
    c.self.view_is
    (inl (record {
      ticket = c.remove-ticket.result;
      others = out.others;
      first = out.is_first.first;
      lane = c.index_mut-2.result.now;
      is_lane = there_by;
      is =
          ended_world world c.self.inside.hands.items c.args.worker c.instance-place.result c.back.new.self c.remove-ticket.new.self c.remove-ticket.result
          out.others refl c.instance-place.ensures out.left
          ∙ ap (λ lane. with_hand (with_lane world c.remove-ticket.result.instance lane) c.args.worker out.others) c.in-Ok.ensures.backed;
      replied = refl;
    }))

pub index-requires : goal.index-requires
index-requires c =
    let out = taken_out (world_state c.self.inside) c.self.inside.hands.items c.args.worker c.index_mut.result.now c.remove-ticket.result
    c.remove-ticket.new.self c.self.invariant.is_world refl
    (subst (λ (w : WorldState). HasTicket w c.args.worker) (sym c.self.view_is) (c.if-not-has_ticket.ensures.there refl))
    c.index_mut.ensures.value c.remove-ticket.ensures.value c.remove-ticket.ensures.items in
    subst (λ k. k < vec_len c.self.inside.lanes) (sym c.instance-place.ensures)
    (subst (λ count. c.remove-ticket.result.instance < count) (sym c.self.inside.lanes.ok.0)
    (slice_get_within c.self.inside.lanes.items c.remove-ticket.result.instance out.is_first.lane out.is_first.there))
