use Rattle.std.proofs.Common.{◌<◌, sym, subst, length, arith}
use Rattle.std.specs.Prelude.{IfOk}
use Rattle.guess_board.specs.Guesses.{seen_of}
use Rattle.guess_board.specs.Lanes.{IsLane}
use Rattle.spec_core.specs.Events.{Happens, with_lane}
use Rattle.spec_core.specs.Keeping.{world_state}
use Rattle.spec_core.specs.Worlds.{WorldState}
use Rattle.spec_core.specs.declared.event.Event.TheVariants as event
use Rattle.list_laws.proofs.Members.{read_at}
use Rattle.spec_core.proofs.EndLaws.{put_read, units_kept}
use Rattle.spec_core.proofs.PublishLaws.{publish_happens, publish_image, publish_keeps_world, words}
use Rattle.spec_core.proofs.world.World.publish.Goals as goal

pub publish_from-kept-requires-clause-each_state : goal.publish_from-kept-requires-clause-each_state
publish_from-kept-requires-clause-each_state c =
    let within : c.args.instance < length c.self.inside.lanes.items =
    let past = c.if-place-len.false in let long = c.len.ensures in let ok = c.self.inside.lanes.ok.0 in omega (arith, past, long, ok) in
    let at_lane = read_at c.self.inside.lanes.items c.args.instance c.index_mut-lane.result.now within c.index_mut-lane.ensures.value in
    (words (world_state c.self.inside) c.self.invariant.is_world c.args.instance c.index_mut-lane.result.now at_lane c.state-state.result.now
    c.state-state.ensures (seen_of c.outlook-seen.result) c.outlook-seen.ensures.seen).each_state

pub publish_from-kept-requires-clause-each_input : goal.publish_from-kept-requires-clause-each_input
publish_from-kept-requires-clause-each_input c =
    let within : c.args.instance < length c.self.inside.lanes.items =
    let past = c.if-place-len.false in let long = c.len.ensures in let ok = c.self.inside.lanes.ok.0 in omega (arith, past, long, ok) in
    let at_lane = read_at c.self.inside.lanes.items c.args.instance c.index_mut-lane.result.now within c.index_mut-lane.ensures.value in
    (words (world_state c.self.inside) c.self.invariant.is_world c.args.instance c.index_mut-lane.result.now at_lane c.state-state.result.now
    c.state-state.ensures (seen_of c.outlook-seen.result) c.outlook-seen.ensures.seen).each_input

pub invariant_of-self : goal.invariant_of-self
invariant_of-self c =
    let within : c.args.instance < length c.self.inside.lanes.items =
    let past = c.if-place-len.false in let long = c.len.ensures in let ok = c.self.inside.lanes.ok.0 in omega (arith, past, long, ok) in
    let at_lane = read_at c.self.inside.lanes.items c.args.instance c.index_mut-lane.result.now within c.index_mut-lane.ensures.value in
    let seen = put_read c.self.inside.lanes.items c.args.instance c.publish_from-kept.new.lane c.index.result.now within c.index.ensures in
    record {
      is_world =
          publish_keeps_world (world_state c.self.inside) c.self.invariant.is_world c.args.instance c.index_mut-lane.result.now at_lane
          c.state-state.result.now c.state-state.ensures (seen_of c.outlook-seen.result) c.outlook-seen.ensures.seen c.publish_from-kept.new.lane
          c.publish_from-kept.result c.publish_from-kept.ensures.published c.publish_from-kept.ensures.refused (subst IsLane seen c.facts.ensures);
      tied = c.self.invariant.tied;
      units =
          units_kept c.self.inside.lanes.items c.self.inside.units.items c.args.instance c.index_mut-lane.result.now c.publish_from-kept.new.lane
          c.self.invariant.units at_lane
          (publish_image (world_state c.self.inside) c.self.invariant.is_world c.args.instance c.index_mut-lane.result.now at_lane
          c.state-state.result.now c.state-state.ensures (seen_of c.outlook-seen.result) c.outlook-seen.ensures.seen c.publish_from-kept.new.lane
          c.publish_from-kept.result c.publish_from-kept.ensures.published c.publish_from-kept.ensures.refused);
    }

pub returns-clause-happens : goal.returns-clause-happens
returns-clause-happens c =
    let within : c.args.instance < length c.self.inside.lanes.items =
    let past = c.if-place-len.false in let long = c.len.ensures in let ok = c.self.inside.lanes.ok.0 in omega (arith, past, long, ok) in
    let at_lane = read_at c.self.inside.lanes.items c.args.instance c.index_mut-lane.result.now within c.index_mut-lane.ensures.value in
    let after = with_lane (world_state c.self.inside) c.args.instance c.publish_from-kept.new.lane in
    subst (λ (w : WorldState). IfOk c.published_or_refused.result (λ answer. Happens w (event.Publish c.args.instance) answer after)) c.self.view_is
    (publish_happens (world_state c.self.inside) c.self.invariant.is_world c.args.instance c.index_mut-lane.result.now at_lane
    c.state-state.result.now c.state-state.ensures (seen_of c.outlook-seen.result) c.outlook-seen.ensures.seen c.publish_from-kept.new.lane
    c.publish_from-kept.result c.publish_from-kept.ensures.published c.publish_from-kept.ensures.refused c.published_or_refused.result
    c.publish_from-kept.ensures.kept c.publish_from-kept.ensures.room c.publish_from-kept.ensures.full (sym c.if-has_ended.ensures)
    c.published_or_refused.ensures)
