use Rattle.std.proofs.Common.{refl, subst}
use Rattle.spec_core.specs.Events.{HasNoTicket, HasTicket}
use Rattle.spec_core.specs.Keeping.{world_state}
use Rattle.spec_core.specs.Worlds.{WorldState}
use Rattle.spec_core.proofs.EndLaws.{hand_read_at, has_none, has_some, no_hand}
use Rattle.spec_core.proofs.world.World.has_ticket.Goals as goal

pub returns-in-Some-clause-there : goal.returns-in-Some-clause-there
returns-in-Some-clause-there c full =
    let looked = c.in-Some.ensures.lookup in
    let at = hand_read_at c.self.inside.hands.items c.deref.result.now c.args.worker c.in-Some.hand.now c.deref.ensures.value looked.0 looked.1 in
    subst (λ (w : WorldState). HasTicket w c.args.worker) c.self.view_is
    (has_some (world_state c.self.inside) c.args.worker c.in-Some.hand.now c.is_empty.result at c.is_empty.ensures full)

pub returns-in-Some-clause-not_there : goal.returns-in-Some-clause-not_there
returns-in-Some-clause-not_there c none =
    let looked = c.in-Some.ensures.lookup in
    let at = hand_read_at c.self.inside.hands.items c.deref.result.now c.args.worker c.in-Some.hand.now c.deref.ensures.value looked.0 looked.1 in
    subst (λ (w : WorldState). HasNoTicket w c.args.worker) c.self.view_is
    (has_none (world_state c.self.inside) c.args.worker c.in-Some.hand.now c.is_empty.result at c.is_empty.ensures none)

pub returns-in-None-clause-not_there : goal.returns-in-None-clause-not_there
returns-in-None-clause-not_there c _ =
    subst (λ (w : WorldState). HasNoTicket w c.args.worker) c.self.view_is
    (no_hand (world_state c.self.inside) c.self.inside.hands.items c.deref.result.now c.args.worker c.deref.ensures.value c.in-None.ensures.lookup.0 refl)
