use Rattle.std.proofs.Common.{◌∙◌, refl, ap, sym, subst, inl, length, arith}
use Rattle.spec_core.specs.Events.{Happens, with_run}
use Rattle.spec_core.specs.Keeping.{world_state}
use Rattle.spec_core.specs.Worlds.{WorldState}
use Rattle.spec_core.specs.declared.event.Event.TheVariants as event
use Rattle.spec_core.specs.declared.event.Reply.TheVariants as reply
use Rattle.trace_core.proofs.Settles.{settled_plan}
use Rattle.trace_rows.proofs.Filling.{few_cells}
use Rattle.spec_core.proofs.WorldLaws.{keeps_run}
use Rattle.trace_plan.specs.Plans.{Planned}
use Rattle.spec_core.proofs.world.World.settle.Goals as goal

pub are_steps_there-requires : goal.are_steps_there-requires
are_steps_there-requires c =
    let few = few_cells c.self.inside.run c.self.invariant.is_world.stands in
    let planned = ap (λ (p : Planned). length p.run.members) (c.self.invariant.tied) in
    let count = c.instances.ensures.count in
    let lent = ap (λ (p : Planned). length p.run.members) c.deref.ensures in
    omega (arith, few, planned, count, lent)

pub invariant_of-self : goal.invariant_of-self
invariant_of-self c =
    let planned = settled_plan c.self.inside.run c.settle.new.self c.settle.result c.settle.ensures.settled in
    record {
      is_world = keeps_run (world_state c.self.inside) c.self.invariant.is_world c.settle.new.self c.settle.ensures.stands planned;
      tied = planned ∙ c.self.invariant.tied;
      units = c.self.invariant.units;
    }

pub returns : goal.returns
returns c =
    subst (λ (w : WorldState). Happens w event.Settle (reply.Settled c.settle.result) (with_run (world_state c.self.inside) c.settle.new.self)) c.self.view_is
    (inl (record {
      to = c.settle.result;
      going = sym c.if-has_ended.ensures;
      full = c.if-not-are_steps_there.ensures.0 refl;
      settled = c.settle.ensures.settled;
      is = refl;
      replied = refl;
    }))
