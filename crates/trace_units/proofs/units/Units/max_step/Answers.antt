use Rattle.std.proofs.Common.{◌<◌, sym, subst}
use Rattle.trace_units.proofs.FleetCalls.{has_unit, limit_seen}
use Rattle.trace_units.proofs.units.Units.max_step.Goals as goal

pub index_mut-requires : goal.index_mut-requires
index_mut-requires c =
    subst (λ count. c.args.instance < count) (sym c.self.inside.list.ok.0)
    (has_unit c.self.inside.plan.value c.self.inside.list.items c.args.self.now c.self.view_is c.self.invariant.members c.args.instance c.requires.there)

pub returns-clause-gives : goal.returns-clause-gives
returns-clause-gives c =
    limit_seen c.self.inside.plan.value c.self.inside.list.items c.args.self.now c.self.view_is c.self.invariant.members c.args.instance c.requires.there
    c.index_mut.result.now c.index_mut.ensures.value c.args.time c.max_step.result c.max_step.ensures.gives
