use Rattle.std.proofs.Common.{◌∙◌, ◌<◌, Some, ap, sym, subst}
use Rattle.trace_units.proofs.FleetCalls.{has_unit, state_seen}
use Rattle.trace_units.proofs.units.Units.state.Goals as goal

pub index-requires : goal.index-requires
index-requires c =
    subst (λ count. c.args.instance < count) (sym c.self.inside.list.ok.0)
    (has_unit c.self.inside.plan.value c.self.inside.list.items c.args.self.now c.self.view_is c.self.invariant.members c.args.instance c.requires)

pub returns : goal.returns
returns c =
    state_seen c.self.inside.plan.value c.self.inside.list.items c.args.self.now c.self.view_is c.self.invariant.members c.args.instance c.requires
    c.index.result.now c.index.ensures
    ∙ ap Some (sym c.state.ensures.value)
