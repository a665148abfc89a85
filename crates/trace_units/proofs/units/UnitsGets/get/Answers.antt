use Rattle.std.proofs.Common.{◌∙◌, ◌<◌, sym, subst}
use Rattle.trace_units.proofs.FleetCalls.{has_unit}
use Rattle.trace_units.proofs.FleetPorts.{instance_asked, output_within, output_seen}
use Rattle.unit_tree.specs.Compositions.{run_of}
use Rattle.trace_units.proofs.units.UnitsGets.get.Goals as goal

pub index_mut-requires : goal.index_mut-requires
index_mut-requires c =
    subst (λ count. c.args.instance < count) (sym c.self.inside.list.ok.0)
    (has_unit c.self.inside.plan.value c.self.inside.list.items c.args.self.now c.self.view_is c.self.invariant.members c.args.instance
    (instance_asked run_of c.self.inside.plan.value c.self.inside.list.items c.args.self.now c.self.view_is c.self.invariant.run c.self.invariant.members
    c.args.instance c.args.output c.requires))

pub get-requires : goal.get-requires
get-requires c =
    output_within run_of c.self.inside.plan.value c.self.inside.list.items c.args.self.now c.self.view_is c.self.invariant.run c.self.invariant.members
    c.args.instance c.args.output c.requires c.index_mut.result.now c.index_mut.ensures.value

pub returns-clause-given : goal.returns-clause-given
returns-clause-given c =
    output_seen run_of c.self.inside.plan.value c.self.inside.list.items c.args.self.now c.self.view_is c.self.invariant.run c.self.invariant.members
    c.args.instance c.args.output c.requires c.index_mut.result.now c.index_mut.ensures.value
    ∙ c.get.ensures.gives
