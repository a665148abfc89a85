use Rattle.std.proofs.Common.{◌<◌, sym, subst}
use Rattle.trace_units.proofs.FleetCalls.{has_unit, step_seen, kept_stepped}
use Rattle.trace_units.proofs.units.Units.do_step.Goals as goal

pub index_mut-requires : goal.index_mut-requires
index_mut-requires c =
    subst (λ count. c.args.instance < count) (sym c.self.inside.list.ok.0)
    (has_unit c.self.inside.plan.value c.self.inside.list.items c.args.self.now c.self.view_is c.self.invariant.members c.args.instance c.requires.there)

pub invariant_of-self : goal.invariant_of-self
invariant_of-self c = record {
  run = c.self.invariant.run;
  members =
      kept_stepped c.self.inside.plan.value c.self.inside.list.items c.args.self.now c.self.view_is c.self.invariant.members c.args.instance c.requires.there
      c.index_mut.result.now c.index_mut.ensures.value c.args.time c.args.step c.do_step.result c.do_step.new.self c.do_step.ensures.steps
      c.do_step.ensures.each_state;
}

pub returns : goal.returns
returns c =
    step_seen c.self.inside.plan.value c.self.inside.list.items c.args.self.now c.self.view_is c.self.invariant.members c.args.instance c.requires.there
    c.index_mut.result.now c.index_mut.ensures.value c.args.time c.args.step c.do_step.result c.do_step.new.self c.do_step.ensures.steps
