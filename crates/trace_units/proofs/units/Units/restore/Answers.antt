use Rattle.std.proofs.Common.{◌∙◌, ◌<◌, length, refl, ap, sym, subst}
use Rattle.trace_units.proofs.FleetCalls.{has_unit, as_long, given_state, kept_by}
use Rattle.trace_units.proofs.units.Units.restore.Goals as goal

pub index_mut-requires : goal.index_mut-requires
index_mut-requires c =
    subst (λ count. c.args.instance < count) (sym c.self.inside.list.ok.0)
    (has_unit c.self.inside.plan.value c.self.inside.list.items c.args.self.now c.self.view_is c.self.invariant.members c.args.instance c.requires.there)

pub restore-requires : goal.restore-requires
restore-requires c =
    c.requires.same_length
    ∙ ap length
    (as_long c.self.inside.plan.value c.self.inside.list.items c.args.self.now c.self.view_is c.self.invariant.members c.args.instance c.requires.there
    c.index_mut.result.now c.index_mut.ensures.value)

pub invariant_of-self : goal.invariant_of-self
invariant_of-self c = record {
  run = c.self.invariant.run;
  members =
      let long =
      as_long c.self.inside.plan.value c.self.inside.list.items c.args.self.now c.self.view_is c.self.invariant.members c.args.instance c.requires.there
      c.index_mut.result.now c.index_mut.ensures.value in
      kept_by c.self.inside.plan.value c.self.inside.list.items c.args.self.now c.self.view_is c.self.invariant.members c.args.instance c.requires.there
      c.index_mut.result.now c.index_mut.ensures.value c.restore.new.self c.args.state.now c.index_mut.result.now.inputs c.restore.ensures
      (c.requires.same_length ∙ ap length long) refl;
}

pub returns : goal.returns
returns c =
    given_state c.self.inside.plan.value c.self.inside.list.items c.args.self.now c.self.view_is c.self.invariant.members c.args.instance c.requires.there
    c.index_mut.result.now c.index_mut.ensures.value c.restore.new.self c.args.state.now c.restore.ensures
