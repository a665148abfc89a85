use Rattle.std.proofs.Common.{◌∙◌, ◌<◌, refl, ap, sym, subst, set, rules, w64, SFits, length-set}
use Rattle.std.proofs.lemmas.Int.{to_z-of_z}
use Rattle.trace_units.proofs.FleetCalls.{has_unit, kept_by, given_word, states_kept}
use Rattle.trace_units.proofs.FleetPorts.{instance_set, input_within}
use Rattle.unit_tree.specs.Compositions.{run_of}
use Rattle.trace_units.proofs.units.UnitsGets.set.Goals as goal

pub index_mut-requires : goal.index_mut-requires
index_mut-requires c =
    subst (λ count. c.args.instance < count) (sym c.self.inside.list.ok.0)
    (has_unit c.self.inside.plan.value c.self.inside.list.items c.args.self.now c.self.view_is c.self.invariant.members c.args.instance
    (instance_set run_of c.self.inside.plan.value c.self.inside.list.items c.args.self.now c.self.view_is c.self.invariant.run c.self.invariant.members
    c.args.instance c.args.input c.args.word c.requires))

pub set-requires : goal.set-requires
set-requires c =
    input_within run_of c.self.inside.plan.value c.self.inside.list.items c.args.self.now c.self.view_is c.self.invariant.run c.self.invariant.members
    c.args.instance c.args.input c.args.word c.requires c.index_mut.result.now c.index_mut.ensures.value

pub invariant_of-self : goal.invariant_of-self
invariant_of-self c = record {
  run = c.self.invariant.run;
  members =
      let there =
      instance_set run_of c.self.inside.plan.value c.self.inside.list.items c.args.self.now c.self.view_is c.self.invariant.run c.self.invariant.members
      c.args.instance c.args.input c.args.word c.requires in
      let fits : SFits w64 c.args.word = search rules in
      let is = c.set.ensures
      ∙ ap (λ word. record c.index_mut.result.now { inputs = set c.index_mut.result.now.inputs c.args.input word }) (to_z-of_z w64 c.args.word fits) in
      kept_by c.self.inside.plan.value c.self.inside.list.items c.args.self.now c.self.view_is c.self.invariant.members c.args.instance there
      c.index_mut.result.now c.index_mut.ensures.value c.set.new.self c.index_mut.result.now.state
      (set c.index_mut.result.now.inputs c.args.input c.args.word) is refl
      (length-set c.index_mut.result.now.inputs c.args.input c.args.word);
}

pub returns-clause-inputs : goal.returns-clause-inputs
returns-clause-inputs c =
    let there =
    instance_set run_of c.self.inside.plan.value c.self.inside.list.items c.args.self.now c.self.view_is c.self.invariant.run c.self.invariant.members
    c.args.instance c.args.input c.args.word c.requires in
    let fits : SFits w64 c.args.word = search rules in
    let is = c.set.ensures
    ∙ ap (λ word. record c.index_mut.result.now { inputs = set c.index_mut.result.now.inputs c.args.input word }) (to_z-of_z w64 c.args.word fits) in
    given_word c.self.inside.plan.value c.self.inside.list.items c.args.self.now c.self.view_is c.self.invariant.members c.args.instance there
    c.index_mut.result.now c.index_mut.ensures.value c.set.new.self c.args.input c.args.word is

pub returns-clause-states : goal.returns-clause-states
returns-clause-states c =
    let there =
    instance_set run_of c.self.inside.plan.value c.self.inside.list.items c.args.self.now c.self.view_is c.self.invariant.run c.self.invariant.members
    c.args.instance c.args.input c.args.word c.requires in
    let fits : SFits w64 c.args.word = search rules in
    let is = c.set.ensures
    ∙ ap (λ word. record c.index_mut.result.now { inputs = set c.index_mut.result.now.inputs c.args.input word }) (to_z-of_z w64 c.args.word fits) in
    states_kept c.self.inside.plan.value c.self.inside.list.items c.args.self.now c.self.view_is c.self.invariant.members c.args.instance there
    c.index_mut.result.now c.index_mut.ensures.value c.set.new.self
    (set c.index_mut.result.now.inputs c.args.input c.args.word) is
