use Rattle.std.proofs.Common.{◌≡◌, ◌∙◌, ◌<◌, ◌≤◌, ◌++◌, ◌∷◌, [], ◌+◌, Some, length, ap, sym, subst}
use Rattle.std.specs.Prelude.{slice_get}
use Rattle.trace_plan.specs.Plans.{Planned, ForMember}
use Rattle.trace_units.proofs.FleetLaws.{IsFront, one_more, all_start, all_run, all_states, all_inputs}
use Rattle.unit_exec.specs.Images.{IsImageOf}
use Rattle.unit_exec.specs.Running.{opened}
use Rattle.unit_tree.specs.Compositions.{Member, run_of}
use Rattle.trace_units.proofs.units.Units.new.Goals as goal

pub loop-instance-preserved : goal.loop-instance-preserved
loop-instance-preserved c =
    let members = c.args.plan.value.run.members in
    let seen : c.deref-in-loop-instance.result.now ≡ c.args.plan.value = c.deref-in-loop-instance.ensures in
    let within : c.loop-instance.instance < length members =
    subst (λ (plan : Planned). c.loop-instance.instance < length plan.run.members) c.deref-2.ensures
    (subst (λ count. c.loop-instance.instance < count) c.instances-instance-end.ensures.count c.loop-instance-test.true) in
    let is_image : (member : Member) → slice_get members c.loop-instance.instance ≡ Some member
    → IsImageOf member.component c.in_ok-image.image.value = λ member at.
    subst (IsImageOf member.component) (sym c.in_ok-image.ensures.cases)
    (subst (λ (plan : Planned). ForMember plan.run c.loop-instance.instance
    (λ some. IsImageOf some.component c.image.result.now.value)) seen c.image.ensures member at) in
    let one = one_more members c.loop-instance.instance c.loop-instance.list.items c.in_ok-image.image.value within is_image c.loop-instance.invariant in
    let is : c.push.new.self.items ≡ c.loop-instance.list.items ++ opened c.in_ok-image.image.value ∷ [] =
    c.in_ok-push.ensures.items ∙ ap (λ unit. c.loop-instance.list.items ++ unit ∷ []) c.in_ok-new.ensures in
    subst (IsFront members (c.loop-instance.instance + 1)) (sym is) one

pub invariant_of-result : goal.invariant_of-result
invariant_of-result c = record {
  run = subst (λ (plan : Planned). plan.run ≡ run_of plan.system) c.deref.ensures c.checked-checked.ensures.run;
  members =
      let past : length c.args.plan.value.run.members ≤ c.loop-instance.instance =
      subst (λ (plan : Planned). length plan.run.members ≤ c.loop-instance.instance) c.deref-2.ensures
      (subst (λ count. count ≤ c.loop-instance.instance) c.instances-instance-end.ensures.count c.loop-instance-test.false) in
      all_run c.args.plan.value.run c.loop-instance.list.items
      (all_start c.args.plan.value.run.members c.loop-instance.instance c.loop-instance.list.items past c.loop-instance.invariant);
}

pub returns-clause-states : goal.returns-clause-states
returns-clause-states c =
    let past : length c.args.plan.value.run.members ≤ c.loop-instance.instance =
    subst (λ (plan : Planned). length plan.run.members ≤ c.loop-instance.instance) c.deref-2.ensures
    (subst (λ count. count ≤ c.loop-instance.instance) c.instances-instance-end.ensures.count c.loop-instance-test.false) in
    all_states c.args.plan.value.run.members c.loop-instance.list.items
    (all_start c.args.plan.value.run.members c.loop-instance.instance c.loop-instance.list.items past c.loop-instance.invariant)

pub returns-clause-inputs : goal.returns-clause-inputs
returns-clause-inputs c =
    let past : length c.args.plan.value.run.members ≤ c.loop-instance.instance =
    subst (λ (plan : Planned). length plan.run.members ≤ c.loop-instance.instance) c.deref-2.ensures
    (subst (λ count. count ≤ c.loop-instance.instance) c.instances-instance-end.ensures.count c.loop-instance-test.false) in
    all_inputs c.args.plan.value.run.members c.loop-instance.list.items
    (all_start c.args.plan.value.run.members c.loop-instance.instance c.loop-instance.list.items past c.loop-instance.invariant)
