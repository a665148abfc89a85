use Rattle.std.proofs.Common.{◌≡◌, ◌∙◌, None, ap, sym, subst}
use Rattle.std.specs.List.{AllZip}
use Rattle.trace_plan.specs.Fitting.{AreImagesOf}
use Rattle.trace_plan.specs.Keeps.{IsFitted}
use Rattle.unit_tree.specs.Names.{unit_named}
use Rattle.unit_tree.specs.Plain.{plain_form}
use Rattle.unit_tree.specs.declared.system.System.{System}
use Rattle.trace_plan.proofs.FittingLaws.{members_from, one_more, left_out, all_there}
use Rattle.trace_plan.proofs.fitting.all_fitted.Goals.{in-Some+in-Ok+in_ok-fit+in_ok-push, in_default}
use Rattle.trace_plan.proofs.fitting.all_fitted.Goals as goal

pub loop-instance-preserved : goal.loop-instance-preserved
loop-instance-preserved c =
    let system = plain_form c.args.checked.now in
    let instances = c.as_slice-instance-items.result.now in
    let place = c.loop-instance.instance-index in
    let instance = c.instance-item.result in
    let none : unit_named c.as_slice.result.now c.as_slice-in-loop-instance.result.now ≡ None → unit_named system.units instance.unit ≡ None =
    λ is.
    ap (λ (s : System). unit_named s.units instance.unit) (sym c.system-system.ensures.plain)
    ∙ ap (λ units. unit_named units instance.unit) (sym c.as_slice.ensures)
    ∙ ap (unit_named c.as_slice.result.now) (sym c.as_slice-in-loop-instance.ensures)
    ∙ is in
    let front = c.loop-instance.invariant.front in
    elim c.match-number_of.branch [
      | in-Some+in-Ok+in_ok-fit+in_ok-push w ↦ record {
        front = one_more system instances place instance c.loop-instance.all.items c.loop-instance-test.true c.instance-item.is front w.in_ok-fit.field-0
            w.in_ok-fit.ensures.fitted w.push.new.self.items c.match-number_of.all.items w.in_ok-push.ensures.items
            (ap (λ all. all.items) w.all-is);
        made = subst (λ some. AreImagesOf c.args.checked.now some.items) (sym w.made-is) w.in_ok-fit.ensures.made;
      }
      | in_default w ↦ record {
        front = left_out system instances place instance c.loop-instance.all.items c.loop-instance-test.true c.instance-item.is front
            (none w.in_default.ensures.none) c.match-number_of.all.items (ap (λ all. all.items) w.all-is);
        made = subst (λ some. AreImagesOf c.args.checked.now some.items) (sym w.made-is) c.loop-instance.invariant.made;
      }
    ]

pub returns : goal.returns
returns c =
    let system = plain_form c.args.checked.now in
    let all =
    all_there system c.as_slice-instance-items.result.now c.loop-instance.instance-index c.loop-instance.all.items c.loop-instance-test.false
    c.loop-instance.invariant.front in
    subst (λ instances. AllZip IsFitted (members_from system instances) c.loop-instance.all.items)
    (c.as_slice-instance-items.ensures ∙ ap (λ (s : System). s.instances) c.system-system.ensures.plain) all
