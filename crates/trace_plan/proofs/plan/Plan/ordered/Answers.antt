use Rattle.std.proofs.Common.{◌∙◌, map, ap, subst, arith}
use Rattle.std.proofs.lemmas.Slice.Zip.{AllZip-long}
use Rattle.trace_plan.specs.Fitting.{tells_max}
use Rattle.trace_plan.specs.Keeps.{IsFitted}
use Rattle.trace_plan.specs.Plans.{IsBounded, places_from}
use Rattle.trace_plan.proofs.FittingLaws.{fitted_limits}
use Rattle.trace_plan.specs.declared.fitting.Fitted.{Fitted}
use Rattle.trace_plan.proofs.PlainRuns.{bounded}
use Rattle.unit_tree.specs.Compositions.{run_of}
use Rattle.unit_tree.specs.declared.system.System.{System}
use Rattle.trace_plan.proofs.plan.Plan.ordered.Goals as goal

pub limited-requires : goal.limited-requires
limited-requires c =
    let most =
    (subst (λ (s : System). IsBounded (run_of s)) c.checked.view_is
    (bounded c.checked.inside.source c.checked.invariant.ranged c.checked.invariant.well_formed)).members in
    let many = AllZip-long IsFitted (run_of c.args.checked).members c.in_ok-fitted.fitted.items c.in_ok-fitted.ensures in
    omega (arith, most, many)

pub invariant_of-result : goal.invariant_of-result
invariant_of-result c = record {
  order = c.requires;
  fitted = c.in_ok-fitted.ensures;
  factors = c.in_ok-factors.ensures ∙ ap (map (λ (one : Fitted). one.factor)) c.deref.ensures.value;
  limited = c.in_ok-limited.ensures
      ∙ ap (places_from 0)
      (ap (map tells_max) c.deref-2.ensures.value ∙ fitted_limits (run_of c.args.checked).members c.in_ok-fitted.fitted.items c.in_ok-fitted.ensures);
  columns = c.in_ok-columns.ensures;
  numbers = c.numbers_of-numbers.ensures;
  bounded =
      subst (λ (s : System). IsBounded (run_of s)) c.checked.view_is
      (bounded c.checked.inside.source c.checked.invariant.ranged c.checked.invariant.well_formed);
}
