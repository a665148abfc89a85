use Rattle.std.proofs.Common.{◌≡◌, ◌∙◌, ◌<◌, ◌+◌, ◌-◌, min, Some, Ok, Err, drop, length, get_or, refl, ap, ap₂, subst, sym, arith, rules}
use Rattle.trace_core.specs.Seats.{all_told}
use Rattle.step_rule.proofs.LimitLaws.{ends_by, length_by, no_end_by}
use Rattle.step_rule.specs.Limits.{with_limit}
use Rattle.step_rule.specs.Steps.{ending_or}
use Rattle.trace_units.specs.Fleets.{Fleet}
use Rattle.trace_core.proofs.LoopLaws.{AskedNext, AskedSoFar, HasTold, asked_fault, none_asked, one_asked, unit_next, unit_told, units_asked}
use Rattle.trace_plan.specs.Plans.{Planned}
use Rattle.unit_tree.specs.Negotiation.{limit_told}
use Rattle.unit_tree.specs.Successor.{max_end_of}
use Rattle.trace_core.proofs.steps.ask_limits.Goals.{After-max_step-told, In-loop-instance}
use Rattle.trace_core.proofs.steps.ask_limits.Goals as goal

pub loop-instance-init : goal.loop-instance-init
loop-instance-init c =
    let run = c.args.plan.now.run in
    let told = all_told c.args.t run.members c.args.units.now.states c.args.units.now.inputs in
    let least : c.longest_step-least.result ≡ min (run.stop - c.args.t) run.longest = c.longest_step-least.ensures
    ∙ ap₂ (λ stop longest. min (stop - c.args.t) longest) c.stop.ensures.value c.longest.ensures.value in
    record {
      kept = refl;
      so_far = record {
        place = 0;
        within = omega arith;
        are = c.limited-instance-items.ensures;
        so_far =
            subst (AskedSoFar c.args.t run.members told (min (run.stop - c.args.t) run.longest) 0) (sym least)
            (none_asked c.args.t run.members told (min (run.stop - c.args.t) run.longest));
      };
    }

-- The next instance that has a `max`.
next : (c : In-loop-instance) → c.loop-instance.instance-index < length c.limited-instance-items.result.now
    → AskedNext c.args.t c.args.plan.now.run.members (all_told c.args.t c.args.plan.now.run.members c.args.units.now.states c.args.units.now.inputs)
    (get_or c.limited-instance-items.result.now c.loop-instance.instance-index 0)
    (drop (c.loop-instance.instance-index + 1) c.limited-instance-items.result.now) (min (c.args.plan.now.run.stop - c.args.t) c.args.plan.now.run.longest)
    c.loop-instance.least
next c within =
    unit_next c.args.t c.args.plan.now c.args.units.now c.requires.tied c.count.ensures.states c.count.ensures.inputs
    (min (c.args.plan.now.run.stop - c.args.t) c.args.plan.now.run.longest) c.loop-instance.least c.limited-instance-items.result.now
    c.loop-instance.instance-index c.loop-instance.invariant.so_far within

pub factor-factor-requires : goal.factor-factor-requires
factor-factor-requires c = record { there = (next (goal.at.factor-factor-requires c).In-loop-instance c.loop-instance-test.true).within }

pub max_step-told-requires-clause-there : goal.max_step-told-requires-clause-there
max_step-told-requires-clause-there c =
    subst (λ (p : Planned). (get_or c.limited-instance-items.result.now c.loop-instance.instance-index 0) < length p.run.members)
    (sym (ap (λ (f : Fleet). f.plan) c.loop-instance.invariant.kept ∙ c.requires.tied))
    (next (goal.at.max_step-told-requires-clause-there c).In-loop-instance c.loop-instance-test.true).within

-- The result of its `max`.
has : (c : After-max_step-told) → c.loop-instance.instance-index < length c.limited-instance-items.result.now
    → (get_or c.limited-instance-items.result.now c.loop-instance.instance-index 0) < length c.args.plan.now.run.members
    → HasTold c.args.t (get_or c.limited-instance-items.result.now c.loop-instance.instance-index 0) c.factor-factor.result c.args.plan.now.run.members
    (all_told c.args.t c.args.plan.now.run.members c.args.units.now.states c.args.units.now.inputs) c.max_step-told.result
has c there within =
    unit_told c.args.t (get_or c.limited-instance-items.result.now c.loop-instance.instance-index 0) c.factor-factor.result c.local_time.result c.args.plan.now
    c.args.units.now c.loop-instance.units c.max_step-told.result c.requires.tied c.loop-instance.invariant.kept c.local_time.ensures c.count.ensures.states
    c.count.ensures.inputs
    (subst (λ (p : Planned). (get_or c.limited-instance-items.result.now c.loop-instance.instance-index 0) < length p.run.members) (sym c.requires.tied) within)
    c.factor-factor.ensures.factor c.max_step-told.ensures.gives

pub returns-in_err-least-clause-asked : goal.returns-in_err-least-clause-asked
returns-in_err-least-clause-asked c =
    let run = c.args.plan.now.run in
    let told = all_told c.args.t run.members c.args.units.now.states c.args.units.now.inputs in
    let place = get_or c.limited-instance-items.result.now c.loop-instance.instance-index 0 in
    let at = goal.at.returns-in_err-least-clause-asked c in
    let next = next at.In-loop-instance c.loop-instance-test.true in
    let one = c.max_step-told.result in
    let ends : max_end_of (place, one) ≡ Some c.in_err-least.field-0.0 =
    ends_by (max_end_of (place, one)) (with_limit c.loop-instance.least (limit_told c.factor-factor.result c.args.t one)) c.in_err-least.field-0.0
    (sym c.limited.ensures ∙ search rules) in
    let is : c.from_residual.result ≡ Err c.in_err-least.field-0.0 = search rules in
    is ∙ asked_fault run c.args.t (min (run.stop - c.args.t) run.longest) place c.loop-instance.least c.factor-factor.result told one c.in_err-least.field-0.0
    (has at.After-max_step-told c.loop-instance-test.true next.within) ends next.so_far

pub loop-instance-preserved : goal.loop-instance-preserved
loop-instance-preserved c =
    let run = c.args.plan.now.run in
    let told = all_told c.args.t run.members c.args.units.now.states c.args.units.now.inputs in
    let place = get_or c.limited-instance-items.result.now c.loop-instance.instance-index 0 in
    let first = min (run.stop - c.args.t) run.longest in
    let at = goal.at.loop-instance-preserved c in
    let next = next at.In-loop-instance c.loop-instance-test.true in
    let one = c.max_step-told.result in
    let shorter = with_limit c.loop-instance.least (limit_told c.factor-factor.result c.args.t one) in
    let goes : ending_or (max_end_of (place, one)) shorter ≡ Ok c.in_ok-least.least = sym c.limited.ensures ∙ search rules in
    record {
      kept = c.max_step-told.ensures.kept ∙ c.loop-instance.invariant.kept;
      so_far = record {
        place = place + 1;
        within = omega (arith, next.within);
        are = next.are;
        so_far =
            subst (AskedSoFar c.args.t run.members told first (place + 1)) (sym (length_by (max_end_of (place, one)) shorter c.in_ok-least.least goes))
            (one_asked c.args.t run.members told first place c.loop-instance.least c.factor-factor.result one
            (has at.After-max_step-told c.loop-instance-test.true next.within) (no_end_by (max_end_of (place, one)) shorter c.in_ok-least.least goes) next.so_far);
      };
    }

pub returns-clause-asked : goal.returns-clause-asked
returns-clause-asked c =
    let run = c.args.plan.now.run in
    units_asked c.args.t c.args.plan.now c.args.units.now c.requires.tied c.count.ensures.states c.count.ensures.inputs
    (min (run.stop - c.args.t) run.longest) c.loop-instance.least c.limited-instance-items.result.now c.loop-instance.instance-index
    c.loop-instance.invariant.so_far c.loop-instance-test.false refl
