use Rattle.std.proofs.Common.{◌≡◌, ◌∙◌, ◌-◌, ◌≤◌, ◌==◌, ℕ, length, Some, ap, sym, subst, arith}
use Rattle.std.proofs.lemmas.Bool.{eq-eqb, ne_eqb}
use Rattle.std.specs.Prelude.{slice_get, if◌then◌else◌}
use Rattle.std.specs.Option.{option_eq, option_map}
use Rattle.step_log.proofs.Beginnings.{limit_found, no_limit, option_differs, option_same, pass_limit}
use Rattle.step_counts.specs.declared.step.Limiter.TheVariants as limiter
use Rattle.super_time.specs.declared.point.Point.{Point}
use Rattle.trace_core.specs.Runs.{RunState}
use Rattle.trace_plan.specs.Plans.{Planned}
use Rattle.unit_tree.specs.Negotiation.{limit_at}
use Rattle.unit_tree.specs.Successor.{standings}
use Rattle.step_log.proofs.negotiating.limiter.Goals as goal

pub returns-then-eq-clause-limiter : goal.returns-then-eq-clause-limiter
returns-then-eq-clause-limiter c =
    let limit : option_map (limit_at c.args.run.now.stand.at.point.t c.args.run.now.stand.ports)
    (slice_get (standings c.args.run.now.plan.run c.args.run.now.stand.at) c.loop-instance.instance) ≡ Some c.limit.result =
    subst (λ (r : RunState). option_map (limit_at r.stand.at.point.t r.stand.ports) (slice_get (standings r.plan.run r.stand.at) c.loop-instance.instance)
    ≡ Some c.limit.result) c.loop-instance.invariant.0 c.limit.ensures.limit in
    limit_found c.args.run.now c.args.h c.loop-instance.instance c.limit.result limit
    (option_same c.limit.result c.args.h (ap (λ h. option_eq (λ a b. a == b) c.limit.result (Some h)) (sym c.from.ensures) ∙ sym c.eq.ensures ∙ c.if-eq.true))
    c.loop-instance.invariant.1

pub loop-instance-preserved : goal.loop-instance-preserved
loop-instance-preserved c =
    let limit : option_map (limit_at c.args.run.now.stand.at.point.t c.args.run.now.stand.ports)
    (slice_get (standings c.args.run.now.plan.run c.args.run.now.stand.at) c.loop-instance.instance) ≡ Some c.limit.result =
    subst (λ (r : RunState). option_map (limit_at r.stand.at.point.t r.stand.ports) (slice_get (standings r.plan.run r.stand.at) c.loop-instance.instance)
    ≡ Some c.limit.result) c.loop-instance.invariant.0 c.limit.ensures.limit in (
      c.limit.ensures.kept ∙ c.loop-instance.invariant.0,
      pass_limit c.args.run.now c.args.h c.loop-instance.instance c.limit.result limit
          (option_differs c.limit.result c.args.h
          (ap (λ h. option_eq (λ a b. a == b) c.limit.result (Some h)) (sym c.from.ensures) ∙ sym c.eq.ensures ∙ c.if-eq.false))
          c.loop-instance.invariant.1,
    )

pub returns-then-stop-point-clause-limiter : goal.returns-then-stop-point-clause-limiter
returns-then-stop-point-clause-limiter c =
    let r = c.args.run.now in
    let past : length r.plan.run.members ≤ c.loop-instance.instance =
    subst (λ (p : Planned). length p.run.members ≤ c.loop-instance.instance) (sym c.requires.own)
    (omega (arith, c.loop-instance-test.false, c.instances-instance-end.ensures.count)) in
    let stop : c.stop.result ≡ r.plan.run.stop = c.stop.ensures.value ∙ ap (λ (p : Planned). p.run.stop) (sym c.requires.own) in
    let here : ◌≡◌ {A = ℕ} c.point.result.t r.stand.at.point.t =
    ap (λ (p : Point). p.t) (c.point.ensures ∙ ap (λ (one : RunState). one.stand.at.point) c.loop-instance.invariant.0) in
    let left : r.plan.run.stop - r.stand.at.point.t ≡ c.args.h =
    ap (λ n. n - r.stand.at.point.t) (sym stop) ∙ ap (λ n. c.stop.result - n) (sym here) ∙ c.if-stop-point.true in
    ap (λ test. if test then limiter.Stop else limiter.Longest) (sym (eq-eqb (r.plan.run.stop - r.stand.at.point.t) c.args.h left))
    ∙ no_limit r c.args.h c.loop-instance.instance past c.loop-instance.invariant.1

pub returns-else-stop-point-clause-limiter : goal.returns-else-stop-point-clause-limiter
returns-else-stop-point-clause-limiter c =
    let r = c.args.run.now in
    let past : length r.plan.run.members ≤ c.loop-instance.instance =
    subst (λ (p : Planned). length p.run.members ≤ c.loop-instance.instance) (sym c.requires.own)
    (omega (arith, c.loop-instance-test.false, c.instances-instance-end.ensures.count)) in
    let stop : c.stop.result ≡ r.plan.run.stop = c.stop.ensures.value ∙ ap (λ (p : Planned). p.run.stop) (sym c.requires.own) in
    let here : ◌≡◌ {A = ℕ} c.point.result.t r.stand.at.point.t =
    ap (λ (p : Point). p.t) (c.point.ensures ∙ ap (λ (one : RunState). one.stand.at.point) c.loop-instance.invariant.0) in
    let left : (r.plan.run.stop - r.stand.at.point.t ≡ c.args.h) → ⊥ = λ same. c.if-stop-point.false
    (ap (λ n. n - c.point.result.t) stop ∙ ap (λ n. r.plan.run.stop - n) here ∙ same) in
    ap (λ test. if test then limiter.Stop else limiter.Longest) (sym (ne_eqb (r.plan.run.stop - r.stand.at.point.t) c.args.h left))
    ∙ no_limit r c.args.h c.loop-instance.instance past c.loop-instance.invariant.1
