use Rattle.std.proofs.Common.{◌≡◌, ◌∙◌, ℕ, Some, ap, sym, arith}
use Rattle.event_runs.specs.Readings.{pace_of}
use Rattle.step_log.proofs.AgreedSteps.{in_time, none_agreed_on, some_agreed}
use Rattle.step_log.specs.Negotiated.{limiter_of, shortener_of}
use Rattle.step_log.specs.Steps.{held_in}
use Rattle.super_time.specs.declared.point.Point.{Point}
use Rattle.trace_plan.specs.Plans.{Planned}
use Rattle.step_log.proofs.negotiating.agreement.Goals as goal

pub returns-in_err-agreed : goal.returns-in_err-agreed
returns-in_err-agreed c =
    c.from_residual.ensures ∙ none_agreed_on c.args.run.now c.args.h c.requires.stands c.requires.trial c.in_err-agreed.ensures.least

pub held-requires : goal.held-requires
held-requires c =
    let most = c.in_ok-agreed.ensures.most in
    let time = in_time c.args.run.now c.args.h c.requires.stands c.requires.trial in
    let here : ◌≡◌ {A = ℕ} c.point-point.result.t c.args.run.now.stand.at.point.t = ap (λ (point : Point). point.t) c.point-point.ensures in
    omega (arith, most, time, here)

pub returns : goal.returns
returns c =
    let r = c.args.run.now in
    let pace = pace_of r.plan.run in
    let held : c.held.result ≡ held_in pace r.stand.at.point.t c.in_ok-agreed.agreed =
    c.held.ensures
    ∙ ap (λ (plan : Planned). held_in (pace_of plan.run) c.point-point.result.t c.in_ok-agreed.agreed) (sym c.requires.own)
    ∙ ap (λ (point : Point). held_in pace point.t c.in_ok-agreed.agreed) c.point-point.ensures in
    ap (λ point. Some (record {
      point = point;
      proposed = c.args.h;
      limiter = c.args.limiter;
      agreed = c.in_ok-agreed.agreed;
      shortening = c.shortening.result;
      held = c.held.result;
    })) c.point-point.ensures
    ∙ ap (λ limiter. Some (record {
      point = r.stand.at.point;
      proposed = c.args.h;
      limiter = limiter;
      agreed = c.in_ok-agreed.agreed;
      shortening = c.shortening.result;
      held = c.held.result;
    })) c.requires.limiter
    ∙ ap (λ shortening. Some (record {
      point = r.stand.at.point;
      proposed = c.args.h;
      limiter = limiter_of r c.args.h;
      agreed = c.in_ok-agreed.agreed;
      shortening = shortening;
      held = c.held.result;
    })) c.shortening.ensures
    ∙ ap (λ held. Some (record {
      point = r.stand.at.point;
      proposed = c.args.h;
      limiter = limiter_of r c.args.h;
      agreed = c.in_ok-agreed.agreed;
      shortening = shortener_of r c.args.h c.in_ok-agreed.agreed;
      held = held;
    })) held
    ∙ some_agreed r c.args.h c.requires.stands c.requires.trial c.in_ok-agreed.agreed c.in_ok-agreed.ensures.least
