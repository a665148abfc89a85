use Rattle.std.proofs.Common.{◌∙◌, ap, subst}
use Rattle.event_runs.specs.Readings.{offers_of, pace_of}
use Rattle.step_log.proofs.Beginnings.{begun}
use Rattle.step_log.proofs.StepLists.{not_ended}
use Rattle.step_log.specs.Steps.{step_at}
use Rattle.trace_core.specs.Runs.{RunState, is_ended}
use Rattle.trace_plan.specs.Plans.{Planned}
use Rattle.trace_rows.specs.Passing.{AreStepsThere}
use Rattle.step_log.proofs.trying.try_step.Goals as goal

pub limiter-limiter-requires-clause-begun : goal.limiter-limiter-requires-clause-begun
limiter-limiter-requires-clause-begun c = begun c.args.run.now c.requires.fresh (not_ended c.args.run.now (ap is_ended c.requires.trial))

pub returns-clause-step : goal.returns-clause-step
returns-clause-step c =
    c.agreement.ensures
    ∙ ap (λ (r : RunState). step_at (pace_of r.plan.run) r.stand.at (offers_of r.plan.run r.stand.at r.stand.ports))
    (c.step_all.ensures.there.is
    ∙ ap (λ (r : RunState). record r { cells = c.step_all.new.run.cells; found = c.step_all.new.run.found; own = c.step_all.new.run.own })
    c.limiter-limiter.ensures.kept)
    ∙ ap (λ (p : Planned). step_at (pace_of p.run) c.args.run.now.stand.at (offers_of p.run c.args.run.now.stand.at c.args.run.now.stand.ports)) c.requires.own

pub returns-clause-there : goal.returns-clause-there
returns-clause-there c = subst (λ (r : RunState). AreStepsThere r c.step_all.new.run) c.limiter-limiter.ensures.kept c.step_all.ensures.there

pub returns-clause-alone : goal.returns-clause-alone
returns-clause-alone c = c.step_all.ensures.alone ∙ ap (λ (r : RunState). r.found) c.limiter-limiter.ensures.kept
