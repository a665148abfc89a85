use Rattle.std.proofs.Common.{◌∙◌}
use Rattle.trace_plan.proofs.PlanLaws.{fitted_within, fitted_at}
use Rattle.trace_plan.proofs.plan.Plan.input_ends.Goals as goal

pub index-fitted-requires : goal.index-fitted-requires
index-fitted-requires c = fitted_within c.self.inside c.self.invariant c.args.self.now c.self.view_is c.args.instance c.requires.there

pub returns-clause-low : goal.returns-clause-low
returns-clause-low c = λ member is. c.deref.ensures.value
    ∙ (fitted_at c.self.inside c.self.invariant c.args.self.now c.self.view_is c.args.instance c.index-fitted.result.now c.index-fitted.ensures member is).low

pub returns-clause-high : goal.returns-clause-high
returns-clause-high c = λ member is. c.deref-2.ensures.value
    ∙ (fitted_at c.self.inside c.self.invariant c.args.self.now c.self.view_is c.args.instance c.index-fitted.result.now c.index-fitted.ensures member is).high
