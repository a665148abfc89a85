use Rattle.trace_plan.proofs.PlanLaws.{factor_within, factor_at, factor_there}
use Rattle.trace_plan.proofs.plan.Plan.factor.Goals as goal

pub index-requires : goal.index-requires
index-requires c = factor_within c.self.inside c.self.invariant c.args.self.now c.self.view_is c.args.instance c.requires.there

pub returns-clause-factor : goal.returns-clause-factor
returns-clause-factor c =
    λ member is. (factor_at c.self.inside c.self.invariant c.args.self.now c.self.view_is c.args.instance c.index.result.now c.index.ensures member is).0

pub returns-clause-least : goal.returns-clause-least
returns-clause-least c =
    (factor_there c.self.inside c.self.invariant c.args.self.now c.self.view_is c.args.instance c.index.result.now c.index.ensures c.requires.there).1

pub returns-clause-coarsest : goal.returns-clause-coarsest
returns-clause-coarsest c =
    (factor_there c.self.inside c.self.invariant c.args.self.now c.self.view_is c.args.instance c.index.result.now c.index.ensures c.requires.there).2
