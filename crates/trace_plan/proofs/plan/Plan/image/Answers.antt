use Rattle.trace_plan.proofs.PlanLaws.{fitted_within, fitted_at}
use Rattle.trace_plan.proofs.plan.Plan.image.Goals as goal

pub index-requires : goal.index-requires
index-requires c = fitted_within c.self.inside c.self.invariant c.args.self.now c.self.view_is c.args.instance c.requires.there

pub returns : goal.returns
returns c =
    λ member is. (fitted_at c.self.inside c.self.invariant c.args.self.now c.self.view_is c.args.instance c.index.result.now c.index.ensures member is).image
