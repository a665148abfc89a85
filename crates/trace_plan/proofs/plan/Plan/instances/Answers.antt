use Rattle.std.proofs.Common.{◌∙◌, arith}
use Rattle.trace_plan.proofs.PlanLaws.{fitted_count, images_there, few}
use Rattle.trace_plan.proofs.plan.Plan.instances.Goals as goal

pub overflow_cast-result : goal.overflow_cast-result
overflow_cast-result c =
    let count = fitted_count c.self.inside c.self.invariant c.args.self.now c.self.view_is in
    omega (arith, c.len.ensures, count, few c.self.inside c.self.invariant c.args.self.now c.self.view_is)

pub returns-clause-count : goal.returns-clause-count
returns-clause-count c = c.len.ensures ∙ fitted_count c.self.inside c.self.invariant c.args.self.now c.self.view_is

pub returns-clause-images : goal.returns-clause-images
returns-clause-images c = images_there c.self.inside c.self.invariant c.args.self.now c.self.view_is
