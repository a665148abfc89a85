use Rattle.std.proofs.Common.{subst}
use Rattle.trace_core.specs.Runs.{HoldMeanings}
use Rattle.trace_core.proofs.MeaningLaws.{hold_meanings}
use Rattle.trace_plan.specs.Plans.{HaveImages, Planned}
use Rattle.trace_core.proofs.run.Run.phase.Goals as goal

pub returns-clause-meanings : goal.returns-clause-meanings
returns-clause-meanings c =
    let images = subst (λ (plan : Planned). HaveImages plan.run) c.deref.ensures c.instances.ensures.images in
    subst HoldMeanings c.self.view_is (hold_meanings _ c.self.invariant.stands images)
