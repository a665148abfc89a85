use Rattle.std.proofs.Common.{◌∙◌, ap}
use Rattle.spec_core.specs.Keeping.{world_state}
use Rattle.spec_core.proofs.WorldLaws.{keeps_run}
use Rattle.trace_core.specs.Runs.{RunState}
use Rattle.spec_core.proofs.world.World.compute.Goals as goal

pub invariant_of-self : goal.invariant_of-self
invariant_of-self c =
    let planned = ap (λ (r : RunState). r.plan) c.compute.ensures.is in
    record {
      is_world = keeps_run (world_state c.self.inside) c.self.invariant.is_world c.compute.new.self c.phase.ensures.stands planned;
      tied = planned ∙ c.self.invariant.tied;
      units = c.self.invariant.units;
    }
