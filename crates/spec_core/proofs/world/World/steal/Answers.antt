use Rattle.spec_core.specs.Keeping.{world_state}
use Rattle.spec_core.proofs.TakeLaws.{steal_keeps_world}
use Rattle.spec_core.proofs.world.World.steal.Goals as goal

pub invariant_of-self-2 : goal.invariant_of-self-2
invariant_of-self-2 c = record {
  is_world = steal_keeps_world (world_state c.self.inside) c.args.worker c.args.from _
      c.self.invariant.is_world c.if-at-other.false c.in_ok-move_first.ensures.moved;
  tied = c.self.invariant.tied;
  units = c.self.invariant.units;
}
