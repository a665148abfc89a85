use Rattle.std.proofs.Common.{arith}
use Rattle.lane_tests.proofs.worlds.first_counts.Goals as goal

pub lane-requires : goal.lane-requires
lane-requires c =
    let each = c.facts.ensures.each_instance in
    let some = c.facts.ensures.stands.bounded.some_member in
    omega (arith, each, some)
