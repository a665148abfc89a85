use Rattle.std.proofs.Common.{◌≤◌, ◌+◌, length, arith, length-take}
use Rattle.cosim_io.proofs.ReadLemmas.{Taken-past, Taken-most}
use Rattle.cosim_io.proofs.whole.read_all.Goals as goal

pub returns-then-count-limit-clause-too_long : goal.returns-then-count-limit-clause-too_long
returns-then-count-limit-clause-too_long g c =
    let room : length c.reading.bytes.items + c.in_ok-count.count ≤ c.args.limit + 1 =
    omega (arith, c.in_ok-count.ensures.within.0, c.read.auto.into, length-take (c.min-room.result + 1) c.reading.chunk) in
    λ _. Taken-past _ _ _ _ _ _ _ _ _ c.reading.invariant c.in_ok-count.ensures.taken.0 c.in_ok-count.ensures.within.0 (omega arith) room

pub returns-then-count-limit-clause-taken : goal.returns-then-count-limit-clause-taken
returns-then-count-limit-clause-taken g c =
    let room : length c.reading.bytes.items + c.in_ok-count.count ≤ c.args.limit + 1 =
    omega (arith, c.in_ok-count.ensures.within.0, c.read.auto.into, length-take (c.min-room.result + 1) c.reading.chunk) in
    Taken-most _ _ _ _ _ _ _ _ _ c.reading.invariant c.in_ok-count.ensures.taken.0 c.in_ok-count.ensures.within.0 room

pub returns-in_err-extend_from_slice-clause-taken :
    goal.returns-in_err-extend_from_slice-clause-taken
returns-in_err-extend_from_slice-clause-taken g c =
    Taken-most _ _ _ _ _ _ _ _ _ c.reading.invariant c.in_ok-count.ensures.taken.0 c.in_ok-count.ensures.within.0 (omega arith)
