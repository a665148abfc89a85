use Rattle.std.proofs.Common.{refl, inl, inr, arith, rules}
use Rattle.cosim_io.proofs.memory.MemSinkSink.put.Goals as goal
use Rattle.cosim_io.proofs.memory.MemSinkSink.put.Goals.{then-is_listed-via-then-is_listed, then-is_listed-via-else-is_listed+then-piece-room_left}

pub returns-then-is_listed-clause-exactly : goal.returns-then-is_listed-clause-exactly
returns-then-is_listed-clause-exactly c =
    elim c.then-is_listed.branch [
      | then-is_listed-via-then-is_listed w ↦ (λ _. inl (rw (← c.self.view_is) (search rules)), λ _. refl)
      | then-is_listed-via-else-is_listed+then-piece-room_left w ↦ (λ _. inr (rw (← c.self.view_is) (omega (arith, w.if-piece-room_left.true))), λ _. refl)
    ]
