use Rattle.std.proofs.Common.{map}
use Rattle.link_core.proofs.LoopLaws.{Made}
use Rattle.link_core.proofs.notes.fill.Given as goal

abbrev pub invariant-loop-place : goal.invariant-loop-place
invariant-loop-place g l = Made l.items.items l.place (map (λ item. l.value) l.fn.items.items)
