use Rattle.std.proofs.Common.{drop}
use Rattle.sub_flat.proofs.SearchLaws.{SpreadSoFar}
use Rattle.sub_flat.proofs.cycles.spread.Given as goal

abbrev pub invariant-loop-place : goal.invariant-loop-place
invariant-loop-place l =
    SpreadSoFar l.inner (drop l.place-index l.inner) l.wanted l.initial.seen l.seen l.initial.pending.items l.pending.items
