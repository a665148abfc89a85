use Rattle.std.proofs.Common.{length, map}
use Rattle.nest_names.specs.Tables.{inside_of}
use Rattle.sub_flat.specs.Searching.{work_left}
use Rattle.sub_flat.proofs.SearchLaws.{SearchedSoFar}
use Rattle.sub_flat.proofs.cycles.leads_back.Given as goal

abbrev pub invariant-loop-from : goal.invariant-loop-from
invariant-loop-from l = SearchedSoFar (inside_of (map (λ one. one.items) l.inner)) l.place (length l.inner) l.seen.items l.pending.items

abbrev pub decreases-loop-from : goal.decreases-loop-from
decreases-loop-from l = work_left l.seen.items l.pending.items
