use Rattle.std.proofs.Common.{◌≡◌, take}
use Rattle.std.specs.List.{position_from}
use Rattle.indexmap.specs.IndexMap.{get}
use Rattle.wire_graph.proofs.numbering.numbered.Given as goal

abbrev pub invariant-loop-place : goal.invariant-loop-place
invariant-loop-place g l = (key : _) → get g.K.PartialEq.eq l.table key ≡ position_from (g.K.PartialEq.eq key) 0 (take l.place l.keys)
