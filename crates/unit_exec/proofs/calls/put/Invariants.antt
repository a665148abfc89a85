use Rattle.std.proofs.Common.{◌≡◌, ◌+◌, ◌++◌, take, drop}
use Rattle.unit_exec.proofs.calls.put.Given as goal

abbrev pub invariant-loop-place : goal.invariant-loop-place
invariant-loop-place l = l.slots ≡ take l.first l.initial.slots ++ (take l.place l.words ++ drop (l.first + l.place) l.initial.slots)
