use Rattle.sub_flat.specs.FlatReading.{IsLeast}
use Rattle.sub_flat.proofs.JudgeLaws.{AtBefore}
use Rattle.sub_flat.proofs.judge.least_line.Given as goal

abbrev pub invariant-loop-place : goal.invariant-loop-place
invariant-loop-place l = IsLeast (AtBefore l.names l.rule l.place) l.least
