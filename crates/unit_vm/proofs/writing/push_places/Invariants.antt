use Rattle.unit_vm.proofs.WriteSteps.{Placed}
use Rattle.unit_vm.proofs.writing.push_places.Given as goal

abbrev pub invariant-loop-place : goal.invariant-loop-place
invariant-loop-place l = Placed l.initial.words l.words l.first l.behind l.parts l.place
