use Rattle.unit_exec.proofs.ShownStates.{ShowSoFar}
use Rattle.unit_exec.proofs.image.shown_states.Given as goal

abbrev pub invariant-loop-number : goal.invariant-loop-number
invariant-loop-number l = ShowSoFar l.program l.number l.shown.items
