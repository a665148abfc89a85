use Rattle.std.proofs.Common.{length}
use Rattle.save_point.proofs.ReadStates.{ReadSoFar}
use Rattle.save_point.proofs.reading.read_states.Given as goal

abbrev pub invariant-loop-state : goal.invariant-loop-state
invariant-loop-state l = ReadSoFar l.text l.rest l.row l.point l.number l.names l.counts l.states

abbrev pub decreases-loop-state : goal.decreases-loop-state
decreases-loop-state l = length l.rest
