use Rattle.step_rule.proofs.StepLaws.{ReadSoFar}
use Rattle.step_rule.proofs.steps.read_trial.Given as goal

abbrev pub invariant-loop-instance : goal.invariant-loop-instance
invariant-loop-instance g l = ReadSoFar l.t l.h (g.S.Steps.steps l.steps) l.instance l.least
