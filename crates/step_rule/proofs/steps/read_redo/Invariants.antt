use Rattle.step_rule.specs.Steps.{ends_redo}
use Rattle.step_rule.proofs.StepLaws.{EndFrom}
use Rattle.step_rule.proofs.steps.read_redo.Given as goal

abbrev pub invariant-loop-instance : goal.invariant-loop-instance
invariant-loop-instance g l = EndFrom ends_redo (g.S.Steps.steps l.steps) l.instance
