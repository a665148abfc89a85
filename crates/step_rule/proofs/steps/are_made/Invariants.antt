use Rattle.step_rule.specs.Steps.{is_made}
use Rattle.step_rule.proofs.AlongLaws.{AllFrom}
use Rattle.step_rule.proofs.steps.are_made.Given as goal

abbrev pub invariant-loop-instance : goal.invariant-loop-instance
invariant-loop-instance g l = AllFrom is_made (g.S.Steps.steps l.steps) l.instance
