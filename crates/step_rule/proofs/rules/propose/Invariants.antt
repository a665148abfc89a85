use Rattle.std.proofs.Common.{◌≡◌, drop}
use Rattle.unit_tree.specs.Negotiation.{least_of, proposal_of}
use Rattle.step_rule.proofs.rules.propose.Given as goal

abbrev pub invariant-loop-limit : goal.invariant-loop-limit
invariant-loop-limit l = proposal_of l.stop l.longest l.t l.limits ≡ least_of l.least (drop l.limit-index l.limits)
