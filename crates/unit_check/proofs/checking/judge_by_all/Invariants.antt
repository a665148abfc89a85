use Rattle.std.proofs.Common.{◌≡◌, drop, map}
use Rattle.unit_check.specs.Rules.{defined}
use Rattle.unit_tree.specs.WellFormed.{refusal_by}
use Rattle.unit_check.proofs.checking.judge_by_all.Given as goal

abbrev pub invariant-loop-rule : goal.invariant-loop-rule
invariant-loop-rule l = refusal_by (map defined l.rules) l.tables ≡ refusal_by (map defined (drop l.rule-index l.rules)) l.tables
