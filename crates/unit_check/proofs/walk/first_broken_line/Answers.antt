use Rattle.std.proofs.Common.{sym, subst, Result, ℕ}
use Rattle.unit_check.specs.Rules.{Says, defined}
use Rattle.unit_check.specs.declared.walk.Stop.{Stop}
use Rattle.unit_tree.specs.WellFormed.{lines_breaking}
use Rattle.unit_check.proofs.TestsByPlace.{says_rule}
use Rattle.unit_check.proofs.walk.first_broken_line.Goals as goal

pub returns : goal.returns
returns c =
    subst (λ (met : Result ℕ Stop). Says met (lines_breaking (defined c.args.rule) c.args.tables.now)) (sym c.past_all.ensures)
    (says_rule c.args.rule c.args.tables.now c.requires.ranged)
