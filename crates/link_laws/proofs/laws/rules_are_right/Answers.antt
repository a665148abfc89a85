use Rattle.link_laws.proofs.RuleLaws.{rule_is_right}
use Rattle.link_laws.proofs.laws.rules_are_right.Goals as goal

pub returns : goal.returns
returns c = rule_is_right
