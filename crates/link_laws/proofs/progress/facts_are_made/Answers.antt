use Rattle.link_laws.proofs.BlockLaws.{none_missing}
use Rattle.link_laws.proofs.TraceMaking.{makes_all, no_blocking}
use Rattle.link_laws.proofs.progress.facts_are_made.Goals as goal

pub returns-clause-makes : goal.returns-clause-makes
returns-clause-makes c = makes_all

pub returns-clause-enough : goal.returns-clause-enough
returns-clause-enough c = λ run order is_order are stand known place so all. none_missing run order is_order are stand known place so all

pub returns-clause-two_nodes : goal.returns-clause-two_nodes
returns-clause-two_nodes c = no_blocking
