use Rattle.link_laws.proofs.PairLaws.{all_events_keep, take_commits, take_keeps, true_is_honest, work_commits}
use Rattle.link_laws.proofs.RuleLaws.{rule_is_right}
use Rattle.link_laws.specs.Making.{rule_of}
use Rattle.link_laws.proofs.laws.events_keep.Goals as goal

pub returns-clause-keep : goal.returns-clause-keep
returns-clause-keep c = all_events_keep

pub returns-clause-commit : goal.returns-clause-commit
returns-clause-commit c = work_commits

pub returns-clause-take_commits : goal.returns-clause-take_commits
returns-clause-take_commits c = take_commits

pub returns-clause-pairs : goal.returns-clause-pairs
returns-clause-pairs c = λ run order owners is_order are owns events. all_events_keep run (rule_of run owners)
    (rule_is_right run order owners is_order are owns) events

pub returns-clause-take : goal.returns-clause-take
returns-clause-take c = take_keeps

pub returns-clause-honest : goal.returns-clause-honest
returns-clause-honest c = true_is_honest
