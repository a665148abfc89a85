use Rattle.std.proofs.Common.{map, zip}
use Rattle.link_laws.specs.Making.{names_of}
use Rattle.link_laws.specs.Stages.{word_end}
use Rattle.step_rule.proofs.AlongLaws.{ToldFrom}
use Rattle.link_core.proofs.stage.word_fault.Given as goal

abbrev pub invariant-loop-place : goal.invariant-loop-place
invariant-loop-place l = ToldFrom (map word_end (zip (names_of l.plan.run) l.words)) l.place
