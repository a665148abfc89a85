-- Both nodes of a plan at work. No promise depends on these definitions.
use Rattle.std.specs.Prelude.{◌≡◌, ℕ, List, [], length, Option, Result, OnOk}
use Rattle.link_laws.specs.Making.{rule_of}
use Rattle.link_laws.specs.Nodes.{Rule, by_turns}
use Rattle.link_laws.specs.Pairs.{Pair, opened_pair}
use Rattle.link_nodes.specs.Shown.{told_of}
use Rattle.link_nodes.specs.ShownRows.{ComesTo, IsNoted}
use Rattle.link_nodes.specs.declared.exchange.Exchange.{Exchange}
use Rattle.trace_plan.specs.Plans.{Planned}
use Rattle.trace_rows.specs.declared.fault.CrewFault.{CrewFault}
use Rattle.unit_tree.specs.Compositions.{Composition}

-- They are the nodes 0 and 1 of the plan, and own its instances by turns. Their facts were noted as far as their spans say, and no
-- fact is on its way.
pub record IsExchange (exchange : Exchange) : Type 0 where
  pub first_plan : exchange.first.plan ≡ exchange.plan.value
  pub second_plan : exchange.second.plan ≡ exchange.plan.value
  pub first_owners : exchange.first.owners ≡ by_turns (length exchange.plan.value.run.members)
  pub second_owners : exchange.second.owners ≡ by_turns (length exchange.plan.value.run.members)
  pub first_is : exchange.first.me ≡ 0
  pub second_is : exchange.second.me ≡ 1
  pub first_noted : IsNoted exchange.first_spans exchange.first.progress.facts
  pub second_noted : IsNoted exchange.second_spans exchange.second.progress.facts
  pub empty : exchange.transit.items ≡ []

abbrev pub pair_of : Exchange → Pair
pair_of exchange = record { first = exchange.first.progress; second = exchange.second.progress }

abbrev pub rule_by_turns : Composition → Rule
rule_by_turns run = rule_of run (by_turns (length run.members))

abbrev pub exchange_rule : Exchange → Rule
exchange_rule exchange = rule_by_turns exchange.plan.value.run

-- The pair came to its target, and what node 0 shows grew by what was written; or the call was given up on the way.
pub record ExchangeComes {T : Type 0} (exchange : Exchange) (target : Pair) (next : Exchange) (old new : Option (List ℕ)) (faults faults' : ℕ)
    (result : Result T CrewFault) : Type 0 where
  pub plan : next.plan.value ≡ exchange.plan.value
  pub is_exchange : OnOk result (IsExchange next)
  pub second : OnOk result (next.second.progress ≡ target.second)
  pub comes : ComesTo exchange.plan.value exchange.first.progress target.first next.first.progress old new faults faults' result

-- Both are at the start of the plan.
pub record IsOpened (plan : Planned) (exchange : Exchange) : Type 0 where
  pub plan' : exchange.plan.value ≡ plan
  pub is_exchange : IsExchange exchange
  pub pair : pair_of exchange ≡ opened_pair (rule_by_turns plan.run) plan.run

-- Rounds came to their end: node 0 is that of the target, what it shows grew by what was written, and the target has the progress that
-- is returned. Or they were given up on the way.
pub record RoundsCome {T : Type 0} (exchange : Exchange) (target : Pair) (next : Exchange) (old new : Option (List ℕ)) (faults faults' : ℕ)
    (result : Result T CrewFault) : Type 0 where
  pub told : OnOk result (told_of (pair_of next) ≡ told_of target)
  pub comes : ComesTo exchange.plan.value exchange.first.progress target.first next.first.progress old new faults faults' result
