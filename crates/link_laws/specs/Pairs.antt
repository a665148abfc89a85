-- Pairs of nodes, and the effect of events.
use Rattle.link_laws.specs.Nodes.{Progress, Rule, keeping, opened, restarted, taken, worked}
use Rattle.link_laws.specs.declared.fact.Fact.{Fact}
use Rattle.link_laws.specs.declared.pair_event.PairEvent.{PairEvent}
use Rattle.link_laws.specs.declared.pair_event.PairEvent.TheVariants.{Deliver, Keep, Restart, Work}
use Rattle.link_laws.specs.declared.taken.Taken.{Taken}
use Rattle.link_laws.specs.declared.taken.Taken.TheVariants.{Dropped, Kept}
use Rattle.std.specs.Prelude.{List, None, Option, Some, [], slice_get, suc, zero, ℕ, ◌∷◌}
use Rattle.unit_tree.specs.Compositions.{Composition}
use Rattle.unit_tree.specs.Successor.{first_position}

-- The nodes 0 and 1.
pub record Pair : Type 0 where
  pub first : Progress
  pub second : Progress

-- The effect of a fact that arrives, where there is one.
abbrev pub delivered : Rule → ℕ → Progress → Option Fact → Progress × Taken
delivered rule me node None = (node, Dropped)
delivered rule me node (Some fact) = taken rule me node fact

-- The effect of an event on one node, given the other.
abbrev pub happened : Rule → ℕ → Progress → Progress → PairEvent → Progress × Taken
happened rule me node other (Work at) = worked rule me node
happened rule me node other (Deliver at place) = delivered rule me node (slice_get other.facts place)
happened rule me node other (Keep at) = (keeping node, Kept)
happened rule me node other (Restart at) = (restarted rule node, Kept)

-- The number of the node to which an event happens.
abbrev pub node_of : PairEvent → ℕ
node_of (Work node) = node
node_of (Deliver node place) = node
node_of (Keep node) = node
node_of (Restart node) = node

abbrev pub step_of_node : Rule → Pair → ℕ → PairEvent → Pair × Taken
step_of_node rule pair zero event =
    (record pair { first = (happened rule 0 pair.first pair.second event).0 }, (happened rule 0 pair.first pair.second event).1)
step_of_node rule pair (suc zero) event =
    (record pair { second = (happened rule 1 pair.second pair.first event).0 }, (happened rule 1 pair.second pair.first event).1)
step_of_node rule pair (suc (suc node)) event = (pair, Dropped)

-- The effect of an event on a pair, and its result. Where there is no such node or fact, nothing happens.
abbrev pub event_step : Rule → Pair → PairEvent → Pair × Taken
event_step rule pair event = step_of_node rule pair (node_of event) event

abbrev pub after_events : Rule → Pair → List PairEvent → Pair
after_events rule pair [] = pair
after_events rule pair (event ∷ events) = after_events rule (event_step rule pair event).0 events

-- Both nodes at the first position.
abbrev pub opened_pair : Rule → Composition → Pair
opened_pair rule run = record { first = opened rule 0 (first_position run); second = opened rule 1 (first_position run) }
