-- The rounds of two nodes in one process.
use Rattle.std.specs.Prelude.{◌≡◌, ℕ, zero, suc, ◌+◌, ◌%◌, ◌==◌, Bool, not, ◌&&◌, List, [], ◌∷◌, ◌++◌, reverse, length, if◌then◌else◌}
use Rattle.std.specs.List.{enumerate_from, filter, flat_map}
use Rattle.link_laws.specs.Boards.{row_of}
use Rattle.link_laws.specs.Keeping.{PairKeepsTo}
use Rattle.link_laws.specs.Making.{rule_of}
use Rattle.link_laws.specs.Nodes.{Rule, by_turns}
use Rattle.link_laws.specs.Pairs.{Pair, after_events, opened_pair}
use Rattle.link_laws.specs.declared.fact.Fact.{Fact}
use Rattle.link_laws.specs.declared.pair_event.PairEvent.{PairEvent}
use Rattle.link_laws.specs.declared.pair_event.PairEvent.TheVariants.{Deliver, Keep, Restart, Work}
use Rattle.unit_tree.specs.Compositions.{AreMembers, Composition}
use Rattle.unit_tree.specs.Ports.{IsPlaceOrder}

-- A fact of the row that isn't lost in the round, with its place in the list.
abbrev pub is_sent : ℕ → ℕ → ℕ → ℕ × Fact → Bool
is_sent seed k row (place, fact) = (row_of fact == row) && not ((place + k + seed) % 4 == 3)

abbrev pub numbered_sent : ℕ → ℕ → ℕ → List Fact → List (ℕ × Fact)
numbered_sent seed k row facts = filter (is_sent seed k row) (enumerate_from 0 facts)

-- The arrivals at a node of the facts at these places: from the last to the first, each twice.
abbrev pub arrivals : ℕ → List (ℕ × Fact) → List PairEvent
arrivals node numbered = flat_map (λ one. Deliver node one.0 ∷ Deliver node one.0 ∷ []) (reverse numbered)

-- Facts arrive at a node that are of its row at the beginning of this part.
abbrev pub to_first : Rule → ℕ → ℕ → Pair → Pair
to_first rule seed k pair = after_events rule pair (arrivals 0 (numbered_sent seed k pair.first.at.number pair.second.facts))

abbrev pub to_second : Rule → ℕ → ℕ → Pair → Pair
to_second rule seed k pair = after_events rule pair (arrivals 1 (numbered_sent seed k pair.second.at.number pair.first.facts))

-- Node 1 saves its position in each fifth round, and starts again in each eighth.
abbrev pub closing_events : ℕ → List PairEvent
closing_events k = (if k % 5 == 0 then Keep 1 ∷ [] else []) ++ (if k % 8 == 0 then Restart 1 ∷ [] else [])

-- Both nodes work. Then facts arrive at the first and at the second.
abbrev pub after_round : Rule → ℕ → ℕ → Pair → Pair
after_round rule seed k pair =
    after_events rule (to_second rule seed k (to_first rule seed k (after_events rule pair (Work 0 ∷ Work 1 ∷ [])))) (closing_events k)

-- So many rounds, numbered from 1.
abbrev pub after_rounds : Rule → ℕ → ℕ → Pair → Pair
after_rounds rule seed zero pair = pair
after_rounds rule seed (suc k) pair = after_round rule seed (suc k) (after_rounds rule seed k pair)

-- The pair after so many rounds of a run. The nodes own its instances by turns.
abbrev pub pair_after : Composition → ℕ → ℕ → Pair
pair_after run seed count = after_rounds (rule_of run (by_turns (length run.members))) seed count
    (opened_pair (rule_of run (by_turns (length run.members))) run)

-- After each round both nodes keep to the trace.
abbrev pub RoundsKeepToTheTrace : Type 0
RoundsKeepToTheTrace =
    (run : Composition) (order owners : List ℕ) → IsPlaceOrder run order → AreMembers run → length owners ≡ length run.members
    → (seed k : ℕ) → PairKeepsTo run (rule_of run owners) (after_rounds (rule_of run owners) seed k (opened_pair (rule_of run owners) run))
