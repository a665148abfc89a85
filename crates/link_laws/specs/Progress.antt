-- Progress of nodes: which facts a node makes, which it drops, and at which call it commits.
use Rattle.link_laws.specs.Boards.{Agrees, Board, IsKnown, IsOn, LacksNone, board_of, entry, row_of}
use Rattle.link_laws.specs.Keeping.{IsPlace, IsRightRule}
use Rattle.link_laws.specs.Laws.{AreWordsKnown}
use Rattle.link_laws.specs.Making.{is_own, is_undefined, rule_of}
use Rattle.link_laws.specs.Nodes.{Making, Progress, Rule, drops, has, knowing, making_of, taken, with_fact, worked}
use Rattle.link_laws.specs.Pairs.{Pair, after_events, event_step, node_of, opened_pair}
use Rattle.link_laws.specs.declared.fact.Fact.{Fact}
use Rattle.link_laws.specs.declared.fact.Fact.TheVariants.{Limit, Reply, Word}
use Rattle.link_laws.specs.declared.fact.Seen.{Seen}
use Rattle.link_laws.specs.declared.pair_event.PairEvent.{PairEvent}
use Rattle.link_laws.specs.declared.pair_event.PairEvent.TheVariants.{Deliver, Keep, Restart, Work}
use Rattle.link_laws.specs.declared.taken.Taken.{Taken}
use Rattle.link_laws.specs.declared.taken.Taken.TheVariants.{Dropped, Ended, Row}
use Rattle.std.specs.List.{AllByRecursion, AllZip, list_all, list_any}
use Rattle.std.specs.Prelude.{Bool, List, None, Option, Some, [], false, if◌then◌else◌, is_some, length, slice_get, suc, true, zero, ℕ, ⊤, ◌-◌, ◌||◌}
use Rattle.std.specs.Prelude.{◌↔◌, ◌∷◌, ◌≡◌, ◌≤◌, ◌⊎◌}
use Rattle.unit_tree.specs.Compositions.{AreMembers, Composition}
use Rattle.unit_tree.specs.Ports.{IsPlaceOrder, needs_at}
use Rattle.unit_tree.specs.Trace.{Stand}

-- ---- Facts that can be made

-- Each output in the needs is known, or one of them is known to have no word.
abbrev pub are_needs_known : List (Option Seen) → List ℕ → Bool
are_needs_known words needs = list_all (λ place. is_some (entry words place)) needs || list_any (λ place. is_undefined (entry words place)) needs

abbrev pub AreLimitsKnown : Composition → Stand → Board → Type 0
AreLimitsKnown run stand known = AllZip IsKnown (board_of run stand).limits known.limits

abbrev pub AreRepliesKnown : Composition → Stand → Board → Type 0
AreRepliesKnown run stand known = AllZip IsKnown (board_of run stand).replies known.replies

-- All that a fact of the stand depends on is known: for a word the outputs in its needs, for a limit all words, for a reply also all
-- limits, and for a reply of a redo also all replies.
abbrev pub CanBeMade : Composition → Stand → Board → Fact → Type 0
CanBeMade run stand known (Word row place seen) = are_needs_known known.words (needs_at run place) ≡ true
CanBeMade run stand known (Limit row instance asked) = AreWordsKnown run stand known
CanBeMade run stand known (Reply row instance false said) = AreWordsKnown run stand known × AreLimitsKnown run stand known
CanBeMade run stand known (Reply row instance true said) =
    AreWordsKnown run stand known × AreLimitsKnown run stand known × AreRepliesKnown run stand known

-- ---- Facts that are made

abbrev pub with_facts : Board → List Fact → Board
with_facts known [] = known
with_facts known (fact ∷ facts) = with_facts (with_fact known fact) facts

-- Each fact is of an instance of the node's own, and its item isn't known before.
abbrev pub AreOwnAndNew : Rule → ℕ → Board → List Fact → Type 0
AreOwnAndNew rule me known [] = ⊤
AreOwnAndNew rule me known (fact ∷ facts) = (rule.is_of me fact ≡ true) × (has known fact ≡ false) × AreOwnAndNew rule me (with_fact known fact) facts

-- The node then knows each fact of the stand that is of an instance of its own and can be made. It knows what it knew, and the facts
-- that it lists. It lists new facts of its own.
pub record MakesAll (run : Composition) (rule : Rule) (me : ℕ) (stand : Stand) (known : Board) (making : Making) : Type 0 where
  pub all : (fact : Fact) → IsOn (board_of run stand) fact → rule.is_of me fact ≡ true → CanBeMade run stand making.known fact → IsOn making.known fact
  pub lists : making.known ≡ with_facts known making.facts
  pub new : AreOwnAndNew rule me known making.facts

-- What a node makes of what it knows at a stand of the trace.
abbrev pub making_at : Rule → ℕ → Stand → Board → Making
making_at rule me stand known = rule.make me (rule.part me stand.at) known

-- Where what is known agrees with the facts of a stand of the trace, a node makes all facts of its own that can be made.
abbrev pub FactsAreMade : Type 0
FactsAreMade =
    (run : Composition) (order owners : List ℕ) → IsPlaceOrder run order → AreMembers run → length owners ≡ length run.members
    → (me : ℕ) (stand : Stand) (known : Board) → IsPlace run stand → Agrees (board_of run stand) known
    → MakesAll run (rule_of run owners) me stand known (making_at (rule_of run owners) me stand known)

-- Where each fact that can be made is known, none is missing.
abbrev pub MadeFactsAreAll : Type 0
MadeFactsAreAll =
    (run : Composition) (order : List ℕ) → IsPlaceOrder run order → AreMembers run → (stand : Stand) (known : Board) → IsPlace run stand
    → Agrees (board_of run stand) known
    → ((fact : Fact) → IsOn (board_of run stand) fact → CanBeMade run stand known fact → IsOn known fact) → LacksNone (board_of run stand) known

-- Two nodes are at one row. Where they know the same of it once they made their facts, none is missing.
abbrev pub NodesDontBlock : Type 0
NodesDontBlock =
    (run : Composition) (order owners : List ℕ) → IsPlaceOrder run order → AreMembers run → length owners ≡ length run.members
    → AllByRecursion (λ owner. owner ≤ 1) owners → (stand : Stand) (one two : Board) → IsPlace run stand
    → Agrees (board_of run stand) one → Agrees (board_of run stand) two
    → (making_at (rule_of run owners) 0 stand one).known ≡ (making_at (rule_of run owners) 1 stand two).known
    → LacksNone (board_of run stand) (making_at (rule_of run owners) 0 stand one).known

-- ---- Facts that are dropped

-- The node has ended, or it is at another row, or the fact isn't of an instance of the other node, or its item is known.
abbrev pub IsOfNoUse : Rule → ℕ → Progress → Fact → Type 0
IsOfNoUse rule me node fact =
    (is_some node.ended ≡ true) ⊎ (row_of fact ≡ node.at.number → ⊥) ⊎ (rule.is_of (1 - me) fact ≡ false) ⊎ (has node.known fact ≡ true)

-- A node drops a fact exactly where it is of no use, and is then unchanged. Otherwise it knows the fact and works.
pub record TakesExactly (rule : Rule) (me : ℕ) (node : Progress) (fact : Fact) : Type 0 where
  pub drops : ((taken rule me node fact).1 ≡ Dropped) ↔ IsOfNoUse rule me node fact
  pub same : IsOfNoUse rule me node fact → (taken rule me node fact).0 ≡ node
  pub works : (IsOfNoUse rule me node fact → ⊥) → taken rule me node fact ≡ worked rule me (knowing node fact)

abbrev pub FactsAreDroppedExactly : Type 0
FactsAreDroppedExactly = (rule : Rule) (me : ℕ) (node : Progress) (fact : Fact) → TakesExactly rule me node fact

-- Facts of the node's own instances are of no use to it.
abbrev pub OwnFactsAreDropped : Type 0
OwnFactsAreDropped =
    (run : Composition) (owners : List ℕ) (me : ℕ) (node : Progress) (fact : Fact) → is_own run owners me fact ≡ true
    → (taken (rule_of run owners) me node fact).1 ≡ Dropped

-- ---- When a node commits

-- What a node knows once it took a fact and made its own; there is nothing where it drops the fact, or there is none.
abbrev pub known_with : Rule → ℕ → Progress → Option Fact → Option Board
known_with rule me node None = None
known_with rule me node (Some fact) = if drops rule me node fact then None else Some (making_of rule me (knowing node fact)).known

-- What a node knows in an event, given the other node, once it made its facts. There is nothing where the event lets it make none.
abbrev pub known_in : Rule → ℕ → Progress → Progress → PairEvent → Option Board
known_in rule me node other (Work at) = Some (making_of rule me node).known
known_in rule me node other (Deliver at place) = known_with rule me node (slice_get other.facts place)
known_in rule me node other (Keep at) = None
known_in rule me node other (Restart at) = None

-- The nodes of a pair by their numbers.
abbrev pub node_in : Pair → ℕ → Progress
node_in pair zero = pair.first
node_in pair (suc me) = pair.second

abbrev pub other_in : Pair → ℕ → Progress
other_in pair zero = pair.second
other_in pair (suc me) = pair.first

-- The event is a call of the node that isn't dropped, and it then knows all facts of the stand.
abbrev pub KnowsAllIn : Composition → Rule → ℕ → Stand → Pair → PairEvent → Type 0
KnowsAllIn run rule me stand pair event =
    (node_of event ≡ me)
    × ((known : Board) × (known_in rule me (node_in pair me) (other_in pair me) event ≡ Some known) × LacksNone (board_of run stand) known)

-- The node is at the row of the stand and hasn't ended.
abbrev pub IsAtRow : Stand → Progress → Type 0
IsAtRow stand node = (node.at.number ≡ stand.at.number) × (node.ended ≡ None)

abbrev pub IsCommit : Taken → Type 0
IsCommit answer = (answer ≡ Row) ⊎ (answer ≡ Ended)

-- After any events, a node is at a row that it hasn't ended. The next event commits the row, or ends there, exactly where the node then
-- knows all facts of the row.
abbrev pub CommitsExactly : Type 0
CommitsExactly =
    (run : Composition) (rule : Rule) → IsRightRule run rule → (me : ℕ) → me ≤ 1 → (events : List PairEvent) (event : PairEvent) (stand : Stand)
    → IsPlace run stand → IsAtRow stand (node_in (after_events rule (opened_pair rule run) events) me) → node_of event ≡ me
    → IsCommit (event_step rule (after_events rule (opened_pair rule run) events) event).1
    ↔ KnowsAllIn run rule me stand (after_events rule (opened_pair rule run) events) event

-- In none of the events the node knows all facts of the stand.
abbrev pub Waits : Composition → Rule → ℕ → Stand → Pair → List PairEvent → Type 0
Waits run rule me stand pair [] = ⊤
Waits run rule me stand pair (event ∷ events) = (KnowsAllIn run rule me stand pair event → ⊥) × Waits run rule me stand (event_step rule pair event).0 events

abbrev pub NoRestart : ℕ → List PairEvent → Type 0
NoRestart me events = AllByRecursion (λ event. event ≡ Restart me → ⊥) events

-- After any events, a node is at a row that it hasn't ended, and then come events in which it doesn't restart. It is still there exactly
-- where it knew all facts of the row in none of them. So it commits in the first event in which it knows them.
abbrev pub CommitsAtOnce : Type 0
CommitsAtOnce =
    (run : Composition) (rule : Rule) → IsRightRule run rule → (me : ℕ) → me ≤ 1 → (before later : List PairEvent) (stand : Stand)
    → IsPlace run stand → IsAtRow stand (node_in (after_events rule (opened_pair rule run) before) me) → NoRestart me later
    → IsAtRow stand (node_in (after_events rule (after_events rule (opened_pair rule run) before) later) me)
    ↔ Waits run rule me stand (after_events rule (opened_pair rule run) before) later
