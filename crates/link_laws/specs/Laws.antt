-- Laws of facts, stages, nodes and pairs.
use Rattle.link_laws.specs.Boards.{Agrees, Board, IsAlike, IsKnown, IsOn, LacksNone, before_limits, before_redo, before_trial, board_of}
use Rattle.link_laws.specs.Keeping.{IsHonest, IsRightRule, IsTrueFact, KeepsTo, PairKeepsTo}
use Rattle.link_laws.specs.Lengths.{AreOfWords, is_short}
use Rattle.link_laws.specs.Making.{each, held, name_of, rule_of, with_word, words_made}
use Rattle.link_laws.specs.Nodes.{Making, Progress, Rule, drops, knowing, making_of, taken, worked}
use Rattle.link_laws.specs.Pairs.{after_events, opened_pair}
use Rattle.link_laws.specs.Stages.{stage_of}
use Rattle.link_laws.specs.declared.fact.Fact.{Fact}
use Rattle.link_laws.specs.declared.pair_event.PairEvent.{PairEvent}
use Rattle.link_laws.specs.declared.stage.Stage.{Stage}
use Rattle.link_laws.specs.declared.stage.Stage.TheVariants.{Limits, On, Over, Redo, Trial, Words}
use Rattle.link_laws.specs.declared.taken.Taken.{Taken}
use Rattle.link_laws.specs.declared.taken.Taken.TheVariants.{Dropped, Ended, Kept, Row}
use Rattle.port_solve.specs.Sound.{IsSound}
use Rattle.std.specs.List.{AllZip, enumerate_from}
use Rattle.std.specs.Prelude.{List, None, Some, false, length, map, true, ℕ, ⊤, ◌++◌, ◌≡◌, ◌≤◌}
use Rattle.trace_plan.specs.Plans.{IsBounded}
use Rattle.unit_tree.specs.Compositions.{AreMembers, Composition}
use Rattle.unit_tree.specs.Ports.{IsPlaceOrder, outlets}
use Rattle.unit_tree.specs.Successor.{Position, after, agreed, ends, goes, proposed, successor}
use Rattle.unit_tree.specs.Trace.{Goes, Stand, row_at}
use Rattle.unit_tree.specs.declared.ending.Ending.{Ending}

-- An item has one fact.
abbrev pub FactsAreFunctional : Type 0
FactsAreFunctional = (board : Board) (one other : Fact) → IsOn board one → IsOn board other → IsAlike one other → one ≡ other

-- All words of a stand are known.
abbrev pub AreWordsKnown : Composition → Stand → Board → Type 0
AreWordsKnown run stand known = AllZip IsKnown (board_of run stand).words known.words

-- What a stage says of the stand: that a fact is missing, and which facts come before; or that none is, and where the successor leads.
abbrev pub IsRightStage : Composition → Stand → Board → Stage → Type 0
IsRightStage run stand known (Over ending) = LacksNone (board_of run stand) known × (successor run stand.at stand.ports ≡ ends ending)
IsRightStage run stand known (On h) = LacksNone (board_of run stand) known × (h ≡ agreed run stand.at stand.ports) ×
    (successor run stand.at stand.ports ≡ goes (after run stand.at stand.ports))
IsRightStage run stand known Words = LacksNone (board_of run stand) known → ⊥
IsRightStage run stand known Limits = (LacksNone (board_of run stand) known → ⊥) × AreWordsKnown run stand known × (before_limits run stand ≡ true)
IsRightStage run stand known (Trial h) =
    (LacksNone (board_of run stand) known → ⊥) × AreWordsKnown run stand known × (before_trial run stand ≡ true) ×
    (h ≡ proposed run stand.at stand.ports)
IsRightStage run stand known (Redo h) = (LacksNone (board_of run stand) known → ⊥) × AreWordsKnown run stand known × (before_redo run stand ≡ true) ×
    (h ≡ agreed run stand.at stand.ports)

-- Where what is known agrees with the facts of the stand, and its agreed step is at most the proposed one, its stage is right. It
-- goes on, or ends, exactly where no fact is missing, and as the successor does.
abbrev pub StagesAreRight : Type 0
StagesAreRight =
    (run : Composition) (stand : Stand) (known : Board) → length stand.at.states ≡ length run.members
    → agreed run stand.at stand.ports ≤ proposed run stand.at stand.ports → Agrees (board_of run stand) known
    → IsRightStage run stand known (stage_of run (map name_of (outlets run stand.at.states)) stand.at known)

-- ---- Laws

-- Over every list of events each fact is the true one of its row, and each node is at the place of its number.
abbrev pub EventsKeep : Type 0
EventsKeep =
    (run : Composition) (rule : Rule) → IsRightRule run rule → (events : List PairEvent)
    → PairKeepsTo run rule (after_events rule (opened_pair rule run) events)

-- The result of a node's work is a row or the end exactly where it then lacks no fact of its row.
abbrev pub AnswersRightly : Composition → Stand → Board → Taken → Type 0
AnswersRightly run stand known Row = LacksNone (board_of run stand) known × ((next : Stand) × Goes run stand next)
AnswersRightly run stand known Ended = LacksNone (board_of run stand) known × ((ending : Ending) × (successor run stand.at stand.ports ≡ ends ending))
AnswersRightly run stand known Kept = LacksNone (board_of run stand) known → ⊥
AnswersRightly run stand known Dropped = ⊥

-- The row to which it came is that of the stand.
abbrev pub ShowsRow : Composition → Stand → Progress × Taken → Type 0
ShowsRow run stand (node, Row) = node.row ≡ row_at run stand
ShowsRow run stand (node, Ended) = node.row ≡ row_at run stand
ShowsRow run stand (node, other) = ⊤

-- With a row it goes on to its part of the next position. With the end it has the run's end. Otherwise it stays.
abbrev pub MovesRightly : Composition → Rule → ℕ → Position → Stand → Progress × Taken → Type 0
MovesRightly run rule me at stand (node, Row) = (next : Stand) × Goes run stand next × (node.at ≡ rule.part me next.at)
MovesRightly run rule me at stand (node, Ended) = (ending : Ending) × (successor run stand.at stand.ports ≡ ends ending) × (node.ended ≡ Some ending)
MovesRightly run rule me at stand (node, other) = node.at ≡ at

-- What a node does at its stand: it lists the facts that it made, and commits its row or ends exactly where it then lacks none.
-- Otherwise it stays.
pub record Works (run : Composition) (rule : Rule) (me : ℕ) (node : Progress) (stand : Stand) (did : Progress × Taken) : Type 0 where
  pub facts : did.0.facts ≡ node.facts ++ (making_of rule me node).facts
  pub answers : AnswersRightly run stand (making_of rule me node).known did.1
  pub row : ShowsRow run stand did
  pub moves : MovesRightly run rule me node.at stand did

-- A node that hasn't ended does so when it works.
abbrev pub WorkCommitsRightly : Type 0
WorkCommitsRightly =
    (run : Composition) (rule : Rule) → IsRightRule run rule → (me : ℕ) (node : Progress) (keeps : KeepsTo run rule me node) → node.ended ≡ None
    → Works run rule me node keeps.stand (worked rule me node)

-- A node also does so when a fact arrives that isn't dropped: it knows the fact from then on, and works.
abbrev pub TakeCommitsRightly : Type 0
TakeCommitsRightly =
    (run : Composition) (rule : Rule) → IsRightRule run rule → (me : ℕ) (node : Progress) (fact : Fact) (keeps : KeepsTo run rule me node)
    → IsHonest run fact → drops rule me node fact ≡ false
    → Works run rule me (knowing node fact) keeps.stand (taken rule me node fact)

-- A node may take any honest fact.
abbrev pub HonestFactsKeep : Type 0
HonestFactsKeep =
    (run : Composition) (rule : Rule) → IsRightRule run rule → (me : ℕ) (node : Progress) (fact : Fact) → KeepsTo run rule me node → IsHonest run fact
    → KeepsTo run rule me (taken rule me node fact).0

-- A true fact is honest.
abbrev pub TrueFactsAreHonest : Type 0
TrueFactsAreHonest = (run : Composition) (rule : Rule) → IsRightRule run rule → (fact : Fact) → IsTrueFact run fact → IsHonest run fact

-- The rule is right, for every ordered run and every division of its instances among the nodes.
abbrev pub RulesAreRight : Type 0
RulesAreRight = (run : Composition) (order owners : List ℕ) → IsPlaceOrder run order → AreMembers run → length owners ≡ length run.members
    → IsRightRule run (rule_of run owners)

-- Over every list of events, for every ordered run and every division of its instances, each fact is the true one of its row, and
-- each node is at the place of its number.
abbrev pub PairsKeepToTheTrace : Type 0
PairsKeepToTheTrace =
    (run : Composition) (order owners : List ℕ) → IsPlaceOrder run order → AreMembers run → length owners ≡ length run.members
    → (events : List PairEvent)
    → PairKeepsTo run (rule_of run owners) (after_events (rule_of run owners) (opened_pair (rule_of run owners) run) events)

-- One more pass makes no further word.
abbrev pub PassesAreEnough : Type 0
PassesAreEnough =
    (run : Composition) (owners : List ℕ) (me : ℕ) (at : Position) (making : Making) → length making.known.words ≡ length (held run owners at.states)
    → each (with_word me at.number) (words_made run owners me at making) (enumerate_from 0 (held run owners at.states))
    ≡ words_made run owners me at making

-- In a run whose numbers are in their ranges, each true fact is short.
abbrev pub FactsAreShort : Type 0
FactsAreShort =
    (run : Composition) (order : List ℕ) → IsPlaceOrder run order → AreMembers run → IsSound run → IsBounded run → AreOfWords run
    → (fact : Fact) → IsTrueFact run fact → is_short fact ≡ true
