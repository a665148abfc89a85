-- Nodes: the effect of each call, given the facts that a node makes.
use Rattle.link_laws.specs.Boards.{Board, entry, row_of}
use Rattle.link_laws.specs.declared.fact.Fact.{Fact}
use Rattle.link_laws.specs.declared.fact.Fact.TheVariants.{Limit, Reply, Word}
use Rattle.link_laws.specs.declared.taken.Taken.{Taken}
use Rattle.link_laws.specs.declared.taken.Taken.TheVariants.{Dropped, Ended, Kept, Row}
use Rattle.std.specs.List.{range_with_len}
use Rattle.std.specs.Prelude.{Bool, List, None, Option, Some, [], false, if◌then◌else◌, is_some, map, not, slice_set, true, ℕ, ◌++◌, ◌-◌, ◌%◌, ◌==◌, ◌||◌}
use Rattle.unit_tree.specs.Successor.{Position}
use Rattle.unit_tree.specs.Trace.{Row as TraceRow}
use Rattle.unit_tree.specs.declared.ending.Ending.{Ending}

-- What a node knows after it made facts, and these facts in their order.
pub record Making : Type 0 where
  pub known : Board
  pub facts : List Fact

-- Where a node moves from what it knows.
pub data Move : Type 0 where
  Stay : Move
  Go : Position → Move
  End : Ending → Move

-- The rule of both nodes, by their numbers 0 and 1:
-- `make` and `move` have the facts that a node makes and where it moves, by its part of a position and what it knows.
-- `part` has its part of a position: the states of its own instances. `nothing` is the board without knowledge.
-- `is_of` says whether a fact is of an instance of its own. `shown` has the row of a position where all words are known.
pub record Rule : Type 0 where
  pub make : ℕ → Position → Board → Making
  pub move : ℕ → Position → Board → Move
  pub part : ℕ → Position → Position
  pub nothing : Board
  pub is_of : ℕ → Fact → Bool
  pub shown : Position → Board → Option TraceRow

-- The progress of a node: its part of its present position, what it knows of the row there, how the trace ended there, if it did, and its
-- part of the saved position. It has all facts that it made, in their order, and the row that it came to last.
pub record Progress : Type 0 where
  pub at : Position
  pub known : Board
  pub ended : Option Ending
  pub kept : Position
  pub facts : List Fact
  pub row : Option TraceRow

-- ---- The calls of a node

abbrev pub opened : Rule → ℕ → Position → Progress
opened rule me first = record { at = rule.part me first; known = rule.nothing; ended = None; kept = rule.part me first; facts = []; row = None }

abbrev pub with_making : Progress → Making → Progress
with_making node making = record node { known = making.known; facts = node.facts ++ making.facts }

abbrev pub moved : Rule → Progress → Move → Progress × Taken
moved rule node Stay = (node, Kept)
moved rule node (Go at) = (record node { at = at; known = rule.nothing; row = rule.shown node.at node.known }, Row)
moved rule node (End ending) = (record node { ended = Some ending; row = rule.shown node.at node.known }, Ended)

abbrev pub making_of : Rule → ℕ → Progress → Making
making_of rule me node = rule.make me node.at node.known

abbrev pub worked : Rule → ℕ → Progress → Progress × Taken
worked rule me node =
    if is_some node.ended then (node, Ended)
    else moved rule (with_making node (making_of rule me node)) (rule.move me node.at (making_of rule me node).known)

-- The item of a fact is known.
abbrev pub has : Board → Fact → Bool
has known (Word row place seen) = is_some (entry known.words place)
has known (Limit row instance asked) = is_some (entry known.limits instance)
has known (Reply row instance true said) = is_some (entry known.redos instance)
has known (Reply row instance false said) = is_some (entry known.replies instance)

abbrev pub with_fact : Board → Fact → Board
with_fact known (Word row place seen) = record known { words = slice_set known.words place (Some seen) }
with_fact known (Limit row instance asked) = record known { limits = slice_set known.limits instance (Some asked) }
with_fact known (Reply row instance true said) = record known { redos = slice_set known.redos instance (Some said) }
with_fact known (Reply row instance false said) = record known { replies = slice_set known.replies instance (Some said) }

abbrev pub drops : Rule → ℕ → Progress → Fact → Bool
drops rule me node fact = is_some node.ended || (not (row_of fact == node.at.number) || (not (rule.is_of (1 - me) fact) || has node.known fact))

abbrev pub knowing : Progress → Fact → Progress
knowing node fact = record node { known = with_fact node.known fact }

abbrev pub taken : Rule → ℕ → Progress → Fact → Progress × Taken
taken rule me node fact = if drops rule me node fact then (node, Dropped) else worked rule me (knowing node fact)

abbrev pub keeping : Progress → Progress
keeping node = record node { kept = node.at }

abbrev pub restarted : Rule → Progress → Progress
restarted rule node = record node { at = node.kept; known = rule.nothing; ended = None; row = None }

-- ---- Owners

-- The owner of each of so many instances, by turns.
abbrev pub by_turns : ℕ → List ℕ
by_turns instances = map (λ instance. instance % 2) (range_with_len 0 instances)
