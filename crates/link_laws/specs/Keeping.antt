-- The invariant of nodes: each is at its part of a place of the one trace, and all that it says of it is true.
use Rattle.link_laws.specs.Boards.{Agrees, Board, IsOn, IsSo, LacksNone, board_of, entry, row_of}
use Rattle.link_laws.specs.Nodes.{End, Go, Making, Move, Progress, Rule, Stay}
use Rattle.link_laws.specs.Pairs.{Pair}
use Rattle.link_laws.specs.declared.fact.Fact.{Fact}
use Rattle.link_laws.specs.declared.fact.Fact.TheVariants.{Limit, Reply, Word}
use Rattle.std.specs.List.{AllByRecursion}
use Rattle.std.specs.Prelude.{IfSome, Some, false, true, ℕ, ◌≡◌}
use Rattle.unit_tree.specs.Compositions.{Composition}
use Rattle.unit_tree.specs.Successor.{Position, ends, first_position, successor}
use Rattle.unit_tree.specs.Trace.{Goes, IsStand, Reaches, Row as TraceRow, Stand, row_at}

-- The stand is that of the trace with its number.
pub record IsPlace (run : Composition) (stand : Stand) : Type 0 where
  pub from : Stand
  pub last : Stand
  pub opening : from.at ≡ first_position run
  pub is_stand : IsStand run from
  pub reached : Reaches run stand.at.number last from stand

-- The fact is the true one of its row.
pub record IsTrueFact (run : Composition) (fact : Fact) : Type 0 where
  pub stand : Stand
  pub place : IsPlace run stand
  pub row : row_of fact ≡ stand.at.number
  pub on : IsOn (board_of run stand) fact

-- A fact agrees with a board, where this has its item.
abbrev pub IsSoOn : Board → Fact → Type 0
IsSoOn board (Word row place seen) = IsSo (entry board.words place) (Some seen)
IsSoOn board (Limit row instance asked) = IsSo (entry board.limits instance) (Some asked)
IsSoOn board (Reply row instance true said) = IsSo (entry board.redos instance) (Some said)
IsSoOn board (Reply row instance false said) = IsSo (entry board.replies instance) (Some said)

-- Where the fact's item has a fact in its row, it is this one.
abbrev pub IsHonest : Composition → Fact → Type 0
IsHonest run fact = (stand : Stand) → IsPlace run stand → row_of fact ≡ stand.at.number → IsSoOn (board_of run stand) fact

-- The position is a node's part of a place.
pub record StandsAt (run : Composition) (rule : Rule) (me : ℕ) (at : Position) (stand : Stand) : Type 0 where
  pub place : IsPlace run stand
  pub part : at ≡ rule.part me stand.at

-- The row is that of a stand of the trace.
pub record IsRowOfTrace (run : Composition) (row : TraceRow) : Type 0 where
  pub stand : Stand
  pub place : IsPlace run stand
  pub is : row_at run stand ≡ Some row

-- A node keeps to the trace. It is at its part of the place of its number, and so is its saved position. What it knows agrees with the
-- facts there. It has ended as the trace does. Each of its facts is the true one of its row, and its row is one of the trace.
pub record KeepsTo (run : Composition) (rule : Rule) (me : ℕ) (node : Progress) : Type 0 where
  pub stand : Stand
  pub stands : StandsAt run rule me node.at stand
  pub agrees : Agrees (board_of run stand) node.known
  pub ended : IfSome node.ended (λ ending. successor run stand.at stand.ports ≡ ends ending)
  pub kept_stand : Stand
  pub kept : StandsAt run rule me node.kept kept_stand
  pub facts : AllByRecursion (IsTrueFact run) node.facts
  pub row : IfSome node.row (IsRowOfTrace run)

pub record PairKeepsTo (run : Composition) (rule : Rule) (pair : Pair) : Type 0 where
  pub first : KeepsTo run rule 0 pair.first
  pub second : KeepsTo run rule 1 pair.second

-- ---- What the rule must ensure

abbrev pub IsRightMove : Composition → Rule → ℕ → Stand → Board → Move → Type 0
IsRightMove run rule me stand known Stay = LacksNone (board_of run stand) known → ⊥
IsRightMove run rule me stand known (Go at) =
    LacksNone (board_of run stand) known × ((next : Stand) × Goes run stand next × (at ≡ rule.part me next.at))
IsRightMove run rule me stand known (End ending) = LacksNone (board_of run stand) known × (successor run stand.at stand.ports ≡ ends ending)

abbrev pub IsNewFact : Composition → Stand → Fact → Type 0
IsNewFact run stand fact = (row_of fact ≡ stand.at.number) × IsOn (board_of run stand) fact

pub record IsMade (run : Composition) (stand : Stand) (making : Making) : Type 0 where
  pub agrees : Agrees (board_of run stand) making.known
  pub facts : AllByRecursion (IsNewFact run stand) making.facts

-- Take anything known that agrees with the facts of a place. What is made from it is true. A move goes where the successor leads, and
-- comes exactly where no fact is missing, with the row of the place.
pub record IsRightRule (run : Composition) (rule : Rule) : Type 0 where
  pub numbers : (me : ℕ) (at : Position) → (rule.part me at).number ≡ at.number
  pub first : Stand
  pub first_is : first.at ≡ first_position run
  pub first_stands : IsStand run first
  pub nothing : (stand : Stand) → IsPlace run stand → Agrees (board_of run stand) rule.nothing
  pub one : (stand other : Stand) → IsPlace run stand → IsPlace run other → stand.at.number ≡ other.at.number → stand ≡ other
  pub makes : (me : ℕ) (stand : Stand) (known : Board) → IsPlace run stand → Agrees (board_of run stand) known
      → IsMade run stand (rule.make me (rule.part me stand.at) known)
  pub moves : (me : ℕ) (stand : Stand) (known : Board) → IsPlace run stand → Agrees (board_of run stand) known
      → IsRightMove run rule me stand known (rule.move me (rule.part me stand.at) known)
  pub shows : (me : ℕ) (stand : Stand) (known : Board) → IsPlace run stand → Agrees (board_of run stand) known → LacksNone (board_of run stand) known
      → rule.shown (rule.part me stand.at) known ≡ row_at run stand
