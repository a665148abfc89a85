-- What is written from one call of node 0 to the next. No promise depends on these definitions.
use Rattle.std.specs.Prelude.{◌≡◌, ◌≤◌, ◌<◌, ◌==◌, ◌⊎◌, ℕ, Bool, true, false, List, [], ◌∷◌, ◌++◌, slice_get, if◌then◌else◌, Option, Some, Result, OnOk, OnErr}
use Rattle.std.specs.Prelude.{length, take}
use Rattle.std.specs.List.{AllByRecursion, cons_option}
use Rattle.std.specs.Io.KnownBytes.{Appends}
use Rattle.cosim_io.specs.Pieces.{AppendsPrefix}
use Rattle.link_laws.specs.Boards.{row_of}
use Rattle.link_laws.specs.Nodes.{Progress, Rule, taken}
use Rattle.link_laws.specs.declared.fact.Fact.{Fact}
use Rattle.link_core.specs.declared.node.NodeRow as lent
use Rattle.link_laws.specs.declared.taken.Taken.{Taken}
use Rattle.link_laws.specs.declared.taken.Taken.TheVariants.{Ended, Row}
use Rattle.link_nodes.specs.Shown.{lines_shown}
use Rattle.link_nodes.specs.declared.spans.Span.{Span}
use Rattle.link_nodes.specs.declared.spans.Spans.{Spans}
use Rattle.trace_plan.specs.Laws.{HasRows}
use Rattle.trace_plan.specs.Plans.{Planned}
use Rattle.trace_rows.specs.Faults.{TellsFault}
use Rattle.trace_rows.specs.declared.fault.CrewFault.{CrewFault}
use Rattle.unit_tree.specs.Compositions.{AreMembers, run_of}
use Rattle.unit_tree.specs.Ports.{IsPlaceOrder}
use Rattle.unit_tree.specs.Trace.{IsTrace, Row as TraceRow, Stand}
use Rattle.unit_tree.specs.declared.ending.Ending.{Ending}

-- What is known of every plan.
pub record IsJudged (plan : Planned) : Type 0 where
  pub run : plan.run ≡ run_of plan.system
  pub order : List ℕ
  pub is_order : IsPlaceOrder plan.run order
  pub members : AreMembers plan.run
  pub rows : HasRows plan.system

-- A lent row of a node, as a row.
abbrev pub row_told : lent.NodeRow → TraceRow
row_told row = record { point = row.point; words = row.words.now }

-- A node came to a row in a call: to a new one, or it has just ended.
abbrev pub comes : Bool → Taken → Bool
comes going Row = true
comes going Ended = going
comes going other = false

-- That row, where there is one.
abbrev pub rows_come_to : Bool → Progress × Taken → List TraceRow
rows_come_to going did = if comes going did.1 then cons_option did.0.row [] else []

-- A text grew by what was written.
pub record Grows (text more : List ℕ) (old new : Option (List ℕ)) : Type 0 where
  pub piece : List ℕ
  pub is : more ≡ text ++ piece
  pub put : Appends old new piece

-- A text grew by a piece, and what was written is a prefix of this piece.
pub record GrowsPast (text more : List ℕ) (old new : Option (List ℕ)) : Type 0 where
  pub piece : List ℕ
  pub is : more ≡ text ++ piece
  pub put : AppendsPrefix old new piece

-- What node 0 shows grew in this way, for each trace.
pub record Shows (plan : Planned) (node next : Progress) (old new : Option (List ℕ)) : Type 0 where
  pub grows : (stands : List Stand) (ending : Ending) → IsTrace plan.run stands ending
      → Grows (lines_shown plan node stands) (lines_shown plan next stands) old new

pub record ShowsPast (plan : Planned) (node next : Progress) (old new : Option (List ℕ)) : Type 0 where
  pub grows : (stands : List Stand) (ending : Ending) → IsTrace plan.run stands ending
      → GrowsPast (lines_shown plan node stands) (lines_shown plan next stands) old new

-- Node 0 came to its target, and what it shows grew by what was written; or the call was given up on the way.
pub record ComesTo {T : Type 0} (plan : Planned) (node target next : Progress) (old new : Option (List ℕ)) (faults faults' : ℕ)
    (result : Result T CrewFault) : Type 0 where
  pub there : OnOk result (next ≡ target)
  pub shown : OnOk result (Shows plan node target old new)
  pub past : OnErr result (ShowsPast plan node target old new)
  pub cause : TellsFault faults faults' result

-- ---- Arrivals

-- A node takes each fact twice.
abbrev pub taken_twice : Rule → ℕ → Progress → Fact → Progress
taken_twice rule me node fact = (taken rule me (taken rule me node fact).0 fact).0

abbrev pub taken_all : Rule → ℕ → Progress → List Fact → Progress
taken_all rule me node [] = node
taken_all rule me node (fact ∷ facts) = taken_all rule me (taken_twice rule me node fact) facts

-- A fact outside a range of places is of another row.
abbrev pub AreOfOtherRows : List Fact → ℕ → ℕ → ℕ → Type 0
AreOfOtherRows facts row first end = (place : ℕ) (fact : Fact) → slice_get facts place ≡ Some fact → (place < first) ⊎ (end ≤ place)
    → (row_of fact == row) ≡ false

-- Each fact is in the span of its row, and each span is within the list.
pub record AreNoted (rows : List Span) (facts : List Fact) : Type 0 where
  pub each : (place : ℕ) (fact : Fact) → slice_get facts place ≡ Some fact
      → (span : Span) × (slice_get rows (row_of fact) ≡ Some span) × (span.first ≤ place) × (place < span.end)
  pub within : AllByRecursion (λ span. (span.first ≤ length facts) × (span.end ≤ length facts)) rows

-- The noted facts of a list, which may have grown since.
pub record IsNoted (spans : Spans) (facts : List Fact) : Type 0 where
  pub within : spans.noted ≤ length facts
  pub noted : AreNoted spans.rows.items (take spans.noted facts)
