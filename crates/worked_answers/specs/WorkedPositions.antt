-- Saved positions that fit a system as it is written, and some that don't, worked out by hand. A pulse occurs at every other step. A
-- latch has the word of the last pulse, and whether one occurred at the last step.
use Rattle.std.specs.Prelude.{◌≡◌, ℕ, false, pos, List, [], ◌∷◌, ◌++◌, codes, Some, None}
use Rattle.std.specs.List.{flat_map}
use Rattle.cosim_answers.specs.SavedAnswers.{FitsSystem}
use Rattle.event_csv.specs.EventText.{event_line}
use Rattle.event_runs.specs.EventRests.{IsEventPositionOf, IsEventRest}
use Rattle.event_runs.specs.EventRuns.{event_run_of}
use Rattle.event_runs.specs.EventTrace.{EventRow, EventStand, IsEventTrace}
use Rattle.event_runs.specs.Events.{Signal, Occurs, Absent}
use Rattle.fixed_words.specs.declared.types.Literal.TheVariants as literal
use Rattle.fixed_words.specs.declared.types.Ty.TheVariants as types
use Rattle.save_point.specs.SavedTexts.{IsSaved, saved_text}
use Rattle.save_point.specs.declared.reading.Saved.{Saved}
use Rattle.unit_tree.specs.Parts as parts
use Rattle.unit_tree.specs.Parts.{Part, UnitPart, system_of}
use Rattle.unit_tree.specs.Successor.{Position}
use Rattle.unit_tree.specs.declared.ending.Ending.TheVariants.{Completed}
use Rattle.unit_tree.specs.declared.expr.Expr as expr
use Rattle.unit_tree.specs.declared.line.Line as line
use Rattle.unit_tree.specs.declared.system.System.{System}
use Rattle.worked_facts.specs.WorkedEvents.{e, input_e, output_k, pulse_unit}
use Rattle.worked_facts.specs.WorkedSystems.{number, port, set, wire}
use Rattle.worked_answers.specs.WorkedEventTexts.{event_row}
use Rattle.worked_answers.specs.WorkedTables.{text_of}

-- ---- The system

-- `last : Int8 = 0`, `on : Bool = false`; in a step `on := present(e)` and, where the event occurs, `last := e`.
abbrev pub latch_unit : List UnitPart
latch_unit =
    parts.HasState (record { name = codes "last"; ty = types.Int8; start = number 0 })
    ∷ parts.HasState (record { name = codes "on"; ty = types.Bool; start = literal.Truth false })
    ∷ input_e
    ∷ output_k (expr.Var (codes "last"))
    ∷ parts.Step
    (set (codes "on") (expr.Present (codes "e"))
    ∷ line.If (expr.Present (codes "e")) (set (codes "last") e ∷ []) None
    ∷ [])
    ∷ []

abbrev pub pulse_and_latch : List Part
pulse_and_latch =
    parts.HasUnit (codes "Pulse") pulse_unit
    ∷ parts.HasUnit (codes "Latch") latch_unit
    ∷ parts.HasInstance (record { name = codes "p"; unit = codes "Pulse"; settings = [] })
    ∷ parts.HasInstance (record { name = codes "c"; unit = codes "Latch"; settings = [] })
    ∷ wire (port (codes "p") (codes "e")) (port (codes "c") (codes "e"))
    ∷ parts.Stop (number 4)
    ∷ parts.Longest (number 1)
    ∷ parts.Zero 2
    ∷ parts.Rows 5
    ∷ []

abbrev pub latched : System
latched = system_of 2 pulse_and_latch

abbrev pub latched_lines : List (List ℕ)
latched_lines =
    codes "cosim 2"
    ∷ codes "unit Pulse"
    ∷ codes "state n:Int64=0"
    ∷ codes "event output e:Int64=if n mod 2==1 then n*10 else absent"
    ∷ codes "step"
    ∷ codes "n:=n+1"
    ∷ codes "end"
    ∷ codes "end"
    ∷ codes "unit Latch"
    ∷ codes "state last:Int8=0"
    ∷ codes "state on:Bool=false"
    ∷ codes "event input e:Int64"
    ∷ codes "output k:Int64=last"
    ∷ codes "step"
    ∷ codes "on:=present(e)"
    ∷ codes "if present(e)"
    ∷ codes "last:=e"
    ∷ codes "end"
    ∷ codes "end"
    ∷ codes "end"
    ∷ codes "instance p:Pulse"
    ∷ codes "end"
    ∷ codes "instance c:Latch"
    ∷ codes "end"
    ∷ codes "connect p.e->c.e"
    ∷ codes "stop 4"
    ∷ codes "longest 1"
    ∷ codes "zero 2"
    ∷ codes "rows 5"
    ∷ []

-- The text with these lines of a position, and then those of the system.
abbrev pub saved_with : List (List ℕ) → List ℕ
saved_with lines = text_of (lines ++ latched_lines)

-- ---- The trace

-- At a tick the pulse has counted the steps. The latch has a word, and whether a pulse occurred at the last step.
abbrev pub stand_at : ℕ → Signal → ℕ → ℕ → EventStand
stand_at time pulse last on = record {
  at = record { point = record { t = time; n = 0 }; states = (pos time ∷ []) ∷ (pos last ∷ pos on ∷ []) ∷ []; number = time };
  signals = Some pulse ∷ Some (Occurs (pos last)) ∷ [];
}

-- The stands before row 2, and those from there on.
abbrev pub first_stands : List EventStand
first_stands = stand_at 0 Absent 0 0 ∷ stand_at 1 (Occurs (pos 10)) 0 0 ∷ []

abbrev pub later_stands : List EventStand
later_stands = stand_at 2 Absent 10 1 ∷ stand_at 3 (Occurs (pos 30)) 10 0 ∷ stand_at 4 Absent 30 1 ∷ []

-- The rows from row 2 on.
abbrev pub later_rows : List EventRow
later_rows = event_row 2 Absent 10 ∷ event_row 3 (Occurs (pos 30)) 10 ∷ event_row 4 Absent 30 ∷ []

-- ---- The position of row 2

-- At tick 2 two steps were made. At tick 1 a pulse of 10 occurred, which the latch has.
abbrev pub latched_position : Position
latched_position = record {
  point = record { t = 2; n = 0 };
  states = (pos 2 ∷ []) ∷ (pos 10 ∷ pos 1 ∷ []) ∷ [];
  number = 2;
}

abbrev pub position_lines : List (List ℕ)
position_lines = codes "saved 1" ∷ codes "row 2" ∷ codes "at 2 0" ∷ codes "state p 2" ∷ codes "state c 10 1" ∷ []

-- What these lines save. With their ends they have 8, 6, 7, 10 and 13 bytes.
abbrev pub position_saved : Saved
position_saved = record {
  row = 2;
  point = record { t = 2; n = 0 };
  names = codes "p" ∷ codes "c" ∷ [];
  counts = 1 ∷ 2 ∷ [];
  states = pos 2 ∷ pos 10 ∷ pos 1 ∷ [];
  rest = 44;
}

-- The text with these lines saves a position that fits the system.
pub record FitsAt (lines : List (List ℕ)) (at : Position) : Type 0 where
  pub saved : Saved
  pub saves : IsSaved (saved_with lines) saved
  pub fits : FitsSystem latched saved at

-- A position that isn't in the trace. Its point is at the stop, and its index, its number and the word of Int8 are the greatest ones.
abbrev pub greatest_position : Position
greatest_position = record {
  point = record { t = 4; n = 2 };
  states = (pos 2 ∷ []) ∷ (pos 127 ∷ pos 0 ∷ []) ∷ [];
  number = 4;
}

-- ---- Rule 33: texts whose position doesn't fit

-- The text with these lines saves a position, but no position fits what is saved and the system.
pub record FitsNothing (lines : List (List ℕ)) : Type 0 where
  pub saved : Saved
  pub saves : IsSaved (saved_with lines) saved
  pub none : (at : Position) → FitsSystem latched saved at → ⊥

pub record SavedPositionsAreWorked : Type 0 where
  -- The trace, and its position with number 2. From there on it has these rows, and ends at tick 4.
  pub trace : IsEventTrace (event_run_of latched) (first_stands ++ later_stands) Completed
  pub position : IsEventPositionOf latched 2 latched_position
  pub rest : IsEventRest latched latched_position later_rows (record { t = 4; n = 0 }) Completed
  pub lines : flat_map (event_line latched) later_rows ≡ text_of (codes "2,0,,10" ∷ codes "3,0,30,10" ∷ codes "4,0,,30" ∷ [])
  -- The saved text of the position has these lines. The position fits what they save.
  pub text : saved_text latched latched_position ≡ saved_with position_lines
  pub saves : IsSaved (saved_with position_lines) position_saved
  pub fits : FitsSystem latched position_saved latched_position
  -- So does a position at all bounds.
  pub greatest : FitsAt (codes "saved 1" ∷ codes "row 4" ∷ codes "at 4 2" ∷ codes "state p 2" ∷ codes "state c 127 0" ∷ []) greatest_position
  -- The instances are in another order; one is missing.
  pub other_order : FitsNothing (codes "saved 1" ∷ codes "row 2" ∷ codes "at 2 0" ∷ codes "state c 10 1" ∷ codes "state p 2" ∷ [])
  pub one_instance : FitsNothing (codes "saved 1" ∷ codes "row 2" ∷ codes "at 2 0" ∷ codes "state p 2" ∷ [])
  -- The first instance has a word too many, and the second one too few.
  pub other_counts : FitsNothing (codes "saved 1" ∷ codes "row 2" ∷ codes "at 2 0" ∷ codes "state p 2 10" ∷ codes "state c 1" ∷ [])
  -- 128 is no word of Int8, and 2 none of Bool.
  pub large_word : FitsNothing (codes "saved 1" ∷ codes "row 2" ∷ codes "at 2 0" ∷ codes "state p 2" ∷ codes "state c 128 1" ∷ [])
  pub no_truth : FitsNothing (codes "saved 1" ∷ codes "row 2" ∷ codes "at 2 0" ∷ codes "state p 2" ∷ codes "state c 10 2" ∷ [])
  -- The stop is at tick 4.
  pub past_stop : FitsNothing (codes "saved 1" ∷ codes "row 2" ∷ codes "at 5 0" ∷ codes "state p 2" ∷ codes "state c 10 1" ∷ [])
  -- There may be two steps of length zero after each other, and five rows, from 0 to 4.
  pub past_zeros : FitsNothing (codes "saved 1" ∷ codes "row 2" ∷ codes "at 2 3" ∷ codes "state p 2" ∷ codes "state c 10 1" ∷ [])
  pub past_rows : FitsNothing (codes "saved 1" ∷ codes "row 5" ∷ codes "at 2 0" ∷ codes "state p 2" ∷ codes "state c 10 1" ∷ [])
