-- The text of a trace with events as it is written, worked out by hand. A pulse occurs at every other step, and a tally has the
-- sum of the pulses before.
use Rattle.std.specs.Prelude.{◌≡◌, ℕ, pos, List, [], ◌∷◌, codes}
use Rattle.event_csv.specs.EventText.{event_text}
use Rattle.event_runs.specs.EventTrace.{EventRow}
use Rattle.event_runs.specs.Events.{Signal, Occurs, Absent}
use Rattle.worked_answers.specs.WorkedTables.{text_of}
use Rattle.worked_facts.specs.WorkedTrace.{pulses, tally_first}

-- A row at a tick: the signal of the pulse, and the tally.
abbrev pub event_row : ℕ → Signal → ℕ → EventRow
event_row time pulse tally = record { point = record { t = time; n = 0 }; signals = pulse ∷ Occurs (pos tally) ∷ [] }

abbrev pub first_rows : List EventRow
first_rows = event_row 0 Absent 0 ∷ event_row 1 (Occurs (pos 10)) 0 ∷ event_row 2 Absent 10 ∷ []

pub record EventTextsAreWorked : Type 0 where
  pub all : event_text pulses first_rows ≡ text_of (codes "time,index,p.e,c.k" ∷ codes "0,0,,0" ∷ codes "1,0,10,0" ∷ codes "2,0,,10" ∷ [])
  -- The samples name the tally first.
  pub sampled : event_text tally_first first_rows ≡ text_of (codes "time,index,c.k,p.e" ∷ codes "0,0,0," ∷ codes "1,0,0,10" ∷ codes "2,0,10," ∷ [])
  -- A pulse of 0 is an event, and not an absent one.
  pub zero : event_text pulses (event_row 0 (Occurs (pos 0)) 0 ∷ []) ≡ text_of (codes "time,index,p.e,c.k" ∷ codes "0,0,0,0" ∷ [])
