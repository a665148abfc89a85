-- The text of a trace, worked out by hand: a pulse occurs at every other step, and a tally has the sum of the pulses before.
use Rattle.std.specs.Prelude.{◌≡◌, ℕ, true, false, pos, List, [], ◌∷◌, ◌++◌, codes}
use Rattle.fixed_words.specs.declared.types.Ty.TheVariants as types
use Rattle.trace_csv.specs.Columns.{columns_of}
use Rattle.trace_csv.specs.TraceText.{trace_text}
use Rattle.unit_tree.specs.Parts as parts
use Rattle.unit_tree.specs.Parts.{system_of}
use Rattle.unit_tree.specs.Trace.{Row}
use Rattle.worked_facts.specs.WorkedEvents.{pulse_and_tally}
use Rattle.worked_facts.specs.WorkedSystems.{port}
use Rattle.unit_tree.specs.declared.system.Column.{Column}
use Rattle.unit_tree.specs.declared.system.System.{System}

-- A system that shows all outputs, and one that shows only the tally.
abbrev pub pulses : System
pulses = system_of 2 pulse_and_tally

abbrev pub tally_alone : System
tally_alone = system_of 2 (pulse_and_tally ++ (parts.Samples (port (codes "c") (codes "k")) ∷ []))

-- Both are shown, the tally before the pulse.
abbrev pub tally_first : System
tally_first = system_of 2 (pulse_and_tally ++ (parts.Samples (port (codes "c") (codes "k")) ∷ parts.Samples (port (codes "p") (codes "e")) ∷ []))

-- The pulse has the second of two places, and the tally the third.
abbrev pub pulse_column : Column
pulse_column = record { instance = 0; output = 1; place = 1; ty = types.Int64; event = true }

abbrev pub tally_column : Column
tally_column = record { instance = 1; output = 0; place = 2; ty = types.Int64; event = false }

-- A row at a tick: whether a pulse occurs, its word, and the tally.
abbrev pub row : ℕ → ℕ → ℕ → ℕ → Row
row time occurs pulse tally = record {
  point = record { t = time; n = 0 };
  words = pos occurs ∷ pos pulse ∷ pos tally ∷ [];
}

abbrev pub first_rows : List Row
first_rows = row 0 0 0 0 ∷ row 1 1 10 0 ∷ row 2 0 0 10 ∷ []

-- A line with its end.
abbrev pub ended : List ℕ → List ℕ
ended line = line ++ 10 ∷ []

pub record TextIsWorked : Type 0 where
  pub columns : columns_of pulses ≡ pulse_column ∷ tally_column ∷ []
  pub sampled : columns_of tally_first ≡ tally_column ∷ pulse_column ∷ []
  pub text : trace_text pulses first_rows ≡ ended (codes "time,index,p.e,c.k") ++ ended (codes "0,0,,0") ++ ended (codes "1,0,10,0") ++ ended (codes "2,0,,10")
  pub text_sampled : trace_text tally_alone first_rows
      ≡ ended (codes "time,index,c.k") ++ ended (codes "0,0,0") ++ ended (codes "1,0,0") ++ ended (codes "2,0,10")
