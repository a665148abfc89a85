-- The saved text of a position, and texts that are no saved texts, worked out by hand.
use Rattle.std.specs.Prelude.{◌≡◌, ℕ, pos, negsuc, List, [], ◌∷◌, codes}
use Rattle.save_point.specs.SavedTexts.{BreaksAtLine, saved_text}
use Rattle.stimulus_tables.specs.TableSystems.{table_system}
use Rattle.unit_tree.specs.Successor.{Position}
use Rattle.worked_answers.specs.WorkedTables.{moment, text_of}

-- The third row of a table that changes twice, at 7 seconds. Its one state has the last word.
abbrev pub third_position : Position
third_position = record { point = record { t = 7; n = 0 }; number = 2; states = (negsuc 3 ∷ []) ∷ [] }

pub record SavedTextsAreWorked : Type 0 where
  -- The lines of the position come before the canonical text.
  pub third_row : saved_text (table_system (codes "v" ∷ []) (moment 0 (pos 5 ∷ [])) (moment 2 (negsuc 0 ∷ []) ∷ moment 7 (negsuc 3 ∷ []) ∷ [])) third_position
      ≡ text_of
      (codes "saved 1"
      ∷ codes "row 2"
      ∷ codes "at 7 0"
      ∷ codes "state table -4"
      ∷ codes "cosim 1"
      ∷ codes "unit Table"
      ∷ codes "state s0:Int64=5"
      ∷ codes "output v:Int64=s0"
      ∷ codes "max if t<2 then 2-t else 7-t"
      ∷ codes "step"
      ∷ codes "if t+h>=2"
      ∷ codes "s0:=-1"
      ∷ codes "end"
      ∷ codes "if t+h>=7"
      ∷ codes "s0:=-4"
      ∷ codes "end"
      ∷ codes "end"
      ∷ codes "end"
      ∷ codes "instance table:Table"
      ∷ codes "end"
      ∷ codes "stop 7"
      ∷ [])

-- ---- Rule 32: texts that are no saved texts

-- The text with these lines breaks the rule at the line.
abbrev pub NotSaved : List (List ℕ) → ℕ → Type 0
NotSaved lines number = BreaksAtLine (text_of lines) number

pub record SavedFormsAreWorked : Type 0 where
  -- A text without a line, and one of another version.
  pub empty : NotSaved [] 1
  pub other_version : NotSaved (codes "saved 2" ∷ codes "row 2" ∷ []) 1
  -- A row with a needless zero.
  pub needless_zero : NotSaved (codes "saved 1" ∷ codes "row 02" ∷ codes "at 2 0" ∷ codes "state a 2" ∷ []) 2
  -- There is no line of a point.
  pub no_point : NotSaved (codes "saved 1" ∷ codes "row 2" ∷ []) 3
  -- The second state has two spaces between its name and its word.
  pub two_spaces : NotSaved (codes "saved 1" ∷ codes "row 2" ∷ codes "at 2 0" ∷ codes "state a 2" ∷ codes "state b  3" ∷ codes "cosim 1" ∷ []) 5
