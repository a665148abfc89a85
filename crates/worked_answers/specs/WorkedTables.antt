-- The texts of systems that play tables, and records that are no table, worked out by hand.
use Rattle.std.specs.Prelude.{◌≡◌, ℕ, ℤ, pos, negsuc, List, [], ◌∷◌, ◌++◌, codes}
use Rattle.std.specs.List.{flat_map}
use Rattle.stimulus_tables.specs.TableSystems.{table_system}
use Rattle.stimulus_tables.specs.Tables.{Fields, LeavesForm}
use Rattle.stimulus_tables.specs.declared.moment.Moment.{Moment}
use Rattle.unit_tree.specs.Canonical.{canonical_text}

-- Lines with their ends.
abbrev pub text_of : List (List ℕ) → List ℕ
text_of lines = flat_map (λ line. line ++ 10 ∷ []) lines

abbrev pub moment : ℕ → List ℤ → Moment
moment time words = record { time = time; words = words }

pub record TablesAreWorked : Type 0 where
  -- A column that changes twice, once to a negative word.
  pub changes_twice : canonical_text (table_system (codes "v" ∷ []) (moment 0 (pos 5 ∷ [])) (moment 2 (negsuc 0 ∷ []) ∷ moment 7 (pos 4 ∷ []) ∷ []))
      ≡ text_of
      (codes "cosim 1"
      ∷ codes "unit Table"
      ∷ codes "state s0:Int64=5"
      ∷ codes "output v:Int64=s0"
      ∷ codes "max if t<2 then 2-t else 7-t"
      ∷ codes "step"
      ∷ codes "if t+h>=2"
      ∷ codes "s0:=-1"
      ∷ codes "end"
      ∷ codes "if t+h>=7"
      ∷ codes "s0:=4"
      ∷ codes "end"
      ∷ codes "end"
      ∷ codes "end"
      ∷ codes "instance table:Table"
      ∷ codes "end"
      ∷ codes "stop 7"
      ∷ [])
  -- One moment: nothing changes, so there is no limit and no step.
  pub one_moment : canonical_text (table_system (codes "v" ∷ []) (moment 0 (negsuc 2 ∷ [])) [])
      ≡ text_of
      (codes "cosim 1"
      ∷ codes "unit Table"
      ∷ codes "state s0:Int64=-3"
      ∷ codes "output v:Int64=s0"
      ∷ codes "end"
      ∷ codes "instance table:Table"
      ∷ codes "end"
      ∷ codes "stop 0"
      ∷ [])
  -- Two columns: a state for each, which are set in the order of the columns.
  pub two_columns : canonical_text (table_system (codes "v" ∷ codes "w" ∷ []) (moment 0 (pos 0 ∷ pos 1 ∷ [])) (moment 10 (pos 1 ∷ pos 0 ∷ []) ∷ []))
      ≡ text_of
      (codes "cosim 1"
      ∷ codes "unit Table"
      ∷ codes "state s0:Int64=0"
      ∷ codes "state s1:Int64=1"
      ∷ codes "output v:Int64=s0"
      ∷ codes "output w:Int64=s1"
      ∷ codes "max 10-t"
      ∷ codes "step"
      ∷ codes "if t+h>=10"
      ∷ codes "s0:=1"
      ∷ codes "s1:=0"
      ∷ codes "end"
      ∷ codes "end"
      ∷ codes "end"
      ∷ codes "instance table:Table"
      ∷ codes "end"
      ∷ codes "stop 10"
      ∷ [])

-- ---- Rule 36: records that are no table

-- A record with these two fields.
abbrev pub pair : List ℕ → List ℕ → Fields
pair first second = first ∷ second ∷ []

pub record TableFormsAreWorked : Type 0 where
  -- There is no record, or the first one is no head: its first field is another word, there is no column, or a name is reserved.
  pub empty : LeavesForm [] 1
  pub other_word : LeavesForm (pair (codes "Time") (codes "v") ∷ pair (codes "0") (codes "5") ∷ []) 1
  pub no_column : LeavesForm ((codes "time" ∷ []) ∷ []) 1
  pub reserved : LeavesForm (pair (codes "time") (codes "s15") ∷ []) 1
  -- There is no record after the head.
  pub no_moment : LeavesForm (pair (codes "time") (codes "v") ∷ []) 2
  -- A record has no word for the column, or one with a needless zero.
  pub no_word : LeavesForm (pair (codes "time") (codes "v") ∷ (codes "0" ∷ []) ∷ []) 2
  pub needless_zero : LeavesForm (pair (codes "time") (codes "v") ∷ pair (codes "0") (codes "05") ∷ []) 2
  -- The time is that of the record before.
  pub same_time : LeavesForm (pair (codes "time") (codes "v") ∷ pair (codes "0") (codes "5") ∷ pair (codes "0") (codes "6") ∷ []) 3
