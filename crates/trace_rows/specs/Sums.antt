-- The sum of the words that a trace shows.
use Rattle.std.specs.Prelude.{ℕ, ℤ, pos, neg_ℤ, ◌≤ℤ◌, ◌+ℤ◌, List, [], ◌∷◌, slice_index_or, if◌then◌else◌}
use Rattle.trace_csv.specs.TraceText.{is_absent}
use Rattle.unit_tree.specs.Trace.{Row}
use Rattle.unit_tree.specs.declared.system.Column.{Column}

-- What the field of a column adds: its word, where a truth value is 0 or 1, and 0 where no event occurs.
abbrev pub word_shown : List ℤ → Column → ℤ
word_shown words column = if is_absent words column then pos 0 else slice_index_or words column.place (pos 0)

-- The sum of the words that a row shows.
abbrev pub row_sum : List Column → List ℤ → ℤ
row_sum [] words = pos 0
row_sum (column ∷ columns) words = word_shown words column +ℤ row_sum columns words

-- The sum of the words that rows show.
abbrev pub sum_shown : List Column → List Row → ℤ
sum_shown columns [] = pos 0
sum_shown columns (row ∷ rows) = row_sum columns row.words +ℤ sum_shown columns rows

-- The absolute value of the number is at most the bound.
pub record IsBoundedBy (bound : ℕ) (number : ℤ) : Type 0 where
  pub least : neg_ℤ (pos bound) ≤ℤ number
  pub greatest : number ≤ℤ pos bound
