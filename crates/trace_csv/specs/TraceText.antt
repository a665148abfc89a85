-- Trace text: the header and the rows of a trace as CSV.
use Rattle.std.specs.Prelude.{◌≡◌, ◌<◌, ◌-◌, ℕ, Bool, true, ◌&&◌, ℤ, pos, List, [], ◌∷◌, ◌++◌, map, length, codes, slice_index_or, if◌then◌else◌}
use Rattle.std.specs.Fmt.{decimal}
use Rattle.std.specs.List.{filter_map, flat_map}
use Rattle.std.specs.Ordering.{int_eq}
use Rattle.fixed_words.specs.Texts.{text_of}
use Rattle.fixed_words.specs.Types.{is_word_of, AreDecimals}
use Rattle.super_time.specs.Seconds.{seconds_text_of}
use Rattle.super_time.specs.declared.point.Point.{Point}
use Rattle.trace_csv.specs.Columns.{columns_of, title_of}
use Rattle.trace_csv.specs.Lines.{line_of}
use Rattle.unit_tree.specs.Trace.{Row}
use Rattle.unit_tree.specs.WellFormed.{resolution_of}
use Rattle.unit_tree.specs.declared.system.Column.{Column}
use Rattle.unit_tree.specs.declared.system.System.{System}

-- ---- The header

-- `time`, `index`, and the columns as `instance.output`.
abbrev pub header_line : System → List Column → List ℕ
header_line system columns = line_of (codes "time" ∷ codes "index" ∷ filter_map (title_of system) columns)

-- ---- A row, from the words of all outputs of the plain form, by their places

-- No event occurs at the event output of a column: the word before its own is 0.
abbrev pub is_absent : List ℤ → Column → Bool
is_absent words column = column.event && int_eq (slice_index_or words (column.place - 1) (pos 0)) (pos 0)

-- The field of a column: its word, or empty where no event occurs.
abbrev pub field_of : List ℤ → Column → List ℕ
field_of words column = if is_absent words column then [] else text_of column.ty (slice_index_or words column.place (pos 0))

-- The time in seconds with exactly the decimals of the resolution, the index, and the fields of the columns.
abbrev pub row_fields : ℕ → List Column → Point → List ℤ → List (List ℕ)
row_fields resolution columns point words = seconds_text_of resolution point.t ∷ decimal point.n ∷ map (field_of words) columns

abbrev pub row_line : ℕ → List Column → Point → List ℤ → List ℕ
row_line resolution columns point words = line_of (row_fields resolution columns point words)

-- The column has a word of its type, and the column of an event output has a word before it.
pub record HasWord (words : List ℤ) (column : Column) : Type 0 where
  pub within : column.place < length words
  pub is_word : is_word_of column.ty (slice_index_or words column.place (pos 0)) ≡ true
  pub decimals : AreDecimals column.ty
  pub before : column.event ≡ true → 0 < column.place

-- ---- The trace

-- The text of a trace: the header, and a line for each row.
abbrev pub trace_text : System → List Row → List ℕ
trace_text system rows =
    header_line system (columns_of system)
    ++ flat_map (λ row. row_line (resolution_of system) (columns_of system) row.point row.words) rows
