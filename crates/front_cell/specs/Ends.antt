-- What contracts see of a cell, of its writer and of a reader.
use Rattle.std.specs.Prelude.{ℕ}
use Rattle.atomic_table.specs.Seated.{TableId}
use Rattle.front_cell.specs.declared.front.Front.{Front}

-- The identity of a cell.
abbrev pub CellId : Type 0
CellId = TableId

-- A writer: its cell, what it stored last, how many stores it made, and how many loads the readers that it joined had made.
pub record WriterState : Type 0 where
  pub cell : CellId
  pub front : Front
  pub stores : ℕ
  pub joined : ℕ

-- A reader: its cell, what its last load returned, or before the first what the writer had at the split, and how many loads it
-- made.
pub record ReaderState : Type 0 where
  pub cell : CellId
  pub seen : Front
  pub loads : ℕ
