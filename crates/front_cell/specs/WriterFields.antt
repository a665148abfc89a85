-- What contracts see of the fields of a writer.
use Rattle.std.specs.Prelude.{◌≡◌, ℕ}
use Rattle.crossbeam_utils.specs.Seq.{cell_view}
use Rattle.front_cell.specs.Ends.{WriterState}
use Rattle.front_cell.specs.declared.view.View.{View}
use Rattle.front_cell.specs.declared.view.View.TheVariants.{Wrote}
use Rattle.front_cell.specs.declared.writer.Writer.TheInside.{Inside}

-- The stores and the loads that a writer's view counts.
abbrev pub stores_of : View → ℕ
stores_of (Wrote front stores joined) = stores
stores_of _ = 0

abbrev pub joined_of : View → ℕ
joined_of (Wrote front stores joined) = joined
joined_of _ = 0

abbrev pub writer_state : Inside → WriterState
writer_state w = record { cell = w.pass.table_id; front = w.front; stores = stores_of (cell_view w.pass); joined = joined_of (cell_view w.pass) }

-- Its view has the contents that the writer has.
abbrev pub IsWriter : Inside → Type 0
IsWriter w = (stores : ℕ) × (joined : ℕ) × (cell_view w.pass ≡ Wrote w.front stores joined)
