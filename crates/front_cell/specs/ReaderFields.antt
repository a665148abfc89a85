-- What contracts see of the field of a reader.
use Rattle.std.specs.Prelude.{◌≡◌, ℕ}
use Rattle.crossbeam_utils.specs.Seq.{cell_view}
use Rattle.front_cell.specs.Ends.{CellId, ReaderState}
use Rattle.front_cell.specs.Front.{opening}
use Rattle.front_cell.specs.declared.front.Front.{Front}
use Rattle.front_cell.specs.declared.view.View.{View}
use Rattle.front_cell.specs.declared.view.View.TheVariants.{Saw}
use Rattle.front_cell.specs.declared.reader.Reader.TheInside.{Inside}

-- The state of a reader, from its view.
abbrev pub state_of : CellId → View → ReaderState
state_of cell (Saw seen loads) = record { cell = cell; seen = seen; loads = loads }
state_of cell _ = record { cell = cell; seen = opening; loads = 0 }

abbrev pub reader_state : Inside → ReaderState
reader_state r = state_of r.pass.table_id (cell_view r.pass)

-- Its view is that of a reader.
abbrev pub IsReader : Inside → Type 0
IsReader r = (seen : Front) × (loads : ℕ) × (cell_view r.pass ≡ Saw seen loads)
