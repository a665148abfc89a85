-- What contracts see of the field of a cell.
use Rattle.front_cell.specs.Ends.{CellId}
use Rattle.front_cell.specs.declared.cell.FrontCell.TheInside.{Inside}

abbrev pub cell_id : Inside → CellId
cell_id c = c.words.table.shared.table_id
