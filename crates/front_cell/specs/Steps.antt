-- The effect of one step on a cell on the view of the end that makes it.
use Rattle.std.specs.Prelude.{◌≡◌, ◌+◌}
use Rattle.front_cell.specs.Front.{IsBehind}
use Rattle.front_cell.specs.declared.front.Front.{Front}
use Rattle.front_cell.specs.declared.view.View.{View}
use Rattle.front_cell.specs.declared.view.View.TheVariants.{Wrote, Saw, Spent}

-- A store: the writer's view has what the cell then has, and one more store.
abbrev pub Stores : View → Front → Front → View → Type 0
Stores (Wrote front stores joined) before after w = w ≡ Wrote after (stores + 1) joined
Stores _ before after w = Unit {0}

-- A load: the reader has seen what the cell has, which is not older than what it saw before, and has one more load.
abbrev pub Loads : View → Front → Front → View → Type 0
Loads (Saw seen loads) before after w = (w ≡ Saw after (loads + 1)) × IsBehind seen after
Loads _ before after w = Unit {0}

-- A split: the new reader has seen what the writer stored last, and has made no load.
abbrev pub reader_of : View → View
reader_of (Wrote front stores joined) = Saw front 0
reader_of _ = Spent

-- A join: the writer's view counts the reader's loads.
abbrev pub after_join : View → View → View
after_join (Wrote front stores joined) (Saw seen loads) = Wrote front stores (joined + loads)
after_join v _ = v
