-- The rows before a position of a trace.
use Rattle.std.proofs.Common.{◌≡◌, suc, List, [], ◌∷◌, ◌++◌, length, Option, Some, None, refl, sym, ap, ◌∙◌}
use Rattle.std.specs.List.{cons_option}
use Rattle.save_point.specs.Laws.{RowsAreBefore}
use Rattle.unit_tree.specs.Compositions.{Composition}
use Rattle.unit_tree.specs.Ports.{first_some, port_fault}
use Rattle.unit_tree.specs.Successor.{Position, ends_or, goes, successor}
use Rattle.unit_tree.specs.Trace.{Follows, IsTrace, Row, Stand, row_at, row_unless, rows_of}
use Rattle.unit_tree.specs.declared.ending.Ending.{Ending}

no_end : (end : Option Ending) (others : List (Option Ending)) (next there : Position) → ends_or (first_some (end ∷ others)) there ≡ goes next → end ≡ None
no_end None others next there on = refl
no_end (Some ending) others next there on = absurd (cc)

module _ (run : Composition) where
  -- A stand from which a run goes on has a row.
  has_no_fault : (here next : Stand) → successor run here.at here.ports ≡ goes next.at → port_fault run here.at.states here.ports ≡ None
  has_no_fault here next on = no_end (port_fault run here.at.states here.ports) _ next.at _ on

  one_row : (stand : Stand) (rows : List Row) → port_fault run stand.at.states stand.ports ≡ None
      → length (cons_option (row_at run stand) rows) ≡ suc (length rows)
  one_row stand rows is = ap (λ fault. length (cons_option (row_unless fault stand.at.point stand.ports) rows)) is

  rows_from : (from : Stand) (before : List Stand) (here : Stand) (later : List Stand) (ending : Ending) → Follows run from (before ++ (here ∷ later)) ending
      → length (rows_of run (from ∷ before)) ≡ suc (length before)
  rows_from from [] here later ending follows = one_row from [] (has_no_fault from here follows.0.0)
  rows_from from (next ∷ before) here later ending follows =
      one_row from (rows_of run (next ∷ before)) (has_no_fault from next follows.0.0) ∙ ap suc (rows_from next before here later ending follows.1)

  as_many : (before : List Stand) (here : Stand) (later : List Stand) (ending : Ending) → IsTrace run (before ++ (here ∷ later)) ending
      → length (rows_of run before) ≡ length before
  as_many [] here later ending trace = refl
  as_many (first ∷ before) here later ending trace = rows_from first before here later ending trace.2

pub rows_before : RowsAreBefore
rows_before run number at of = as_many run of.before of.here of.later of.ending of.trace ∙ sym of.place
