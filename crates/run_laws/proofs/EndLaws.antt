-- How a run ends at a stand, or goes on.
use Rattle.std.proofs.Common.{refl}
use Rattle.unit_tree.specs.Compositions.{Composition}
use Rattle.run_laws.specs.RunLaws.{FirstEndsInOrder, EndsInOrder}
use Rattle.unit_tree.specs.Trace.{Stand, IsGoing}

pub ends_in_order : (run : Composition) (stand : Stand) → IsGoing run stand → EndsInOrder run stand
ends_in_order run stand going = record {
  trial_ends = λ ending is. rw (going.ports_known, going.before_stop, going.rows_left, going.limits_told, is) refl;
  redo_ends = λ ending whole redone is. rw (going.ports_known, going.before_stop, going.rows_left, going.limits_told, whole, redone, is) refl;
  zero_ends = λ ending whole accepted is. rw (going.ports_known, going.before_stop, going.rows_left, going.limits_told, whole, accepted, is) refl;
  whole_goes = λ whole same within. rw (going.ports_known, going.before_stop, going.rows_left, going.limits_told, whole, same, within) refl;
  redo_goes =
      λ whole redone accepted within. rw (going.ports_known, going.before_stop, going.rows_left, going.limits_told, whole, redone, accepted, within) refl;
}

pub first_ends_in_order : (run : Composition) (stand : Stand) → FirstEndsInOrder run stand
first_ends_in_order run stand = record {
  port_ends = λ ending is. rw is refl;
  stop_ends = λ ending known is. rw (known, is) refl;
  row_ends = λ ending known before is. rw (known, before, is) refl;
  max_ends = λ ending known before rows is. rw (known, before, rows, is) refl;
}
