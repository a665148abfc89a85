-- Seats when a run is opened.
use Rattle.std.specs.Prelude.{◌≡◌, List, length}
use Rattle.snap_store.specs.Store.{Store}
use Rattle.trace_core.specs.Keeping.{inputs_before}
use Rattle.trace_core.specs.Seats.{AreSaved, AreAsLong, HaveOwnIds}
use Rattle.trace_core.specs.declared.seat.Seat.{Seat}
use Rattle.trace_units.specs.Fleets.{Fleet}

-- There is a seat for each unit, with a snapshot of its state, and a list as long as its inputs.
pub record AreSeated (store : Store) (seats : List Seat) (units : Fleet) : Type 0 where
  pub as_many : length seats ≡ length units.plan.run.members
  pub own_ids : HaveOwnIds seats
  pub saved : AreSaved store seats units.states
  pub before : AreAsLong (inputs_before seats) units.inputs
