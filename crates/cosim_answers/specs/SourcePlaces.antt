-- Where a run ended in a system, from where it ended in the plain form.
use Rattle.std.specs.Prelude.{ℕ, Bool, List, [], slice_get}
use Rattle.std.specs.Option.{option_and_then, option_map, unwrap_or}
use Rattle.event_runs.specs.Readings.{event_shape, read_ending_by, read_place}
use Rattle.unit_tree.specs.Names.{unit_of_instance}
use Rattle.unit_tree.specs.declared.ending.Ending.{Ending}
use Rattle.unit_tree.specs.declared.ending.Place.{Place}
use Rattle.unit_tree.specs.declared.system.System.{System}

-- For each output of an instance, by its number, whether it is an event output.
abbrev pub instance_shape : System → ℕ → List Bool
instance_shape system instance =
    unwrap_or (option_map event_shape (option_and_then (unit_of_instance system) (slice_get system.instances instance))) []

-- The place of an instance in the system, and the end, that belong to those of the plain form.
abbrev pub source_place : System → ℕ → Place → Place
source_place system instance = read_place (instance_shape system instance)

abbrev pub source_end : System → Ending → Ending
source_end system = read_ending_by (instance_shape system)
