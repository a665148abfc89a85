-- Ports as they are found by tables.
use Rattle.std.specs.Prelude.{Bool, false, not, ◌||◌, Option, Some, None}
use Rattle.std.specs.Bool.{beq}
use Rattle.unit_names.specs.declared.tables.Declared.{Declared}
use Rattle.unit_tree.specs.WellFormed.{same_type}

-- Rule 14, for the ports that were found: their types are not equal, or only one is an event port.
abbrev pub differ_found : Option Declared → Option Declared → Bool
differ_found (Some one) (Some other) = not (same_type one.ty other.ty) || not (beq one.is_event other.is_event)
differ_found _ _ = false

abbrev pub is_event_found : Option Declared → Bool
is_event_found (Some one) = one.is_event
is_event_found None = false
