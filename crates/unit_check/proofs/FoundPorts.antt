-- The port that tables find is the one of the definitions.
use Rattle.std.proofs.Common.{◌≡◌, ℕ, ◌+◌, Bool, true, false, List, [], ◌∷◌, map, Option, Some, None, bytes_eq, refl}
use mathlib.Core.Bool.{cond}
use Rattle.std.specs.Prelude.{⊤, is_none}
use Rattle.std.specs.Option.{option_and_then}
use Rattle.std.specs.Cmp.Lexicographic.{nat_list_eq_equiv}
use Rattle.unit_check.specs.Joins.{differ_found}
use Rattle.unit_names.specs.Entries.{port_as_named}
use Rattle.unit_names.specs.Found.{declared_from, port_among}
use Rattle.unit_names.specs.Systems.{input_found, output_found}
use Rattle.unit_names.specs.declared.tables.Declared.{Declared}
use Rattle.unit_tree.specs.Names.{Port, port_named, input_ports, output_ports, input_at, output_at, unit_at}
use Rattle.unit_tree.specs.WellFormed.{differ}
use Rattle.unit_tree.specs.declared.system.PortName.{PortName}
use Rattle.unit_tree.specs.declared.system.System.{System}
use Rattle.unit_tree.specs.declared.unit.Unit.{Unit}

-- Both are found, with the same type, and both or neither are event ports; or none is found.
abbrev pub Same : Option Declared → Option Port → Type 0
Same None None = ⊤
Same (Some declared) (Some port) = (declared.ty ≡ port.ty) × (declared.is_event ≡ port.is_event)
Same _ _ = ⊥

same_from : (place : ℕ) (ports : List Port) (name : List ℕ) → Same (declared_from place (map port_as_named ports) name) (port_named ports name)
same_from place [] name = _
same_from place (port ∷ ports) name =
    step (bytes_eq name port.name) (bytes_eq port.name name) (nat_list_eq_equiv.symm name port.name) (same_from (place + 1) ports name)
  where
    step : (asked stored : Bool) → asked ≡ stored → Same (declared_from (place + 1) (map port_as_named ports) name) (port_named ports name)
        → Same (cond asked (Some (record { place = place; ty = port.ty; is_event = port.is_event })) (declared_from (place + 1) (map port_as_named ports) name))
        (cond stored (Some port) (port_named ports name))
    step true true is rest = (refl, refl)
    step false false is rest = rest
    step true false is rest = absurd (cc)
    step false true is rest = absurd (cc)

in_unit : (ports : Unit → List Port) (name : List ℕ) (unit : Option Unit)
    → Same (option_and_then (λ u. port_among (ports u) name) unit) (option_and_then (λ u. port_named (ports u) name) unit)
in_unit ports name None = _
in_unit ports name (Some unit) = same_from 0 (ports unit) name

pub output_is : (system : System) (port : PortName) → Same (output_found system port) (output_at system port)
output_is system port = in_unit output_ports port.port (unit_at system port)

pub input_is : (system : System) (port : PortName) → Same (input_found system port) (input_at system port)
input_is system port = in_unit input_ports port.port (unit_at system port)

same_none : (found : Option Declared) (port : Option Port) → Same found port → is_none found ≡ is_none port
same_none None None same = refl
same_none (Some declared) (Some port) same = refl
same_none None (Some port) same = absurd same
same_none (Some declared) None same = absurd same

pub no_output : (system : System) (port : PortName) → is_none (output_found system port) ≡ is_none (output_at system port)
no_output system port = same_none (output_found system port) (output_at system port) (output_is system port)

pub no_input : (system : System) (port : PortName) → is_none (input_found system port) ≡ is_none (input_at system port)
no_input system port = same_none (input_found system port) (input_at system port) (input_is system port)

same_differ : (one other : Option Declared) (from to : Option Port) → Same one from → Same other to → differ_found one other ≡ differ from to
same_differ None other None to is also = refl
same_differ (Some one) None (Some from) None is also = refl
same_differ (Some one) (Some other) (Some from) (Some to) is also = rw (is.0, is.1, also.0, also.1) refl
same_differ None other (Some from) to is also = absurd is
same_differ (Some one) other None to is also = absurd is
same_differ (Some one) None (Some from) (Some to) is also = absurd also
same_differ (Some one) (Some other) (Some from) None is also = absurd also

pub ends_differ : (system : System) (from to : PortName)
    → differ_found (output_found system from) (input_found system to) ≡ differ (output_at system from) (input_at system to)
ends_differ system from to =
    same_differ (output_found system from) (input_found system to) (output_at system from) (input_at system to) (output_is system from) (input_is system to)
