-- The names of a system, and the ports that names of ports refer to.
use Rattle.std.specs.Prelude.{ℕ, List, map, Option}
use Rattle.std.specs.Option.{option_and_then}
use Rattle.unit_tree.specs.Names.{unit_at, input_ports, output_ports}
use Rattle.unit_tree.specs.declared.system.PortName.{PortName}
use Rattle.unit_tree.specs.declared.system.System.{System}
use Rattle.unit_names.specs.Found.{port_among}
use Rattle.unit_names.specs.declared.tables.Declared.{Declared}

abbrev pub unit_names : System → List (List ℕ)
unit_names system = map (λ unit. unit.name) system.units

abbrev pub instance_names : System → List (List ℕ)
instance_names system = map (λ instance. instance.name) system.instances

-- The input, and the output, that a port names, with its place among those of its unit.
abbrev pub input_found : System → PortName → Option Declared
input_found system port = option_and_then (λ unit. port_among (input_ports unit) port.port) (unit_at system port)

abbrev pub output_found : System → PortName → Option Declared
output_found system port = option_and_then (λ unit. port_among (output_ports unit) port.port) (unit_at system port)
