-- Columns of the trace: which outputs it shows, and their titles.
use Rattle.std.specs.Prelude.{ℕ, List, ◌++◌, codes, Option, slice_get, IsSome}
use Rattle.std.specs.List.{filter_map, position_or_len}
use Rattle.std.specs.Option.{option_map, option_and_then}
use Rattle.std.specs.Str.{bytes_eq}
use Rattle.unit_tree.specs.Compositions.{place_of}
use Rattle.unit_tree.specs.Names.{Port, unit_of_instance, unit_at, output_at}
use Rattle.unit_tree.specs.Orders.{outputs_in}
use Rattle.unit_tree.specs.Plain.{plain_form, samples_or_all}
use Rattle.unit_tree.specs.declared.system.Column.{Column}
use Rattle.unit_tree.specs.declared.system.Instance.{Instance}
use Rattle.unit_tree.specs.declared.system.PortName.{PortName}
use Rattle.unit_tree.specs.declared.system.System.{System}
use Rattle.unit_tree.specs.declared.unit.Output.{Output}

-- ---- The columns of a system

-- The number of the instance that a port names.
abbrev pub instance_number : System → PortName → ℕ
instance_number system port = position_or_len (λ instance. bytes_eq instance.name port.instance) system.instances

-- The number of the output that a port names, among the outputs of the instance.
abbrev pub output_number : System → PortName → ℕ
output_number system port = position_or_len (λ output. bytes_eq output.name port.port) (outputs_in (unit_at system port))

-- The column of an output. Its numbers and its place are those in the plain form, in which the word of an event output is a
-- port.
abbrev pub column_of : System → PortName → Port → Column
column_of system port output = record {
  instance = instance_number (plain_form system) port;
  output = output_number (plain_form system) port;
  place = place_of (plain_form system) port;
  ty = output.ty;
  event = output.is_event;
}

-- The columns: the sampled outputs in the order of their lines or, where nothing is sampled, all outputs by instance and
-- by declaration. An event output is one column.
abbrev pub columns_of : System → List Column
columns_of system = filter_map (λ port. option_map (column_of system port) (output_at system port)) (samples_or_all system)

-- ---- Titles

-- An output's title in the header: `instance.output`.
abbrev pub port_title : Instance → Output → List ℕ
port_title instance output = instance.name ++ codes "." ++ output.name

-- The title of a column, where it is an output of a system without event ports.
abbrev pub title_in : System → Column → Option (List ℕ)
title_in system column =
    option_and_then (λ instance.
    option_and_then (λ unit.
    option_map (port_title instance) (slice_get unit.outputs column.output))
    (unit_of_instance system instance))
    (slice_get system.instances column.instance)

-- The title of a column of any system, by its plain form.
abbrev pub title_of : System → Column → Option (List ℕ)
title_of system column = title_in (plain_form system) column

-- The column is an output of the system.
abbrev pub IsOutput : System → Column → Type 0
IsOutput system column = IsSome (title_of system column)
