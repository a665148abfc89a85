-- The outputs of a unit, with event outputs after all others.
use Rattle.std.proofs.Common.{◌≡◌, ℕ, Bool, true, false, not, ◌&&◌, ◌||◌, List, [], ◌∷◌, ◌++◌, map, Option, Some, refl, ap, sym, ◌∙◌}
use Rattle.std.proofs.Common.{append_assoc}
use Rattle.std.specs.Prelude.{if◌then◌else◌}
use Rattle.std.specs.List.{list_any}
use Rattle.std.specs.Option.{option_map, unwrap_or}
use Rattle.std.specs.Str.{bytes_eq}
use Rattle.unit_tree.specs.Names.{Port, output_ports, port_named}
use Rattle.unit_tree.specs.Orders.{port_of}
use Rattle.unit_tree.specs.declared.system.Instance.{Instance}
use Rattle.unit_tree.specs.declared.system.PortName.{PortName}
use Rattle.unit_tree.specs.declared.unit.EventOut.{EventOut}
use Rattle.unit_tree.specs.declared.unit.Output.{Output}
use Rattle.unit_tree.specs.declared.unit.Unit.{Unit}

abbrev plain_port : Output → Port
plain_port output = record { name = output.name; ty = output.ty; is_event = false; needs = output.needs }

abbrev event_port_of : EventOut → Port
event_port_of event = record { name = event.name; ty = event.ty; is_event = true; needs = event.needs }

abbrev is_of_events : Option Port → Bool
is_of_events port = unwrap_or (option_map (λ port. port.is_event) port) false

abbrev found_before : Bool → Port → Option Port → Option Port
found_before here port later = if here then Some port else later

event_or_later : (here among : Bool) (port : Port) (later : Option Port) → port.is_event ≡ true → among ≡ is_of_events later
    → (here || among) ≡ is_of_events (found_before here port later)
event_or_later true among port later is is_later = sym is
event_or_later false among port later is is_later = is_later

output_or_later : (here other among : Bool) (port : Port) (later : Option Port) → port.is_event ≡ false → (not other && among) ≡ is_of_events later
    → (not (here || other) && among) ≡ is_of_events (found_before here port later)
output_or_later true other among port later is is_later = sym is
output_or_later false other among port later is is_later = is_later

among_events : (events : List EventOut) (name : List ℕ)
    → list_any (λ event. bytes_eq event.name name) events ≡ is_of_events (port_named (map event_port_of events) name)
among_events [] name = refl
among_events (event ∷ events) name =
    event_or_later (bytes_eq event.name name) (list_any (λ event. bytes_eq event.name name) events) (event_port_of event)
    (port_named (map event_port_of events) name) refl (among_events events name)

among_ports : (outputs : List Output) (events : List EventOut) (name : List ℕ)
    → (not (list_any (λ output. bytes_eq output.name name) outputs) && list_any (λ event. bytes_eq event.name name) events)
    ≡ is_of_events (port_named (map plain_port outputs ++ map event_port_of events) name)
among_ports [] events name = among_events events name
among_ports (output ∷ outputs) events name =
    output_or_later (bytes_eq output.name name) (list_any (λ output. bytes_eq output.name name) outputs) (list_any (λ event. bytes_eq event.name name) events)
    (plain_port output) (port_named (map plain_port outputs ++ map event_port_of events) name) refl (among_ports outputs events name)

-- The first output with a name is an event output where no plain output has the name and an event
-- output does.
pub event_port : (unit : Unit) (name : List ℕ) (outputs : List Output) (events : List EventOut) (here among : Bool) → outputs ≡ unit.outputs
    → events ≡ unit.events_out → here ≡ list_any (λ output. bytes_eq output.name name) outputs → among ≡ list_any (λ event. bytes_eq event.name name) events
    → (not here && among) ≡ is_of_events (port_named (output_ports unit) name)
event_port unit name outputs events here among same_outputs same_events here_is among_is =
    ap (λ one. not one && among) (here_is ∙ ap (λ all. list_any (λ output. bytes_eq output.name name) all) same_outputs)
    ∙ ap (λ one. not (list_any (λ output. bytes_eq output.name name) unit.outputs) && one)
    (among_is ∙ ap (λ all. list_any (λ event. bytes_eq event.name name) all) same_events)
    ∙ among_ports unit.outputs unit.events_out name

named_events : (instance : Instance) (events : List EventOut)
    → map (λ event. port_of instance event.name) events ≡ map (λ (port : Port). port_of instance port.name) (map event_port_of events)
named_events instance [] = refl
named_events instance (event ∷ events) = ap (λ rest. port_of instance event.name ∷ rest) (named_events instance events)

named_ports : (instance : Instance) (outputs : List Output) (events : List EventOut)
    → map (λ output. port_of instance output.name) outputs ++ map (λ event. port_of instance event.name) events
    ≡ map (λ (port : Port). port_of instance port.name) (map plain_port outputs ++ map event_port_of events)
named_ports instance [] events = named_events instance events
named_ports instance (output ∷ outputs) events = ap (λ rest. port_of instance output.name ∷ rest) (named_ports instance outputs events)

ports_of_unit : (before : List PortName) (instance : Instance) (unit : Unit)
    → (before ++ map (λ output. port_of instance output.name) unit.outputs) ++ map (λ event. port_of instance event.name) unit.events_out
    ≡ before ++ map (λ (port : Port). port_of instance port.name) (output_ports unit)
ports_of_unit before instance unit =
    append_assoc before (map (λ output. port_of instance output.name) unit.outputs) (map (λ event. port_of instance event.name) unit.events_out)
    ∙ ap (λ rest. before ++ rest) (named_ports instance unit.outputs unit.events_out)

-- The names of an instance's outputs are appended to others, first those of its plain outputs.
pub ports_put : (before between after : List PortName) (instance : Instance) (unit : Unit) (outputs : List Output) (events : List EventOut)
    → outputs ≡ unit.outputs → events ≡ unit.events_out → between ≡ before ++ map (λ output. port_of instance output.name) outputs
    → after ≡ between ++ map (λ event. port_of instance event.name) events
    → after ≡ before ++ map (λ (port : Port). port_of instance port.name) (output_ports unit)
ports_put before between after instance unit outputs events same_outputs same_events put_outputs put_events =
    put_events
    ∙ ap (λ made. made ++ map (λ event. port_of instance event.name) events) put_outputs
    ∙ ap (λ others. (before ++ map (λ output. port_of instance output.name) others) ++ map (λ event. port_of instance event.name) events) same_outputs
    ∙ ap (λ others. (before ++ map (λ output. port_of instance output.name) unit.outputs) ++ map (λ event. port_of instance event.name) others) same_events
    ∙ ports_of_unit before instance unit
