-- Outputs of a unit by their names.
use Rattle.std.proofs.Common.{◌≡◌, ℕ, true, false, Bool, cond, List, [], ◌∷◌, ◌++◌, map, Option, Some, None, refl, ap, sym, ◌∙◌, append_assoc}
use Rattle.std.specs.List.{find}
use Rattle.std.specs.Option.{option_map}
use Rattle.std.specs.Str.{bytes_eq}
use Rattle.fixed_words.specs.declared.types.Ty.{Ty}
use Rattle.trace_plan.specs.Shown.{outputs_called, events_called, ports_of, type_and_event}
use Rattle.unit_tree.specs.Names.{Port, output_ports, unit_of_instance, port_named}
use Rattle.unit_tree.specs.Orders.{port_of, outputs_in}
use Rattle.unit_tree.specs.declared.system.Instance.{Instance}
use Rattle.unit_tree.specs.declared.system.PortName.{PortName}
use Rattle.unit_tree.specs.declared.system.System.{System}
use Rattle.unit_tree.specs.declared.unit.EventOut.{EventOut}
use Rattle.unit_tree.specs.declared.unit.Output.{Output}
use Rattle.unit_tree.specs.declared.unit.Unit.{Unit}
use Rattle.language_laws.proofs.PlainNames.{of_output, of_event}

-- ---- The type of a port

abbrev found_output : List Output → List ℕ → Option Ty
found_output outputs name = option_map (λ (output : Output). output.ty) (find (λ (output : Output). bytes_eq output.name name) outputs)

abbrev found_event : List EventOut → List ℕ → Option Ty
found_event events name = option_map (λ (event : EventOut). event.ty) (find (λ (event : EventOut). bytes_eq event.name name) events)

abbrev ports : List Output → List EventOut → List Port
ports outputs events = map of_output outputs ++ map of_event events

plain_by : (told : Bool) (first : Output) (others : Option Output) (later : Option Port) (ty : Ty)
    → (option_map (λ (output : Output). output.ty) others ≡ Some ty → option_map type_and_event later ≡ Some (ty, false))
    → option_map (λ (output : Output). output.ty) (cond told (Some first) others) ≡ Some ty
    → option_map type_and_event (cond told (Some (of_output first)) later) ≡ Some (ty, false)
plain_by true first others later ty rest is = let same : first.ty ≡ ty = cc in ap (λ t. Some (t, false)) same
plain_by false first others later ty rest is = rest is

plain_among : (outputs : List Output) (events : List EventOut) (name : List ℕ) (ty : Ty) → found_output outputs name ≡ Some ty
    → option_map type_and_event (port_named (ports outputs events) name) ≡ Some (ty, false)
plain_among [] events name ty is = absurd (cc)
plain_among (first ∷ outputs) events name ty is =
    plain_by (bytes_eq first.name name) first (find (λ (output : Output). bytes_eq output.name name) outputs) (port_named (ports outputs events) name) ty
    (plain_among outputs events name ty) is

event_by : (told : Bool) (first : EventOut) (others : Option EventOut) (later : Option Port)
    → option_map type_and_event later ≡ option_map (λ ty. (ty, true)) (option_map (λ (event : EventOut). event.ty) others)
    → option_map type_and_event (cond told (Some (of_event first)) later)
    ≡ option_map (λ ty. (ty, true)) (option_map (λ (event : EventOut). event.ty) (cond told (Some first) others))
event_by true first others later rest = refl
event_by false first others later rest = rest

among_events : (events : List EventOut) (name : List ℕ)
    → option_map type_and_event (port_named (map of_event events) name) ≡ option_map (λ ty. (ty, true)) (found_event events name)
among_events [] name = refl
among_events (first ∷ events) name =
    event_by (bytes_eq first.name name) first (find (λ (event : EventOut). bytes_eq event.name name) events) (port_named (map of_event events) name)
    (among_events events name)

skip : (told : Bool) (first : Output) (others : Option Output) (later : Option Port) (given : Option (Ty × Bool))
    → (option_map (λ (output : Output). output.ty) others ≡ None → option_map type_and_event later ≡ given)
    → option_map (λ (output : Output). output.ty) (cond told (Some first) others) ≡ None
    → option_map type_and_event (cond told (Some (of_output first)) later) ≡ given
skip true first others later given rest is = absurd (cc)
skip false first others later given rest is = rest is

event_among : (outputs : List Output) (events : List EventOut) (name : List ℕ) → found_output outputs name ≡ None
    → option_map type_and_event (port_named (ports outputs events) name) ≡ option_map (λ ty. (ty, true)) (found_event events name)
event_among [] events name is = among_events events name
event_among (first ∷ outputs) events name is =
    skip (bytes_eq first.name name) first (find (λ (output : Output). bytes_eq output.name name) outputs) (port_named (ports outputs events) name)
    (option_map (λ ty. (ty, true)) (found_event events name)) (event_among outputs events name) is

module _ (unit : Unit) (name : List ℕ) (outputs : List Output) (outputs_are : outputs ≡ unit.outputs) (plain : Option Ty)
    (plain_is : plain ≡ found_output outputs name) where
  plain_of : found_output unit.outputs name ≡ plain
  plain_of = ap (λ some. found_output some name) (sym outputs_are) ∙ sym plain_is

  pub plain_found : (ty : Ty) → plain ≡ Some ty → Some (ty, false) ≡ option_map type_and_event (port_named (output_ports unit) name)
  plain_found ty is = sym (plain_among unit.outputs unit.events_out name ty (plain_of ∙ is))

  pub event_found : plain ≡ None → (events : List EventOut) → events ≡ unit.events_out → (given : Option Ty) → given ≡ found_event events name
      → option_map (λ ty. (ty, true)) given ≡ option_map type_and_event (port_named (output_ports unit) name)
  event_found none events events_are given is =
      ap (option_map (λ ty. (ty, true))) (is ∙ ap (λ some. found_event some name) events_are)
      ∙ sym (event_among unit.outputs unit.events_out name (plain_of ∙ none))

-- ---- All outputs of an instance

called_by : (instance : Instance) (outputs : List Output) (events : List EventOut)
    → map (λ (output : Port). port_of instance output.name) (ports outputs events) ≡ outputs_called instance.name outputs ++ events_called instance.name events
called_by instance [] [] = refl
called_by instance [] (event ∷ events) = ap (λ rest. port_of instance event.name ∷ rest) (called_by instance [] events)
called_by instance (output ∷ outputs) events = ap (λ rest. port_of instance output.name ∷ rest) (called_by instance outputs events)

pub ports_are : (system : System) (instance : Instance) (unit : Unit) → unit_of_instance system instance ≡ Some unit
    → ports_of system instance ≡ outputs_called instance.name unit.outputs ++ events_called instance.name unit.events_out
ports_are system instance unit is = ap (λ given. map (λ (output : Port). port_of instance output.name) (outputs_in given)) is
    ∙ called_by instance unit.outputs unit.events_out

-- The plain outputs of an instance were appended, and then its event outputs.
pub both_put : (system : System) (instance : Instance) (unit : Unit) → unit_of_instance system instance ≡ Some unit
    → (name : List ℕ) (outputs : List Output) (events : List EventOut) → name ≡ instance.name → outputs ≡ unit.outputs → events ≡ unit.events_out
    → (before between after : List PortName) → between ≡ before ++ outputs_called name outputs → after ≡ between ++ events_called name events
    → after ≡ before ++ ports_of system instance
both_put system instance unit is name outputs events name_is outputs_are events_are before between after one other =
    other
    ∙ ap (λ front. front ++ events_called name events) one
    ∙ append_assoc before (outputs_called name outputs) (events_called name events)
    ∙ ap (λ n. before ++ (outputs_called n outputs ++ events_called n events)) name_is
    ∙ ap (λ all. before ++ (outputs_called instance.name all ++ events_called instance.name events)) outputs_are
    ∙ ap (λ all. before ++ (outputs_called instance.name unit.outputs ++ events_called instance.name all)) events_are
    ∙ ap (λ ports. before ++ ports) (sym (ports_are system instance unit is))
