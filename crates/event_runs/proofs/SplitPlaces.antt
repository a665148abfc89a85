-- Places and connections of a plain form, from those of its system.
use Rattle.std.proofs.Common.{◌≡◌, ℕ, suc, ◌+◌, Bool, true, false, cond, List, [], ◌∷◌, ◌++◌, map, Option, Some, None, inl, inr, refl, ap, sym, ◌∙◌}
use Rattle.std.proofs.Common.{◌⊎◌, arith}
use Rattle.std.specs.Prelude.{not, slice_get}
use Rattle.std.specs.List.{AllByRecursion, flat_map, filter_map, cons_option, position_or_len}
use Rattle.std.specs.Option.{option_map}
use Rattle.std.proofs.lemmas.Option.{slice_get-map}
use Rattle.unit_tree.specs.Compositions.{place_of}
use Rattle.unit_tree.specs.Names.{same_port}
use Rattle.unit_tree.specs.Orders.{IsIn, outputs_of, source_if, sources_of}
use Rattle.unit_tree.specs.Plain.{presence_port, is_event_output, plain_wires}
use Rattle.unit_tree.specs.Printable.{IsRanged}
use Rattle.unit_tree.specs.WellFormed.{IsWellFormed}
use Rattle.unit_tree.specs.declared.system.PortName.{PortName}
use Rattle.unit_tree.specs.declared.system.System.{System}
use Rattle.unit_tree.specs.declared.system.Wire.{Wire}
use Rattle.language_laws.proofs.NameLaws.{same_port_of}
use Rattle.language_laws.proofs.PlainNames.{IsPlain, same_presence, plain_wire}
use Rattle.run_laws.proofs.PlaceOrders.{in_has, has_in, found_at, same_port_is}
use Rattle.run_laws.proofs.PlainOrders.{plain_of, presence_wire, same_ports, split_by, splits, plain_name}
use Rattle.run_laws.proofs.SplitOutputs.{outputs_split}
use Rattle.list_laws.proofs.Members.{Has, all_has}
use Rattle.list_laws.proofs.Truths.{true_is_false}
use Rattle.event_runs.specs.Readings.{plain_place}

-- ---- Ports that are not the same

not_same : (one other : PortName) (told : Bool) → same_port one other ≡ told → (one ≡ other → ⊥) → same_port one other ≡ false
not_same one other true is apart = absurd (apart (same_port_is one other is))
not_same one other false is apart = is

pub others : (one other : PortName) → (one ≡ other → ⊥) → same_port one other ≡ false
others one other apart = not_same one other (same_port one other) refl apart

-- A port with a plain name is not a `?` port.
pub no_presence : (port other : PortName) → IsPlain port.port → same_port port (presence_port other) ≡ false
no_presence port other name = others port (presence_port other) (λ is. name other.port (ap (λ (p : PortName). p.port) is))

pub presence_of_none : (port other : PortName) → IsPlain other.port → same_port (presence_port port) other ≡ false
presence_of_none port other name = others (presence_port port) other (λ is. name port.port (sym (ap (λ (p : PortName). p.port) is)))

pub presence_apart : (one other : PortName) → (one ≡ other → ⊥) → same_port (presence_port one) (presence_port other) ≡ false
presence_apart one other apart = others (presence_port one) (presence_port other) (λ is.
    apart (same_ports one other (ap (λ (p : PortName). p.instance) is) (same_presence one.port other.port (ap (λ (p : PortName). p.port) is))))

pub presence_same : (one other : PortName) → one ≡ other → same_port (presence_port one) (presence_port other) ≡ true
presence_same one other is = same_port_of (presence_port one) (presence_port other) (ap presence_port is)

-- ---- Places

module _ (system : System) (ranged : IsRanged system) (kept : IsWellFormed system) where
  abbrev pub event : PortName → Bool
  event = is_event_output system

  -- For each output of the system, whether it is an event output.
  abbrev pub shape : List Bool
  shape = map event (outputs_of system)

  abbrev parts : List PortName → List PortName
  parts ports = splits system ranged kept ports

  abbrev divided : Bool → PortName → List PortName
  divided told port = split_by system ranged kept told port

  abbrev place : PortName → List PortName → ℕ
  place port ports = position_or_len (same_port port) ports

  abbrev after : Bool → ℕ → ℕ
  after told later = cond (not told) (1 + later) 0

  passed : (told : Bool) (later : ℕ) → told ≡ false → after told later ≡ suc later
  passed told later is = ap (λ t. after t later) is ∙ (omega arith)

  -- The place of a port after the ones before it, by whether the first is the port, and whether the first is
  -- an event output.
  plain_by : (told event_first : Bool) (port first : PortName) (ports : List PortName) → IsPlain port.port → event port ≡ false
      → same_port port first ≡ told → event first ≡ event_first → place port (parts ports) ≡ plain_place (map event ports) (place port ports)
      → place port (divided event_first first ++ parts ports) ≡ plain_place (event_first ∷ map event ports) (after told (place port ports))
  plain_by true true port first ports name is_plain same is_event later =
      true_is_false (event port) (ap event (same_port_is port first same) ∙ is_event) is_plain
  plain_by true false port first ports name is_plain same is_event later = ap (λ t. after t (place port (parts ports))) same
  plain_by false true port first ports name is_plain same is_event later =
      passed (same_port port (presence_port first)) (place port (first ∷ parts ports)) (no_presence port first name)
      ∙ ap suc (passed (same_port port first) (place port (parts ports)) same)
      ∙ ap (λ n. suc (suc n)) later
      ∙ ap (plain_place (true ∷ map event ports)) (sym (passed false (place port ports) refl))
  plain_by false false port first ports name is_plain same is_event later =
      passed (same_port port first) (place port (parts ports)) same
      ∙ ap suc later
      ∙ ap (plain_place (false ∷ map event ports)) (sym (passed false (place port ports) refl))

  plain_at : (port : PortName) (ports : List PortName) → IsPlain port.port → event port ≡ false
      → place port (parts ports) ≡ plain_place (map event ports) (place port ports)
  plain_at port [] name is_plain = refl
  plain_at port (first ∷ ports) name is_plain =
      plain_by (same_port port first) (event first) port first ports name is_plain refl refl (plain_at port ports name is_plain)

  event_by : (told event_first : Bool) (port first : PortName) (ports : List PortName) → IsPlain port.port → event port ≡ true
      → same_port port first ≡ told → event first ≡ event_first → (first ≡ port) ⊎ Has ports port
      → (Has ports port → place port (parts ports) ≡ suc (plain_place (map event ports) (place port ports)))
      → place port (divided event_first first ++ parts ports) ≡ suc (plain_place (event_first ∷ map event ports) (after told (place port ports)))
  event_by true true port first ports name is_event same first_is has later =
      passed (same_port port (presence_port first)) (place port (first ∷ parts ports)) (no_presence port first name)
      ∙ ap (λ t. suc (after t (place port (parts ports)))) same
  event_by true false port first ports name is_event same first_is has later =
      true_is_false (event port) is_event (ap event (same_port_is port first same) ∙ first_is)
  event_by false event_first port first ports name is_event same first_is (inl is) later =
      true_is_false (same_port port first) (same_port_of port first (sym is)) same
  event_by false true port first ports name is_event same first_is (inr has) later =
      passed (same_port port (presence_port first)) (place port (first ∷ parts ports)) (no_presence port first name)
      ∙ ap suc (passed (same_port port first) (place port (parts ports)) same)
      ∙ ap (λ n. suc (suc n)) (later has)
      ∙ ap (λ n. suc (plain_place (true ∷ map event ports) n)) (sym (passed false (place port ports) refl))
  event_by false false port first ports name is_event same first_is (inr has) later =
      passed (same_port port first) (place port (parts ports)) same
      ∙ ap suc (later has)
      ∙ ap (λ n. suc (plain_place (false ∷ map event ports) n)) (sym (passed false (place port ports) refl))

  event_at : (port : PortName) (ports : List PortName) → IsPlain port.port → event port ≡ true → Has ports port
      → place port (parts ports) ≡ suc (plain_place (map event ports) (place port ports))
  event_at port [] name is_event has = absurd has
  event_at port (first ∷ ports) name is_event has =
      event_by (same_port port first) (event first) port first ports name is_event refl refl has (event_at port ports name is_event)

  presence_by : (told event_first : Bool) (port first : PortName) (ports : List PortName) → IsPlain first.port → event port ≡ true
      → same_port port first ≡ told → event first ≡ event_first
      → place (presence_port port) (parts ports) ≡ plain_place (map event ports) (place port ports)
      → place (presence_port port) (divided event_first first ++ parts ports) ≡ plain_place (event_first ∷ map event ports) (after told (place port ports))
  presence_by true true port first ports name is_event same first_is later =
      ap (λ t. after t (place (presence_port port) (first ∷ parts ports))) (presence_same port first (same_port_is port first same))
  presence_by true false port first ports name is_event same first_is later =
      true_is_false (event port) is_event (ap event (same_port_is port first same) ∙ first_is)
  presence_by false true port first ports name is_event same first_is later =
      passed (same_port (presence_port port) (presence_port first)) (place (presence_port port) (first ∷ parts ports))
      (presence_apart port first (λ is. true_is_false (same_port port first) (same_port_of port first is) same))
      ∙ ap suc (passed (same_port (presence_port port) first) (place (presence_port port) (parts ports)) (presence_of_none port first name))
      ∙ ap (λ n. suc (suc n)) later
      ∙ ap (plain_place (true ∷ map event ports)) (sym (passed false (place port ports) refl))
  presence_by false false port first ports name is_event same first_is later =
      passed (same_port (presence_port port) first) (place (presence_port port) (parts ports)) (presence_of_none port first name)
      ∙ ap suc later
      ∙ ap (plain_place (false ∷ map event ports)) (sym (passed false (place port ports) refl))

  presence_at : (port : PortName) (ports : List PortName) → AllByRecursion (λ (p : PortName). IsPlain p.port) ports → event port ≡ true
      → place (presence_port port) (parts ports) ≡ plain_place (map event ports) (place port ports)
  presence_at port [] names is_event = refl
  presence_at port (first ∷ ports) names is_event =
      presence_by (same_port port first) (event first) port first ports names.0 is_event refl refl (presence_at port ports names.1 is_event)

  -- ---- The outputs of the plain form

  abbrev plain : System
  plain = plain_of system

  split_outputs : outputs_of plain ≡ parts (outputs_of system)
  split_outputs = outputs_split system ranged kept

  output_names : AllByRecursion (λ (p : PortName). IsPlain p.port) (outputs_of system)
  output_names = all_has (λ (p : PortName). IsPlain p.port) (outputs_of system)
      (λ port has. plain_name system ranged kept port (has_in (outputs_of system) port has))

  pub place_of_plain : (port : PortName) → IsIn (outputs_of system) port → event port ≡ false
      → place_of plain port ≡ plain_place shape (place_of system port)
  place_of_plain port stands is_plain =
      ap (place port) split_outputs ∙ plain_at port (outputs_of system) (plain_name system ranged kept port stands) is_plain

  pub place_of_event : (port : PortName) → IsIn (outputs_of system) port → event port ≡ true
      → place_of plain port ≡ suc (plain_place shape (place_of system port))
  place_of_event port stands is_event =
      ap (place port) split_outputs
      ∙ event_at port (outputs_of system) (plain_name system ranged kept port stands) is_event (in_has (outputs_of system) port stands)

  pub place_of_presence : (port : PortName) → event port ≡ true → place_of plain (presence_port port) ≡ plain_place shape (place_of system port)
  place_of_presence port is_event = ap (place (presence_port port)) split_outputs ∙ presence_at port (outputs_of system) output_names is_event

  -- The shape has at the place of an output whether it is an event output.
  pub shape_at_place : (port : PortName) → IsIn (outputs_of system) port → slice_get shape (place_of system port) ≡ Some (event port)
  shape_at_place port stands = slice_get-map event (outputs_of system) (place_of system port) ∙ ap (option_map event) (found_at (outputs_of system) port stands)

  -- ---- Connections of the plain form

  source_by : (told : Bool) (port : PortName) (wire : Wire) (rest : List Wire) → IsPlain port.port
      → filter_map (source_if port) (cond told (presence_wire wire ∷ wire ∷ []) (wire ∷ []) ++ rest)
      ≡ cons_option (source_if port wire) (filter_map (source_if port) rest)
  source_by true port wire rest name =
      ap (λ same. cons_option (cond same (Some (presence_port wire.from)) None) (cons_option (source_if port wire) (filter_map (source_if port) rest)))
      (presence_of_none wire.to port name)
  source_by false port wire rest name = refl

  sources_among : (port : PortName) (wires : List Wire) → IsPlain port.port
      → filter_map (source_if port) (flat_map (plain_wires system) wires) ≡ filter_map (source_if port) wires
  sources_among port [] name = refl
  sources_among port (wire ∷ wires) name =
      source_by (event wire.from) port wire (flat_map (plain_wires system) wires) name
      ∙ ap (cons_option (source_if port wire)) (sources_among port wires name)

  -- A plain input has the sources that it has in the system.
  pub sources_of_plain : (port : PortName) → IsPlain port.port → sources_of plain port ≡ sources_of system port
  sources_of_plain port name = sources_among port system.wires name

  tells_by : (told same : Bool) (port : PortName) (wire : Wire) (rest : List Wire) → IsPlain wire.to.port → event wire.from ≡ told
      → same_port wire.to port ≡ same → (wire.to ≡ port → event wire.from ≡ true)
      → filter_map (source_if (presence_port port)) (cond told (presence_wire wire ∷ wire ∷ []) (wire ∷ []) ++ rest)
      ≡ cons_option (option_map presence_port (cond same (Some wire.from) None)) (filter_map (source_if (presence_port port)) rest)
  tells_by true true port wire rest name told same each =
      ap (λ is. cons_option (cond is (Some (presence_port wire.from)) None)
      (cons_option (source_if (presence_port port) wire) (filter_map (source_if (presence_port port)) rest)))
      (presence_same wire.to port (same_port_is wire.to port same))
      ∙ ap (λ is. presence_port wire.from ∷ cons_option (cond is (Some wire.from) None) (filter_map (source_if (presence_port port)) rest))
      (no_presence wire.to port name)
  tells_by true false port wire rest name told same each =
      ap (λ is. cons_option (cond is (Some (presence_port wire.from)) None)
      (cons_option (source_if (presence_port port) wire) (filter_map (source_if (presence_port port)) rest)))
      (presence_apart wire.to port (λ is. true_is_false (same_port wire.to port) (same_port_of wire.to port is) same))
      ∙ ap (λ is. cons_option (cond is (Some wire.from) None) (filter_map (source_if (presence_port port)) rest)) (no_presence wire.to port name)
  tells_by false true port wire rest name told same each =
      true_is_false (event wire.from) (each (same_port_is wire.to port same)) told
  tells_by false false port wire rest name told same each =
      ap (λ is. cons_option (cond is (Some wire.from) None) (filter_map (source_if (presence_port port)) rest)) (no_presence wire.to port name)

  mapped_on : (given : Option PortName) (ports : List PortName)
      → cons_option (option_map presence_port given) (map presence_port ports) ≡ map presence_port (cons_option given ports)
  mapped_on None ports = refl
  mapped_on (Some port) ports = refl

  tells_among : (port : PortName) (wires : List Wire) → ((wire : Wire) → Has wires wire → IsPlain wire.to.port)
      → ((wire : Wire) → Has wires wire → wire.to ≡ port → event wire.from ≡ true)
      → filter_map (source_if (presence_port port)) (flat_map (plain_wires system) wires) ≡ map presence_port (filter_map (source_if port) wires)
  tells_among port [] names each = refl
  tells_among port (wire ∷ wires) names each =
      tells_by (event wire.from) (same_port wire.to port) port wire (flat_map (plain_wires system) wires) (names wire (inl refl)) refl refl
      (each wire (inl refl))
      ∙ ap (cons_option (option_map presence_port (source_if port wire)))
      (tells_among port wires (λ other has. names other (inr has)) (λ other has. each other (inr has)))
      ∙ mapped_on (source_if port wire) (filter_map (source_if port) wires)

  -- The source of the `?` port of an event input is the `?` port of the event output that is connected to it.
  pub sources_of_presence : (port : PortName) → ((wire : Wire) → Has system.wires wire → wire.to ≡ port → event wire.from ≡ true)
      → sources_of plain (presence_port port) ≡ map presence_port (sources_of system port)
  sources_of_presence port each = tells_among port system.wires (λ wire has. plain_wire system ranged wire has) each
