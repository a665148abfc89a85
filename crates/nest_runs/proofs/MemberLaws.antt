-- The components of a nest read from the values of their inputs what the members of its flat system read from those of
-- outputs.
use Rattle.std.proofs.Common.{◌≡◌, ℕ, ◌+◌, List, [], ◌∷◌, ◌++◌, map, length, Option, Some, None, refl, sym, ap, ap₂, subst, ◌∙◌}
use Rattle.std.proofs.Common.{append_assoc}
use Rattle.std.specs.Prelude.{slice_get, unwrap_or}
use Rattle.std.specs.List.{cons_option, enumerate_from, filter_map, flat_map}
use Rattle.std.specs.Option.{option_and_then, option_map}
use Rattle.std.proofs.lemmas.List.{length-append, length-map}
use Rattle.std.proofs.lemmas.Simd.{map-map}
use Rattle.unit_tree.specs.Components.{start_word}
use Rattle.unit_tree.specs.Compositions.{AtPlace, component_with, factor_of, member_with, source_from, source_of}
use Rattle.unit_tree.specs.Names.{unit_of_instance}
use Rattle.unit_tree.specs.Orders.{port_of, sources_of}
use Rattle.unit_tree.specs.declared.system.Instance.{Instance}
use Rattle.unit_tree.specs.declared.system.PortName.{PortName}
use Rattle.unit_tree.specs.declared.system.System.{System}
use Rattle.unit_tree.specs.declared.unit.EventIn.{EventIn}
use Rattle.unit_tree.specs.declared.unit.Input.{Input}
use Rattle.unit_tree.specs.declared.unit.Unit.{Unit}
use Rattle.event_runs.specs.EventPorts.{Signals, EventMember, signal_in, word_from, signal_from}
use Rattle.event_runs.specs.EventRuns.{event_members_of, feed_from, feed_of, with_feeds}
use Rattle.event_runs.specs.Events.{Signal, Occurs, Absent, word_seen}
use Rattle.nest_text.specs.declared.nest.Nest.{Nest}
use Rattle.list_laws.proofs.Members.{at_seam}
use Rattle.nest_runs.specs.NestTrace.{PortValues, AreCarried, components_of, reading_from, reading_in_order, nest_members, plain_input, event_input}
use Rattle.nest_runs.specs.NestTrace.{inputs_of}
use Rattle.nest_runs.specs.NestTrace.{input_signals, output_signals}
use Rattle.nest_runs.specs.SoundNests.{IsSound}
use Rattle.nest_runs.proofs.CarryLaws.{input_has, first_given}
use Rattle.nest_runs.proofs.SightLaws.{SeesAlike, SeeAlike}
use Rattle.nest_runs.proofs.WireLaws.{flat}

-- ---- Places of one's own

-- The numbers of items, read from where the part that belongs to them begins.
read_own : {A : Type 0} (f : A → Option Signal) (items : List A) (all before later : Signals) → all ≡ before ++ (map f items ++ later)
    → map (λ (counted : ℕ × A). signal_in all counted.0) (enumerate_from (length before) items) ≡ map f items
read_own f [] all before later is = refl
read_own {A} f (item ∷ items) all before later is =
    let next = before ++ (f item ∷ []) in
    let long : length before + 1 ≡ length next = sym (length-append before (f item ∷ [])) in
    let cut : all ≡ next ++ (map f items ++ later) = is ∙ sym (append_assoc before (f item ∷ []) (map f items ++ later)) in
    ap₂ (λ first others. first ∷ others)
    (ap (λ found. option_and_then (λ (signal : Option Signal). signal) found)
    (ap (λ whole. slice_get whole (length before)) is ∙ at_seam before (f item) (map f items ++ later)))
    (ap (λ n. map (λ (counted : ℕ × A). signal_in all counted.0) (enumerate_from n items)) long ∙ read_own f items all next later cut)

module _ (nest : Nest) (sound : IsSound nest) (values : PortValues) (carried : AreCarried nest values) where
  abbrev parts : System
  parts = components_of nest

  abbrev whole : System
  whole = flat nest sound

  abbrev told : Signals
  told = output_signals nest values

  -- ---- An input

  plain_seen : (instance : Instance) (input : Input)
      → option_map word_seen (plain_input values instance input) ≡ word_from told (source_of whole instance input)
  plain_seen instance input =
      ap (λ given. option_map word_seen (unwrap_or given (Some (Occurs (start_word input.ty input.start)))))
      (input_has nest sound values carried (port_of instance input.name))
      ∙ by (sources_of whole (port_of instance input.name))
    where
      by : (sources : List PortName)
          → option_map word_seen (unwrap_or (first_given nest sound values carried sources) (Some (Occurs (start_word input.ty input.start))))
          ≡ word_from told (source_from whole input sources)
      by [] = refl
      by (port ∷ others) = refl

  event_seen : (instance : Instance) (event : EventIn) → event_input values instance event ≡ signal_from told (feed_of whole instance event)
  event_seen instance event =
      ap (λ given. unwrap_or given (Some Absent)) (input_has nest sound values carried (port_of instance event.name))
      ∙ by (sources_of whole (port_of instance event.name))
    where
      by : (sources : List PortName)
          → unwrap_or (first_given nest sound values carried sources) (Some Absent) ≡ signal_from told (feed_from whole sources)
      by [] = refl
      by (port ∷ others) = refl

  -- ---- A member

  abbrev part_with : Instance → Unit → EventMember
  part_with instance unit = record {
    member = record {
      component = component_with instance.settings unit;
      factor = factor_of parts unit;
      sources = map (source_of parts instance) unit.inputs;
    };
    feeds = map (feed_of parts instance) unit.events_in;
  }

  abbrev member_in : Instance → Unit → EventMember
  member_in instance unit = record {
    member = record {
      component = component_with instance.settings unit;
      factor = factor_of whole unit;
      sources = map (source_of whole instance) unit.inputs;
    };
    feeds = map (feed_of whole instance) unit.events_in;
  }

  member_alike : (instance : Instance) (unit : Unit) (all before later : Signals)
      → all ≡ before ++ (inputs_of values instance (Some unit) ++ later)
      → SeesAlike all told (reading_from (length before) (part_with instance unit)) (member_in instance unit)
  member_alike instance unit all before later is =
      let plains = map (plain_input values instance) unit.inputs in
      let events = map (event_input values instance) unit.events_in in
      let first : all ≡ before ++ (plains ++ (events ++ later)) = is ∙ ap (λ xs. before ++ xs) (append_assoc plains events later) in
      let second : all ≡ (before ++ plains) ++ (events ++ later) = first ∙ sym (append_assoc before plains (events ++ later)) in
      let long : length before + length unit.inputs ≡ length (before ++ plains) =
      ap (λ n. length before + n) (sym (length-map unit.inputs (plain_input values instance))) ∙ sym (length-append before plains) in
      record {
        other_is = refl;
        words =
            map-map (word_from all) (λ (counted : ℕ × Input). AtPlace counted.0) (enumerate_from (length before) unit.inputs)
            ∙ sym (map-map (option_map word_seen) (λ (counted : ℕ × Input). signal_in all counted.0) (enumerate_from (length before) unit.inputs))
            ∙ ap (map (option_map word_seen)) (read_own (plain_input values instance) unit.inputs all before (events ++ later) first)
            ∙ map-map (option_map word_seen) (plain_input values instance) unit.inputs
            ∙ each_seen unit.inputs
            ∙ sym (map-map (word_from told) (source_of whole instance) unit.inputs);
        feeds =
            map-map (signal_from all) (λ (counted : ℕ × EventIn). Some counted.0) (enumerate_from (length before + length unit.inputs) unit.events_in)
            ∙ ap (λ n. map (λ (counted : ℕ × EventIn). signal_in all counted.0) (enumerate_from n unit.events_in)) long
            ∙ read_own (event_input values instance) unit.events_in all (before ++ plains) later second
            ∙ each_event unit.events_in
            ∙ sym (map-map (signal_from told) (feed_of whole instance) unit.events_in);
      }
    where
      each_seen : (inputs : List Input) → map (λ input. option_map word_seen (plain_input values instance input)) inputs
          ≡ map (λ input. word_from told (source_of whole instance input)) inputs
      each_seen [] = refl
      each_seen (input ∷ inputs) = ap₂ (λ one others. one ∷ others) (plain_seen instance input) (each_seen inputs)

      each_event : (events : List EventIn)
          → map (event_input values instance) events ≡ map (λ event. signal_from told (feed_of whole instance event)) events
      each_event [] = refl
      each_event (event ∷ events) = ap₂ (λ one others. one ∷ others) (event_seen instance event) (each_event events)

  -- ---- All members

  abbrev parts_made : List Instance → List EventMember
  parts_made instances =
      filter_map (λ instance. option_map (with_feeds parts instance) (member_with parts instance (unit_of_instance parts instance))) instances

  abbrev members_made : List Instance → List EventMember
  members_made instances =
      filter_map (λ instance. option_map (with_feeds whole instance) (member_with whole instance (unit_of_instance whole instance))) instances

  abbrev inputs_from : List Instance → Signals
  inputs_from instances = flat_map (λ instance. inputs_of values instance (unit_of_instance parts instance)) instances

  abbrev part_and : Instance → Option Unit → List EventMember → List EventMember
  part_and instance given others = cons_option (option_map (with_feeds parts instance) (member_with parts instance given)) others

  abbrev member_and : Instance → Option Unit → List EventMember → List EventMember
  member_and instance given others = cons_option (option_map (with_feeds whole instance) (member_with whole instance given)) others

  all_alike : (all : Signals) (instances : List Instance) (before : Signals) → all ≡ before ++ inputs_from instances
      → SeeAlike all told (reading_in_order (length before) (parts_made instances)) (members_made instances)
  all_alike all [] before is = tt
  all_alike all (instance ∷ instances) before is = by (λ front cut. all_alike all instances front cut) (unit_of_instance parts instance) is
    where
      Others : Type 0
      Others = (before : Signals) → all ≡ before ++ inputs_from instances
          → SeeAlike all told (reading_in_order (length before) (parts_made instances)) (members_made instances)

      by : Others → (given : Option Unit) → all ≡ before ++ (inputs_of values instance given ++ inputs_from instances)
          → SeeAlike all told (reading_in_order (length before) (part_and instance given (parts_made instances)))
          (member_and instance given (members_made instances))
      by others None cut = others before cut
      by others (Some unit) cut =
          let mine = inputs_of values instance (Some unit) in
          let long : length before + (length unit.inputs + length unit.events_in) ≡ length (before ++ mine) =
          ap (λ n. length before + n)
          (ap₂ (λ one other. one + other) (sym (length-map unit.inputs (plain_input values instance)))
          (sym (length-map unit.events_in (event_input values instance)))
          ∙ sym (length-append (map (plain_input values instance) unit.inputs) (map (event_input values instance) unit.events_in)))
          ∙ sym (length-append before mine) in (
            member_alike instance unit all before (inputs_from instances) cut,
            subst (λ n. SeeAlike all told (reading_in_order n (parts_made instances)) (members_made instances)) (sym long)
                (others (before ++ mine) (cut ∙ sym (append_assoc before mine (inputs_from instances)))),
          )

  pub see_alike : SeeAlike (input_signals nest values) told (nest_members nest) (event_members_of whole)
  see_alike = all_alike (input_signals nest values) parts.instances [] refl
