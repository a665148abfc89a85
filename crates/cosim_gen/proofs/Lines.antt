-- All lines of a generated system keep all rules.
use Rattle.std.proofs.Common.{◌≡◌, ℕ, zero, suc, ◌+◌, ◌-◌, ◌*◌, ◌<◌, ◌≤◌, Bool, true, false, cond, List, [], ◌∷◌, ◌++◌, map, length, refl, ap}
use Rattle.std.proofs.Common.{Ok, Err, pos, sym, subst, ◌∙◌, arith}
use Rattle.std.specs.Prelude.{codes, max, nat_lt}
use Rattle.std.specs.List.{AllByRecursion, count_by, filter_map, flat_map, fold, range_with_len}
use Rattle.std.specs.Option.{option_map, unwrap_or}
use Rattle.std.proofs.lemmas.Bool.Decides.{nat_tests}
use Rattle.std.proofs.lemmas.Grind.{flat_map-append}
use Rattle.std.proofs.lemmas.List.{length-append, length-map}
use Rattle.std.proofs.lemmas.List.Elements.{filter_map-append}
use Rattle.std.proofs.lemmas.List.FromFn.{length-range_with_len}
use Rattle.std.proofs.lemmas.List.Sums.{count_by-le-length, sum_by-append}
use Rattle.fixed_words.specs.Literals.{word_of_literal}
use Rattle.fixed_words.specs.Types.{is_word_of}
use Rattle.fixed_words.specs.declared.types.LiteralFault.TheVariants.{Range}
use Rattle.fixed_words.specs.declared.types.Ty.TheVariants.{Int64}
use Rattle.super_time.specs.Seconds.{seconds_of}
use Rattle.unit_tree.specs.Canonical.{canonical_parts, unit_parts}
use Rattle.unit_tree.specs.LineForms.{are_alike}
use Rattle.unit_tree.specs.Names.{Port, unit_of_instance}
use Rattle.unit_tree.specs.Parts as parts
use Rattle.unit_tree.specs.Plain.{plain_forms, presence_port}
use Rattle.unit_tree.specs.Sites.{TopScope, InstanceScope, Site, Headed, alone, headed_part, sites_of}
use Rattle.unit_tree.specs.WellFormed.{IsWellFormed, instance_declared, input_connected, resolution_of, unit_resolution}
use Rattle.unit_tree.specs.declared.line_form.LineForm.{LineForm}
use Rattle.unit_tree.specs.declared.line_form.LineForm.TheVariants as form
use Rattle.unit_tree.specs.declared.system.Instance.{Instance}
use Rattle.unit_tree.specs.declared.system.System.{System}
use Rattle.unit_tree.specs.declared.system.Wire.{Wire}
use Rattle.language_laws.proofs.NameLaws.{Hold, hold_all, instance_head, wire_head}
use Rattle.list_laws.proofs.Lists.{each_append, each_so}
use Rattle.list_laws.proofs.Truths.{le_asked, not_negative}
use Rattle.cosim_gen.specs.Generated.{CanGenerate, number, source_unit, mixer_unit, k_in, name_in, instance_in, port_in, source_of}
use Rattle.cosim_gen.specs.Generated.{wire_to, later_places, generated}
use Rattle.cosim_gen.proofs.Before.{NamedBefore, later_named, not_said, FedBefore, later_fed, not_fed}
use Rattle.cosim_gen.proofs.Ports.{mixer, output_there, input_there, source_before}
use Rattle.text_laws.proofs.KeptRules.{Keeps, all_told, well_formed, all_hold}
use Rattle.cosim_gen.proofs.UnitLines.{header, source_sites, behind_source, mixer_sites, source_keeps, mixer_keeps}

-- ---- Canonical lines, with their blocks

abbrev last_heads : ℕ → List Headed
last_heads rows = alone (form.Stop (number (rows - 1))) ∷ alone (form.Longest (number 1)) ∷ alone (form.Rows rows) ∷ []

heads_are : (instances : List Instance) (wires : List Wire) (rows : ℕ)
    → flat_map headed_part (
    map parts.HasInstance instances ++ map parts.Connects wires ++ (parts.Stop (number (rows - 1)) ∷ []) ++ (parts.Longest (number 1) ∷ []) ++ []
    ++ (parts.Rows rows ∷ [])
    ++ [])
    ≡ map instance_head instances ++ (map wire_head wires ++ last_heads rows)
heads_are [] [] rows = refl
heads_are [] (wire ∷ wires) rows = ap (λ rest. wire_head wire ∷ rest) (heads_are [] wires rows)
heads_are (instance ∷ instances) wires rows = ap (λ rest. instance_head instance ∷ rest) (heads_are instances wires rows)

-- ---- Numbers

small_word : (n : ℕ) → n < 1000 → is_word_of Int64 (pos n) ≡ true
small_word n small = grind (arith, nat_tests)

-- A number of seconds without decimals is the same number of ticks of one second.
ticks_are : (n : ℕ) → n ≤ 100000 → seconds_of 0 (number n) ≡ Ok n
ticks_are n few = grind (arith, nat_tests, not_negative)

-- Whether a line is that of an instance.
abbrev same_instance : LineForm → Bool
same_instance line = are_alike (form.Instance [] []) line

-- ---- The lines of a generated system

module _ (seed instances rows : ℕ) (can : CanGenerate instances rows) where
  abbrev system : System
  system = generated seed instances rows

  abbrev plain_lines : List LineForm → List LineForm
  plain_lines lines = flat_map (plain_forms system TopScope) lines

  more_lines : (earlier : List LineForm) (line : LineForm) → plain_lines (earlier ++ (line ∷ [])) ≡ plain_lines earlier ++ plain_lines (line ∷ [])
  more_lines earlier line = flat_map-append (plain_forms system TopScope) earlier (line ∷ [])

  -- The lines before the instance at a place are those of the instances before it, and no
  -- connection.
  record BeforeInstance (place : ℕ) (earlier : List LineForm) : Type 0 where
    named : AllByRecursion (NamedBefore place) (filter_map instance_declared earlier)
    alike : count_by same_instance (plain_lines earlier) ≡ place
    unfed : filter_map input_connected earlier ≡ []
    size : length (plain_lines earlier) ≡ place + 3

  abbrev instance_line : ℕ → LineForm
  instance_line place = form.Instance (name_in place) (codes "mix")

  behind_instance : (place : ℕ) (earlier : List LineForm) → BeforeInstance place earlier → BeforeInstance (place + 1) (earlier ++ (instance_line place ∷ []))
  behind_instance place earlier before = record {
    named =
        subst (AllByRecursion (NamedBefore (place + 1))) (sym (filter_map-append instance_declared earlier (instance_line place ∷ [])))
        (each_append (NamedBefore (place + 1)) (filter_map instance_declared earlier) (name_in place ∷ [])
        (each_so (NamedBefore place) (NamedBefore (place + 1)) (later_named place) (filter_map instance_declared earlier) before.named)
        (record { at = place; before = omega arith; is = refl }, tt));
    alike =
        ap (count_by same_instance) (more_lines earlier (instance_line place))
        ∙ sum_by-append (λ line. cond (same_instance line) 1 0) (plain_lines earlier) (instance_line place ∷ [])
        ∙ ap (λ count. count + 1) before.alike;
    unfed = filter_map-append input_connected earlier (instance_line place ∷ []) ∙ ap (λ ports. ports ++ []) before.unfed;
    size =
        ap length (more_lines earlier (instance_line place)) ∙ length-append (plain_lines earlier) (instance_line place ∷ [])
        ∙ omega (arith, before.size);
  }

  instance_keeps : (place : ℕ) (earlier : List LineForm) → place < 64 → BeforeInstance place earlier
      → Keeps system (record { scope = TopScope; earlier = earlier; line = instance_line place })
  instance_keeps place earlier few before =
      let unsaid = not_said place (filter_map instance_declared earlier) few before.named in
      let not_above : nat_lt 64 (place + 1) ≡ false = grind (arith, nat_tests) in
      rw (unsaid, (behind_instance place earlier before).alike, not_above) refl

  -- ---- Settings

  setting_word_is : (place : ℕ) → word_of_literal Int64 (number (k_in seed place)) ≡ Ok (pos (k_in seed place))
  setting_word_is place =
      ap (λ told. cond told (Ok (pos (k_in seed place))) (Err Range)) (small_word (k_in seed place) (omega arith))

  abbrev setting_line : ℕ → LineForm
  setting_line place = form.Setting (record { name = codes "k"; value = number (k_in seed place) })

  -- The lines of an instance of either unit.
  abbrev inside : List ℕ → ℕ → List Site
  inside unit place =
      record { scope = InstanceScope (instance_in seed unit place); earlier = []; line = setting_line place }
      ∷ record { scope = InstanceScope (instance_in seed unit place); earlier = setting_line place ∷ []; line = form.End }
      ∷ []

  source_inside : (place : ℕ) → AllByRecursion (Keeps system) (inside (codes "src") place)
  source_inside place = (rw (setting_word_is place) refl, (refl, tt))

  mixer_inside : (place : ℕ) → AllByRecursion (Keeps system) (inside (codes "mix") place)
  mixer_inside place = (rw (setting_word_is place) refl, (refl, tt))

  -- ---- Connections

  -- The lines before the connection of the component at a place include the connections of those
  -- before it.
  record BeforeWire (place : ℕ) (earlier : List LineForm) : Type 0 where
    fed : AllByRecursion (FedBefore place) (filter_map input_connected earlier)
    size : length (plain_lines earlier) ≤ 66 + place

  abbrev wire_line : ℕ → LineForm
  wire_line place = form.Connect (wire_to seed place)

  -- No event port is connected.
  plain_wire : (place : ℕ) → 1 ≤ place → place < instances → plain_forms system TopScope (wire_line place) ≡ wire_line place ∷ []
  plain_wire place some below =
      ap (λ found.
      map form.Connect (
      cond (unwrap_or (option_map (λ (output : Port). output.is_event) found) false)
      (record { from = presence_port (wire_to seed place).from; to = presence_port (wire_to seed place).to } ∷ wire_to seed place ∷ [])
      (wire_to seed place ∷ [])))
      (output_there seed instances rows can (source_of seed place) (omega (arith, source_before seed instances rows can place some)))

  behind_wire : (place : ℕ) (earlier : List LineForm) → 1 ≤ place → place < instances → BeforeWire place earlier
      → BeforeWire (place + 1) (earlier ++ (wire_line place ∷ []))
  behind_wire place earlier some below before = record {
    fed =
        subst (AllByRecursion (FedBefore (place + 1))) (sym (filter_map-append input_connected earlier (wire_line place ∷ [])))
        (each_append (FedBefore (place + 1)) (filter_map input_connected earlier) (port_in place (codes "u") ∷ [])
        (each_so (FedBefore place) (FedBefore (place + 1)) (later_fed place) (filter_map input_connected earlier) before.fed)
        (record { at = place; before = omega arith; is = refl }, tt));
    size =
        let one : length (plain_lines (wire_line place ∷ [])) ≡ 1 = ap (λ lines. length (lines ++ [])) (plain_wire place some below) in
        omega (
          arith,
          ap length (more_lines earlier (wire_line place)),
          length-append (plain_lines earlier) (plain_lines (wire_line place ∷ [])),
          before.size,
        );
  }

  wire_keeps : (place : ℕ) (earlier : List LineForm) → 1 ≤ place → place < instances → BeforeWire place earlier
      → Keeps system (record { scope = TopScope; earlier = earlier; line = wire_line place })
  wire_keeps place earlier some below before =
      let line = wire_line place in
      let all = plain_lines (earlier ++ (line ∷ [])) in
      let from = output_there seed instances rows can (source_of seed place) (omega (arith, source_before seed instances rows can place some)) in
      let to = input_there seed instances rows can place some below in
      let alone_is = plain_wire place some below in
      let many : count_by (are_alike line) all ≤ 2048 =
      omega (arith, count_by-le-length (are_alike line) all, (behind_wire place earlier some below before).size, can.few_instances) in
      let not_above : nat_lt 2048 (count_by (are_alike line) all) ≡ false = grind (arith, nat_tests) in
      let fed = not_fed place (filter_map input_connected earlier) (omega (arith, can.few_instances)) before.fed in
      rw (alone_is, from, to, fed, not_above) refl

  -- ---- The last lines

  mixers_tick : (all : List ℕ) → fold max 0 (map (λ instance. unit_resolution (unit_of_instance system instance)) (map (mixer seed) all)) ≡ 0
  mixers_tick [] = refl
  mixers_tick (place ∷ all) = mixers_tick all

  second_is : resolution_of system ≡ 0
  second_is = mixers_tick (later_places instances)

  abbrev last : List LineForm → LineForm → Site
  last earlier line = record { scope = TopScope; earlier = earlier; line = line }

  stop_keeps : (earlier : List LineForm) → Keeps system (last earlier (form.Stop (number (rows - 1))))
  stop_keeps earlier = rw (second_is, ticks_are (rows - 1) (omega (arith, can.few_rows)), le_asked 0 (rows - 1) (omega arith)) refl

  longest_keeps : (earlier : List LineForm) → Keeps system (last earlier (form.Longest (number 1)))
  longest_keeps earlier = rw second_is refl

  rows_keep : (earlier : List LineForm) → Keeps system (last earlier (form.Rows rows))
  rows_keep earlier =
      let count : length system.instances ≡ instances =
      omega (arith, length-map (later_places instances) (mixer seed), length-range_with_len 1 (instances - 1), can.one_instance) in
      let not_above : nat_lt 1000000 (rows * instances) ≡ false = grind (arith, nat_tests, can.few_in_all) in
      rw (count, not_above) refl

  -- ---- All lines

  last_hold : (earlier : List LineForm) → Hold (Keeps system) TopScope earlier (last_heads rows)
  last_hold earlier =
      let behind_stop : List LineForm = earlier ++ (form.Stop (number (rows - 1)) ∷ []) in
      (stop_keeps earlier, tt, (longest_keeps behind_stop, tt, (rows_keep (behind_stop ++ (form.Longest (number 1) ∷ [])), tt, tt)))

  wires_hold : (first count : ℕ) (earlier : List LineForm) → 1 ≤ first → first + count ≤ instances → BeforeWire first earlier
      → Hold (Keeps system) TopScope earlier (map wire_head (map (wire_to seed) (range_with_len first count)) ++ last_heads rows)
  wires_hold first zero earlier some few before = last_hold earlier
  wires_hold first (suc count) earlier some few before = (
    wire_keeps first earlier some (omega arith) before,
    tt,
    wires_hold (first + 1) count (earlier ++ (wire_line first ∷ [])) (omega arith) (omega arith) (behind_wire first earlier some (omega arith) before),
  )

  -- After all instances the connections begin.
  wires_begin : (earlier : List LineForm) → BeforeInstance instances earlier → BeforeWire 1 earlier
  wires_begin earlier before = record {
    fed = subst (AllByRecursion (FedBefore 1)) (sym before.unfed) tt;
    size = omega (arith, before.size, can.few_instances);
  }

  abbrev wire_heads_behind : List Headed
  wire_heads_behind = map wire_head (map (wire_to seed) (later_places instances)) ++ last_heads rows

  mixers_hold : (first count : ℕ) (earlier : List LineForm) → first + count ≡ instances → BeforeInstance first earlier
      → Hold (Keeps system) TopScope earlier (map instance_head (map (mixer seed) (range_with_len first count)) ++ wire_heads_behind)
  mixers_hold first zero earlier all before =
      let done : first ≡ instances = omega arith in
      wires_hold 1 (instances - 1) earlier (omega arith) (omega (arith, can.one_instance))
      (wires_begin earlier (subst (λ place. BeforeInstance place earlier) done before))
  mixers_hold first (suc count) earlier all before = (
    instance_keeps first earlier (omega (arith, can.few_instances)) before,
    mixer_inside first,
    mixers_hold (first + 1) count (earlier ++ (instance_line first ∷ [])) (omega arith) (behind_instance first earlier before),
  )

  abbrev behind_units : List LineForm
  behind_units = form.Header 1 ∷ form.Unit (codes "src") ∷ form.Unit (codes "mix") ∷ []

  abbrev source_line : LineForm
  source_line = form.Instance (name_in 0) (codes "src")

  source_instance_keeps : Keeps system (record { scope = TopScope; earlier = behind_units; line = source_line })
  source_instance_keeps = refl

  mixers_begin : BeforeInstance 1 (behind_units ++ (source_line ∷ []))
  mixers_begin = record { named = (record { at = 0; before = omega arith; is = refl }, tt); alike = refl; unfed = refl; size = refl }

  header_keeps : Keeps system (record { scope = TopScope; earlier = []; line = form.Header 1 })
  header_keeps = refl

  instances_hold : Hold (Keeps system) TopScope behind_units (map instance_head system.instances ++ (map wire_head system.wires ++ last_heads rows))
  instances_hold = (
    source_instance_keeps,
    source_inside 0,
    mixers_hold 1 (instances - 1) (behind_units ++ (source_line ∷ [])) (omega (arith, can.one_instance)) mixers_begin,
  )

  all_keep : AllByRecursion (Keeps system) (sites_of system)
  all_keep =
      let source_hold =
      hold_all (Keeps system) TopScope header (headed_part (parts.HasUnit (codes "src") (unit_parts source_unit)))
      (all_told system source_sites (source_keeps system.instances system.wires rows)) in
      let mixer_hold =
      hold_all (Keeps system) TopScope behind_source (headed_part (parts.HasUnit (codes "mix") (unit_parts mixer_unit)))
      (all_told system mixer_sites (mixer_keeps system.instances system.wires rows)) in
      let others = subst (Hold (Keeps system) TopScope behind_units) (sym (heads_are system.instances system.wires rows)) instances_hold in
      all_hold (Keeps system) TopScope [] (alone (form.Header 1) ∷ flat_map headed_part (canonical_parts system))
      (header_keeps, tt, (source_hold.0, source_hold.1, (mixer_hold.0, mixer_hold.1, others)))

  pub is_well_formed : IsWellFormed system
  is_well_formed = well_formed system all_keep
