-- Rule 16 by the place of a line.
use Rattle.std.proofs.Common.{◌≡◌, ℕ, suc, ◌+◌, ◌-◌, ◌*◌, nat_lt, Bool, true, false, ◌||◌, List, [], ◌∷◌, ◌++◌, map, length, take, Option, Some, None}
use Rattle.std.proofs.Common.{append_assoc, refl, ap, sym, subst, ◌∙◌, arith, map-id}
use Rattle.std.specs.Prelude.{if◌then◌else◌, ⊤}
use Rattle.std.specs.List.{AllByRecursion, count_by, flat_map, filter_map, list_all, list_any}
use Rattle.std.proofs.lemmas.Grind.{flat_map-append}
use Rattle.std.proofs.lemmas.List.{append-nil, length-append, map-append}
use Rattle.std.proofs.lemmas.List.Elements.{filter_map-append}
use Rattle.std.proofs.Math.Seq.{take-append_seam}
use Rattle.std.proofs.lemmas.List.Sums.{sum_by-append}
use Rattle.fixed_words.specs.declared.types.Literal.TheVariants as literal
use Rattle.unit_check.proofs.WalksOfParts as bridge
use Rattle.unit_check.proofs.SiteWalks.{heads, sites_on, line_sites, line_sites_on}
use Rattle.unit_check.proofs.SitePlaces.{lines_of, lines_in_step}
use Rattle.unit_check.proofs.SystemLines.{plain_names, port_lines, step_heads, block, unit_head, instance_head, whole}
use Rattle.unit_check.proofs.BlockFacts.{none_tell, alone_tell, none_alone, whole_tells}
use Rattle.unit_check.specs.Counts.{plain_wire_count, exceeds_at}
use Rattle.unit_check.specs.Walks.{place_of}
use Rattle.unit_tree.specs.Canonical.{optional}
use Rattle.unit_tree.specs.LineForms.{are_alike}
use Rattle.unit_tree.specs.Parts.{line_forms}
use Rattle.unit_tree.specs.Plain.{plain_forms, plain_wires, is_event_output, presence_port}
use Rattle.unit_tree.specs.Sites.{Scope, TopScope, UnitScope, StepScope, InstanceScope, Site, Headed, alone, sites, is_step_line, holds}
use Rattle.unit_tree.specs.WellFormed.{exceeds, is_one_too_many, name_declared, unit_declared, instance_declared, input_connected, port_sampled}
use Rattle.unit_tree.specs.declared.line.Line.{Line}
use Rattle.unit_tree.specs.declared.line_form.LineForm.{LineForm}
use Rattle.unit_tree.specs.declared.line_form.LineForm.TheVariants as form
use Rattle.unit_tree.specs.declared.system.PortName.{PortName}
use Rattle.unit_tree.specs.declared.system.System.{System}
use Rattle.unit_tree.specs.declared.system.Wire.{Wire}
use Rattle.unit_tree.specs.declared.unit.Unit.{Unit}
use Rattle.language_laws.proofs.BlockLaws.{all_step_lines}
use Rattle.std.proofs.lemmas.Bool.{and_parts}
use Rattle.list_laws.proofs.Lists.{each_append}
use Rattle.list_laws.proofs.Truths.{or_nothing}

or_twice : (met : Bool) → met ≡ (met || (met || false))
or_twice true = refl
or_twice false = refl

module _ (system : System) (scope : Scope) where
  -- How many lines of the plain form that some lines become have the same keyword as this one.
  abbrev pub alike : LineForm → List LineForm → ℕ
  alike probe lines = count_by (are_alike probe) (flat_map (plain_forms system scope) lines)

  pub alike_adds : (probe : LineForm) (front behind : List LineForm) → alike probe (front ++ behind) ≡ alike probe front + alike probe behind
  alike_adds probe front behind =
      ap (count_by (are_alike probe)) (flat_map-append (plain_forms system scope) front behind)
      ∙ sum_by-append _ (flat_map (plain_forms system scope) front) (flat_map (plain_forms system scope) behind)

  -- Lines, with the number of plain lines that they count for and the number of names that they
  -- declare.
  abbrev Measured : LineForm → List LineForm → ℕ → ℕ → Type 0
  Measured probe lines count names = (alike probe lines ≡ count) × (bridge.told name_declared lines ≡ names)

  measured_both : (probe : LineForm) (front behind : List LineForm) (c n d m : ℕ) → Measured probe front c n → Measured probe behind d m
      → Measured probe (front ++ behind) (c + d) (n + m)
  measured_both probe front behind c n d m one other =
      let counts = alike_adds probe front behind in
      let names = bridge.told_adds name_declared front behind in
      (simp (one.0, other.0) at counts, simp (one.1, other.1) at names)

  measured_each : {A : Type 0} (probe : LineForm) (weight : ℕ) (said : A → LineForm) → ((x : A) → alike probe (said x ∷ []) ≡ weight)
      → ((x : A) → bridge.told name_declared (said x ∷ []) ≡ 1) → (xs : List A) → Measured probe (map said xs) (weight * length xs) (length xs)
  measured_each probe weight said weighs tells [] = (grind (arith), refl)
  measured_each probe weight said weighs tells (x ∷ xs) =
      let rest = measured_each probe weight said weighs tells xs in
      let counts = alike_adds probe (said x ∷ []) (map said xs) in
      let names = bridge.told_adds name_declared (said x ∷ []) (map said xs) in
      let w = weighs x in
      let t = tells x in
      let c = rest.0 in
      let n = rest.1 in
      (counts ∙ rw (w, c) (grind (arith)), names ∙ rw (t, n) (grind (arith)))

  -- Lines of one form after others.
  abbrev EachBehind : {A : Type 0} → (Site → Type 0) → (A → LineForm) → List LineForm → Type 0
  EachBehind {A} P said before = (front : List A) (x : A) → P (record { scope = scope; earlier = before ++ map said front; line = said x })

  each_behind : {A : Type 0} (P : Site → Type 0) (said : A → LineForm) (before : List LineForm) → EachBehind P said before → (front xs : List A)
      → AllByRecursion P (line_sites scope (before ++ map said front) (map said xs))
  each_behind P said before holds front [] = _
  each_behind P said before holds front (x ∷ xs) = (
    holds front x,
    subst (λ earlier. AllByRecursion P (line_sites scope earlier (map said xs)))
        (ap (λ lines. before ++ lines) (map-append said front (x ∷ [])) ∙ sym (append_assoc before (map said front) (said x ∷ [])))
        (each_behind P said before holds (front ++ (x ∷ [])) xs),
  )

  -- How many lines, up to a line of a form, have the same keyword as it, and which place it has.
  counts_at : {A : Type 0} (probe : LineForm) (weight : ℕ) (said : A → LineForm) → ((x : A) → alike probe (said x ∷ []) ≡ weight)
      → ((x : A) → bridge.told name_declared (said x ∷ []) ≡ 1) → (before : List LineForm) (c n : ℕ) → Measured probe before c n → (front : List A) (x : A)
      → (alike probe ((before ++ map said front) ++ (said x ∷ [])) ≡ (c + weight * length front) + weight)
      × (bridge.told name_declared (before ++ map said front) ≡ n + length front)
  counts_at probe weight said weighs tells before c n measured front x =
      let each = measured_each probe weight said weighs tells front in
      let earlier = measured_both probe before (map said front) c n (weight * length front) (length front) measured each in
      let counts = alike_adds probe (before ++ map said front) (said x ∷ []) in
      let e = earlier.0 in
      let w = weighs x in
      (counts ∙ rw (e, w) refl, earlier.1)

-- ---- In a unit

module _ (system : System) where
  abbrev pub Agrees : Site → Type 0
  Agrees site = exceeds_at system site.scope (place_of site.scope site.earlier site.line) site.line ≡ exceeds system site.scope site.earlier site.line

  abbrev OfUnit : Scope → Type 0 → Type 0
  OfUnit (UnitScope unit) claim = claim
  OfUnit _ claim = ⊤

  -- What is known of lines of units.
  abbrev pub InUnit : Site → Type 0
  InUnit site = OfUnit site.scope (Agrees site)

  all_on : (scope : Scope) (earlier : List LineForm) (front behind : List Headed) → AllByRecursion InUnit (sites scope earlier front)
      → AllByRecursion InUnit (sites scope (earlier ++ heads front) behind) → AllByRecursion InUnit (sites scope earlier (front ++ behind))
  all_on scope earlier front behind one other =
      subst (AllByRecursion InUnit) (sym (sites_on scope earlier front behind))
      (each_append InUnit (sites scope earlier front) (sites scope (earlier ++ heads front) behind) one other)

  lines_on : (scope : Scope) (earlier front behind : List LineForm) → AllByRecursion InUnit (line_sites scope earlier front)
      → AllByRecursion InUnit (line_sites scope (earlier ++ front) behind) → AllByRecursion InUnit (line_sites scope earlier (front ++ behind))
  lines_on scope earlier front behind one other =
      subst (AllByRecursion InUnit) (sym (line_sites_on scope earlier front behind))
      (each_append InUnit (line_sites scope earlier front) (line_sites scope (earlier ++ front) behind) one other)

  in_step : (unit : Unit) (earlier lines : List LineForm) → AllByRecursion InUnit (line_sites (StepScope unit) earlier lines)
  in_step unit earlier [] = _
  in_step unit earlier (line ∷ lines) = (_, in_step unit (earlier ++ (line ∷ [])) lines)

  module _ (unit : Unit) where
    abbrev scope : Scope
    scope = UnitScope unit

    abbrev resolution : List LineForm
    resolution = heads (map alone (optional form.Resolution unit.resolution))

    abbrev params : List LineForm
    params = map form.Param unit.params

    abbrev states : List LineForm
    states = map form.State unit.states

    abbrev locals : List LineForm
    locals = map form.Local unit.locals

    abbrev inputs : List LineForm
    inputs = map form.Input unit.inputs

    abbrev events_in : List LineForm
    events_in = map form.EventInput unit.events_in

    abbrev outputs : List LineForm
    outputs = map form.Output unit.outputs

    abbrev Counted : LineForm → List LineForm → ℕ → ℕ → Type 0
    Counted = Measured system scope

    -- What comes before each list, by how many lines of it have the same keyword as one.
    module _ (probe : LineForm) (on_resolution : (x : ℕ) → alike system scope probe (form.Resolution x ∷ []) ≡ 0) where
      at_first : Counted probe resolution 0 0
      at_first = step unit.resolution
        where
          step : (given : Option ℕ) → Counted probe (heads (map alone (optional form.Resolution given))) 0 0
          step None = (refl, refl)
          step (Some x) = (on_resolution x, refl)

      module _ (on_param : (x : _) → alike system scope probe (form.Param x ∷ []) ≡ 0) where
        behind_params : Counted probe (resolution ++ params) (0 + 0 * length unit.params) (0 + length unit.params)
        behind_params =
            measured_both system scope probe resolution params _ _ _ _ at_first (measured_each system scope probe 0 form.Param on_param (λ x. refl) unit.params)

        module _ (on_state : (x : _) → alike system scope probe (form.State x ∷ []) ≡ 0) where
          plain_states : Counted probe (params ++ states) (0 * length unit.params + 0 * length unit.states) (length unit.params + length unit.states)
          plain_states =
              measured_both system scope probe params states _ _ _ _ (measured_each system scope probe 0 form.Param on_param (λ x. refl) unit.params)
              (measured_each system scope probe 0 form.State on_state (λ x. refl) unit.states)

          behind_states : Counted probe (resolution ++ (params ++ states)) (0 + (0 * length unit.params + 0 * length unit.states))
              (0 + (length unit.params + length unit.states))
          behind_states = measured_both system scope probe resolution (params ++ states) _ _ _ _ at_first plain_states

          module _ (on_local : (x : _) → alike system scope probe (form.Local x ∷ []) ≡ 0) where
            behind_locals : Counted probe (resolution ++ plain_names unit) (0 + ((0 * length unit.params + 0 * length unit.states) + 0 * length unit.locals))
                (0 + ((length unit.params + length unit.states) + length unit.locals))
            behind_locals =
                measured_both system scope probe resolution (plain_names unit) _ _ _ _ at_first
                (measured_both system scope probe (params ++ states) locals _ _ _ _ plain_states
                (measured_each system scope probe 0 form.Local on_local (λ x. refl) unit.locals))

            module _ (w v : ℕ) (on_input : (x : _) → alike system scope probe (form.Input x ∷ []) ≡ w)
                (on_event : (x : _) → alike system scope probe (form.EventInput x ∷ []) ≡ v) where
              behind_inputs : Counted probe ((resolution ++ plain_names unit) ++ inputs)
                  ((0 + ((0 * length unit.params + 0 * length unit.states) + 0 * length unit.locals)) + w * length unit.inputs)
                  ((0 + ((length unit.params + length unit.states) + length unit.locals)) + length unit.inputs)
              behind_inputs =
                  measured_both system scope probe (resolution ++ plain_names unit) inputs _ _ _ _ behind_locals
                  (measured_each system scope probe w form.Input on_input (λ x. refl) unit.inputs)

              all_inputs : Counted probe (inputs ++ events_in) (w * length unit.inputs + v * length unit.events_in) (length unit.inputs + length unit.events_in)
              all_inputs =
                  measured_both system scope probe inputs events_in _ _ _ _ (measured_each system scope probe w form.Input on_input (λ x. refl) unit.inputs)
                  (measured_each system scope probe v form.EventInput on_event (λ x. refl) unit.events_in)

              behind_events : Counted probe ((resolution ++ plain_names unit) ++ (inputs ++ events_in))
                  ((0 + ((0 * length unit.params + 0 * length unit.states) + 0 * length unit.locals)) + (w * length unit.inputs + v * length unit.events_in))
                  ((0 + ((length unit.params + length unit.states) + length unit.locals)) + (length unit.inputs + length unit.events_in))
              behind_events = measured_both system scope probe (resolution ++ plain_names unit) (inputs ++ events_in) _ _ _ _ behind_locals all_inputs

              module _ (u : ℕ) (on_output : (x : _) → alike system scope probe (form.Output x ∷ []) ≡ u) where
                behind_outputs : Counted probe ((resolution ++ plain_names unit) ++ ((inputs ++ events_in) ++ outputs))
                    ((0 + ((0 * length unit.params + 0 * length unit.states) + 0 * length unit.locals))
                    + ((w * length unit.inputs + v * length unit.events_in) + u * length unit.outputs))
                    ((0 + ((length unit.params + length unit.states) + length unit.locals))
                    + ((length unit.inputs + length unit.events_in) + length unit.outputs))
                behind_outputs =
                    measured_both system scope probe (resolution ++ plain_names unit) ((inputs ++ events_in) ++ outputs) _ _ _ _ behind_locals
                    (measured_both system scope probe (inputs ++ events_in) outputs _ _ _ _ all_inputs
                    (measured_each system scope probe u form.Output on_output (λ x. refl) unit.outputs))

    params_agree : EachBehind system scope InUnit form.Param resolution
    params_agree front x =
        let counts = counts_at system scope (form.Param x) 1 form.Param (λ y. refl) (λ y. refl) resolution _ _ (at_first (form.Param x) (λ y. refl)) front x in
        ap (nat_lt 32) (omega (arith, counts.0, counts.1)) ∙ or_nothing _

    states_agree : EachBehind system scope InUnit form.State (resolution ++ params)
    states_agree front x =
        let counts =
        counts_at system scope (form.State x) 1 form.State (λ y. refl) (λ y. refl) (resolution ++ params) _ _
        (behind_params (form.State x) (λ y. refl) (λ y. refl)) front x in
        ap (nat_lt 64) (omega (arith, counts.0, counts.1)) ∙ or_nothing _

    locals_agree : EachBehind system scope InUnit form.Local (resolution ++ (params ++ states))
    locals_agree front x =
        let counts =
        counts_at system scope (form.Local x) 1 form.Local (λ y. refl) (λ y. refl) (resolution ++ (params ++ states)) _ _
        (behind_states (form.Local x) (λ y. refl) (λ y. refl) (λ y. refl)) front x in
        ap (nat_lt 64) (omega (arith, counts.0, counts.1)) ∙ or_nothing _

    inputs_agree : EachBehind system scope InUnit form.Input (resolution ++ plain_names unit)
    inputs_agree front x =
        let counts =
        counts_at system scope (form.Input x) 1 form.Input (λ y. refl) (λ y. refl) (resolution ++ plain_names unit) _ _
        (behind_locals (form.Input x) (λ y. refl) (λ y. refl) (λ y. refl) (λ y. refl)) front x in
        ap (nat_lt 32) (omega (arith, counts.0, counts.1)) ∙ or_nothing _

    events_in_agree : EachBehind system scope InUnit form.EventInput ((resolution ++ plain_names unit) ++ inputs)
    events_in_agree front x =
        let probe : LineForm = form.Input (record { name = x.name; ty = x.ty; start = literal.Truth false }) in
        let counts =
        counts_at system scope probe 2 form.EventInput (λ y. refl) (λ y. refl) ((resolution ++ plain_names unit) ++ inputs) _ _
        (behind_inputs probe (λ y. refl) (λ y. refl) (λ y. refl) (λ y. refl) 1 2 (λ y. refl) (λ y. refl)) front x in
        let earlier : List LineForm = ((resolution ++ plain_names unit) ++ inputs) ++ map form.EventInput front in
        let same : length unit.inputs
        + 2 * (bridge.told name_declared earlier - length unit.params - length unit.states - length unit.locals - length unit.inputs + 1)
        ≡ alike system scope probe (earlier ++ (form.EventInput x ∷ [])) =
        omega (arith, counts.0, counts.1) in
        ap (nat_lt 32) same ∙ or_twice (nat_lt 32 (alike system scope probe (earlier ++ (form.EventInput x ∷ []))))

    outputs_agree : EachBehind system scope InUnit form.Output ((resolution ++ plain_names unit) ++ (inputs ++ events_in))
    outputs_agree front x =
        let counts =
        counts_at system scope (form.Output x) 1 form.Output (λ y. refl) (λ y. refl) ((resolution ++ plain_names unit) ++ (inputs ++ events_in)) _ _
        (behind_events (form.Output x) (λ y. refl) (λ y. refl) (λ y. refl) (λ y. refl) 0 0 (λ y. refl) (λ y. refl)) front x in
        ap (nat_lt 32) (omega (arith, counts.0, counts.1)) ∙ or_nothing _

    events_out_agree : EachBehind system scope InUnit form.EventOutput ((resolution ++ plain_names unit) ++ ((inputs ++ events_in) ++ outputs))
    events_out_agree front x =
        let probe : LineForm = form.Output (record { name = x.name; ty = x.ty; needs = x.needs; value = x.value }) in
        let counts =
        counts_at system scope probe 2 form.EventOutput (λ y. refl) (λ y. refl) ((resolution ++ plain_names unit) ++ ((inputs ++ events_in) ++ outputs)) _ _
        (behind_outputs probe (λ y. refl) (λ y. refl) (λ y. refl) (λ y. refl) 0 0 (λ y. refl) (λ y. refl) 1 (λ y. refl)) front x in
        let earlier : List LineForm = ((resolution ++ plain_names unit) ++ ((inputs ++ events_in) ++ outputs)) ++ map form.EventOutput front in
        let same : length unit.outputs
        + 2 * (bridge.told name_declared earlier - length unit.params - length unit.states - length unit.locals - length unit.inputs - length unit.events_in -
        length unit.outputs
        + 1)
        ≡ alike system scope probe (earlier ++ (form.EventOutput x ∷ [])) =
        omega (arith, counts.0, counts.1) in
        ap (nat_lt 32) same ∙ or_twice (nat_lt 32 (alike system scope probe (earlier ++ (form.EventOutput x ∷ []))))

    -- All lines of one list, after what comes before.
    list_agrees : {A : Type 0} (said : A → LineForm) (before : List LineForm) → EachBehind system scope InUnit said before → (xs : List A)
        → AllByRecursion InUnit (line_sites scope before (map said xs))
    list_agrees said before holds xs =
        subst (λ earlier. AllByRecursion InUnit (line_sites scope earlier (map said xs))) (append-nil before)
        (each_behind system scope InUnit said before holds [] xs)

    plain_agree : AllByRecursion InUnit (line_sites scope resolution (plain_names unit))
    plain_agree =
        lines_on scope resolution (params ++ states) locals
        (lines_on scope resolution params states (list_agrees form.Param resolution params_agree unit.params)
        (list_agrees form.State (resolution ++ params) states_agree unit.states))
        (list_agrees form.Local (resolution ++ (params ++ states)) locals_agree unit.locals)

    ports_agree : AllByRecursion InUnit (line_sites scope (resolution ++ plain_names unit) (port_lines unit))
    ports_agree =
        let before : List LineForm = resolution ++ plain_names unit in
        lines_on scope before ((inputs ++ events_in) ++ outputs) (map form.EventOutput unit.events_out)
        (lines_on scope before (inputs ++ events_in) outputs
        (lines_on scope before inputs events_in (list_agrees form.Input before inputs_agree unit.inputs)
        (list_agrees form.EventInput (before ++ inputs) events_in_agree unit.events_in))
        (list_agrees form.Output (before ++ (inputs ++ events_in)) outputs_agree unit.outputs))
        (list_agrees form.EventOutput (before ++ ((inputs ++ events_in) ++ outputs)) events_out_agree unit.events_out)

    given_agrees : {A : Type 0} (said : A → LineForm)
        → ((earlier : List LineForm) (x : A) → InUnit (record { scope = scope; earlier = earlier; line = said x }))
        → (earlier : List LineForm) (given : Option A) → AllByRecursion InUnit (sites scope earlier (map alone (optional said given)))
    given_agrees said holds earlier None = _
    given_agrees said holds earlier (Some x) = (holds earlier x, _)

    step_agrees : (earlier : List LineForm) (step : Option (List Line)) → AllByRecursion InUnit (sites scope earlier (step_heads unit step))
    step_agrees earlier None = _
    step_agrees earlier (Some lines) =
        let inside : List LineForm = flat_map line_forms lines in (
          refl,
          each_append InUnit (line_sites (StepScope unit) [] inside) (sites scope (earlier ++ (form.Step ∷ [])) (alone form.End ∷ []))
              (in_step unit [] inside) (refl, _),
        )

    pub unit_agrees : AllByRecursion InUnit (sites scope [] (block unit))
    unit_agrees =
        let names : List Headed = map alone (plain_names unit ++ port_lines unit) in
        let greatest : List Headed = map alone (optional form.Max unit.max) in
        let front : List Headed = map alone (optional form.Resolution unit.resolution) ++ names in
        all_on scope [] front ((greatest ++ step_heads unit unit.step) ++ (alone form.End ∷ []))
        (all_on scope [] (map alone (optional form.Resolution unit.resolution)) names (given_agrees form.Resolution (λ e x. refl) [] unit.resolution)
        (lines_on scope resolution (plain_names unit) (port_lines unit) plain_agree ports_agree))
        (all_on scope (heads front) (greatest ++ step_heads unit unit.step) (alone form.End ∷ [])
        (all_on scope (heads front) greatest (step_heads unit unit.step) (given_agrees form.Max (λ e x. refl) (heads front) unit.max)
        (step_agrees (heads front ++ heads greatest) unit.step))
        (refl, _))

-- ---- Outside of blocks and in steps

module _ (system : System) where
  -- The connections among lines.
  abbrev wire_on : LineForm → Option Wire
  wire_on (form.Connect wire) = Some wire
  wire_on _ = None

  wire_weight : (probe : LineForm) (wire : Wire) (is_event : Bool) → ((other : Wire) → are_alike probe (form.Connect other) ≡ false)
      → count_by (are_alike probe)
      (map form.Connect (if is_event then record { from = presence_port wire.from; to = presence_port wire.to } ∷ wire ∷ [] else wire ∷ []) ++ [])
      ≡ 0
  wire_weight probe wire true none = rw (none wire) refl
  wire_weight probe wire false none = rw (none wire) refl

  -- Lines that have the item are those with the same keyword as a line, one for one.
  counted_on_top : {A : Type 0} (asked : LineForm → Option A) (probe : LineForm)
      → ((line : LineForm) → alike system TopScope probe (line ∷ []) ≡ length (filter_map asked (line ∷ []))) → (lines : List LineForm)
      → alike system TopScope probe lines ≡ bridge.told asked lines
  counted_on_top asked probe each [] = refl
  counted_on_top asked probe each (line ∷ lines) =
      let one = each line in
      let rest = counted_on_top asked probe each lines in
      let counts = alike_adds system TopScope probe (line ∷ []) lines in
      let tells = bridge.told_adds asked (line ∷ []) lines in
      counts ∙ rw (one, rest) (sym tells)

  unit_line : (name : List ℕ) (line : LineForm) → alike system TopScope (form.Unit name) (line ∷ []) ≡ length (filter_map unit_declared (line ∷ []))
  unit_line name (form.Connect wire) = wire_weight (form.Unit name) wire (is_event_output system wire.from) (λ other. refl)
  unit_line name _ = refl

  instance_line : (name unit : List ℕ) (line : LineForm)
      → alike system TopScope (form.Instance name unit) (line ∷ []) ≡ length (filter_map instance_declared (line ∷ []))
  instance_line name unit (form.Connect wire) = wire_weight (form.Instance name unit) wire (is_event_output system wire.from) (λ other. refl)
  instance_line name unit _ = refl

  sample_line : (port : PortName) (line : LineForm) → alike system TopScope (form.Sample port) (line ∷ []) ≡ length (filter_map port_sampled (line ∷ []))
  sample_line port (form.Connect wire) = wire_weight (form.Sample port) wire (is_event_output system wire.from) (λ other. refl)
  sample_line port _ = refl

  -- Connections, with how many they are in the plain form.
  abbrev wire_count : List LineForm → ℕ
  wire_count lines = length (flat_map (plain_wires system) (filter_map wire_on lines))

  wire_count_adds : (front behind : List LineForm) → wire_count (front ++ behind) ≡ wire_count front + wire_count behind
  wire_count_adds front behind =
      ap (λ wires. length (flat_map (plain_wires system) wires)) (filter_map-append wire_on front behind)
      ∙ ap length (flat_map-append (plain_wires system) (filter_map wire_on front) (filter_map wire_on behind))
      ∙ length-append (flat_map (plain_wires system) (filter_map wire_on front)) (flat_map (plain_wires system) (filter_map wire_on behind))

  abbrev either_wires : Bool → Wire → List Wire
  either_wires is_event wire = if is_event then record { from = presence_port wire.from; to = presence_port wire.to } ∷ wire ∷ [] else wire ∷ []

  weighs_itself : (probe wire : Wire) (is_event : Bool)
      → count_by (are_alike (form.Connect probe)) (map form.Connect (either_wires is_event wire) ++ []) ≡ length (either_wires is_event wire ++ [])
  weighs_itself probe wire true = refl
  weighs_itself probe wire false = refl

  wire_line : (probe : Wire) (line : LineForm) → alike system TopScope (form.Connect probe) (line ∷ []) ≡ wire_count (line ∷ [])
  wire_line probe (form.Connect wire) = weighs_itself probe wire (is_event_output system wire.from)
  wire_line probe _ = refl

  wires_counted : (probe : Wire) (lines : List LineForm) → alike system TopScope (form.Connect probe) lines ≡ wire_count lines
  wires_counted probe [] = refl
  wires_counted probe (line ∷ lines) =
      let one = wire_line probe line in
      let rest = wires_counted probe lines in
      let counts = alike_adds system TopScope (form.Connect probe) (line ∷ []) lines in
      counts ∙ rw (one, rest) (sym (wire_count_adds (line ∷ []) lines))

  wires_told : (lines : List LineForm) → length (filter_map input_connected lines) ≡ length (filter_map wire_on lines)
  wires_told [] = refl
  wires_told (line ∷ lines) = step line (wires_told lines)
    where
      step : (line : LineForm) → length (filter_map input_connected lines) ≡ length (filter_map wire_on lines)
          → length (filter_map input_connected (line ∷ lines)) ≡ length (filter_map wire_on (line ∷ lines))
      step (form.Connect wire) rest = ap suc rest
      step _ rest = rest

  wires_are : filter_map wire_on (heads (whole system)) ≡ system.wires
  wires_are =
      let u = none_tell wire_on unit_head (λ x. refl) system.units in
      let i = none_tell wire_on instance_head (λ x. refl) system.instances in
      let w = alone_tell wire_on form.Connect (λ x. x) (λ x. refl) system.wires in
      let s = none_alone wire_on form.Sample (λ x. refl) system.samples in
      whole_tells system wire_on refl (λ x. refl) (λ x. refl) (λ x. refl) (λ x. refl)
      ∙ rw (u, i, w, s) (append-nil (map (λ x. x) system.wires) ∙ map-id system.wires)

  -- The connections up to one of them.
  taken : (earlier rest : List LineForm) (wire : Wire) → lines_of system TopScope ≡ earlier ++ (form.Connect wire ∷ rest)
      → take (length (filter_map input_connected earlier) + 1) system.wires ≡ filter_map wire_on (earlier ++ (form.Connect wire ∷ []))
  taken earlier rest wire cut =
      let front : List Wire = filter_map wire_on (earlier ++ (form.Connect wire ∷ [])) in
      let behind : List Wire = filter_map wire_on rest in
      let parted : system.wires ≡ front ++ behind =
      sym wires_are ∙ ap (filter_map wire_on) (cut ∙ sym (append_assoc earlier (form.Connect wire ∷ []) rest))
      ∙ filter_map-append wire_on (earlier ++ (form.Connect wire ∷ [])) rest in
      let told = wires_told earlier in
      let longer : length front ≡ length (filter_map wire_on earlier) + 1 = ap length (filter_map-append wire_on earlier (form.Connect wire ∷ []))
      ∙ length-append (filter_map wire_on earlier) (wire ∷ []) in
      let place : length (filter_map input_connected earlier) + 1 ≡ length front = omega arith in
      ap (λ n. take n system.wires) place ∙ ap (take (length front)) parted ∙ take-append_seam front behind

  wires_exceed : (earlier rest : List LineForm) (wire : Wire) → lines_of system TopScope ≡ earlier ++ (form.Connect wire ∷ rest)
      → nat_lt 2048 (plain_wire_count system (length (filter_map input_connected earlier) + 1)) ≡ exceeds system TopScope earlier (form.Connect wire)
  wires_exceed earlier rest wire cut =
      let all : List LineForm = earlier ++ (form.Connect wire ∷ []) in
      let counts : plain_wire_count system (length (filter_map input_connected earlier) + 1) ≡ alike system TopScope (form.Connect wire) all =
      ap (λ wires. length (flat_map (plain_wires system) wires)) (taken earlier rest wire cut) ∙ sym (wires_counted wire all) in
      ap (nat_lt 2048) counts ∙ step (is_event_output system wire.from)
    where
      step : (is_event : Bool)
          → nat_lt 2048 (alike system TopScope (form.Connect wire) (earlier ++ (form.Connect wire ∷ [])))
          ≡ list_any (is_one_too_many TopScope (flat_map (plain_forms system TopScope) (earlier ++ (form.Connect wire ∷ []))))
          (map form.Connect (either_wires is_event wire))
      step true = or_twice (nat_lt 2048 (alike system TopScope (form.Connect wire) (earlier ++ (form.Connect wire ∷ []))))
      step false = or_nothing (nat_lt 2048 (alike system TopScope (form.Connect wire) (earlier ++ (form.Connect wire ∷ []))))

  -- Step lines are one each.
  step_single : (unit : Unit) (line : LineForm) → is_step_line line ≡ true → length (plain_forms system (StepScope unit) line) ≡ 1
  step_single unit (form.Assign target value) step = refl
  step_single unit (form.If condition) step = refl
  step_single unit form.Else step = refl
  step_single unit (form.Repeat count) step = refl
  step_single unit (form.Accept value) step = refl
  step_single unit form.End step = refl
  step_single unit _ step = absurd (cc)

  step_count : (unit : Unit) (lines : List LineForm) → list_all is_step_line lines ≡ true
      → length (flat_map (plain_forms system (StepScope unit)) lines) ≡ length lines
  step_count unit [] steps = refl
  step_count unit (line ∷ lines) steps =
      let parts = and_parts (is_step_line line) (list_all is_step_line lines) steps in
      length-append (plain_forms system (StepScope unit) line) (flat_map (plain_forms system (StepScope unit)) lines)
      ∙ rw (step_single unit line parts.0, step_count unit lines parts.1) (omega arith)

  step_front : (front behind : List LineForm) → list_all is_step_line (front ++ behind) ≡ true → list_all is_step_line front ≡ true
  step_front [] behind steps = refl
  step_front (line ∷ front) behind steps =
      let parts = and_parts (is_step_line line) (list_all is_step_line (front ++ behind)) steps in
      rw (parts.0, step_front front behind parts.1) refl

  all_steps : (step : Option (List Line)) → list_all is_step_line (lines_in_step step) ≡ true
  all_steps None = refl
  all_steps (Some lines) = all_step_lines lines

  step_exceeds : (unit : Unit) (earlier rest : List LineForm) (line : LineForm) → lines_in_step unit.step ≡ earlier ++ (line ∷ rest)
      → is_step_line line ≡ true → nat_lt 500 (length earlier + 1) ≡ exceeds system (StepScope unit) earlier line
  step_exceeds unit earlier rest line cut is =
      let all : List LineForm = earlier ++ (line ∷ []) in
      let steps : list_all is_step_line all ≡ true =
      step_front all rest (ap (list_all is_step_line) (append_assoc earlier (line ∷ []) rest ∙ sym cut) ∙ all_steps unit.step) in
      let many : length earlier + 1 ≡ length (flat_map (plain_forms system (StepScope unit)) all) =
      sym (step_count unit all steps ∙ length-append earlier (line ∷ [])) in
      ap (nat_lt 500) many ∙ single line is (nat_lt 500 (length (flat_map (plain_forms system (StepScope unit)) all)))
    where
      single : (line : LineForm) → is_step_line line ≡ true → (met : Bool) → met ≡ list_any (λ other. met) (plain_forms system (StepScope unit) line)
      single (form.Assign target value) step met = or_nothing met
      single (form.If condition) step met = or_nothing met
      single form.Else step met = or_nothing met
      single (form.Repeat count) step met = or_nothing met
      single (form.Accept value) step met = or_nothing met
      single form.End step met = or_nothing met
      single _ step met = absurd (cc)

  on_top : (bound : ℕ) {A : Type 0} (asked : LineForm → Option A) (line : LineForm)
      → ((other : LineForm) → alike system TopScope line (other ∷ []) ≡ length (filter_map asked (other ∷ []))) → length (filter_map asked (line ∷ [])) ≡ 1
      → (earlier : List LineForm)
      → nat_lt bound (length (filter_map asked earlier) + 1) ≡ (nat_lt bound (alike system TopScope line (earlier ++ (line ∷ []))) || false)
  on_top bound asked line each itself earlier =
      let counts = counted_on_top asked line each (earlier ++ (line ∷ [])) in
      let tells = bridge.told_adds asked earlier (line ∷ []) in
      let same : length (filter_map asked earlier) + 1 ≡ alike system TopScope line (earlier ++ (line ∷ [])) = omega arith in
      ap (nat_lt bound) same ∙ or_nothing (nat_lt bound (alike system TopScope line (earlier ++ (line ∷ []))))

-- Rule 16.
pub exceeds_is : (system : System) (scope : Scope) (earlier : List LineForm) (line : LineForm) (rest : List LineForm)
    → lines_of system scope ≡ earlier ++ (line ∷ rest) → holds scope line ≡ true → InUnit system (record { scope = scope; earlier = earlier; line = line })
    → exceeds_at system scope (place_of scope earlier line) line ≡ exceeds system scope earlier line
exceeds_is system (UnitScope unit) earlier line rest cut held in_unit = in_unit
exceeds_is system (StepScope unit) earlier line rest cut held in_unit = step_exceeds system unit earlier rest line cut held
exceeds_is system TopScope earlier (form.Unit name) rest cut held in_unit = on_top system 64 unit_declared (form.Unit name) (unit_line system name) refl earlier
exceeds_is system TopScope earlier (form.Instance name unit) rest cut held in_unit =
    on_top system 64 instance_declared (form.Instance name unit) (instance_line system name unit) refl earlier
exceeds_is system TopScope earlier (form.Connect wire) rest cut held in_unit = wires_exceed system earlier rest wire cut
exceeds_is system TopScope earlier (form.Sample port) rest cut held in_unit =
    on_top system 2048 port_sampled (form.Sample port) (sample_line system port) refl earlier
exceeds_is system TopScope earlier (form.Param param) rest cut held in_unit = absurd (cc)
exceeds_is system TopScope earlier (form.State state) rest cut held in_unit = absurd (cc)
exceeds_is system TopScope earlier (form.Local local) rest cut held in_unit = absurd (cc)
exceeds_is system TopScope earlier (form.Input input) rest cut held in_unit = absurd (cc)
exceeds_is system TopScope earlier (form.EventInput event) rest cut held in_unit = absurd (cc)
exceeds_is system TopScope earlier (form.Output output) rest cut held in_unit = absurd (cc)
exceeds_is system TopScope earlier _ rest cut held in_unit = refl
exceeds_is system (InstanceScope instance) earlier (form.Setting setting) rest cut held in_unit = refl
exceeds_is system (InstanceScope instance) earlier form.End rest cut held in_unit = refl
exceeds_is system (InstanceScope instance) earlier _ rest cut held in_unit = absurd (cc)
