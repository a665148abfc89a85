-- The walk over the parts of a system is the walk over its canonical lines.
use Rattle.std.proofs.Common.{◌≡◌, ℕ, suc, ◌+◌, List, [], ◌∷◌, ◌++◌, map, length, Option, Some, None, refl, ap, sym, ◌∙◌, arith}
use Rattle.std.specs.List.{flat_map, filter_map, cons_option}
use Rattle.std.proofs.lemmas.List.{append-nil, length-append, map-append}
use Rattle.std.proofs.lemmas.List.Elements.{filter_map-append}
use Rattle.unit_check.proofs.CountedWalks.{Counts, both, one, all_of, all_count, all_along}
use Rattle.unit_check.proofs.SiteWalks.{heads, sites_on, line_sites, onward_same, onward_none, walk, walk_on}
use Rattle.unit_check.specs.Walks.{Test, Walk, test_at, place_of, onward, past, past_from, ◌>=>◌, each, if_given, line_walk, step_walk, plain_names_walk}
use Rattle.unit_check.specs.Walks.{ports_walk, names_walk, unit_walk, units_walk, instance_walk, instances_walk, limits_walk, parts_walk, system_walk}
use Rattle.unit_tree.specs.Canonical.{optional}
use Rattle.unit_tree.specs.Parts.{line_forms}
use Rattle.unit_tree.specs.Sites.{Scope, TopScope, UnitScope, StepScope, InstanceScope, Headed, alone, sites, sites_of}
use Rattle.unit_tree.specs.WellFormed.{unit_declared, instance_declared, name_declared, input_connected, param_set, port_sampled}
use Rattle.unit_tree.specs.declared.line.Line.{Line}
use Rattle.unit_tree.specs.declared.line_form.LineForm.{LineForm}
use Rattle.unit_tree.specs.declared.line_form.LineForm.TheVariants as form
use Rattle.unit_tree.specs.declared.system.Instance.{Instance}
use Rattle.unit_tree.specs.declared.system.System.{System}
use Rattle.unit_tree.specs.declared.unit.Unit.{Unit}
use Rattle.unit_check.proofs.SystemLines.{plain_names, port_lines, step_heads, block, unit_head, instance_block, instance_head, header, units, instances, wires}
use Rattle.unit_check.proofs.SystemLines.{limits, samples, whole, sites_are}

-- ---- How many lines have an item

-- How many lines have an item.
abbrev pub told : {A : Type 0} → (LineForm → Option A) → List LineForm → ℕ
told asked lines = length (filter_map asked lines)

pub told_adds : {A : Type 0} (asked : LineForm → Option A) (front behind : List LineForm) → told asked (front ++ behind) ≡ told asked front + told asked behind
told_adds asked front behind = ap length (filter_map-append asked front behind) ∙ length-append (filter_map asked front) (filter_map asked behind)

abbrev Untold : {A : Type 0} → (LineForm → Option A) → List Headed → Type 0
Untold asked headed = told asked (heads headed) ≡ 0

untold_both : {A : Type 0} (asked : LineForm → Option A) (front behind : List Headed) → Untold asked front → Untold asked behind
    → Untold asked (front ++ behind)
untold_both asked front behind one other =
    let all = ap (told asked) (map-append (λ (h : Headed). h.head) front behind) ∙ told_adds asked (heads front) (heads behind) in
    omega arith

untold_each : {A B : Type 0} (asked : LineForm → Option A) (head : B → Headed) → ((x : B) → asked (head x).head ≡ None) → (xs : List B)
    → Untold asked (map head xs)
untold_each asked head none [] = refl
untold_each asked head none (x ∷ xs) = ap (λ here. length (cons_option here (filter_map asked (heads (map head xs))))) (none x) ∙ untold_each asked head none xs

untold_given : {A B : Type 0} (asked : LineForm → Option A) (said : B → LineForm) → ((x : B) → asked (said x) ≡ None) → (given : Option B)
    → Untold asked (map alone (optional said given))
untold_given asked said none None = refl
untold_given asked said none (Some x) = ap (λ here. length (cons_option here [])) (none x)

untold_behind : {A : Type 0} (asked : LineForm → Option A) (earlier : List LineForm) (headed : List Headed) → told asked earlier ≡ 0 → Untold asked headed
    → told asked (earlier ++ heads headed) ≡ 0
untold_behind asked earlier headed one other = let all = told_adds asked earlier (heads headed) in omega arith

module _ (test : Test) where
  -- A walk goes over these lines and their blocks.
  abbrev Along : Scope → List LineForm → Walk → List Headed → Type 0
  Along scope earlier walked headed = (number : ℕ) → walked number ≡ walk (test_at test) number (sites scope earlier headed)

  join : (scope : Scope) (earlier : List LineForm) (front behind : List Headed) (one next : Walk) → Along scope earlier one front
      → Along scope (earlier ++ heads front) next behind → Along scope earlier (one >=> next) (front ++ behind)
  join scope earlier front behind one next goes on number =
      let t = test_at test in
      let met = walk t number (sites scope earlier front) in
      ap (λ r. onward r next) (goes number)
      ∙ onward_same met next (λ n. walk t n (sites scope (earlier ++ heads front) behind)) (λ n is. on n)
      ∙ sym (walk_on t number (sites scope earlier front) (sites scope (earlier ++ heads front) behind))
      ∙ ap (walk t number) (sym (sites_on scope earlier front behind))

  single : (scope : Scope) (earlier : List LineForm) (place : ℕ) (line : LineForm) → place_of scope earlier line ≡ place
      → Along scope earlier (past (test scope place line)) (alone line ∷ [])
  single scope earlier place line placed number =
      ap (λ n. past (test scope n line) number) (sym placed) ∙ sym (onward_none (past (test scope (place_of scope earlier line) line) number))

  with_block : (scope : Scope) (earlier : List LineForm) (place : ℕ) (headed : Headed) (inside : Walk) → place_of scope earlier headed.head ≡ place
      → ((number : ℕ) → inside number ≡ walk (test_at test) number headed.block)
      → Along scope earlier (past (test scope place headed.head) >=> inside) (headed ∷ [])
  with_block scope earlier place headed inside placed goes number =
      let t = test_at test in
      let here = past (test scope (place_of scope earlier headed.head) headed.head) number in
      ap (λ n. onward (past (test scope n headed.head) number) inside) (sym placed)
      ∙ onward_same here inside (λ n. walk t n (headed.block ++ [])) (λ n is. goes n ∙ ap (walk t n) (sym (append-nil headed.block)))

  given_one : {A : Type 0} (said : A → LineForm) (scope : Scope) (earlier : List LineForm) → ((x : A) → place_of scope earlier (said x) ≡ 0)
      → (given : Option A) → Along scope earlier (if_given (λ x. past (test scope 0 (said x))) given) (map alone (optional said given))
  given_one said scope earlier placed None = λ number. refl
  given_one said scope earlier placed (Some x) = single scope earlier 0 (said x) (placed x)

  -- Lines of one form, from the first one on.
  all_from : {A B : Type 0} (asked : LineForm → Option B) (said : A → LineForm) (scope : Scope)
      → ((earlier : List LineForm) (x : A) → place_of scope earlier (said x) ≡ told asked earlier) → ((x : A) → told asked (said x ∷ []) ≡ 1)
      → (earlier : List LineForm) → told asked earlier ≡ 0 → (xs : List A)
      → Along scope earlier (λ first. each (λ x. past_from (test scope) first (said x)) xs first) (map alone (map said xs))
  all_from asked said scope placed counts earlier none xs number =
      all_of test scope (told asked) (told_adds asked) number said placed counts earlier xs number (omega arith)

  -- ---- Units

  module _ (unit : Unit) where
    abbrev scope : Scope
    scope = UnitScope unit

    -- Names from a first number on.
    module _ (first : ℕ) where
      abbrev NameLines : List LineForm → Walk → List LineForm → Type 0
      NameLines = Counts test scope (told name_declared) (told_adds name_declared) first

      abbrev Named : Walk → List LineForm → Type 0
      Named walked lines = ((earlier : List LineForm) → NameLines earlier walked lines) × (told name_declared lines ≡ length lines)

      named_both : (front behind : List LineForm) (one next : Walk) → Named one front → Named next behind → Named (one >=> next) (front ++ behind)
      named_both front behind one next goes on =
          let counts = told_adds name_declared front behind in
          let long = length-append front behind in (
            λ earlier. both test scope (told name_declared) (told_adds name_declared) first earlier front behind one next goes.1 (goes.0 earlier)
                (on.0 (earlier ++ front)),
            simp (goes.1, on.1) at (counts ∙ refl)
                ∙ sym long,
          )

      named : {A : Type 0} (said : A → LineForm) → ((earlier : List LineForm) (x : A) → place_of scope earlier (said x) ≡ told name_declared earlier)
          → ((x : A) → told name_declared (said x ∷ []) ≡ 1) → (xs : List A) → Named (each (λ x. past_from (test scope) first (said x)) xs) (map said xs)
      named said placed counts xs = (
        λ earlier. all_of test scope (told name_declared) (told_adds name_declared) first said placed counts earlier xs,
        all_count test scope (told name_declared) (told_adds name_declared) first said placed counts refl xs,
      )

      plain_named : Named (plain_names_walk (past_from (test scope) first) unit) (plain_names unit)
      plain_named =
          named_both _ _ _ _
          (named_both _ _ _ _ (named form.Param (λ e x. refl) (λ x. refl) unit.params) (named form.State (λ e x. refl) (λ x. refl) unit.states))
          (named form.Local (λ e x. refl) (λ x. refl) unit.locals)

      ports_named : Named (ports_walk (past_from (test scope) first) unit) (port_lines unit)
      ports_named =
          named_both _ _ _ _
          (named_both _ _ _ _
          (named_both _ _ _ _ (named form.Input (λ e x. refl) (λ x. refl) unit.inputs) (named form.EventInput (λ e x. refl) (λ x. refl) unit.events_in))
          (named form.Output (λ e x. refl) (λ x. refl) unit.outputs))
          (named form.EventOutput (λ e x. refl) (λ x. refl) unit.events_out)

      all_named : Named (names_walk (past_from (test scope) first) unit) ((plain_names unit) ++ (port_lines unit))
      all_named = named_both (plain_names unit) (port_lines unit) _ _ plain_named ports_named

    names_along : (earlier : List LineForm) → told name_declared earlier ≡ 0
        → Along scope earlier (λ first. names_walk (past_from (test scope) first) unit first) (map alone ((plain_names unit) ++ (port_lines unit)))
    names_along earlier none number = (all_named number).0 earlier number (omega arith)

    -- The step.
    step_along : (earlier : List LineForm) (step : Option (List Line)) → Along scope earlier (if_given (step_walk test unit) step) (step_heads unit step)
    step_along earlier None = λ number. refl
    step_along earlier (Some lines) =
        let headed : Headed = record { head = form.Step; block = line_sites (StepScope unit) [] (flat_map line_forms lines) } in
        join scope earlier (headed ∷ []) (alone form.End ∷ []) _ _
        (with_block scope earlier 0 headed (λ first. each (line_walk (past_from (test (StepScope unit)) first)) lines first) refl
        (λ number. all_along test unit number lines [] number (omega arith)))
        (single scope (earlier ++ (form.Step ∷ [])) 0 form.End refl)

    unit_along : Along scope [] (unit_walk test unit) (block unit)
    unit_along =
        let resolution : List Headed = map alone (optional form.Resolution unit.resolution) in
        let names : List Headed = map alone ((plain_names unit) ++ (port_lines unit)) in
        let greatest : List Headed = map alone (optional form.Max unit.max) in
        let none : told name_declared (heads resolution) ≡ 0 = untold_given name_declared form.Resolution (λ x. refl) unit.resolution in
        let before : List LineForm = heads (resolution ++ names) in
        join scope [] (resolution ++ names) ((greatest ++ step_heads unit unit.step) ++ (alone form.End ∷ [])) _ _
        (join scope [] resolution names _ _ (given_one form.Resolution scope [] (λ x. refl) unit.resolution) (names_along (heads resolution) none))
        (join scope before (greatest ++ step_heads unit unit.step) (alone form.End ∷ []) _ _
        (join scope before greatest (step_heads unit unit.step) _ _ (given_one form.Max scope before (λ x. refl) unit.max)
        (step_along (before ++ heads greatest) unit.step))
        (single scope (before ++ heads (greatest ++ step_heads unit unit.step)) 0 form.End refl))

  units_along : (earlier : List LineForm) (place : ℕ) → told unit_declared earlier ≡ place → (units : List Unit)
      → Along TopScope earlier (units_walk test place units) (map unit_head units)
  units_along earlier place at [] = λ number. refl
  units_along earlier place at (unit ∷ units) =
      let more = told_adds unit_declared earlier (form.Unit unit.name ∷ []) in
      let next : told unit_declared (earlier ++ (form.Unit unit.name ∷ [])) ≡ suc place = omega arith in
      join TopScope earlier (unit_head unit ∷ []) (map unit_head units) _ _
      (with_block TopScope earlier place (unit_head unit) (unit_walk test unit) at (unit_along unit))
      (units_along (earlier ++ (form.Unit unit.name ∷ [])) (suc place) next units)

  -- ---- Instances

  instance_along : (instance : Instance) → Along (InstanceScope instance) [] (instance_walk test instance) (instance_block instance)
  instance_along instance =
      join (InstanceScope instance) [] (map alone (map form.Setting instance.settings)) (alone form.End ∷ []) _ _
      (all_from param_set form.Setting (InstanceScope instance) (λ e x. refl) (λ x. refl) [] refl instance.settings)
      (single (InstanceScope instance) (heads (map alone (map form.Setting instance.settings))) 0 form.End refl)

  instances_along : (earlier : List LineForm) (place : ℕ) → told instance_declared earlier ≡ place → (instances : List Instance)
      → Along TopScope earlier (instances_walk test place instances) (map instance_head instances)
  instances_along earlier place at [] = λ number. refl
  instances_along earlier place at (instance ∷ instances) =
      let more = told_adds instance_declared earlier (form.Instance instance.name instance.unit ∷ []) in
      let next : told instance_declared (earlier ++ (form.Instance instance.name instance.unit ∷ [])) ≡ suc place = omega arith in
      join TopScope earlier (instance_head instance ∷ []) (map instance_head instances) _ _
      (with_block TopScope earlier place (instance_head instance) (instance_walk test instance) at (instance_along instance))
      (instances_along (earlier ++ (form.Instance instance.name instance.unit ∷ [])) (suc place) next instances)

  -- ---- A system

  module _ (system : System) where
    -- Items that the lines of (units system) and (instances system) don't have.
    untold_parts : {A : Type 0} (asked : LineForm → Option A) → ((name : List ℕ) → asked (form.Unit name) ≡ None)
        → ((name unit : List ℕ) → asked (form.Instance name unit) ≡ None) → Untold asked ((units system) ++ (instances system))
    untold_parts asked no_unit no_instance =
        untold_both asked (units system) (instances system) (untold_each asked unit_head (λ unit. no_unit unit.name) system.units)
        (untold_each asked instance_head (λ instance. no_instance instance.name instance.unit) system.instances)

    untold_alone : {A B : Type 0} (asked : LineForm → Option A) (said : B → LineForm) → ((x : B) → asked (said x) ≡ None) → (xs : List B)
        → Untold asked (map alone (map said xs))
    untold_alone asked said none [] = refl
    untold_alone asked said none (x ∷ xs) = ap (λ here. length (cons_option here (filter_map asked (heads (map alone (map said xs)))))) (none x)
        ∙ untold_alone asked said none xs

    limits_untold : Untold port_sampled (limits system)
    limits_untold =
        let s : List Headed = map alone (optional form.Stop system.stop) in
        let l : List Headed = map alone (optional form.Longest system.longest) in
        let z : List Headed = map alone (optional form.Zero system.zero) in
        let r : List Headed = map alone (optional form.Rows system.rows) in
        untold_both port_sampled (s ++ l ++ z) r
        (untold_both port_sampled (s ++ l) z
        (untold_both port_sampled s l (untold_given port_sampled form.Stop (λ x. refl) system.stop)
        (untold_given port_sampled form.Longest (λ x. refl) system.longest))
        (untold_given port_sampled form.Zero (λ x. refl) system.zero))
        (untold_given port_sampled form.Rows (λ x. refl) system.rows)

    limits_along : (earlier : List LineForm) → Along TopScope earlier (limits_walk (test TopScope 0) system) (limits system)
    limits_along earlier =
        let s : List Headed = map alone (optional form.Stop system.stop) in
        let l : List Headed = map alone (optional form.Longest system.longest) in
        let z : List Headed = map alone (optional form.Zero system.zero) in
        let r : List Headed = map alone (optional form.Rows system.rows) in
        join TopScope earlier (s ++ l ++ z) r _ _
        (join TopScope earlier (s ++ l) z _ _
        (join TopScope earlier s l _ _ (given_one form.Stop TopScope earlier (λ x. refl) system.stop)
        (given_one form.Longest TopScope (earlier ++ heads s) (λ x. refl) system.longest))
        (given_one form.Zero TopScope (earlier ++ heads (s ++ l)) (λ x. refl) system.zero))
        (given_one form.Rows TopScope (earlier ++ heads (s ++ l ++ z)) (λ x. refl) system.rows)

    parts_along : Along TopScope (heads (header system)) (parts_walk test system) (((units system) ++ (instances system)) ++ (wires system))
    parts_along =
        let before_instances =
        untold_behind instance_declared (heads (header system)) (units system) refl (untold_each instance_declared unit_head (λ x. refl) system.units) in
        let before_wires =
        untold_behind input_connected (heads (header system)) ((units system) ++ (instances system)) refl
        (untold_parts input_connected (λ x. refl) (λ x y. refl)) in
        join TopScope (heads (header system)) ((units system) ++ (instances system)) (wires system) _ _
        (join TopScope (heads (header system)) (units system) (instances system) _ _ (units_along (heads (header system)) 0 refl system.units)
        (instances_along (heads (header system) ++ heads (units system)) 0 before_instances system.instances))
        (all_from input_connected form.Connect TopScope (λ e x. refl) (λ x. refl)
        (heads (header system) ++ heads ((units system) ++ (instances system))) before_wires system.wires)

    whole_along : Along TopScope [] (system_walk test system) (whole system)
    whole_along =
        let inside : List Headed = ((units system) ++ (instances system)) ++ (wires system) in
        let front : List Headed = (header system) ++ inside in
        let untold_inside =
        untold_both port_sampled ((units system) ++ (instances system)) (wires system) (untold_parts port_sampled (λ x. refl) (λ x y. refl))
        (untold_alone port_sampled form.Connect (λ x. refl) system.wires) in
        let untold_front = untold_both port_sampled front (limits system) (untold_both port_sampled (header system) inside refl untold_inside) limits_untold in
        join TopScope [] (front ++ (limits system)) (samples system) _ _
        (join TopScope [] front (limits system) _ _
        (join TopScope [] (header system) inside _ _ (single TopScope [] 0 (form.Header system.version) refl) parts_along)
        (limits_along (heads front)))
        (all_from port_sampled form.Sample TopScope (λ e x. refl) (λ x. refl) (heads (front ++ (limits system))) untold_front system.samples)

    pub system_goes : (number : ℕ) → system_walk test system number ≡ walk (test_at test) number (sites_of system)
    system_goes number = whole_along number ∙ ap (walk (test_at test) number) (sym (sites_are system))
