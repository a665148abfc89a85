-- Scopes of a nest that breaks no rule of groups: how deep they are, and that the ports at groups that their lines name
-- exist.
use Rattle.std.proofs.Common.{◌≡◌, ℕ, zero, suc, ◌+◌, ◌-◌, ◌<◌, ◌≤◌, Bool, true, false, List, [], ◌∷◌, ◌++◌, map, length, Option, Some, None, inl}
use Rattle.std.proofs.Common.{inr, refl, sym}
use Rattle.std.proofs.Common.{ap, subst, ◌∙◌, arith}
use Rattle.std.specs.Prelude.{not, nat_lt, is_none, ◌||◌, slice_get}
use Rattle.std.specs.List.{list_any}
use Rattle.std.specs.Option.{option_and_then, option_map, unwrap_or}
use Rattle.std.specs.Str.{bytes_eq}
use Rattle.std.proofs.lemmas.List.{length-append}
use Rattle.std.proofs.lemmas.Option.{same_Some, slice_get_within}
use Rattle.unit_tree.specs.Names.{is_among, is_empty, input_names, output_names, unit_named}
use Rattle.unit_tree.specs.Parts as parts
use Rattle.unit_tree.specs.declared.line_form.LineForm.TheVariants as form
use Rattle.unit_tree.specs.declared.system.Instance.{Instance}
use Rattle.unit_tree.specs.declared.system.PortName.{PortName}
use Rattle.unit_tree.specs.declared.system.Wire.{Wire}
use Rattle.unit_tree.specs.declared.unit.Unit.{Unit}
use Rattle.nest_text.specs.declared.nest.Bind.{Bind}
use Rattle.nest_text.specs.declared.nest.Group.{Group}
use Rattle.nest_text.specs.declared.nest.Nest.{Nest}
use Rattle.nest_names.specs.Flattening.{group_place, of_group, instances_of, wires_of, instance_among, top, inside, scope_of, place_at, scope_at}
use Rattle.nest_names.specs.Flattening.{levels}
use Rattle.nest_names.specs.Flattening.{leaves, named_in, flat_of}
use Rattle.nest_names.specs.GroupPorts.{has_input, has_output, has_port}
use Rattle.sub_flat.specs.GroupTests.{is_misnamed, has_wrong_name, is_there, misses, misses_group, wire_misses}
use Rattle.sub_flat.specs.GroupTests.{misbinds}
use Rattle.nest_names.specs.GroupPorts.{says_out_twice}
use Rattle.sub_flat.specs.GroupTests.{misses_port, main_misses_port, sets_group}
use Rattle.nest_names.specs.declared.scope.GroupScope.{GroupScope}
use Rattle.sub_flat.proofs.SearchLaws.{place_within}
use Rattle.language_laws.proofs.NameLaws.{same_bytes}
use Rattle.language_laws.proofs.PlainNames.{has_flat, has_part, words_on, units, instances, wires}
use Rattle.list_laws.proofs.Members.{Has, has_front, has_behind, has_map, at_place, found_passes}
use Rattle.list_laws.proofs.Truths.{lt_not_told, lt_told, not_false, other_fails, either_false, never_true}
use Rattle.nest_runs.specs.SoundNests.{IsSound}
use Rattle.nest_runs.specs.NestPorts.{IsInside, IsScopeAt}
use Rattle.nest_runs.proofs.SoundLaws.{flat_ranged}
use Rattle.nest_runs.proofs.ListLaws.{contained, contains, fails_any, found_has}
use Rattle.text_laws.proofs.TokenWidths.{word_short}

-- ---- Small things

-- A result of something that may be missing comes from it.
pub record Made {A B : Type 0} (f : A → B) (given : Option A) (made : B) : Type 0 where
  pub one : A
  pub there : given ≡ Some one
  pub is : f one ≡ made

pub made_of : {A B : Type 0} (f : A → B) (given : Option A) (made : B) → option_map f given ≡ Some made → Made f given made
made_of f None made is = absurd (cc)
made_of f (Some one) made is = record { one = one; there = refl; is = same_Some (f one) made is }

pub record Led {A B : Type 0} (f : A → Option B) (given : Option A) (to : B) : Type 0 where
  pub one : A
  pub there : given ≡ Some one
  pub is : f one ≡ Some to

pub led_by : {A B : Type 0} (f : A → Option B) (given : Option A) (to : B) → option_and_then f given ≡ Some to → Led f given to
led_by f None to is = absurd (cc)
led_by f (Some one) to is = record { one = one; there = refl; is = is }

pub name_long : (prefix name : List ℕ) → suc (length prefix) ≤ length (prefix ++ (name ++ 95 ∷ []))
name_long prefix name =
    let whole = length-append prefix (name ++ 95 ∷ []) in
    let behind = length-append name (95 ∷ []) in
    omega (arith, whole, behind)

module _ (nest : Nest) where
  -- ---- Scopes inside scopes

  -- The scope inside an instance, by the place of its group.
  pub inside_made : (outer scope : GroupScope) (here : IsInside nest outer scope)
      → Made (inside outer here.instance.name) (group_place nest here.instance.unit) scope
  inside_made outer scope here = made_of (inside outer here.instance.name) (group_place nest here.instance.unit) scope here.leads

  pub scope_inside : (scope next : GroupScope) (name : List ℕ) → scope_at nest scope name ≡ Some next → IsInside nest scope next
  scope_inside scope next name is =
      let made = made_of (inside scope name) (place_at nest scope.group name) next is in
      let led = led_by (λ (instance : Instance). group_place nest instance.unit)
      (instance_among (instances_of nest scope.group) name) made.one made.there in
      let named = same_bytes led.one.name name
      (found_passes (λ (i : Instance). bytes_eq i.name name) (instances_of nest scope.group) led.one led.there) in
      record {
        instance = led.one;
        stands = contains (instances_of nest scope.group) led.one
            (found_has (λ (i : Instance). bytes_eq i.name name) (instances_of nest scope.group) led.one led.there);
        leads = ap (option_map (inside scope led.one.name)) led.is ∙ ap (λ n. Some (inside scope n made.one)) named ∙ ap Some made.is;
      }

  -- A scope is at most as deep as its prefix is long.
  pub prefix_long : (depth : ℕ) (scope : GroupScope) → IsScopeAt nest depth scope → depth ≤ length scope.prefix
  prefix_long zero scope is = omega arith
  prefix_long (suc depth) scope is =
      let made = inside_made is.0 scope is.2 in
      let outer = prefix_long depth is.0 is.1 in
      let more = name_long is.0.prefix is.2.instance.name in
      let same : length (is.0.prefix ++ (is.2.instance.name ++ 95 ∷ [])) ≡ length scope.prefix = ap (λ (s : GroupScope). length s.prefix) made.is in
      omega (arith, outer, more, same)

  -- ---- What a group at a place has

  pub group_has : {A : Type 0} (part : Group → List A) (place : ℕ) (group : Group) → slice_get nest.groups place ≡ Some group
      → of_group nest part place ≡ part group
  group_has part place group is = ap (λ found. unwrap_or (option_map part found) []) is

  pub group_at : (name : List ℕ) (place : ℕ) → group_place nest name ≡ Some place → (group : Group) × (slice_get nest.groups place ≡ Some group)
  group_at name place is = at_place nest.groups place (place_within nest name place is)

  -- ---- The components in a scope are among all

  pub leaf_of_scope : (all : ℕ) (leaf : Instance) (depth : ℕ) (scope : GroupScope) (rest : ℕ) → IsScopeAt nest depth scope → depth + rest ≡ all
      → Has (leaves nest rest scope) leaf → Has (leaves nest all top) leaf
  leaf_of_scope all leaf zero scope rest is sum has =
      let same : rest ≡ all = omega (arith, sum) in
      subst (λ r. Has (leaves nest r top) leaf) same (subst (λ s. Has (leaves nest rest s) leaf) is has)
  leaf_of_scope all leaf (suc depth) scope rest is sum has =
      leaf_of_scope all leaf depth is.0 (suc rest) is.1 (omega (arith, sum))
      (has_flat (λ instance. unwrap_or (option_map (leaves nest rest) (scope_of nest is.0 instance)) (named_in is.0 instance ∷ []))
      (instances_of nest is.0.group) is.2.instance leaf (contained (instances_of nest is.0.group) is.2.instance is.2.stands)
      (subst (λ found. Has (unwrap_or (option_map (leaves nest rest) found) (named_in is.0 is.2.instance ∷ [])) leaf) (sym is.2.leads) has))

-- ---- What follows from the rules

module _ (nest : Nest) (sound : IsSound nest) where
  -- Rules 27 and 29 for a group at a place.
  unbroken_line : (place : ℕ) (group : Group) → slice_get nest.groups place ≡ Some group → (line : ℕ) × (slice_get nest.lines place ≡ Some line)
  unbroken_line place group is = at_place nest.lines place (subst (λ n. place < n) (sym sound.lines) (slice_get_within nest.groups place group is))

  pub well_named : (place : ℕ) (group : Group) → slice_get nest.groups place ≡ Some group → is_misnamed nest group ≡ false
  well_named place group is =
      let line = unbroken_line place group is in
      never_true (is_misnamed nest group) (λ breaks.
      sound.unbroken line.0 27 (inl (refl, record { place = place; group = group; there = is; at = line.1; breaks = breaks })))

  pub ports_there : (place : ℕ) (group : Group) → slice_get nest.groups place ≡ Some group → misses_port nest group ≡ false
  ports_there place group is =
      let line = unbroken_line place group is in
      never_true (misses_port nest group) (λ breaks.
      sound.unbroken line.0 29 (inr (inr (inl (refl, inl (record { place = place; group = group; there = is; at = line.1; breaks = breaks }))))))

  pub main_ports_there : main_misses_port nest ≡ false
  main_ports_there =
      never_true (main_misses_port nest) (λ breaks. sound.unbroken nest.main_line 29 (inr (inr (inl (refl, inr (breaks, refl))))))

  -- The inner ports of its lines exist, and so do the ends of its connections.
  pub record LinesKeep (group : Group) : Type 0 where
    pub ins : list_any (misbinds (has_input nest) group.instances) group.ins ≡ false
    pub outs : list_any (misbinds (has_output nest) group.instances) group.outs ≡ false
    pub wires : list_any (wire_misses nest group.instances) group.wires ≡ false

  pub lines_keep : (place : ℕ) (group : Group) → slice_get nest.groups place ≡ Some group → LinesKeep group
  lines_keep place group is =
      let wires = list_any (wire_misses nest group.instances) group.wires || says_out_twice group.outs in
      let outs = list_any (misbinds (has_output nest) group.instances) group.outs || wires in
      let ins = either_false (list_any (misbinds (has_input nest) group.instances) group.ins) outs (ports_there place group is) in
      let behind = either_false (list_any (misbinds (has_output nest) group.instances) group.outs) wires ins.1 in
      record {
        ins = ins.0;
        outs = behind.0;
        wires = (either_false (list_any (wire_misses nest group.instances) group.wires) (says_out_twice group.outs) behind.1).0;
      }

  -- ---- Depth

  leaf_short : (leaf : Instance) → Has (leaves nest levels top) leaf → length leaf.name ≤ 32
  leaf_short leaf has =
      let flat = flat_of nest in
      word_short leaf.name (words_on flat (flat_ranged nest sound) (form.Instance leaf.name leaf.unit)
      (has_part flat (flat_ranged nest sound) (parts.HasInstance leaf) (form.Instance leaf.name leaf.unit)
      (has_front (units flat (flat_ranged nest sound) ++ instances flat (flat_ranged nest sound)) (wires flat (flat_ranged nest sound)) (parts.HasInstance leaf)
      (has_behind (units flat (flat_ranged nest sound)) (instances flat (flat_ranged nest sound)) (parts.HasInstance leaf)
      (has_map parts.HasInstance flat.instances leaf has)))
      (inl refl))).0

  first_instance : (group : Group) → is_empty group.instances ≡ false → (instance : Instance) × Has group.instances instance
  first_instance group some = by group.instances some
    where
      by : (given : List Instance) → is_empty given ≡ false → (instance : Instance) × Has given instance
      by [] some = absurd (cc)
      by (instance ∷ others) some = (instance, inl refl)

  -- A scope of a group has an instance.
  has_instance : (depth : ℕ) (scope : GroupScope) → IsScopeAt nest (suc depth) scope → (instance : Instance) × Has (instances_of nest scope.group) instance
  has_instance depth scope is =
      let made = inside_made nest is.0 scope is.2 in
      let group = group_at nest is.2.instance.unit made.one made.there in
      let named = well_named made.one group.0 group.1 in
      let some = first_instance group.0 (either_false (has_wrong_name nest group.0) (is_empty group.0.instances) named).1 in (
        some.0,
        subst (λ (s : GroupScope). Has (instances_of nest s.group) some.0) made.is
            (subst (λ xs. Has xs some.0) (sym (group_has nest (λ g. g.instances) made.one group.0 group.1)) some.1),
      )

  -- No scope is as deep as the number of levels that are visited.
  none_so_deep : (depth : ℕ) (scope : GroupScope) → suc depth ≡ levels → IsScopeAt nest (suc depth) scope → ⊥
  none_so_deep depth scope deep is =
      let some = has_instance depth scope is in
      let leaf = named_in scope some.0 in
      let all = leaf_of_scope nest levels leaf (suc depth) scope 0 is (omega (arith, deep))
      (has_map (named_in scope) (instances_of nest scope.group) some.0 some.1) in
      let short = leaf_short leaf all in
      let long = prefix_long nest (suc depth) scope is in
      let whole = length-append scope.prefix some.0.name in
      omega (arith, deep, short, long, whole)

  deeper : (more depth : ℕ) (scope : GroupScope) → depth ≡ more + levels → IsScopeAt nest depth scope → ⊥
  deeper zero zero scope sum is = absurd (omega (arith, sum))
  deeper zero (suc depth) scope sum is = none_so_deep depth scope (omega (arith, sum)) is
  deeper (suc more) zero scope sum is = absurd (omega (arith, sum))
  deeper (suc more) (suc depth) scope sum is = deeper more depth is.0 (omega (arith, sum)) is.1

  not_deep : (depth : ℕ) (scope : GroupScope) → levels ≤ depth → IsScopeAt nest depth scope → ⊥
  not_deep depth scope deep is = deeper (depth - levels) depth scope (omega (arith, deep)) is

  pub scope_short : (depth : ℕ) (scope : GroupScope) → IsScopeAt nest depth scope → suc depth ≤ levels
  scope_short depth scope is = by (nat_lt 32 depth) refl
    where
      by : (told : Bool) → nat_lt 32 depth ≡ told → suc depth ≤ levels
      by true told = let long = lt_told 32 depth told in absurd (not_deep depth scope (omega (arith, long)) is)
      by false told = let short = lt_not_told 32 depth told in omega (arith, short)

  -- ---- Ports at groups

  -- Where the port is at an instance of a group, the group has a line with it.
  abbrev pub IsThere : (Group → List Bind) → Option ℕ → PortName → Type 0
  IsThere binds group port =
      (place : ℕ) → place_at nest group port.instance ≡ Some place → is_among (map (λ bind. bind.port) (of_group nest binds place)) port.port ≡ true

  module _ (of_unit : Unit → List (List ℕ)) (binds : Group → List Bind) where
    abbrev has : List ℕ → List ℕ → Bool
    has = has_port nest of_unit binds

    -- The port of a group is among its lines.
    has_lines : (unit port : List ℕ) (place : ℕ) → group_place nest unit ≡ Some place → has unit port ≡ true
        → is_among (map (λ bind. bind.port) (of_group nest binds place)) port ≡ true
    has_lines unit port place at is =
        sym (ap (λ found. unwrap_or (option_map (λ at. is_among (map (λ bind. bind.port) (of_group nest binds at)) port) found)
        (unwrap_or (option_map (λ found. is_among (of_unit found) port) (unit_named nest.main.units unit)) false)) at)
        ∙ is

    not_missed : (group : Option ℕ) (port : PortName) → misses nest has (instances_of nest group) port ≡ false → IsThere binds group port
    not_missed group port kept place at =
        let led = led_by (λ (instance : Instance). group_place nest instance.unit)
        (instance_among (instances_of nest group) port.instance) place at in
        let test = sym (ap (λ found. unwrap_or (option_map (misses_group nest has port) found) false) led.there) ∙ kept in
        let grouped = ap (λ found. not (is_none found)) led.is in
        has_lines led.one.unit port.port place led.is
        (not_false (has led.one.unit port.port)
        (other_fails (not (is_none (group_place nest led.one.unit))) (not (has led.one.unit port.port)) grouped test))

    bound : (group : Option ℕ) (port : PortName) → is_there has (instances_of nest group) port ≡ true → IsThere binds group port
    bound group port told place at =
        let led = led_by (λ (instance : Instance). group_place nest instance.unit)
        (instance_among (instances_of nest group) port.instance) place at in
        has_lines led.one.unit port.port place led.is
        (sym (ap (λ found. unwrap_or (option_map (λ (instance : Instance). has instance.unit port.port) found) false) led.there) ∙ told)

  abbrev pub OutThere : Option ℕ → PortName → Type 0
  OutThere = IsThere (λ group. group.outs)

  abbrev pub InThere : Option ℕ → PortName → Type 0
  InThere = IsThere (λ group. group.ins)

  pub record EndsThere (group : Option ℕ) (wire : Wire) : Type 0 where
    pub from : OutThere group wire.from
    pub to : InThere group wire.to

  ends_by : (group : Option ℕ) (wire : Wire) → wire_misses nest (instances_of nest group) wire ≡ false → EndsThere group wire
  ends_by group wire kept =
      let both = either_false (misses nest (has_output nest) (instances_of nest group) wire.from)
      (misses nest (has_input nest) (instances_of nest group) wire.to) kept in
      record {
        from = not_missed output_names (λ g. g.outs) group wire.from both.0;
        to = not_missed input_names (λ g. g.ins) group wire.to both.1;
      }

  -- The ends of the connections of a scope exist.
  pub ends_there : (depth : ℕ) (scope : GroupScope) → IsScopeAt nest depth scope → (wire : Wire) → Has (wires_of nest scope.group) wire
      → EndsThere scope.group wire
  ends_there zero scope is wire has =
      let main = either_false (list_any (wire_misses nest nest.main.instances) nest.main.wires)
      (list_any (misses nest (has_output nest) nest.main.instances) nest.main.samples || list_any (sets_group nest) nest.main.instances)
      main_ports_there in
      subst (λ (s : GroupScope). EndsThere s.group wire) (sym is)
      (ends_by None wire (fails_any (wire_misses nest nest.main.instances) nest.main.wires wire main.0
      (subst (λ (s : GroupScope). Has (wires_of nest s.group) wire) is has)))
  ends_there (suc depth) scope is wire has =
      let made = inside_made nest is.0 scope is.2 in
      let group = group_at nest is.2.instance.unit made.one made.there in
      let instances = group_has nest (λ g. g.instances) made.one group.0 group.1 in
      let wires = group_has nest (λ g. g.wires) made.one group.0 group.1 in
      let kept = (lines_keep made.one group.0 group.1).wires in
      let here = subst (λ xs. Has xs wire) wires (subst (λ (s : GroupScope). Has (wires_of nest s.group) wire) (sym made.is) has) in
      subst (λ (s : GroupScope). EndsThere s.group wire) made.is
      (ends_by (Some made.one) wire
      (ap (λ xs. wire_misses nest xs wire) instances ∙ fails_any (wire_misses nest group.0.instances) group.0.wires wire kept here))

  module _ (place : ℕ) (group : Group) (there : slice_get nest.groups place ≡ Some group) where
    -- The inner ports of a group's lines exist.
    pub inner_out_there : (bind : Bind) → Has (of_group nest (λ g. g.outs) place) bind → OutThere (Some place) bind.inner
    inner_out_there bind has =
        let here = subst (λ xs. Has xs bind) (group_has nest (λ g. g.outs) place group there) has in
        let binds = not_false (is_there (has_output nest) group.instances bind.inner)
        (fails_any (misbinds (has_output nest) group.instances) group.outs bind (lines_keep place group there).outs here) in
        bound output_names (λ g. g.outs) (Some place) bind.inner
        (ap (λ xs. is_there (has_output nest) xs bind.inner) (group_has nest (λ g. g.instances) place group there) ∙ binds)

    pub inner_in_there : (bind : Bind) → Has (of_group nest (λ g. g.ins) place) bind → InThere (Some place) bind.inner
    inner_in_there bind has =
        let here = subst (λ xs. Has xs bind) (group_has nest (λ g. g.ins) place group there) has in
        let binds = not_false (is_there (has_input nest) group.instances bind.inner)
        (fails_any (misbinds (has_input nest) group.instances) group.ins bind (lines_keep place group there).ins here) in
        bound input_names (λ g. g.ins) (Some place) bind.inner
        (ap (λ xs. is_there (has_input nest) xs bind.inner) (group_has nest (λ g. g.instances) place group there) ∙ binds)
