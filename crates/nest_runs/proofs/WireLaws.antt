-- Connections of a nest, and those of its flat system that they become.
use Rattle.std.proofs.Common.{◌≡◌, ℕ, zero, suc, ◌+◌, ◌-◌, ◌≤◌, Bool, true, false, List, [], ◌∷◌, ◌++◌, map, Option, Some, None, inl, inr, refl, sym}
use Rattle.std.proofs.Common.{ap, ap₂}
use Rattle.std.proofs.Common.{subst, ◌∙◌, ◌⊎◌, arith}
use Rattle.std.specs.Prelude.{if◌then◌else◌}
use Rattle.std.specs.List.{flat_map}
use Rattle.std.specs.Option.{option_map, unwrap_or}
use Rattle.std.proofs.lemmas.Grind.{flat_map-append}
use Rattle.std.proofs.lemmas.List.Folds.{flat_map-map}
use Rattle.unit_tree.specs.declared.system.Instance.{Instance}
use Rattle.unit_tree.specs.declared.system.PortName.{PortName}
use Rattle.unit_tree.specs.declared.system.System.{System}
use Rattle.unit_tree.specs.declared.system.Wire.{Wire}
use Rattle.nest_text.specs.declared.nest.Nest.{Nest}
use Rattle.nest_names.specs.Flattening.{instances_of, wires_of, top, scope_of, levels, flat_port, follow, is_component, reach, flat_wire, flat_wires}
use Rattle.nest_names.specs.Flattening.{flat_of}
use Rattle.nest_names.specs.declared.scope.GroupScope.{GroupScope}
use Rattle.nest_names.specs.declared.scope.Spot.{Spot}
use Rattle.language_laws.proofs.NameLaws.{is_wired}
use Rattle.language_laws.proofs.PlainNames.{has_flat, map_has, flat_has}
use Rattle.list_laws.proofs.Members.{Has, Distinct, has_front, has_behind, has_either, has_map}
use Rattle.nest_runs.specs.NestPorts.{OfComponent, OfGroup, IsScopeAt, spot_of, port_at}
use Rattle.nest_runs.specs.SoundNests.{IsSound}
use Rattle.nest_runs.proofs.ListLaws.{contained, contains}
use Rattle.nest_runs.proofs.ScopeLaws.{InThere, OutThere, ends_there, scope_short}
use Rattle.nest_runs.proofs.WayLaws.{Way, reached, way_reached, reached_leaf, way_short, way_there, way_deeper, leads_to_leaf}

-- ---- Connections by scopes

-- The ends of a connection, in its scope.
pub record Connection : Type 0 where
  pub from : Spot
  pub to : Spot

abbrev pub ends : GroupScope → Wire → Connection
ends scope wire = record { from = spot_of scope wire.from; to = spot_of scope wire.to }

-- The connections in a scope, and then those inside each of its instances.
abbrev pub connections : Nest → ℕ → GroupScope → List Connection
connections nest zero scope = map (ends scope) (wires_of nest scope.group)
connections nest (suc depth) scope =
    map (ends scope) (wires_of nest scope.group)
    ++ flat_map (λ instance. unwrap_or (option_map (connections nest depth) (scope_of nest scope instance)) []) (instances_of nest scope.group)

module _ (nest : Nest) where
  -- The component's output from which a connection comes, and what it becomes in the flat system.
  abbrev pub source : Connection → PortName
  source one = flat_port (follow nest levels one.from)

  abbrev pub wire_to : Connection → Spot → Wire
  wire_to one to = record { from = source one; to = flat_port to }

  abbrev pub made_flat : Connection → List Wire
  made_flat one = map (wire_to one) (reach nest levels (one.to ∷ []))

  own_flat : (scope : GroupScope) (wires : List Wire) → flat_map (flat_wire nest scope) wires ≡ flat_map made_flat (map (ends scope) wires)
  own_flat scope wires = sym (flat_map-map made_flat (ends scope) wires)

  abbrev inner_connections : ℕ → GroupScope → Instance → List Connection
  inner_connections depth scope instance = unwrap_or (option_map (connections nest depth) (scope_of nest scope instance)) []

  abbrev inner_wires : ℕ → GroupScope → Instance → List Wire
  inner_wires depth scope instance = unwrap_or (option_map (flat_wires nest depth) (scope_of nest scope instance)) []

  -- The flat system's connections are those that the connections of all scopes become.
  pub wires_are : (depth : ℕ) (scope : GroupScope) → flat_wires nest depth scope ≡ flat_map made_flat (connections nest depth scope)
  wires_are zero scope = own_flat scope (wires_of nest scope.group)
  wires_are (suc depth) scope =
      ap₂ (λ here inside. here ++ inside) (own_flat scope (wires_of nest scope.group)) (each (wires_are depth) (instances_of nest scope.group))
      ∙ sym (flat_map-append made_flat (map (ends scope) (wires_of nest scope.group))
      (flat_map (inner_connections depth scope) (instances_of nest scope.group)))
    where
      Inner : Type 0
      Inner = (inner : GroupScope) → flat_wires nest depth inner ≡ flat_map made_flat (connections nest depth inner)

      by : Inner → (inside : Option GroupScope) → unwrap_or (option_map (flat_wires nest depth) inside) []
          ≡ flat_map made_flat (unwrap_or (option_map (connections nest depth) inside) [])
      by same None = refl
      by same (Some inner) = same inner

      each : Inner → (instances : List Instance)
          → flat_map (inner_wires depth scope) instances ≡ flat_map made_flat (flat_map (inner_connections depth scope) instances)
      each same [] = refl
      each same (instance ∷ instances) =
          ap₂ (λ here others. here ++ others) (by same (scope_of nest scope instance)) (each same instances)
          ∙ sym (flat_map-append made_flat (inner_connections depth scope instance) (flat_map (inner_connections depth scope) instances))

  -- ---- The scope of a connection

  pub record Standing (one : Connection) : Type 0 where
    pub depth : ℕ
    pub scope : GroupScope
    pub is_scope : IsScopeAt nest depth scope
    pub wire : Wire
    pub has : Has (wires_of nest scope.group) wire
    pub is : ends scope wire ≡ one

  own_stands : (depth : ℕ) (scope : GroupScope) (one : Connection) → IsScopeAt nest depth scope → Has (map (ends scope) (wires_of nest scope.group)) one
      → Standing one
  own_stands depth scope one is has =
      let found = map_has (ends scope) (wires_of nest scope.group) one has in
      record { depth = depth; scope = scope; is_scope = is; wire = found.one; has = found.has; is = found.is }

  pub stands : (rest depth : ℕ) (scope : GroupScope) (one : Connection) → IsScopeAt nest depth scope → Has (connections nest rest scope) one → Standing one
  stands zero depth scope one is has = own_stands depth scope one is has
  stands (suc rest) depth scope one is has =
      elim (has_either (map (ends scope) (wires_of nest scope.group))
      (flat_map (inner_connections rest scope) (instances_of nest scope.group)) one has) [
        | inl mine ↦ own_stands depth scope one is mine
        | inr inner ↦
            let found = flat_has (inner_connections rest scope) (instances_of nest scope.group) one inner in
            by (λ next deeper there. stands rest (suc depth) next one deeper there) found.one found.has
            (scope_of nest scope found.one) refl found.inside
      ]
    where
      by : ((next : GroupScope) → IsScopeAt nest (suc depth) next → Has (connections nest rest next) one → Standing one) → (instance : Instance)
          → Has (instances_of nest scope.group) instance → (inner : Option GroupScope) → scope_of nest scope instance ≡ inner
          → Has (unwrap_or (option_map (connections nest rest) inner) []) one → Standing one
      by later instance there None leads inner_has = absurd inner_has
      by later instance there (Some inner) leads inner_has =
          later inner (
            scope,
            is,
            record
                { instance = instance; stands = contains (instances_of nest scope.group) instance there; leads = leads },
          ) inner_has

  -- Those of a scope are among all.
  pub own_has : (rest : ℕ) (scope : GroupScope) (wire : Wire) → Has (wires_of nest scope.group) wire → Has (connections nest rest scope) (ends scope wire)
  own_has zero scope wire has = has_map (ends scope) (wires_of nest scope.group) wire has
  own_has (suc rest) scope wire has =
      has_front (map (ends scope) (wires_of nest scope.group)) (flat_map (inner_connections rest scope) (instances_of nest scope.group))
      (ends scope wire)
      (has_map (ends scope) (wires_of nest scope.group) wire has)

  pub all_have : (all : ℕ) (one : Connection) (depth : ℕ) (scope : GroupScope) (rest : ℕ) → IsScopeAt nest depth scope → depth + rest ≡ all
      → Has (connections nest rest scope) one → Has (connections nest all top) one
  all_have all one zero scope rest is sum has =
      let same : rest ≡ all = omega (arith, sum) in
      subst (λ r. Has (connections nest r top) one) same (subst (λ s. Has (connections nest rest s) one) is has)
  all_have all one (suc depth) scope rest is sum has =
      all_have all one depth is.0 (suc rest) is.1 (omega (arith, sum))
      (has_behind (map (ends is.0) (wires_of nest is.0.group)) (flat_map (inner_connections rest is.0) (instances_of nest is.0.group)) one
      (has_flat (inner_connections rest is.0) (instances_of nest is.0.group) is.2.instance one
      (contained (instances_of nest is.0.group) is.2.instance is.2.stands)
      (subst (λ found. Has (unwrap_or (option_map (connections nest rest) found) []) one) (sym is.2.leads) has)))

  -- ---- The ports that names mean

  pub component_port : (spot : Spot) → is_component nest spot ≡ true → port_at nest spot ≡ OfComponent (flat_port spot)
  component_port spot is = ap (λ told. if told then OfComponent (flat_port spot) else OfGroup spot) is

  pub group_port : (spot : Spot) → is_component nest spot ≡ false → port_at nest spot ≡ OfGroup spot
  group_port spot is = ap (λ told. if told then OfComponent (flat_port spot) else OfGroup spot) is

  components_same : (one other : PortName) → OfComponent one ≡ OfComponent other → one ≡ other
  components_same one other is = cc

  groups_same : (one other : Spot) → OfGroup one ≡ OfGroup other → one ≡ other
  groups_same one other is = cc

  apart : (one : PortName) (other : Spot) → OfComponent one ≡ OfGroup other → ⊥
  apart one other is = cc

  -- The port is a component's of this name.
  pub record Component (spot : Spot) (port : PortName) : Type 0 where
    pub is : is_component nest spot ≡ true
    pub named : flat_port spot ≡ port

  pub component_meant : (spot : Spot) (port : PortName) → port_at nest spot ≡ OfComponent port → Component spot port
  component_meant spot port means = by (is_component nest spot) refl
    where
      by : (told : Bool) → is_component nest spot ≡ told → Component spot port
      by true told = record { is = told; named = components_same (flat_port spot) port (sym (component_port spot told) ∙ means) }
      by false told = absurd (apart port spot (sym means ∙ group_port spot told))

  pub record OfAGroup (spot other : Spot) : Type 0 where
    pub is : is_component nest spot ≡ false
    pub named : spot ≡ other

  pub group_meant : (spot other : Spot) → port_at nest spot ≡ OfGroup other → OfAGroup spot other
  group_meant spot other means = by (is_component nest spot) refl
    where
      by : (told : Bool) → is_component nest spot ≡ told → OfAGroup spot other
      by true told = absurd (apart (flat_port spot) other (sym (component_port spot told) ∙ means))
      by false told = record { is = told; named = groups_same spot other (sym (group_port spot told) ∙ means) }

  pub way_both : (count more : ℕ) (from between to : Spot) → Way nest count from between → Way nest more between to → Way nest (count + more) from to
  way_both zero more from between to way later =
      subst (λ n. Way nest n from to) (omega arith) (subst (λ s. Way nest more s to) (sym way) later)
  way_both (suc count) more from between to way later =
      subst (λ n. Way nest n from to) (one_more count more) (way.0, way.1, way.2, way_both count more way.0 between to way.3 later)
    where
      one_more : (count more : ℕ) → suc (count + more) ≡ suc count + more
      one_more count more = omega arith

same_wire : (wires : List Wire) (one other : Wire) → Distinct (map (λ (wire : Wire). wire.to) wires) → Has wires one → Has wires other
    → one.to ≡ other.to
    → one ≡ other
same_wire [] one other apart has has' same = absurd has
same_wire (first ∷ wires) one other apart (inl is) (inl is') same = sym is ∙ is'
same_wire (first ∷ wires) one other apart (inl is) (inr has') same =
    absurd (apart.0 (subst (Has (map (λ (wire : Wire). wire.to) wires)) (sym same ∙ ap (λ (w : Wire). w.to) (sym is))
    (has_map (λ (wire : Wire). wire.to) wires other has')))
same_wire (first ∷ wires) one other apart (inr has) (inl is') same =
    absurd (apart.0 (subst (Has (map (λ (wire : Wire). wire.to) wires)) (same ∙ ap (λ (w : Wire). w.to) (sym is'))
    (has_map (λ (wire : Wire). wire.to) wires one has)))
same_wire (first ∷ wires) one other apart (inr has) (inr has') same = same_wire wires one other apart.1 has has' same

-- ---- Where no rule is broken

module _ (nest : Nest) (sound : IsSound nest) where
  abbrev pub all : List Connection
  all = connections nest levels top

  pub standing : (one : Connection) → Has all one → Standing nest one
  standing one has = stands nest levels 0 top one refl has

  pub among_all : (depth : ℕ) (scope : GroupScope) (wire : Wire) → IsScopeAt nest depth scope → Has (wires_of nest scope.group) wire
      → Has all (ends scope wire)
  among_all depth scope wire is has =
      let short = scope_short nest sound depth scope is in
      all_have nest levels (ends scope wire) depth scope (levels - depth) is (omega (arith, short)) (own_has nest (levels - depth) scope wire has)

  -- The scope of its ends, and that these exist.
  pub record EndsKeep (one : Connection) : Type 0 where
    pub depth : ℕ
    pub from_scope : IsScopeAt nest depth one.from.scope
    pub to_scope : IsScopeAt nest depth one.to.scope
    pub from_there : OutThere nest sound one.from.scope.group one.from.port
    pub to_there : InThere nest sound one.to.scope.group one.to.port

  pub ends_keep : (one : Connection) → Has all one → EndsKeep one
  ends_keep one has =
      let here = standing one has in
      let there = ends_there nest sound here.depth here.scope here.is_scope here.wire here.has in
      subst EndsKeep here.is
      (record { depth = here.depth; from_scope = here.is_scope; to_scope = here.is_scope; from_there = there.from; to_there = there.to })

  -- ---- The flat system's connections

  abbrev pub flat : System
  flat = flat_of nest

  pub becomes : (one : Connection) (count : ℕ) (leaf : Spot) → Has all one → Way nest count one.to leaf → is_component nest leaf ≡ true
      → Has flat.wires (wire_to nest one leaf)
  becomes one count leaf has way is =
      let keep = ends_keep one has in
      let short = way_short nest sound count keep.depth one.to leaf keep.to_scope way in
      subst (λ wires. Has wires (wire_to nest one leaf)) (sym (wires_are nest levels top))
      (has_flat (made_flat nest) all one (wire_to nest one leaf) has
      (has_map (wire_to nest one) (reach nest levels (one.to ∷ [])) leaf
      (way_reached nest levels (one.to ∷ []) one.to leaf count (inl refl) way is (omega (arith, short)))))

  -- The parts of a connection of the flat system.
  pub record Behind (wire : Wire) : Type 0 where
    pub one : Connection
    pub has : Has all one
    pub leaf : Spot
    pub count : ℕ
    pub way : Way nest count one.to leaf
    pub is_leaf : is_component nest leaf ≡ true
    pub is : wire_to nest one leaf ≡ wire

  pub behind : (wire : Wire) → Has flat.wires wire → Behind wire
  behind wire has =
      let found = flat_has (made_flat nest) all wire (subst (λ wires. Has wires wire) (wires_are nest levels top) has) in
      let to = map_has (wire_to nest found.one) (reach nest levels (found.one.to ∷ [])) wire found.inside in
      let keep = ends_keep found.one found.has in
      let way = reached nest levels (found.one.to ∷ []) to.one to.has in
      record {
        one = found.one;
        has = found.has;
        leaf = to.one;
        count = way.count;
        way = from_only found.one.to to.one way.from way.has way.count way.way;
        is_leaf = reached_leaf nest sound levels (found.one.to ∷ []) (only_deep found.one.to keep.depth keep.to_scope) to.one to.has;
        is = to.is;
      }
    where
      from_only : (to leaf from : Spot) → Has (to ∷ []) from → (count : ℕ) → Way nest count from leaf → Way nest count to leaf
      from_only to leaf from (inl is) count way = subst (λ s. Way nest count s leaf) (sym is) way
      from_only to leaf from (inr none) count way = absurd none

      only_deep : (to : Spot) (depth : ℕ) → IsScopeAt nest depth to.scope → (spot : Spot) → Has (to ∷ []) spot
          → (is_component nest spot ≡ true) ⊎ ((at : ℕ) × IsScopeAt nest at spot.scope × (levels ≤ at + levels))
      only_deep to depth is spot (inl same) = inr (depth, subst (λ (s : Spot). IsScopeAt nest depth s.scope) same is, omega arith)
      only_deep to depth is spot (inr none) = absurd none

  -- No two connections reach the same input.
  same_source : (one other : Connection) (leaf leaf' : Spot) (count count' : ℕ) → Has all one → Has all other → Way nest count one.to leaf
      → Way nest count' other.to leaf' → is_component nest leaf ≡ true → is_component nest leaf' ≡ true → flat_port leaf ≡ flat_port leaf'
      → source nest one ≡ source nest other
  same_source one other leaf leaf' count count' has has' way way' is is' same =
      ap (λ (w : Wire). w.from)
      (same_wire flat.wires (wire_to nest one leaf) (wire_to nest other leaf') (is_wired flat sound.well_formed).once
      (becomes one count leaf has way is) (becomes other count' leaf' has' way' is') same)

  -- Connections that reach the same port come from the same output.
  pub agree : (one other : Connection) (to to' : Spot) (count count' : ℕ) → Has all one → Has all other → Way nest count one.to to
      → Way nest count' other.to to' → port_at nest to ≡ port_at nest to' → source nest one ≡ source nest other
  agree one other to to' count count' has has' way way' same = by (is_component nest to) refl
    where
      by : (told : Bool) → is_component nest to ≡ told → source nest one ≡ source nest other
      by true told =
          let meant = component_meant nest to' (flat_port to) (sym same ∙ component_port nest to told) in
          same_source one other to to' count count' has has' way way' told meant.is (sym meant.named)
      by false told =
          let meant = group_meant nest to' to (sym same ∙ group_port nest to told) in
          let keep = ends_keep one has in
          let there = way_there nest sound count one.to to keep.to_there way in
          let deep = way_deeper nest count keep.depth one.to to keep.to_scope way in
          let on = leads_to_leaf nest sound levels (count + keep.depth) to deep there (omega arith) in
          same_source one other on.leaf on.leaf (count + on.count) (count' + on.count) has has'
          (way_both nest count on.count one.to to on.leaf way on.way)
          (way_both nest count' on.count other.to to on.leaf (subst (Way nest count' other.to) meant.named way') on.way) on.is on.is refl
