-- Where ports of groups lead: outputs down by `out` lines, and inputs down by `in` lines.
use Rattle.std.proofs.Common.{◌≡◌, ℕ, zero, suc, ◌+◌, ◌≤◌, Bool, true, false, List, [], ◌∷◌, ◌++◌, map, Option, Some, None, inl, inr, refl, sym, ap}
use Rattle.std.proofs.Common.{subst}
use Rattle.std.proofs.Common.{◌∙◌, ◌⊎◌, arith, cond}
use Rattle.std.specs.Prelude.{is_none, slice_get}
use Rattle.std.specs.List.{filter, flat_map, list_all, list_any}
use Rattle.std.specs.Option.{option_and_then, option_map, unwrap_or}
use Rattle.std.specs.Str.{bytes_eq}
use Rattle.unit_tree.specs.Names.{is_among}
use Rattle.unit_tree.specs.declared.system.Instance.{Instance}
use Rattle.nest_text.specs.declared.nest.Bind.{Bind}
use Rattle.nest_text.specs.declared.nest.Group.{Group}
use Rattle.nest_text.specs.declared.nest.Nest.{Nest}
use Rattle.nest_names.specs.Flattening.{of_group, inside, place_at, scope_at, levels, spot_in, ins_in, out_in, step_down, follow, expand, is_component}
use Rattle.nest_names.specs.Flattening.{same_spot, distinct, reach, group_place, instance_among, instances_of}
use Rattle.nest_names.specs.declared.scope.GroupScope.{GroupScope}
use Rattle.nest_names.specs.declared.scope.Spot.{Spot}
use Rattle.nest_names.proofs.FlatLaws.{expand_group, step_some}
use Rattle.nest_names.proofs.SameSpots.{spot_is}
use Rattle.language_laws.proofs.NameLaws.{same_bytes, bytes_of}
use Rattle.language_laws.proofs.PlainNames.{has_flat, map_has, flat_has}
use Rattle.list_laws.proofs.Members.{Has, has_either, has_map}
use Rattle.nest_runs.specs.SoundNests.{IsSound}
use Rattle.nest_runs.specs.NestPorts.{IsInside, IsScopeAt}
use Rattle.nest_runs.proofs.ListLaws.{Passing, any_passes, all_pass, filtered_has, has_filtered, finds, found_has}
use Rattle.nest_runs.proofs.ScopeLaws.{made_of, led_by, scope_inside, group_at, scope_short, OutThere, InThere, inner_out_there, inner_in_there}

-- ---- Ports that are kept once

pub distinct_has : (kept spots : List Spot) (spot : Spot) → Has (distinct kept spots) spot → Has spots spot
distinct_has kept [] spot has = absurd has
distinct_has kept (first ∷ spots) spot has = by (λ before there. distinct_has before spots spot there) (list_any (same_spot first) kept) has
  where
    by : ((before : List Spot) → Has (distinct before spots) spot → Has spots spot) → (told : Bool)
        → Has (cond told (distinct kept spots) (first ∷ distinct (kept ++ (first ∷ [])) spots)) spot → (first ≡ spot) ⊎ Has spots spot
    by later true there = inr (later kept there)
    by later false (inl same) = inl same
    by later false (inr there) = inr (later (kept ++ (first ∷ [])) there)

pub has_distinct : (kept spots : List Spot) (spot : Spot) → Has spots spot → Has kept spot ⊎ Has (distinct kept spots) spot
has_distinct kept [] spot has = absurd has
has_distinct kept (first ∷ spots) spot has =
    by (λ before there. has_distinct before spots spot there) (list_any (same_spot first) kept) refl has
  where
    Found : Bool → Type 0
    Found told = Has kept spot ⊎ Has (cond told (distinct kept spots) (first ∷ distinct (kept ++ (first ∷ [])) spots)) spot

    kept_before : Passing (same_spot first) kept → first ≡ spot → Has kept spot
    kept_before found same = subst (Has kept) (sym (spot_is first found.one found.passes) ∙ same) found.has

    later : Has (kept ++ (first ∷ [])) spot ⊎ Has (distinct (kept ++ (first ∷ [])) spots) spot → Found false
    later (inl there) = either (has_either kept (first ∷ []) spot there)
      where
        either : Has kept spot ⊎ Has (first ∷ []) spot → Found false
        either (inl here) = inl here
        either (inr (inl same)) = inr (inl same)
        either (inr (inr none)) = absurd none
    later (inr there) = inr (inr there)

    by : ((before : List Spot) → Has spots spot → Has before spot ⊎ Has (distinct before spots) spot) → (told : Bool)
        → list_any (same_spot first) kept ≡ told → (first ≡ spot) ⊎ Has spots spot → Found told
    by others true told (inl same) = inl (kept_before (any_passes (same_spot first) kept told) same)
    by others true told (inr there) = others kept there
    by others false told (inl same) = inr (inl same)
    by others false told (inr there) = later (others (kept ++ (first ∷ [])) there)

-- ---- One line

module _ (nest : Nest) where
  none_or : (given : Option ℕ) → is_none given ≡ false → (place : ℕ) × (given ≡ Some place)
  none_or None is = absurd (cc)
  none_or (Some place) is = (place, refl)

  -- The place of the group that a port's instance is of.
  pub place_there : (spot : Spot) → is_component nest spot ≡ false → (place : ℕ) × (place_at nest spot.scope.group spot.port.instance ≡ Some place)
  place_there spot is = none_or (place_at nest spot.scope.group spot.port.instance) is

  pub of_group_there : (spot : Spot) (place : ℕ) → place_at nest spot.scope.group spot.port.instance ≡ Some place → is_component nest spot ≡ false
  of_group_there spot place is = ap is_none is

  nowhere : (given : Option ℕ) → is_none given ≡ true → given ≡ None
  nowhere None is = refl
  nowhere (Some place) is = absurd (cc)

  pub expand_component : (spot : Spot) → is_component nest spot ≡ true → expand nest spot ≡ spot ∷ []
  expand_component spot is =
      ap (λ found. unwrap_or (option_map (λ (scope : GroupScope). map (spot_in scope) (ins_in nest scope spot.port.port))
      (option_map (inside spot.scope spot.port.instance) found)) (spot ∷ [])) (nowhere (place_at nest spot.scope.group spot.port.instance) is)

  pub down_component : (spot : Spot) → is_component nest spot ≡ true → step_down nest spot ≡ None
  down_component spot is =
      ap (λ found. option_and_then (λ (scope : GroupScope). option_map (spot_in scope) (out_in nest scope spot.port.port))
      (option_map (inside spot.scope spot.port.instance) found)) (nowhere (place_at nest spot.scope.group spot.port.instance) is)

  -- A line of the group of an instance goes from its port to one inside.
  pub record Step (binds : Group → List Bind) (spot next : Spot) : Type 0 where
    pub place : ℕ
    pub at : place_at nest spot.scope.group spot.port.instance ≡ Some place
    pub bind : Bind
    pub has : Has (of_group nest binds place) bind
    pub is : spot_in (inside spot.scope spot.port.instance place) bind ≡ next

  pub step_in : (spot next : Spot) → is_component nest spot ≡ false → Has (expand nest spot) next → Step (λ group. group.ins) spot next
  step_in spot next grouped has =
      let place = place_there spot grouped in
      let lines = subst (λ spots. Has spots next) (expand_group nest spot place.0 place.1) has in
      let named = λ (bind : Bind). bytes_eq bind.port spot.port.port in
      let found = map_has (spot_in (inside spot.scope spot.port.instance place.0)) (filter named (of_group nest (λ g. g.ins) place.0)) next lines in
      record {
        place = place.0;
        at = place.1;
        bind = found.one;
        has = filtered_has named (of_group nest (λ g. g.ins) place.0) found.one found.has;
        is = found.is;
      }

  pub step_out : (spot next : Spot) → step_down nest spot ≡ Some next → Step (λ group. group.outs) spot next
  step_out spot next is =
      let led = led_by (λ (scope : GroupScope). option_map (spot_in scope) (out_in nest scope spot.port.port))
      (scope_at nest spot.scope spot.port.instance) next is in
      let place = made_of (inside spot.scope spot.port.instance) (place_at nest spot.scope.group spot.port.instance) led.one led.there in
      let bind = made_of (spot_in led.one) (out_in nest led.one spot.port.port) next led.is in
      record {
        place = place.one;
        at = place.there;
        bind = bind.one;
        has = found_has (λ (b : Bind). bytes_eq b.port spot.port.port) (of_group nest (λ g. g.outs) place.one) bind.one
            (ap (λ (s : GroupScope). out_in nest s spot.port.port) place.is ∙ bind.there);
        is = ap (λ s. spot_in s bind.one) place.is ∙ bind.is;
      }

  -- It leads into the scope of the instance.
  pub step_inside : (binds : Group → List Bind) (spot next : Spot) → Step binds spot next → IsInside nest spot.scope next.scope
  step_inside binds spot next step =
      scope_inside nest spot.scope next.scope spot.port.instance
      (ap (option_map (inside spot.scope spot.port.instance)) step.at ∙ ap (λ (s : Spot). Some s.scope) step.is)

  pub step_deeper : (binds : Group → List Bind) (depth : ℕ) (spot next : Spot) → IsScopeAt nest depth spot.scope → Step binds spot next
      → IsScopeAt nest (suc depth) next.scope
  step_deeper binds depth spot next is step = (spot.scope, is, step_inside binds spot next step)

  -- ---- Paths of inputs

  -- An input reaches another by this many `in` lines.
  abbrev pub Way : ℕ → Spot → Spot → Type 0
  Way zero from to = from ≡ to
  Way (suc count) from to = (next : Spot) × (is_component nest from ≡ false) × Has (expand nest from) next × Way count next to

  pub way_more : (count : ℕ) (from last to : Spot) → Way count from last → is_component nest last ≡ false → Has (expand nest last) to
      → Way (suc count) from to
  way_more zero from last to way grouped has =
      (to, subst (λ s. is_component nest s ≡ false) (sym way) grouped, subst (λ s. Has (expand nest s) to) (sym way) has, refl)
  way_more (suc count) from last to way grouped has = (way.0, way.1, way.2, way_more count way.0 last to way.3 grouped has)

  pub record LastStep (count : ℕ) (from to : Spot) : Type 0 where
    pub last : Spot
    pub way : Way count from last
    pub grouped : is_component nest last ≡ false
    pub line : Has (expand nest last) to

  pub last_step : (count : ℕ) (from to : Spot) → Way (suc count) from to → LastStep count from to
  last_step zero from to way = record { last = from; way = refl; grouped = way.1; line = subst (Has (expand nest from)) way.3 way.2 }
  last_step (suc count) from to way =
      let later = last_step count way.0 to way.3 in
      record { last = later.last; way = (way.0, way.1, way.2, later.way); grouped = later.grouped; line = later.line }

  pub way_deeper : (count depth : ℕ) (from to : Spot) → IsScopeAt nest depth from.scope → Way count from to → IsScopeAt nest (count + depth) to.scope
  way_deeper zero depth from to is way = subst (λ n. IsScopeAt nest n to.scope) (omega arith)
      (subst (λ (s : Spot). IsScopeAt nest depth s.scope) way is)
  way_deeper (suc count) depth from to is way =
      subst (λ n. IsScopeAt nest n to.scope) (one_more count depth)
      (way_deeper count (suc depth) way.0 to (step_deeper (λ group. group.ins) depth from way.0 is (step_in from way.0 way.1 way.2)) way.3)
    where
      one_more : (count depth : ℕ) → count + suc depth ≡ suc count + depth
      one_more count depth = omega arith

  -- ---- What is reached

  pub record Reached (depth : ℕ) (spots : List Spot) (to : Spot) : Type 0 where
    pub from : Spot
    pub has : Has spots from
    pub count : ℕ
    pub within : count ≤ depth
    pub way : Way count from to

  pub reached : (depth : ℕ) (spots : List Spot) (to : Spot) → Has (reach nest depth spots) to → Reached depth spots to
  reached zero spots to has = record { from = to; has = has; count = 0; within = omega arith; way = refl }
  reached (suc depth) spots to has = by (λ next there. reached depth next to there) (list_all (is_component nest) spots) has
    where
      expanded : List Spot
      expanded = flat_map (expand nest) spots

      on : (from : Spot) → Has spots from → (next : Spot) → Has (expand nest from) next → (count : ℕ) → count ≤ depth → Way count next to
          → (told : Bool) → is_component nest from ≡ told → Reached (suc depth) spots to
      on from there next line count within way true told =
          let same : (from ≡ next) ⊎ ⊥ = subst (λ xs. Has xs next) (expand_component from told) line in
          elim same [
            | inl is ↦ record {
              from = from;
              has = there;
              count = count;
              within = omega (arith, within);
              way = subst (λ s. Way count s to)
                  (sym is) way;
            }
            | inr none ↦ absurd none
          ]
      on from there next line count within way false told =
          record { from = from; has = there; count = suc count; within = omega (arith, within); way = (next, told, line, way) }

      further : Reached depth (distinct [] expanded) to → Reached (suc depth) spots to
      further more =
          let one = flat_has (expand nest) spots more.from (distinct_has [] expanded more.from more.has) in
          on one.one one.has more.from one.inside more.count more.within more.way (is_component nest one.one) refl

      by : ((next : List Spot) → Has (reach nest depth next) to → Reached depth next to) → (told : Bool)
          → Has (cond told spots (reach nest depth (distinct [] expanded))) to → Reached (suc depth) spots to
      by later true there = record { from = to; has = there; count = 0; within = omega arith; way = refl }
      by later false there = further (later (distinct [] expanded) there)

  -- A component's input that a path leads to is reached.
  pub way_reached : (depth : ℕ) (spots : List Spot) (from to : Spot) (count : ℕ) → Has spots from → Way count from to → is_component nest to ≡ true
      → count ≤ depth → Has (reach nest depth spots) to
  way_reached zero spots from to zero has way leaf within = subst (Has spots) way has
  way_reached zero spots from to (suc count) has way leaf within = absurd (omega (arith, within))
  way_reached (suc depth) spots from to count has way leaf within =
      by (λ next more there on short. way_reached depth (distinct [] (flat_map (expand nest) spots)) next to more there on leaf short)
      (list_all (is_component nest) spots) refl
    where
      expanded : List Spot
      expanded = flat_map (expand nest) spots

      kept : (next : Spot) → Has expanded next → Has (distinct [] expanded) next
      kept next there = elim (has_distinct [] expanded next there) [ inl none ↦ absurd none | inr is ↦ is ]

      all_leaves : (count : ℕ) → Way count from to → list_all (is_component nest) spots ≡ true → Has spots to
      all_leaves zero way all = subst (Has spots) way has
      all_leaves (suc count) way all = absurd (apart (all_pass (is_component nest) spots from all has) way.1)
        where
          apart : is_component nest from ≡ true → is_component nest from ≡ false → ⊥
          apart one other = cc

      Later : Type 0
      Later = (next : Spot) (more : ℕ) → Has (distinct [] expanded) next → Way more next to → more ≤ depth
          → Has (reach nest depth (distinct [] expanded)) to

      further : Later → (count : ℕ) → Way count from to → count ≤ suc depth → Has (reach nest depth (distinct [] expanded)) to
      further later zero way within =
          let leaf_from = subst (λ s. is_component nest s ≡ true) (sym way) leaf in
          let line = subst (λ xs. Has xs from) (sym (expand_component from leaf_from)) (inl refl) in
          later from zero (kept from (has_flat (expand nest) spots from from has line)) way (omega arith)
      further later (suc count) way within =
          later way.0 count (kept way.0 (has_flat (expand nest) spots from way.0 has way.2)) way.3 (omega (arith, within))

      by : Later → (told : Bool) → list_all (is_component nest) spots ≡ told → Has (cond told spots (reach nest depth (distinct [] expanded))) to
      by later true told = all_leaves count way told
      by later false told = further later count way within

  -- ---- Outputs that are followed

  pub follow_stays : (depth : ℕ) (spot : Spot) → is_component nest spot ≡ true → follow nest depth spot ≡ spot
  follow_stays zero spot is = refl
  follow_stays (suc depth) spot is = ap (λ found. unwrap_or (option_map (follow nest depth) found) spot) (down_component spot is)

  pub follow_next : (depth : ℕ) (spot next : Spot) → step_down nest spot ≡ Some next → follow nest (suc depth) spot ≡ follow nest depth next
  follow_next depth spot next is = ap (λ found. unwrap_or (option_map (follow nest depth) found) spot) is

  pub follow_none : (depth : ℕ) (spot : Spot) → step_down nest spot ≡ None → follow nest (suc depth) spot ≡ spot
  follow_none depth spot is = ap (λ found. unwrap_or (option_map (follow nest depth) found) spot) is

  -- Once a component's output is reached, one more level changes nothing.
  pub follow_stable : (depth : ℕ) (spot : Spot) → is_component nest (follow nest depth spot) ≡ true
      → follow nest (suc depth) spot ≡ follow nest depth spot
  follow_stable zero spot is = follow_stays 1 spot is
  follow_stable (suc depth) spot is = by (follow_stable depth) (step_down nest spot) refl
    where
      by : ((next : Spot) → is_component nest (follow nest depth next) ≡ true → follow nest (suc depth) next ≡ follow nest depth next)
          → (given : Option Spot) → step_down nest spot ≡ given → follow nest (suc (suc depth)) spot ≡ follow nest (suc depth) spot
      by later None step = follow_none (suc depth) spot step ∙ sym (follow_none depth spot step)
      by later (Some next) step =
          follow_next (suc depth) spot next step
          ∙ later next (ap (is_component nest) (sym (follow_next depth spot next step)) ∙ is)
          ∙ sym (follow_next depth spot next step)

-- ---- Where no rule is broken

module _ (nest : Nest) (sound : IsSound nest) where
  named_line : (binds : Group → List Bind) (place : ℕ) (port : List ℕ) → is_among (map (λ bind. bind.port) (of_group nest binds place)) port ≡ true
      → Passing (λ (bind : Bind). bytes_eq bind.port port) (of_group nest binds place)
  named_line binds place port is =
      let found = any_passes (bytes_eq port) (map (λ (bind : Bind). bind.port) (of_group nest binds place)) is in
      let bind = map_has (λ (bind : Bind). bind.port) (of_group nest binds place) found.one found.has in
      record { one = bind.one; has = bind.has; passes = bytes_of bind.one.port port (bind.is ∙ sym (same_bytes port found.one found.passes)) }

  pub placed_group : (group : Option ℕ) (name : List ℕ) (place : ℕ) → place_at nest group name ≡ Some place
      → (found : Group) × (slice_get nest.groups place ≡ Some found)
  placed_group group name place at =
      let led = led_by (λ (instance : Instance). group_place nest instance.unit) (instance_among (instances_of nest group) name) place at in
      group_at nest led.one.unit place led.is

  -- The inner port of a line exists.
  pub next_in_there : (spot next : Spot) → Step nest (λ group. group.ins) spot next → InThere nest sound next.scope.group next.port
  next_in_there spot next step =
      let found = placed_group spot.scope.group spot.port.instance step.place step.at in
      subst (λ (s : Spot). InThere nest sound s.scope.group s.port) step.is (inner_in_there nest sound step.place found.0 found.1 step.bind step.has)

  pub next_out_there : (spot next : Spot) → Step nest (λ group. group.outs) spot next → OutThere nest sound next.scope.group next.port
  next_out_there spot next step =
      let found = placed_group spot.scope.group spot.port.instance step.place step.at in
      subst (λ (s : Spot). OutThere nest sound s.scope.group s.port) step.is
      (inner_out_there nest sound step.place found.0 found.1 step.bind step.has)

  -- An input of a group that exists leads to another.
  leads_on : (spot : Spot) → InThere nest sound spot.scope.group spot.port → is_component nest spot ≡ false
      → (next : Spot) × Has (expand nest spot) next
  leads_on spot there grouped =
      let place = place_there nest spot grouped in
      let lines = of_group nest (λ g. g.ins) place.0 in
      let named = λ (bind : Bind). bytes_eq bind.port spot.port.port in
      let into = spot_in (inside spot.scope spot.port.instance place.0) in
      let found = named_line (λ g. g.ins) place.0 spot.port.port (there place.0 place.1) in (
        into found.one,
        subst (λ spots. Has spots (into found.one)) (sym (expand_group nest spot place.0 place.1))
            (has_map into (filter named lines) found.one (has_filtered named lines found.one found.has found.passes)),
      )

  -- A component's input that an input reaches.
  pub record Leaf (spot : Spot) : Type 0 where
    pub count : ℕ
    pub leaf : Spot
    pub way : Way nest count spot leaf
    pub is : is_component nest leaf ≡ true

  -- Each input that exists reaches one: no scope is so deep that the levels end before.
  pub leads_to_leaf : (levels_left depth : ℕ) (spot : Spot) → IsScopeAt nest depth spot.scope → InThere nest sound spot.scope.group spot.port
      → levels ≤ depth + levels_left → Leaf spot
  leads_to_leaf zero depth spot is there deep = (let short = scope_short nest sound depth spot.scope is in absurd (omega (arith, deep, short)))
  leads_to_leaf (suc left) depth spot is there deep =
      by (λ next inner next_there. leads_to_leaf left (suc depth) next inner next_there (omega (arith, deep))) (is_component nest spot) refl
    where
      by : ((next : Spot) → IsScopeAt nest (suc depth) next.scope → InThere nest sound next.scope.group next.port → Leaf next)
          → (told : Bool) → is_component nest spot ≡ told → Leaf spot
      by on true told = record { count = 0; leaf = spot; way = refl; is = told }
      by on false told =
          let next = leads_on spot there told in
          let step = step_in nest spot next.0 told next.1 in
          let later = on next.0 (step_deeper nest (λ g. g.ins) depth spot next.0 is step) (next_in_there spot next.0 step) in
          record { count = suc later.count; leaf = later.leaf; way = (next.0, told, next.1, later.way); is = later.is }

  pub way_there : (count : ℕ) (from to : Spot) → InThere nest sound from.scope.group from.port → Way nest count from to
      → InThere nest sound to.scope.group to.port
  way_there zero from to there way = subst (λ (s : Spot). InThere nest sound s.scope.group s.port) way there
  way_there (suc count) from to there way = way_there count way.0 to (next_in_there from way.0 (step_in nest from way.0 way.1 way.2)) way.3

  pub way_short : (count depth : ℕ) (from to : Spot) → IsScopeAt nest depth from.scope → Way nest count from to → suc (count + depth) ≤ levels
  way_short count depth from to is way = scope_short nest sound (count + depth) to.scope (way_deeper nest count depth from to is way)

  -- Inputs that are components', or in scopes so deep that no level is left, are all that is reached.
  pub reached_leaf : (depth : ℕ) (spots : List Spot)
      → ((spot : Spot) → Has spots spot → (is_component nest spot ≡ true) ⊎ ((at : ℕ) × IsScopeAt nest at spot.scope × (levels ≤ at + depth)))
      → (to : Spot) → Has (reach nest depth spots) to → is_component nest to ≡ true
  reached_leaf zero spots deep to has = elim (deep to has) [
    | inl is ↦ is
    | inr found ↦ (let short = scope_short nest sound found.0 to.scope found.1 in absurd (omega (arith, found.2, short)))
  ]
  reached_leaf (suc depth) spots deep to has =
      by (λ next each there. reached_leaf depth next each to there) (list_all (is_component nest) spots) refl has
    where
      expanded : List Spot
      expanded = flat_map (expand nest) spots

      Deep : Spot → Type 0
      Deep spot = (is_component nest spot ≡ true) ⊎ ((at : ℕ) × IsScopeAt nest at spot.scope × (levels ≤ at + depth))

      on : (from next : Spot) → Has spots from → Has (expand nest from) next → (told : Bool) → is_component nest from ≡ told → Deep next
      on from next there line true told =
          let same : (from ≡ next) ⊎ ⊥ = subst (λ xs. Has xs next) (expand_component nest from told) line in
          elim same [
            | inl is ↦ inl (subst (λ s. is_component nest s ≡ true) is told)
            | inr none ↦ absurd none
          ]
      on from next there line false told = elim (deep from there) [
        | inl is ↦ absurd (apart told is)
        | inr found ↦
            let step = step_in nest from next told line in
            inr (suc found.0, step_deeper nest (λ g. g.ins) found.0 from next found.1 step, omega (arith, found.2))
      ]
        where
          apart : {b : Bool} → b ≡ false → b ≡ true → ⊥
          apart one other = cc

      each : (spot : Spot) → Has (distinct [] expanded) spot → Deep spot
      each spot there =
          let one = flat_has (expand nest) spots spot (distinct_has [] expanded spot there) in
          on one.one spot one.has one.inside (is_component nest one.one) refl

      by : ((next : List Spot) → ((spot : Spot) → Has next spot → Deep spot) → Has (reach nest depth next) to → is_component nest to ≡ true)
          → (told : Bool) → list_all (is_component nest) spots ≡ told → Has (cond told spots (reach nest depth (distinct [] expanded))) to
          → is_component nest to ≡ true
      by later true told there = all_pass (is_component nest) spots to told there
      by later false told there = later (distinct [] expanded) each there

  -- An output of a group that exists comes from an inner port.
  steps_down : (spot : Spot) → OutThere nest sound spot.scope.group spot.port → is_component nest spot ≡ false
      → (next : Spot) × (step_down nest spot ≡ Some next)
  steps_down spot there grouped =
      let place = place_there nest spot grouped in
      let lines = of_group nest (λ g. g.outs) place.0 in
      let named = λ (bind : Bind). bytes_eq bind.port spot.port.port in
      let line = named_line (λ g. g.outs) place.0 spot.port.port (there place.0 place.1) in
      let found = finds named lines line.one line.has line.passes in
      (spot_in (inside spot.scope spot.port.instance place.0) found.one, step_some nest spot place.0 found.one place.1 found.is)

  -- After all levels, an output is a component's.
  pub followed_leaf : (depth at : ℕ) (spot : Spot) → IsScopeAt nest at spot.scope → OutThere nest sound spot.scope.group spot.port
      → levels ≤ at + depth
      → is_component nest (follow nest depth spot) ≡ true
  followed_leaf zero at spot is there deep = (let short = scope_short nest sound at spot.scope is in absurd (omega (arith, deep, short)))
  followed_leaf (suc depth) at spot is there deep =
      by (λ next inner next_there. followed_leaf depth (suc at) next inner next_there (omega (arith, deep))) (is_component nest spot) refl
    where
      by : ((next : Spot) → IsScopeAt nest (suc at) next.scope → OutThere nest sound next.scope.group next.port
          → is_component nest (follow nest depth next) ≡ true) → (told : Bool) → is_component nest spot ≡ told
          → is_component nest (follow nest (suc depth) spot) ≡ true
      by on true told = ap (is_component nest) (follow_stays nest (suc depth) spot told) ∙ told
      by on false told =
          let next = steps_down spot there told in
          let step = step_out nest spot next.0 next.1 in
          ap (is_component nest) (follow_next nest depth spot next.0 next.1)
          ∙ on next.0 (step_deeper nest (λ g. g.outs) at spot next.0 is step) (next_out_there spot next.0 step)
