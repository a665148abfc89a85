-- Where values follow the lines of a nest, an input of a component has exactly what the flat system's connections give
-- it.
use Rattle.std.proofs.Common.{◌≡◌, ℕ, zero, suc, ◌<◌, List, [], ◌∷◌, map, length, Option, Some, None, inl, inr, refl, sym}
use Rattle.std.proofs.Common.{ap, subst, ◌∙◌, arith}
use Rattle.std.specs.Prelude.{slice_get, IsSome}
use Rattle.std.specs.List.{position_or_len}
use Rattle.std.specs.Option.{option_and_then}
use Rattle.unit_tree.specs.Compositions.{place_of}
use Rattle.unit_tree.specs.Names.{same_port}
use Rattle.unit_tree.specs.Orders.{IsIn, outputs_of, sources_of}
use Rattle.unit_tree.specs.declared.system.PortName.{PortName}
use Rattle.unit_tree.specs.declared.system.Wire.{Wire}
use Rattle.event_runs.specs.EventPorts.{signal_in}
use Rattle.event_runs.specs.Events.{Signal}
use Rattle.nest_text.specs.declared.nest.Nest.{Nest}
use Rattle.nest_names.specs.Flattening.{levels, wires_of, flat_port, follow, step_down, expand, is_component}
use Rattle.nest_names.specs.declared.scope.Spot.{Spot}
use Rattle.list_laws.proofs.Members.{Has}
use Rattle.run_laws.proofs.PlainCycles.{comes_from_output}
use Rattle.run_laws.proofs.PlainOrders.{wired, has_source}
use Rattle.run_laws.proofs.PlaceOrders.{found_at}
use Rattle.nest_runs.specs.NestPorts.{NestPort, OfComponent, OfGroup, IsScopeAt, port_at, Connects, LeadsIn, LeadsOut}
use Rattle.nest_runs.specs.NestTrace.{PortValues, AreCarried, IsFed, output_signals}
use Rattle.nest_runs.specs.SoundNests.{IsSound}
use Rattle.nest_runs.proofs.SoundLaws.{flat_ranged}
use Rattle.nest_runs.proofs.ListLaws.{contained, contains}
use Rattle.nest_runs.proofs.ScopeLaws.{name_long}
use Rattle.nest_runs.proofs.WayLaws.{Way, Step, step_in, step_out, step_deeper, follow_none, follow_next, followed_leaf, next_out_there, way_more}
use Rattle.nest_runs.proofs.WireLaws.{Connection, ends, source, component_port, group_port, component_meant, group_meant, all, flat, standing}
use Rattle.nest_runs.proofs.WireLaws.{among_all}
use Rattle.nest_runs.proofs.WireLaws.{ends_keep, behind, becomes, wire_to}

-- The element of a list at the place of one of the ports.
mapped_at : {A B : Type 0} (f : A → B) (xs : List A) (place : ℕ) (x : A) → slice_get xs place ≡ Some x → slice_get (map f xs) place ≡ Some (f x)
mapped_at f [] place x is = absurd (cc)
mapped_at f (first ∷ xs) zero x is = let same : first ≡ x = cc in ap (λ y. Some (f y)) same
mapped_at f (first ∷ xs) (suc place) x is = mapped_at f xs place x is

pub signal_at : (f : PortName → Option Signal) (ports : List PortName) (port : PortName) → IsIn ports port
    → signal_in (map f ports) (position_or_len (same_port port) ports) ≡ f port
signal_at f ports port there =
    ap (option_and_then (λ signal. signal)) (mapped_at f ports (position_or_len (same_port port) ports) port (found_at ports port there))

is_there : {A : Type 0} (given : Option A) → IsSome given → (x : A) × (given ≡ Some x)
is_there None some = absurd (cc)
is_there (Some x) some = (x, refl)

module _ (nest : Nest) (sound : IsSound nest) (values : PortValues) (carried : AreCarried nest values) where
  -- ---- Along the lines

  -- An output has the value of the component's output that it comes from.
  followed : (depth at : ℕ) (spot : Spot) → IsScopeAt nest at spot.scope
      → values.outs (port_at nest spot) ≡ values.outs (port_at nest (follow nest depth spot))
  followed zero at spot is = refl
  followed (suc depth) at spot is = by (λ next inner. followed depth (suc at) next inner) (step_down nest spot) refl
    where
      by : ((next : Spot) → IsScopeAt nest (suc at) next.scope
          → values.outs (port_at nest next) ≡ values.outs (port_at nest (follow nest depth next)))
          → (given : Option Spot) → step_down nest spot ≡ given
          → values.outs (port_at nest spot) ≡ values.outs (port_at nest (follow nest (suc depth) spot))
      by later None step = ap (λ s. values.outs (port_at nest s)) (sym (follow_none nest depth spot step))
      by later (Some next) step =
          carried.out (port_at nest spot) (port_at nest next)
          (record { spot = spot; next = next; is_scope = (at, is); line = step; outer_is = refl; inner_is = refl })
          ∙ later next (step_deeper nest (λ group. group.outs) at spot next is (step_out nest spot next step))
          ∙ ap (λ s. values.outs (port_at nest s)) (sym (follow_next nest depth spot next step))

  along : (count depth : ℕ) (from to : Spot) (given : Option Signal) → IsScopeAt nest depth from.scope → Way nest count from to
      → values.ins (port_at nest from) ≡ Some given → values.ins (port_at nest to) ≡ Some given
  along zero depth from to given is way has = ap (λ s. values.ins (port_at nest s)) (sym way) ∙ has
  along (suc count) depth from to given is way has =
      along count (suc depth) way.0 to given (step_deeper nest (λ group. group.ins) depth from way.0 is (step_in nest from way.0 way.1 way.2)) way.3
      (carried.within (port_at nest from) (port_at nest way.0) given
      (record {
        spot = from;
        next = way.0;
        is_scope = (depth, is);
        of_group = way.1;
        line = contains (expand nest from) way.0 way.2;
        outer_is = refl;
        inner_is = refl;
      }) has)

  -- An input that a connection reaches has the value of the connection's source.
  pub carried_to : (one : Connection) (count : ℕ) (to : Spot) → Has (all nest sound) one → Way nest count one.to to
      → values.ins (port_at nest to) ≡ Some (values.outs (OfComponent (source nest one)))
  carried_to one count to has way =
      let here = standing nest sound one has in
      let keep = ends_keep nest sound one has in
      let leaf = followed_leaf nest sound levels keep.depth one.from keep.from_scope keep.from_there (omega arith) in
      along count keep.depth one.to to (values.outs (port_at nest one.from)) keep.to_scope way
      (carried.connected (port_at nest one.from) (port_at nest one.to)
      (record {
        scope = here.scope;
        wire = here.wire;
        is_scope = (here.depth, here.is_scope);
        stands = contains (wires_of nest here.scope.group) here.wire here.has;
        from_is = ap (λ (c : Connection). port_at nest c.from) (sym here.is);
        to_is = ap (λ (c : Connection). port_at nest c.to) (sym here.is);
      }))
      ∙ ap Some (followed levels keep.depth one.from keep.from_scope ∙ ap values.outs (component_port nest (follow nest levels one.from) leaf))

  -- ---- Back to a connection

  pub record Origin (to : NestPort) : Type 0 where
    pub one : Connection
    pub has : Has (all nest sound) one
    pub count : ℕ
    pub last : Spot
    pub way : Way nest count one.to last
    pub is : port_at nest last ≡ to

  from_connection : (from to : NestPort) → Connects nest from to → Origin to
  from_connection from to line = record {
    one = ends line.scope line.wire;
    has = among_all nest sound line.is_scope.0 line.scope line.wire line.is_scope.1
        (contained (wires_of nest line.scope.group) line.wire line.stands);
    count = 0;
    last = (ends line.scope line.wire).to;
    way = refl;
    is = sym line.to_is;
  }

  from_line : (outer inner : NestPort) (line : LeadsIn nest outer inner) → Origin (OfGroup line.spot) → Origin inner
  from_line outer inner line origin =
      let meant = group_meant nest origin.last line.spot origin.is in
      record {
        one = origin.one;
        has = origin.has;
        count = suc origin.count;
        last = line.next;
        way = way_more nest origin.count origin.one.to line.spot line.next
            (subst (Way nest origin.count origin.one.to) meant.named origin.way) line.of_group
            (contained (expand nest line.spot) line.next line.line);
        is = sym line.inner_is;
      }

  -- The prefix of a scope is longer than that of the scope around it.
  longer : (spot next : Spot) → Step nest (λ group. group.ins) spot next → length spot.scope.prefix < length next.scope.prefix
  longer spot next step =
      let more = name_long spot.scope.prefix spot.port.instance in
      let same = ap (λ (s : Spot). length s.scope.prefix) step.is in
      omega (arith, more, same)

  origin_of_group : (fuel : ℕ) (spot : Spot) (given : Option Signal) → length spot.scope.prefix < fuel → values.ins (OfGroup spot) ≡ Some given
      → Origin (OfGroup spot)
  origin_of_group zero spot given short has = absurd (omega (arith, short))
  origin_of_group (suc fuel) spot given short has = by (origin_of_group fuel) (carried.fed (OfGroup spot) given has)
    where
      by : ((next : Spot) (value : Option Signal) → length next.scope.prefix < fuel → values.ins (OfGroup next) ≡ Some value → Origin (OfGroup next))
          → IsFed nest values (OfGroup spot) → Origin (OfGroup spot)
      by later (inl fed) = from_connection fed.0 (OfGroup spot) fed.1
      by later (inr fed) =
          let line = fed.1 in
          let meant = group_meant nest line.next spot (sym line.inner_is) in
          let step = step_in nest line.spot line.next line.of_group (contained (expand nest line.spot) line.next line.line) in
          let less = longer line.spot line.next step in
          let same = ap (λ (s : Spot). length s.scope.prefix) meant.named in
          let some = is_there (values.ins fed.0) fed.2 in
          let outer = line.outer_is ∙ group_port nest line.spot line.of_group in
          from_line fed.0 (OfGroup spot) line
          (later line.spot some.0 (omega (arith, short, less, same)) (ap values.ins (sym outer) ∙ some.1))

  pub origin_of : (port : PortName) (given : Option Signal) → values.ins (OfComponent port) ≡ Some given → Origin (OfComponent port)
  origin_of port given has = by (carried.fed (OfComponent port) given has)
    where
      by : IsFed nest values (OfComponent port) → Origin (OfComponent port)
      by (inl fed) = from_connection fed.0 (OfComponent port) fed.1
      by (inr fed) =
          let line = fed.1 in
          let some = is_there (values.ins fed.0) fed.2 in
          let outer = line.outer_is ∙ group_port nest line.spot line.of_group in
          from_line fed.0 (OfComponent port) line
          (origin_of_group (suc (length line.spot.scope.prefix)) line.spot some.0 (omega arith) (ap values.ins (sym outer) ∙ some.1))

  -- ---- What inputs of components have

  -- The value of the first of some outputs, if there is one.
  abbrev pub first_given : List PortName → Option (Option Signal)
  first_given [] = None
  first_given (port ∷ others) = Some (signal_in (output_signals nest values) (place_of (flat nest sound) port))

  pub input_has : (port : PortName) → values.ins (OfComponent port) ≡ first_given (sources_of (flat nest sound) port)
  input_has port = by (sources_of (flat nest sound) port) refl
    where
      none_by : (given : Option (Option Signal)) → values.ins (OfComponent port) ≡ given → sources_of (flat nest sound) port ≡ [] → given ≡ None
      none_by None is none = refl
      none_by (Some signal) is none =
          let origin = origin_of port signal is in
          let meant = component_meant nest origin.last port origin.is in
          absurd (subst (λ ports. Has ports (source nest origin.one)) none
          (has_source (flat nest sound).wires port (wire_to nest origin.one origin.last)
          (becomes nest sound origin.one origin.count origin.last origin.has origin.way meant.is) meant.named))

      by : (sources : List PortName) → sources_of (flat nest sound) port ≡ sources → values.ins (OfComponent port) ≡ first_given sources
      by [] is = none_by (values.ins (OfComponent port)) refl is
      by (first ∷ others) is =
          let joined = wired (flat nest sound).wires port first (subst (λ ports. Has ports first) (sym is) (inl refl)) in
          let back = behind nest sound joined.wire joined.has in
          let to : flat_port back.leaf ≡ port = ap (λ (w : Wire). w.to) back.is ∙ joined.to in
          let from : source nest back.one ≡ first = ap (λ (w : Wire). w.from) back.is ∙ joined.from in
          let output = subst (IsIn (outputs_of (flat nest sound))) joined.from
          (comes_from_output (flat nest sound) (flat_ranged nest sound) sound.well_formed joined.wire joined.has) in
          ap values.ins (ap OfComponent (sym to) ∙ sym (component_port nest back.leaf back.is_leaf))
          ∙ carried_to back.one back.count back.leaf back.has back.way
          ∙ ap (λ p. Some (values.outs (OfComponent p))) from
          ∙ ap Some (sym (signal_at (λ p. values.outs (OfComponent p)) (outputs_of (flat nest sound)) first output))

  -- ---- What ports of groups have

  origin_by : (port : NestPort) (given : Option Signal) → values.ins port ≡ Some given → Origin port
  origin_by (OfComponent port) given has = origin_of port given has
  origin_by (OfGroup spot) given has = origin_of_group (suc (length spot.scope.prefix)) spot given (omega arith) has

  -- The component's output that gives a connected input its value.
  pub record Source (port : NestPort) (given : Option Signal) : Type 0 where
    pub origin : Origin port
    pub is : given ≡ values.outs (OfComponent (source nest origin.one))

  some_same : (one other : Option Signal) → Some one ≡ Some other → one ≡ other
  some_same one other same = cc

  pub source_of_input : (port : NestPort) (given : Option Signal) → values.ins port ≡ Some given → Source port given
  source_of_input port given has =
      let origin = origin_by port given has in
      record {
        origin = origin;
        is = some_same given (values.outs (OfComponent (source nest origin.one)))
            (sym has ∙ ap values.ins (sym origin.is) ∙ carried_to origin.one origin.count origin.last origin.has origin.way);
      }

  -- An output of a group has the value of a component's output.
  pub group_output : (outer inner : NestPort) (line : LeadsOut nest outer inner)
      → values.outs outer ≡ values.outs (OfComponent (flat_port (follow nest levels line.spot)))
  group_output outer inner line =
      let step = step_out nest line.spot line.next line.line in
      let leaf = followed_leaf nest sound 32 (suc line.is_scope.0) line.next
      (step_deeper nest (λ group. group.outs) line.is_scope.0 line.spot line.next line.is_scope.1 step)
      (next_out_there nest sound line.spot line.next step) (omega arith) in
      let is = ap (is_component nest) (follow_next nest 32 line.spot line.next line.line) ∙ leaf in
      ap values.outs line.outer_is
      ∙ followed levels line.is_scope.0 line.spot line.is_scope.1
      ∙ ap values.outs (component_port nest (follow nest levels line.spot) is)

module _ (nest : Nest) (sound : IsSound nest) (one other : PortValues) (carried : AreCarried nest one) (others : AreCarried nest other)
    (same : (port : PortName) → one.outs (OfComponent port) ≡ other.outs (OfComponent port)) where
  -- An input that is connected in one assignment has the same value in the other.
  connected_too : (port : NestPort) (given : Option Signal) → one.ins port ≡ Some given → other.ins port ≡ Some given
  connected_too port given has =
      let from = source_of_input nest sound one carried port given has in
      let origin = from.origin in
      ap other.ins (sym origin.is)
      ∙ carried_to nest sound other others origin.one origin.count origin.last origin.has origin.way
      ∙ ap Some (sym (same (source nest origin.one)) ∙ sym from.is)

  pub outputs_same : (outer inner : NestPort) → LeadsOut nest outer inner → one.outs outer ≡ other.outs outer
  outputs_same outer inner line =
      group_output nest sound one carried outer inner line
      ∙ same (flat_port (follow nest levels line.spot))
      ∙ sym (group_output nest sound other others outer inner line)

module _ (nest : Nest) (sound : IsSound nest) (one other : PortValues) (carried : AreCarried nest one) (others : AreCarried nest other)
    (same : (port : PortName) → one.outs (OfComponent port) ≡ other.outs (OfComponent port)) where
  pub inputs_same : (port : NestPort) → one.ins port ≡ other.ins port
  inputs_same port = by (one.ins port) (other.ins port) refl refl
    where
      by : (mine yours : Option (Option Signal)) → one.ins port ≡ mine → other.ins port ≡ yours → mine ≡ yours
      by None None is told = refl
      by None (Some given) is told =
          let back = connected_too nest sound other one others carried (λ p. sym (same p)) port given told in absurd (cc)
      by (Some given) yours is told = sym (connected_too nest sound one other carried others same port given is) ∙ told
