-- The values at the ports of a nest, from the signals of its flat system's outputs.
use Rattle.std.proofs.Common.{◌≡◌, ℕ, zero, suc, ◌+◌, ◌≤◌, Bool, true, false, List, [], ◌∷◌, Option, Some, inl, inr, refl, sym, ap, subst, ◌∙◌}
use Rattle.std.proofs.Common.{arith, cond, find}
use Rattle.std.specs.Prelude.{if◌then◌else◌, is_some}
use Rattle.std.specs.List.{flat_map, list_any}
use Rattle.std.specs.Option.{option_map}
use Rattle.unit_tree.specs.Compositions.{place_of}
use Rattle.unit_tree.specs.Names.{same_port}
use Rattle.unit_tree.specs.declared.system.PortName.{PortName}
use Rattle.event_runs.specs.EventPorts.{Signals, signal_in}
use Rattle.event_runs.specs.Events.{Signal}
use Rattle.nest_text.specs.declared.nest.Nest.{Nest}
use Rattle.nest_names.specs.Flattening.{levels, flat_port, follow, is_component, expand, same_spot, wires_of}
use Rattle.nest_names.specs.declared.scope.Spot.{Spot}
use Rattle.language_laws.proofs.NameLaws.{same_port_of}
use Rattle.language_laws.proofs.PlainNames.{has_flat, flat_has}
use Rattle.list_laws.proofs.Members.{Has, found_passes}
use Rattle.run_laws.proofs.PlaceOrders.{same_port_is}
use Rattle.nest_runs.specs.NestPorts.{NestPort, OfComponent, OfGroup, port_at, Connects, LeadsIn, LeadsOut}
use Rattle.nest_runs.specs.NestTrace.{PortValues, AreCarried, IsFed}
use Rattle.nest_runs.specs.SoundNests.{IsSound}
use Rattle.nest_runs.proofs.ListLaws.{any_passes, passes_any, contained, contains, finds, found_has}
use Rattle.nest_runs.proofs.ScopeLaws.{made_of}
use Rattle.nest_names.proofs.SameSpots.{spot_is, spot_self}
use Rattle.nest_runs.proofs.WayLaws.{Way, last_step, way_more, way_short, follow_stays, follow_next, follow_stable}
use Rattle.nest_runs.proofs.WayLaws.{followed_leaf, step_out}
use Rattle.nest_runs.proofs.WayLaws.{next_out_there, step_deeper, way_deeper}
use Rattle.nest_runs.proofs.WireLaws.{Connection, ends, source, component_port, group_port, group_meant, all, flat, standing, among_all, ends_keep}
use Rattle.nest_runs.proofs.WireLaws.{agree}

-- ---- Ports that are the same

abbrev same_nest_port : NestPort → NestPort → Bool
same_nest_port (OfComponent one) (OfComponent other) = same_port one other
same_nest_port (OfGroup one) (OfGroup other) = same_spot one other
same_nest_port _ _ = false

same_ports : (one other : NestPort) → same_nest_port one other ≡ true → one ≡ other
same_ports (OfComponent one) (OfComponent other) is = ap OfComponent (same_port_is one other is)
same_ports (OfComponent one) (OfGroup other) is = absurd (cc)
same_ports (OfGroup one) (OfComponent other) is = absurd (cc)
same_ports (OfGroup one) (OfGroup other) is = ap OfGroup (spot_is one other is)

ports_same : (one : NestPort) → same_nest_port one one ≡ true
ports_same (OfComponent one) = same_port_of one one refl
ports_same (OfGroup one) = spot_self one

-- ---- The ports on the paths of an input

module _ (nest : Nest) where
  abbrev ways : ℕ → Spot → List Spot
  ways zero spot = spot ∷ []
  ways (suc depth) spot = spot ∷ (if is_component nest spot then [] else flat_map (ways depth) (expand nest spot))

  record OnWay (from to : Spot) : Type 0 where
    count : ℕ
    way : Way nest count from to

  way_of : (depth : ℕ) (from to : Spot) → Has (ways depth from) to → OnWay from to
  way_of zero from to (inl is) = record { count = 0; way = is }
  way_of zero from to (inr none) = absurd none
  way_of (suc depth) from to (inl is) = record { count = 0; way = is }
  way_of (suc depth) from to (inr has) = by (λ next there. way_of depth next to there) (is_component nest from) refl has
    where
      by : ((next : Spot) → Has (ways depth next) to → OnWay next to) → (told : Bool) → is_component nest from ≡ told
          → Has (cond told [] (flat_map (ways depth) (expand nest from))) to → OnWay from to
      by on true told there = absurd there
      by on false told there =
          let found = flat_has (ways depth) (expand nest from) to there in
          let later = on found.one found.inside in
          record { count = suc later.count; way = (found.one, told, found.has, later.way) }

  on_way : (depth count : ℕ) (from to : Spot) → Way nest count from to → count ≤ depth → Has (ways depth from) to
  on_way zero zero from to way short = inl way
  on_way zero (suc count) from to way short = absurd (omega (arith, short))
  on_way (suc depth) zero from to way short = inl way
  on_way (suc depth) (suc count) from to way short =
      inr (subst (λ told. Has (cond told [] (flat_map (ways depth) (expand nest from))) to) (sym way.1)
      (has_flat (ways depth) (expand nest from) way.0 to way.2 (on_way depth count way.0 to way.3 (omega (arith, short)))))

module _ (nest : Nest) (sound : IsSound nest) (signals : Signals) where
  abbrev given : PortName → Option Signal
  given port = signal_in signals (place_of (flat nest sound) port)

  abbrev made_outs : NestPort → Option Signal
  made_outs (OfComponent port) = given port
  made_outs (OfGroup spot) = given (flat_port (follow nest levels spot))

  -- Whether a connection reaches the port.
  abbrev leads_to : NestPort → Connection → Bool
  leads_to port one = list_any (λ spot. same_nest_port port (port_at nest spot)) (ways nest levels one.to)

  abbrev made_ins : NestPort → Option (Option Signal)
  made_ins port = option_map (λ one. given (source nest one)) (find (leads_to port) (all nest sound))

  abbrev pub made_values : PortValues
  made_values = record { outs = made_outs; ins = made_ins }

  -- ---- Outputs

  outs_of_port : (spot : Spot) → made_outs (port_at nest spot) ≡ given (flat_port (follow nest levels spot))
  outs_of_port spot = by (is_component nest spot) refl
    where
      by : (told : Bool) → is_component nest spot ≡ told → made_outs (port_at nest spot) ≡ given (flat_port (follow nest levels spot))
      by true told = ap made_outs (component_port nest spot told) ∙ ap (λ s. given (flat_port s)) (sym (follow_stays nest levels spot told))
      by false told = ap made_outs (group_port nest spot told)

  out_made : (outer inner : NestPort) → LeadsOut nest outer inner → made_outs outer ≡ made_outs inner
  out_made outer inner line =
      let step = step_out nest line.spot line.next line.line in
      let leaf = followed_leaf nest sound 32 (suc line.is_scope.0) line.next
      (step_deeper nest (λ group. group.outs) line.is_scope.0 line.spot line.next line.is_scope.1 step)
      (next_out_there nest sound line.spot line.next step) (omega arith) in
      ap made_outs line.outer_is
      ∙ outs_of_port line.spot
      ∙ ap (λ s. given (flat_port s)) (follow_next nest 32 line.spot line.next line.line ∙ sym (follow_stable nest 32 line.next leaf))
      ∙ sym (outs_of_port line.next)
      ∙ sym (ap made_outs line.inner_is)

  -- ---- Inputs

  -- A connection that reaches a port, and the path to it.
  record Leading (port : NestPort) (one : Connection) : Type 0 where
    spot : Spot
    count : ℕ
    way : Way nest count one.to spot
    is : port ≡ port_at nest spot

  leading : (port : NestPort) (one : Connection) → leads_to port one ≡ true → Leading port one
  leading port one is =
      let found = any_passes (λ spot. same_nest_port port (port_at nest spot)) (ways nest levels one.to) is in
      let way = way_of nest levels one.to found.one found.has in
      record { spot = found.one; count = way.count; way = way.way; is = same_ports port (port_at nest found.one) found.passes }

  -- If a connection reaches a port, the port has the value of its source.
  found_by : (port : NestPort) (one : Connection) (count : ℕ) (spot : Spot) → Has (all nest sound) one → Way nest count one.to spot
      → port_at nest spot ≡ port → made_ins port ≡ Some (given (source nest one))
  found_by port one count spot has way is =
      let keep = ends_keep nest sound one has in
      let short = way_short nest sound count keep.depth one.to spot keep.to_scope way in
      let same : same_nest_port port (port_at nest spot) ≡ true = ap (same_nest_port port) is ∙ ports_same port in
      let leads = passes_any (λ s. same_nest_port port (port_at nest s)) (ways nest levels one.to) spot
      (on_way nest levels count one.to spot way (omega (arith, short))) same in
      let first = finds (leads_to port) (all nest sound) one has leads in
      let there = leading port first.one (found_passes (leads_to port) (all nest sound) first.one first.is) in
      ap (option_map (λ c. given (source nest c))) first.is
      ∙ ap (λ p. Some (given p))
      (agree nest sound first.one one there.spot spot there.count count
      (found_has (leads_to port) (all nest sound) first.one first.is) has there.way way
      (sym there.is ∙ sym is))

  connected_made : (from to : NestPort) → Connects nest from to → made_ins to ≡ Some (made_outs from)
  connected_made from to line =
      let one = ends line.scope line.wire in
      let has = among_all nest sound line.is_scope.0 line.scope line.wire line.is_scope.1
      (contained (wires_of nest line.scope.group) line.wire line.stands) in
      found_by to one 0 one.to has refl (sym line.to_is) ∙ ap Some (sym (outs_of_port one.from) ∙ sym (ap made_outs line.from_is))

  -- The connection that gives a port its value.
  record By (port : NestPort) (value : Option Signal) : Type 0 where
    one : Connection
    has : Has (all nest sound) one
    leads : Leading port one
    is : given (source nest one) ≡ value

  value_by : (port : NestPort) (value : Option Signal) → made_ins port ≡ Some value → By port value
  value_by port value is =
      let made = made_of (λ one. given (source nest one)) (find (leads_to port) (all nest sound)) value is in
      record {
        one = made.one;
        has = found_has (leads_to port) (all nest sound) made.one made.there;
        leads = leading port made.one (found_passes (leads_to port) (all nest sound) made.one made.there);
        is = made.is;
      }

  within_made : (outer inner : NestPort) (value : Option Signal) → LeadsIn nest outer inner → made_ins outer ≡ Some value
      → made_ins inner ≡ Some value
  within_made outer inner value line is =
      let by = value_by outer value is in
      let meant = group_meant nest by.leads.spot line.spot (sym by.leads.is ∙ line.outer_is ∙ group_port nest line.spot line.of_group) in
      let way = way_more nest by.leads.count by.one.to line.spot line.next
      (subst (Way nest by.leads.count by.one.to) meant.named by.leads.way) line.of_group
      (contained (expand nest line.spot) line.next line.line) in
      found_by inner by.one (suc by.leads.count) line.next by.has way (sym line.inner_is) ∙ ap Some by.is

  fed_made : (to : NestPort) (value : Option Signal) → made_ins to ≡ Some value → IsFed nest made_values to
  fed_made to value is = let by = value_by to value is in from_way by.one by.has by.leads.count by.leads.spot by.leads.way by.leads.is
    where
      from_way : (one : Connection) → Has (all nest sound) one → (count : ℕ) (spot : Spot) → Way nest count one.to spot → to ≡ port_at nest spot
          → IsFed nest made_values to
      from_way one has zero spot way means =
          let here = standing nest sound one has in
          inl (
            port_at nest one.from,
            record {
              scope = here.scope;
              wire = here.wire;
              is_scope = (here.depth, here.is_scope);
              stands = contains (wires_of nest here.scope.group) here.wire here.has;
              from_is = ap (λ (c : Connection). port_at nest c.from) (sym here.is);
              to_is = means ∙ ap (port_at nest) (sym way) ∙ ap (λ (c : Connection). port_at nest c.to) (sym here.is);
            },
          )
      from_way one has (suc count) spot way means =
          let last = last_step nest count one.to spot way in
          let keep = ends_keep nest sound one has in
          inr (
            port_at nest last.last,
            record {
              spot = last.last;
              next = spot;
              is_scope = (count + keep.depth, way_deeper nest count keep.depth one.to last.last keep.to_scope last.way);
              of_group = last.grouped;
              line = contains (expand nest last.last) spot last.line;
              outer_is = refl;
              inner_is = means;
            },
            ap is_some (found_by (port_at nest last.last) one count last.last has last.way refl),
          )

  pub made_carried : AreCarried nest made_values
  made_carried = record { out = out_made; connected = connected_made; within = within_made; fed = fed_made }
