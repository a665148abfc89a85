-- The trace of a nest is that of its flat system.
use Rattle.std.proofs.Common.{◌≡◌, ◌+◌, ℤ, List, [], ◌∷◌, ◌++◌, map, length, Option, Some, None, inl, inr, refl, sym, ap, ap₂, subst, ◌∙◌, arith}
use Rattle.std.proofs.Common.{append_assoc}
use Rattle.std.specs.Prelude.{◌↔◌, slice_get, zip}
use Rattle.std.specs.List.{cons_option, filter_map, flat_map, position_or_len}
use Rattle.std.specs.Option.{option_and_then, option_map}
use Rattle.std.proofs.lemmas.List.{length-append, length-map}
use Rattle.super_time.specs.declared.point.Point.{Point}
use Rattle.unit_tree.specs.Components.{initial}
use Rattle.unit_tree.specs.Compositions.{component_with, factor_of, member_with, source_of}
use Rattle.unit_tree.specs.Names.{Port, output_names, output_ports, unit_of_instance, same_port}
use Rattle.unit_tree.specs.Negotiation.{state_after}
use Rattle.unit_tree.specs.Orders.{HasNoCycle, outputs_in, outputs_of, port_of}
use Rattle.unit_tree.specs.Ports.{first_some}
use Rattle.unit_tree.specs.Successor.{Position, goes, ends_or}
use Rattle.unit_tree.specs.declared.ending.Ending.{Ending}
use Rattle.unit_tree.specs.declared.system.Instance.{Instance}
use Rattle.unit_tree.specs.declared.system.PortName.{PortName}
use Rattle.unit_tree.specs.declared.system.System.{System}
use Rattle.unit_tree.specs.declared.unit.Unit.{Unit}
use Rattle.event_runs.specs.EventPorts.{Signals, EventMember, event_sides, signal_in, signals_at, signal_of, outs_of, Plain, Event}
use Rattle.event_runs.specs.EventRuns.{event_members_of, event_run_of, with_feeds, IsEventTraceOf, last_event_point}
use Rattle.event_runs.specs.EventTrace.{EventStand, EventFollows, EventRow, IsEventStand, IsEventTrace, event_offers, event_port_fault}
use Rattle.event_runs.specs.EventTrace.{event_row_unless, event_rows_of}
use Rattle.event_runs.specs.EventTrace.{EventRun, event_step_at, event_successor, first_event_position}
use Rattle.event_runs.specs.Offers.{after_by, agreed_at, ends_by, next_by, proposal_at}
use Rattle.event_runs.proofs.SystemTraces.{one_outcome}
use Rattle.event_runs.proofs.TurnLaws.{next_same}
use Rattle.nest_text.specs.declared.nest.Nest.{Nest}
use Rattle.language_laws.proofs.NameLaws.{PortsDiffer, ports_differ}
use Rattle.language_laws.proofs.PlainNames.{of_event, of_output}
use Rattle.list_laws.proofs.Members.{Has, Distinct, at_seam, distinct_append, each_has, has_either}
use Rattle.run_laws.proofs.PlainOrders.{named_has}
use Rattle.run_laws.proofs.PlaceOrders.{place_is}
use Rattle.nest_runs.specs.NestTrace.{PortValues, AreCarried, NestStand, IsNestStand, NestFollows, IsNestTrace, IsNestTraceOf, HasOneNestTraceOf}
use Rattle.nest_runs.specs.NestTrace.{nest_members}
use Rattle.nest_runs.specs.NestTrace.{nest_run_of, input_signals, output_signals, nest_successor, row_of_stand, last_nest_point}
use Rattle.nest_runs.specs.SoundNests.{IsSound}
use Rattle.nest_runs.proofs.SoundLaws.{flat_ranged}
use Rattle.nest_runs.proofs.MadeValues.{made_values, made_carried}
use Rattle.nest_runs.proofs.MemberLaws.{see_alike}
use Rattle.nest_runs.proofs.SightLaws.{SeeAlike, sides_same, fault_same, limits_same, steps_same}
use Rattle.nest_runs.proofs.WireLaws.{flat}

-- ---- Members that read the same

states_same : (signals others : Signals) (ones them : List EventMember) → SeeAlike signals others ones them
    → map (λ (one : EventMember). initial one.member.component) ones ≡ map (λ (one : EventMember). initial one.member.component) them
states_same signals others [] [] alike = refl
states_same signals others [] (other ∷ them) alike = absurd alike
states_same signals others (one ∷ ones) [] alike = absurd alike
states_same signals others (one ∷ ones) (other ∷ them) alike =
    ap₂ (λ state states. state ∷ states) (ap (λ (m : EventMember). initial m.member.component) (sym alike.0.other_is))
    (states_same signals others ones them alike.1)

factors_same : (signals others : Signals) (ones them : List EventMember) → SeeAlike signals others ones them
    → map (λ (one : EventMember). one.member.factor) ones ≡ map (λ (one : EventMember). one.member.factor) them
factors_same signals others [] [] alike = refl
factors_same signals others [] (other ∷ them) alike = absurd alike
factors_same signals others (one ∷ ones) [] alike = absurd alike
factors_same signals others (one ∷ ones) (other ∷ them) alike =
    ap₂ (λ factor factors. factor ∷ factors) (ap (λ (m : EventMember). m.member.factor) (sym alike.0.other_is))
    (factors_same signals others ones them alike.1)

-- ---- Signals by places

-- If ports differ, the elements at their places are the list itself.
signals_back : (whole front ports : List PortName) (all before signals : Signals) → whole ≡ front ++ ports → all ≡ before ++ signals
    → length before ≡ length front → length signals ≡ length ports → Distinct whole
    → map (λ port. signal_in all (position_or_len (same_port port) whole)) ports ≡ signals
signals_back whole front [] all before [] is told long same apart = refl
signals_back whole front [] all before (signal ∷ signals) is told long same apart = absurd (omega (arith, same))
signals_back whole front (port ∷ ports) all before [] is told long same apart = absurd (omega (arith, same))
signals_back whole front (port ∷ ports) all before (signal ∷ signals) is told long same apart =
    let place = place_is whole (length front) port apart (ap (λ xs. slice_get xs (length front)) is ∙ at_seam front port ports) in
    let here = ap (λ n. option_and_then (λ (s : Option _). s) (slice_get all n)) (place ∙ sym long)
    ∙ ap (λ xs. option_and_then (λ (s : Option _). s) (slice_get xs (length before))) told
    ∙ ap (option_and_then (λ (s : Option _). s)) (at_seam before signal signals) in
    let front_long = length-append front (port ∷ []) in
    let before_long = length-append before (signal ∷ []) in
    ap₂ (λ first others. first ∷ others) here
    (signals_back whole (front ++ (port ∷ [])) ports all (before ++ (signal ∷ [])) signals (is ∙ sym (append_assoc front (port ∷ []) ports))
    (told ∙ sym (append_assoc before (signal ∷ []) signals)) (omega (arith, long, front_long, before_long)) (omega (arith, same)) apart)

-- ---- Outputs differ

module _ (system : System) (differ : PortsDiffer system) where
  abbrev own_ports : Instance → List Port → List PortName
  own_ports instance ports = map (λ (port : Port). port_of instance port.name) ports

  abbrev ports_of : Instance → List PortName
  ports_of instance = own_ports instance (outputs_in (unit_of_instance system instance))

  record Named (instance : Instance) (ports : List Port) (port : PortName) : Type 0 where
    instance_is : instance.name ≡ port.instance
    has : Has (map (λ (p : Port). p.name) ports) port.port

  named : (instance : Instance) (ports : List Port) (port : PortName) → Has (own_ports instance ports) port → Named instance ports port
  named instance [] port has = absurd has
  named instance (first ∷ ports) port (inl is) =
      record { instance_is = ap (λ (p : PortName). p.instance) is; has = inl (ap (λ (p : PortName). p.port) is) }
  named instance (first ∷ ports) port (inr later) =
      let found = named instance ports port later in
      record { instance_is = found.instance_is; has = inr found.has }

  own_apart : (instance : Instance) (ports : List Port) → Distinct (map (λ (p : Port). p.name) ports) → Distinct (own_ports instance ports)
  own_apart instance [] apart = tt
  own_apart instance (first ∷ ports) apart =
      (λ has. apart.0 (named instance ports (port_of instance first.name) has).has, own_apart instance ports apart.1)

  unit_apart : (instance : Instance) (given : Option Unit) → unit_of_instance system instance ≡ given
      → Distinct (own_ports instance (outputs_in given))
  unit_apart instance None is = tt
  unit_apart instance (Some unit) is =
      own_apart instance (output_ports unit)
      (each_has (λ (u : Unit). Distinct (output_names u)) system.units unit differ.outputs (named_has system.units instance.unit unit is))

  instance_among : (instances : List Instance) (port : PortName) → Has (flat_map ports_of instances) port
      → Has (map (λ (instance : Instance). instance.name) instances) port.instance
  instance_among [] port has = absurd has
  instance_among (instance ∷ instances) port has = elim (has_either (ports_of instance) (flat_map ports_of instances) port has) [
    | inl here ↦ inl (named instance (outputs_in (unit_of_instance system instance)) port here).instance_is
    | inr later ↦ inr (instance_among instances port later)
  ]

  all_apart : (instances : List Instance) → Distinct (map (λ (instance : Instance). instance.name) instances) → Distinct (flat_map ports_of instances)
  all_apart [] apart = tt
  all_apart (instance ∷ instances) apart =
      distinct_append (ports_of instance) (flat_map ports_of instances) (unit_apart instance (unit_of_instance system instance) refl)
      (all_apart instances apart.1)
      (λ port here later. apart.0 (subst (Has (map (λ (i : Instance). i.name) instances))
      (sym (named instance (outputs_in (unit_of_instance system instance)) port here).instance_is) (instance_among instances port later)))

  outputs_apart : Distinct (outputs_of system)
  outputs_apart = all_apart system.instances differ.instances

-- ---- One signal for each output

module _ (system : System) (signals : Signals) where
  abbrev made : Instance → Option Unit → Option EventMember
  made instance given = option_map (with_feeds system instance) (member_with system instance given)

  abbrev all_made : List Instance → List EventMember
  all_made instances = filter_map (λ instance. made instance (unit_of_instance system instance)) instances

  abbrev member_made : Instance → Unit → EventMember
  member_made instance unit =
      with_feeds system instance
      (record {
        component = component_with instance.settings unit;
        factor = factor_of system unit;
        sources = map
            (source_of system instance) unit.inputs;
      })

  abbrev ports_in : Instance → Option Unit → List PortName
  ports_in instance given = map (λ (port : Port). port_of instance port.name) (outputs_in given)

  abbrev all_ports : List Instance → List PortName
  all_ports instances = flat_map (λ instance. ports_in instance (unit_of_instance system instance)) instances

  as_many_outs : (unit : Unit) → length (outs_of unit) ≡ length (output_ports unit)
  as_many_outs unit =
      length-append (map Plain unit.outputs) (map Event unit.events_out)
      ∙ ap₂ (λ one other. one + other) (length-map unit.outputs Plain ∙ sym (length-map unit.outputs of_output))
      (length-map unit.events_out Event ∙ sym (length-map unit.events_out of_event))
      ∙ sym (length-append (map of_output unit.outputs) (map of_event unit.events_out))

  as_many : (instances : List Instance) (states : List (List ℤ)) → length states ≡ length (all_made instances)
      → length (event_sides (all_made instances) states signals) ≡ length (all_ports instances)
  as_many [] states long = refl
  as_many (instance ∷ instances) states long = by (as_many instances) (unit_of_instance system instance) states long
    where
      by : ((states : List (List ℤ)) → length states ≡ length (all_made instances)
          → length (event_sides (all_made instances) states signals) ≡ length (all_ports instances))
          → (given : Option Unit) (states : List (List ℤ)) → length states ≡ length (cons_option (made instance given) (all_made instances))
          → length (event_sides (cons_option (made instance given) (all_made instances)) states signals)
          ≡ length (ports_in instance given ++ all_ports instances)
      by others None states long = others states long
      by others (Some unit) [] long = absurd (omega (arith, long))
      by others (Some unit) (state ∷ states) long =
          let later = others states (omega (arith, long)) in
          let one = member_made instance unit in
          length-append (signals_at signals (one, state)) (event_sides (all_made instances) states signals)
          ∙ ap₂ (λ here others. here + others)
          (length-map (outs_of unit) (signal_of signals (one, state)) ∙ as_many_outs unit
          ∙ sym (length-map (output_ports unit) (λ (port : Port). port_of instance port.name))) later
          ∙ sym (length-append (ports_in instance (Some unit)) (all_ports instances))

-- ---- One state for each member

zip_long : {A B : Type 0} (xs : List A) (ys : List B) → length xs ≡ length ys → length (zip xs ys) ≡ length xs
zip_long [] ys same = refl
zip_long (x ∷ xs) [] same = absurd (omega (arith, same))
zip_long (x ∷ xs) (y ∷ ys) same = let later = zip_long xs ys (omega (arith, same)) in omega (arith, later)

gone_on : (given : Option Ending) (after next : Position) → ends_or given after ≡ goes next → after ≡ next
gone_on None after next is = cc
gone_on (Some ending) after next is = absurd (cc)

module _ (run : EventRun) where
  pub states_stay : (at next : Position) (signals : Signals) → length at.states ≡ length run.members → event_successor run at signals ≡ goes next
      → length next.states ≡ length run.members
  states_stay at next signals long is =
      let offers = event_offers run.members at signals in
      let agreed = agreed_at run.pace at offers in
      let redo = offers.steps agreed in
      let after = gone_on (first_some (ends_by run.pace at offers.fault offers.limits (proposal_at run.pace at offers) agreed
      (offers.steps (proposal_at run.pace at offers)) redo)) (after_by at agreed redo) next is in
      let each = length-map (zip run.members at.states) (event_step_at at.point.t agreed signals) in
      let members = zip_long run.members at.states (sym long) in
      let zipped = zip_long at.states redo (long ∙ sym members ∙ sym each) in
      ap (λ (p : Position). length p.states) (sym after) ∙ length-map (zip at.states redo) state_after ∙ zipped ∙ long

-- ---- The two traces

module _ (nest : Nest) (sound : IsSound nest) where
  abbrev whole : System
  whole = flat nest sound

  abbrev members : List EventMember
  members = event_members_of whole

  abbrev run : EventRun
  run = event_run_of whole

  module _ (values : PortValues) (carried : AreCarried nest values) where
    abbrev seen : Signals
    seen = input_signals nest values

    abbrev told : Signals
    told = output_signals nest values

    alike : SeeAlike seen told (nest_members nest) members
    alike = see_alike nest sound values carried

    sides : (states : List (List ℤ)) → event_sides (nest_members nest) states seen ≡ event_sides members states told
    sides states = sides_same seen told (nest_members nest) members states alike

    pace_is : (nest_run_of nest).pace ≡ run.pace
    pace_is = ap (λ factors. record run.pace { factors = factors }) (factors_same seen told (nest_members nest) members alike)

    leads_same : (at : Position) → event_successor (nest_run_of nest) at seen ≡ event_successor run at told
    leads_same at =
        ap (λ pace. next_by pace at (event_offers (nest_members nest) at seen)) pace_is
        ∙ next_same run.pace at (event_offers (nest_members nest) at seen) (event_offers members at told)
        (fault_same seen told (nest_members nest) members at.states alike) (limits_same seen told at (nest_members nest) members alike)
        (steps_same seen told at (nest_members nest) members alike)

    first_is : first_event_position (nest_run_of nest) ≡ first_event_position run
    first_is =
        ap (λ states. record { point = record { t = 0; n = 0 }; states = states; number = 0 })
        (states_same seen told (nest_members nest) members alike)

    row_is : (at : Position) → event_row_unless (event_port_fault (nest_members nest) at.states seen) at.point told
        ≡ event_row_unless (event_port_fault members at.states told) at.point told
    row_is at = ap (λ fault. event_row_unless fault at.point told) (fault_same seen told (nest_members nest) members at.states alike)

  abbrev row_of : EventStand → Option EventRow
  row_of stand = event_row_unless (event_port_fault members stand.at.states stand.signals) stand.at.point stand.signals

  -- ---- From the nest to the flat system

  abbrev down : NestStand → EventStand
  down stand = record { at = stand.at; signals = output_signals nest stand.values }

  stand_down : (stand : NestStand) → IsNestStand nest stand → IsEventStand run (down stand)
  stand_down stand is = is.leaves ∙ sides stand.values is.carried stand.at.states

  follows_down : (one : NestStand) (others : List NestStand) (ending : Ending) → IsNestStand nest one → NestFollows nest one others ending
      → EventFollows run (down one) (map down others) ending
  follows_down one [] ending is follows = sym (leads_same one.values is.carried one.at) ∙ follows
  follows_down one (next ∷ others) ending is follows = (
    sym (leads_same one.values is.carried one.at) ∙ follows.0,
    stand_down next follows.1,
    follows_down next others ending follows.1 follows.2,
  )

  rows_down : (one : NestStand) (others : List NestStand) (ending : Ending) → IsNestStand nest one → NestFollows nest one others ending
      → filter_map (row_of_stand nest) (one ∷ others) ≡ filter_map row_of (map down (one ∷ others))
  rows_down one [] ending is follows = ap (λ row. cons_option row []) (row_is one.values is.carried one.at)
  rows_down one (next ∷ others) ending is follows =
      ap₂ (λ row rows. cons_option row rows) (row_is one.values is.carried one.at) (rows_down next others ending follows.1 follows.2)

  last_down : (stands : List NestStand) → last_nest_point stands ≡ last_event_point (map down stands)
  last_down [] = refl
  last_down (stand ∷ []) = refl
  last_down (stand ∷ later ∷ others) = last_down (later ∷ others)

  trace_down : (stands : List NestStand) (rows : List EventRow) (last : Point) (ending : Ending) → IsNestTrace nest stands ending
      → rows ≡ filter_map (row_of_stand nest) stands → last ≡ last_nest_point stands → IsEventTraceOf whole rows last ending
  trace_down [] rows last ending trace rows_are last_is = absurd trace
  trace_down (first ∷ others) rows last ending trace rows_are last_is = record {
    stands = map down (first ∷ others);
    trace = (
      trace.0 ∙ first_is first.values trace.1.carried,
      stand_down first trace.1,
      follows_down first others ending trace.1 trace.2,
    );
    rows_are = rows_are ∙ rows_down first others ending trace.1 trace.2;
    last_is = last_is ∙ last_down (first ∷ others);
  }

  -- ---- And back

  abbrev up : EventStand → NestStand
  up stand = record { at = stand.at; values = made_values nest sound stand.signals }

  abbrev Long : Position → Type 0
  Long at = length at.states ≡ length members

  signals_are : (stand : EventStand) → Long stand.at → IsEventStand run stand
      → output_signals nest (made_values nest sound stand.signals) ≡ stand.signals
  signals_are stand long is =
      signals_back (outputs_of whole) [] (outputs_of whole) stand.signals [] stand.signals refl refl refl
      (ap length is ∙ as_many whole stand.signals whole.instances stand.at.states long) (outputs_apart whole (ports_differ whole sound.well_formed))

  carried_up : (stand : EventStand) → AreCarried nest (up stand).values
  carried_up stand = made_carried nest sound stand.signals

  stand_up : (stand : EventStand) → Long stand.at → IsEventStand run stand → IsNestStand nest (up stand)
  stand_up stand long is = record {
    carried = carried_up stand;
    leaves =
        signals_are stand long is
        ∙ is
        ∙ ap (event_sides members stand.at.states) (sym (signals_are stand long is))
        ∙ sym (sides (up stand).values (carried_up stand) stand.at.states);
  }

  leads_up : (stand : EventStand) → Long stand.at → IsEventStand run stand
      → nest_successor nest (up stand) ≡ event_successor run stand.at stand.signals
  leads_up stand long is =
      leads_same (up stand).values (carried_up stand) stand.at ∙ ap (event_successor run stand.at) (signals_are stand long is)

  row_up : (stand : EventStand) → Long stand.at → IsEventStand run stand → row_of stand ≡ row_of_stand nest (up stand)
  row_up stand long is =
      ap (λ signals. event_row_unless (event_port_fault members stand.at.states signals) stand.at.point signals) (sym (signals_are stand long is))
      ∙ sym (row_is (up stand).values (carried_up stand) stand.at)

  follows_up : (one : EventStand) (others : List EventStand) (ending : Ending) → Long one.at → IsEventStand run one
      → EventFollows run one others ending
      → NestFollows nest (up one) (map up others) ending
  follows_up one [] ending long is follows = leads_up one long is ∙ follows
  follows_up one (next ∷ others) ending long is follows =
      let long_next = states_stay run one.at next.at one.signals long follows.0 in (
        leads_up one long is ∙ follows.0,
        stand_up next long_next follows.1,
        follows_up next others ending long_next follows.1 follows.2,
      )

  rows_up : (one : EventStand) (others : List EventStand) (ending : Ending) → Long one.at → IsEventStand run one → EventFollows run one others ending
      → filter_map row_of (one ∷ others) ≡ filter_map (row_of_stand nest) (map up (one ∷ others))
  rows_up one [] ending long is follows = ap (λ row. cons_option row []) (row_up one long is)
  rows_up one (next ∷ others) ending long is follows =
      ap₂ (λ row rows. cons_option row rows) (row_up one long is)
      (rows_up next others ending (states_stay run one.at next.at one.signals long follows.0) follows.1 follows.2)

  last_up : (stands : List EventStand) → last_event_point stands ≡ last_nest_point (map up stands)
  last_up [] = refl
  last_up (stand ∷ []) = refl
  last_up (stand ∷ later ∷ others) = last_up (later ∷ others)

  trace_up : (stands : List EventStand) (rows : List EventRow) (last : Point) (ending : Ending) → IsEventTrace run stands ending
      → rows ≡ event_rows_of run stands → last ≡ last_event_point stands → IsNestTraceOf nest rows last ending
  trace_up [] rows last ending trace rows_are last_is = absurd trace
  trace_up (first ∷ others) rows last ending trace rows_are last_is =
      let long = ap (λ (at : Position). length at.states) trace.0 ∙ length-map members (λ (one : EventMember). initial one.member.component) in
      record {
        stands = map up (first ∷ others);
        trace = (
          trace.0 ∙ sym (first_is (up first).values (carried_up first)),
          stand_up first long trace.1,
          follows_up first others ending long trace.1 trace.2,
        );
        rows_are = rows_are ∙ rows_up first others ending long trace.1 trace.2;
        last_is = last_is ∙ last_up (first ∷ others);
      }

  pub same_traces : (rows : List EventRow) (last : Point) (ending : Ending)
      → IsNestTraceOf nest rows last ending ↔ IsEventTraceOf whole rows last ending
  same_traces rows last ending = (
    λ of. trace_down of.stands rows last ending of.trace of.rows_are of.last_is,
    λ of. trace_up of.stands rows last ending of.trace of.rows_are of.last_is,
  )

  pub one_trace : HasNoCycle whole → HasOneNestTraceOf nest
  one_trace no_cycle =
      let only = one_outcome whole (flat_ranged nest sound) sound.well_formed no_cycle in
      record {
        rows = only.rows;
        last = only.last;
        ending = only.ending;
        is_trace = (same_traces only.rows only.last only.ending).1 only.is_trace;
        is_only = λ others point end of. only.is_only others point end ((same_traces others point end).0 of);
      }
