use Rattle.std.proofs.Common.{◌≡◌, ◌∙◌, length, map, refl, ap, sym, subst, rules}
use Rattle.std.specs.Prelude.{is_none}
use Rattle.std.specs.Vec.{with_items}
use Rattle.trace_core.specs.Arriving.{position_with}
use Rattle.trace_core.specs.Keeping.{HasRoom, IsRun, inputs_before, position_of, run_state}
use Rattle.trace_core.specs.Runs.{IsOpened, Stands}
use Rattle.trace_core.specs.Opening.{AreSeated}
use Rattle.trace_core.specs.Seats.{AreSaved, AreAsLong, saved}
use Rattle.trace_core.specs.declared.run.Run.TheInside.{Inside}
use Rattle.trace_core.proofs.KeepLaws.{AreSolved, Arrival, IsBegunWith, arrival_of}
use Rattle.trace_core.proofs.MoveLaws.{open_run, open_stands, is_opened}
use Rattle.trace_core.proofs.SeatLaws.{as_many_kept, kept_in_phase}
use Rattle.trace_core.proofs.SlotLaws.{saved_is}
use Rattle.list_laws.proofs.Vectors.{items_put}
use Rattle.trace_plan.specs.Plans.{IsBounded, Planned}
use Rattle.trace_units.specs.Fleets.{Fleet}
use Rattle.unit_tree.specs.Ports.{IsPlaceOrder}
use Rattle.unit_tree.specs.Routes.{routes_of}
use Rattle.unit_tree.specs.declared.order.Routes.{Routes}
use Rattle.unit_tree.specs.Successor.{Position}
use Rattle.trace_core.proofs.run.Run.open_from.Goals.{After-is_none}
use Rattle.trace_core.proofs.run.Run.open_from.Goals as goal

pub commit_all-requires-clause-saved : goal.commit_all-requires-clause-saved
commit_all-requires-clause-saved c =
    let seated : AreSeated c.seats_of.new.snaps c.in_ok-seats.seats.items c.args.units = c.in_ok-seats.ensures in
    subst (λ seats. AreSaved c.seats_of.new.snaps seats (saved c.seats_of.new.snaps seats)) (sym c.deref_mut-3.ensures.value)
    (subst (AreSaved c.seats_of.new.snaps c.in_ok-seats.seats.items)
    (sym (saved_is c.seats_of.new.snaps c.in_ok-seats.seats.items c.args.units.states seated.saved)) seated.saved)

pub commit_all-requires-clause-as_long : goal.commit_all-requires-clause-as_long
commit_all-requires-clause-as_long c =
    let s = c.solve_ports-fault in
    let seated : AreSeated c.seats_of.new.snaps c.in_ok-seats.seats.items c.args.units = c.in_ok-seats.ensures in
    ap (map length)
    (ap (saved c.seats_of.new.snaps) c.deref_mut-3.ensures.value
    ∙ saved_is c.seats_of.new.snaps c.in_ok-seats.seats.items c.args.units.states seated.saved
    ∙ sym s.ensures.states)

-- The run that is made.
abbrev made : After-is_none → Inside
made c = record {
  plan = c.args.plan;
  units = c.begin_phase-phase.new.units;
  seats = with_items (with_items c.in_ok-seats.seats c.commit_all.new.seats) c.begin_phase-phase.new.seats;
  snaps = c.commit_all.new.snaps;
  ports = with_items c.in_ok-ports.ports c.solve_ports-fault.new.ports;
  known = with_items c.in_ok-known.known c.solve_ports-fault.new.known;
  phase = c.begin_phase-phase.result;
  point = c.args.point;
  number = c.args.number;
  found = 0;
  own = 0;
  solved = c.is_none.result;
  opened = record { point = c.args.point; states = c.in_ok-states.states; number = c.args.number };
}

come : (c : After-is_none) → Arrival (made c) c.solve_ports-fault.result c.commit_all.new.seats
come c =
    let s = c.solve_ports-fault in
    let seated : AreSeated c.seats_of.new.snaps c.in_ok-seats.seats.items c.args.units = c.in_ok-seats.ensures in
    let b = c.begin_phase-phase in
    let run = c.args.plan.value.run in
    let is_solved : AreSolved run s.new.units c.args.units.states s.new.ports s.new.known s.result =
    subst (λ (plan : Planned). AreSolved plan.run s.new.units c.args.units.states s.new.ports s.new.known s.result) c.deref-3.ensures
    (record { right = s.ensures.right; fault_is = s.ensures.fault; known_all = s.ensures.known; inputs = s.ensures.inputs; kept = s.ensures.states }) in
    let seats0 = with_items c.in_ok-seats.seats c.commit_all.new.seats in
    let put0 = items_put c.in_ok-seats.seats c.commit_all.new.seats (c.commit_all.ensures.as_many ∙ ap length c.deref_mut-3.ensures.value) in
    let kept = kept_in_phase c.deref-4.result.now.run.members c.args.point.t b.result c.deref_mut-4.result.now b.new.seats b.ensures.begun in
    let as_many = as_many_kept c.deref_mut-4.result.now b.new.seats kept.ids in
    let put = items_put seats0 b.new.seats (as_many ∙ ap length c.deref_mut-4.ensures.value) in
    let put_ports = items_put c.in_ok-ports.ports s.new.ports (s.ensures.as_many_ports ∙ ap length c.deref_mut.ensures.value) in
    let put_known = items_put c.in_ok-known.known s.new.known (s.ensures.as_many_known ∙ ap length c.deref_mut-2.ensures.value) in
    let begun : IsBegunWith run c.args.point c.args.number s.new.units s.result b.result c.commit_all.new.seats b.new.seats =
    subst (λ old. IsBegunWith run c.args.point c.args.number s.new.units s.result b.result old b.new.seats) (c.deref_mut-4.ensures.value ∙ put0)
    (subst (λ
    (plan : Planned). IsBegunWith plan.run c.args.point c.args.number s.new.units s.result b.result c.deref_mut-4.result.now b.new.seats) c.deref-4.ensures
    (record { phase_is = b.ensures.phase; begun = b.ensures.begun })) in
    let n = made c in
    let places : length c.routes.result.now.outputs ≡ length (routes_of run).outputs =
    ap (λ (routes : Routes). length routes.outputs) (c.routes.ensures.routes ∙ c.order.ensures.routes)
    ∙ ap (λ (plan : Planned). length (routes_of plan.run).outputs) c.deref.ensures in
    let ports_long : length c.in_ok-ports.ports.items ≡ length (routes_of run).outputs = sym c.in_ok-ports.ports.ok.0 ∙ c.in_ok-ports.ensures.len
    ∙ c.len-places.ensures ∙ places in
    let known_long : length c.in_ok-known.known.items ≡ length (routes_of run).outputs = sym c.in_ok-known.known.ok.0 ∙ c.in_ok-known.ensures.len
    ∙ c.len-places.ensures ∙ places in
    let room : HasRoom run n = record {
      ports = ap length put_ports ∙ s.ensures.as_many_ports ∙ ap length c.deref_mut.ensures.value ∙ ports_long;
      known = ap length put_known ∙ s.ensures.as_many_known ∙ ap length c.deref_mut-2.ensures.value ∙ known_long;
      seats = ap length put ∙ as_many ∙ ap length (c.deref_mut-4.ensures.value ∙ put0) ∙ c.commit_all.ensures.as_many ∙ ap length c.deref_mut-3.ensures.value
          ∙ seated.as_many ∙ ap (λ (plan : Planned). length plan.run.members) c.requires.tied;
    } in
    let tied : b.new.units.plan ≡ c.args.plan.value = ap (λ (f : Fleet). f.plan) b.ensures.kept ∙ s.ensures.plan ∙ c.requires.tied in
    let fed : AreAsLong (inputs_before c.commit_all.new.seats) s.new.units.inputs = ap (map length) c.commit_all.ensures.before in
    let told : c.is_none.result ≡ is_none s.result = search rules in
    arrival_of n s.result c.commit_all.new.seats b.new.seats s.new.units c.args.units.states s.new.ports s.new.known b.ensures.kept put put_ports put_known
    tied room c.commit_all.ensures.own
    (subst (AreSaved c.commit_all.new.snaps c.commit_all.new.seats) s.ensures.states c.commit_all.ensures.saved) fed is_solved begun told

-- The position at which it is opened.
abbrev start : After-is_none → Position
start c = position_with c.args.point c.args.units.states c.args.number

-- What is known of it.
record Opened (plan : Planned) (from : Position) (made : Inside) : Type 0 where
  runs : IsRun made
  opened : IsOpened plan from (run_state made)
  stands : Stands (run_state made)

opening : (c : After-is_none) → Opened c.args.plan.value (start c) (made c)
opening c =
    let s = c.solve_ports-fault in
    let b = c.begin_phase-phase in
    let run = c.args.plan.value.run in
    let n = made c in
    let come = come c in
    let same : b.new.units.states ≡ c.args.units.states = ap (λ (f : Fleet). f.states) b.ensures.kept ∙ s.ensures.states in
    let start_is : ◌≡◌ {A = Position} (position_with c.args.point b.new.units.states c.args.number) (start c) =
    ap (λ states. position_with c.args.point states c.args.number) same in
    let order = c.order.result.now.places in
    let ordered : IsPlaceOrder run order = subst (λ (plan : Planned). IsPlaceOrder plan.run order) c.deref.ensures c.order.ensures.places in
    let bounded : IsBounded run = subst (λ (plan : Planned). IsBounded plan.run) c.deref-2.ensures c.instances.ensures.bounded in
    let opened : position_of n.opened ≡ start c = ap (λ states. position_with c.args.point states c.args.number) c.in_ok-states.ensures in
    let before : inputs_before c.commit_all.new.seats ≡ b.new.units.inputs = c.commit_all.ensures.before ∙ sym (ap (λ (f : Fleet). f.inputs) b.ensures.kept) in record {
      runs =
          open_run n s.result c.commit_all.new.seats come (start c) start_is order c.requires.composed ordered bounded c.requires.members c.requires.words
          c.requires.in_bounds c.requires.in_rows opened before refl refl;
      opened =
          is_opened n s.result c.commit_all.new.seats come (start c) start_is order c.requires.composed ordered bounded c.requires.members c.requires.words
          c.requires.in_bounds c.requires.in_rows opened before refl refl;
      stands =
          open_stands n s.result c.commit_all.new.seats come (start c) start_is order c.requires.composed ordered bounded c.requires.members c.requires.words
          c.requires.in_bounds c.requires.in_rows opened before refl refl;
    }

pub invariant_of-result : goal.invariant_of-result
invariant_of-result c = (opening (goal.at.invariant_of-result c).After-is_none).runs

pub returns-clause-opened : goal.returns-clause-opened
returns-clause-opened c = (opening (goal.at.returns-clause-opened c).After-is_none).opened

pub returns-clause-stands : goal.returns-clause-stands
returns-clause-stands c = (opening (goal.at.returns-clause-stands c).After-is_none).stands
