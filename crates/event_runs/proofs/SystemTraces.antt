-- The trace of a system's plain form, read as signals, is that of the system, which has no other.
use Rattle.std.proofs.Common.{◌≡◌, ℕ, ℤ, List, [], ◌∷◌, map, length, Option, refl, ap, sym, subst, ◌∙◌, map-id}
use Rattle.std.specs.List.{AllByRecursion, flat_map}
use Rattle.std.specs.Option.{unwrap_or}
use Rattle.fixed_words.specs.declared.types.Literal.{Literal}
use Rattle.model_rules.specs.Limits.{default_zeros}
use Rattle.unit_tree.specs.Compositions.{Composition, Member, members_of, composition_of, run_of, ticks_or}
use Rattle.unit_tree.specs.Compositions.{default_rows, AreMembers}
use Rattle.unit_tree.specs.Orders.{HasNoCycle}
use Rattle.unit_tree.specs.Plain.{plain_form}
use Rattle.unit_tree.specs.Ports.{IsPlaceOrder}
use Rattle.unit_tree.specs.Printable.{IsRanged}
use Rattle.unit_tree.specs.Trace.{Row, Stand, IsTraceOf, last_point}
use Rattle.unit_tree.specs.WellFormed.{IsWellFormed, resolution_of}
use Rattle.unit_tree.specs.declared.ending.Ending.{Ending}
use Rattle.unit_tree.specs.declared.system.Instance.{Instance}
use Rattle.unit_tree.specs.declared.system.System.{System}
use Rattle.super_time.specs.declared.point.Point.{Point}
use Rattle.run_laws.proofs.PlainKept.{Alike, alike}
use Rattle.run_laws.proofs.PositionLaws.{system_has_members}
use Rattle.run_laws.proofs.RunOrders.{runs_have_orders}
use Rattle.event_runs.specs.EventPorts.{EventMember}
use Rattle.event_runs.specs.Readings.{plain_member, shape_of, read_rows, read_end, read_stand, pace_of, HasShape, system_shape}
use Rattle.event_runs.specs.Laws.{IsPlainRun, HasOneEventTrace, HasOneEventAssignment, StatesFit}
use Rattle.event_runs.specs.EventRuns.{event_members_of, event_pace, event_run_of, last_event_point, IsEventTraceOf, HasOneEventTraceOf}
use Rattle.event_runs.specs.EventTrace.{EventRun, IsEventTrace, event_rows_of}
use Rattle.event_runs.specs.Offers.{Pace}
use Rattle.event_runs.proofs.OnlyTraces.{one_event_trace}
use Rattle.event_runs.proofs.RowLaws.{rows_fit, rows_read}
use Rattle.event_runs.proofs.RunLaws.{one_event_assignment}
use Rattle.event_runs.proofs.SystemMembers.{members_plain}
use Rattle.event_runs.proofs.TraceLaws.{trace_read}

-- ---- Pace

-- The pace of a run, by the numbers of its system.
abbrev paced : List ℕ → ℕ → Option Literal → Option Literal → Option ℕ → Option ℕ → ℕ → ℕ → Pace
paced factors resolution stop longest zeros rows version instances = record {
  stop = ticks_or 0 resolution stop;
  longest = ticks_or (ticks_or 0 resolution stop) resolution longest;
  zero_budget = unwrap_or zeros (default_zeros version);
  row_budget = unwrap_or rows (default_rows version instances);
  factors = factors;
}

pace_alike : (system plain : System) (factors : List ℕ) → Alike system plain → map (λ (one : Member). one.factor) (members_of plain) ≡ factors
    → pace_of (composition_of plain)
    ≡ paced factors (resolution_of system) system.stop system.longest system.zero system.rows system.version (length system.instances)
pace_alike system plain factors both same =
    ap (λ f. paced f (resolution_of plain) plain.stop plain.longest plain.zero plain.rows plain.version (length plain.instances)) same
    ∙ ap (λ r. paced factors r plain.stop plain.longest plain.zero plain.rows plain.version (length plain.instances)) both.resolution
    ∙ ap (λ s. paced factors (resolution_of system) s plain.longest plain.zero plain.rows plain.version (length plain.instances)) both.stop
    ∙ ap (λ l. paced factors (resolution_of system) system.stop l plain.zero plain.rows plain.version (length plain.instances)) both.longest
    ∙ ap (λ z. paced factors (resolution_of system) system.stop system.longest z plain.rows plain.version (length plain.instances)) both.zeros
    ∙ ap (λ r. paced factors (resolution_of system) system.stop system.longest system.zero r plain.version (length plain.instances)) both.rows
    ∙ ap (λ v. paced factors (resolution_of system) system.stop system.longest system.zero system.rows v (length plain.instances)) both.version
    ∙ ap (λ (i : List Instance). paced factors (resolution_of system) system.stop system.longest system.zero system.rows system.version (length i))
    both.instances

plain_factors : {A : Type 0} (given : A → EventMember) (made : A → Member) → ((x : A) → (made x).factor ≡ (given x).member.factor) → (xs : List A)
    → map (λ (one : Member). one.factor) (map made xs) ≡ map (λ (one : EventMember). one.member.factor) (map given xs)
plain_factors given made same [] = refl
plain_factors given made same (x ∷ xs) =
    ap (λ one. one ∷ map (λ (m : Member). m.factor) (map made xs)) (same x)
    ∙ ap (λ rest. (given x).member.factor ∷ rest) (plain_factors given made same xs)

-- ---- The last point

pub last_read : (members : List EventMember) (stands : List Stand) → last_point stands ≡ last_event_point (map (read_stand members) stands)
last_read members [] = refl
last_read members (stand ∷ []) = refl
last_read members (stand ∷ later ∷ others) = last_read members (later ∷ others)

module _ (system : System) (ranged : IsRanged system) (kept : IsWellFormed system) (no_cycle : HasNoCycle system) where
  abbrev members : List EventMember
  members = event_members_of system

  abbrev run : Composition
  run = run_of system

  pub system_plain : IsPlainRun members run
  system_plain = members_plain system ranged kept

  pub system_are : AreMembers run
  system_are = system_has_members (plain_form system)

  abbrev pub system_order : (order : List ℕ) × IsPlaceOrder run order
  system_order = runs_have_orders system ranged kept no_cycle

  pub system_pace : pace_of run ≡ event_pace system members
  system_pace =
      pace_alike system (plain_form system) (map (λ (one : EventMember). one.member.factor) members) (alike system)
      (ap (map (λ (one : Member). one.factor)) system_plain.members_are
      ∙ plain_factors (λ one. one) (plain_member (flat_map shape_of members)) (λ one. refl) members
      ∙ ap (map (λ (one : EventMember). one.member.factor)) (map-id members))

  abbrev pub with_pace : Pace → EventRun
  with_pace pace = record { members = members; pace = pace }

  pub tells : (rows : List Row) (last : Point) (ending : Ending) → IsTraceOf system rows last ending
      → IsEventTraceOf system (read_rows system rows) last (read_end system ending)
  tells rows last ending of = record {
    stands = map (read_stand members) of.stands;
    trace = subst (λ pace. IsEventTrace (with_pace pace) (map (read_stand members) of.stands) (read_end system ending)) system_pace
        (trace_read members run system_order.0 system_plain system_are system_order.1 of.stands ending of.trace);
    rows_are = ap (read_rows system) of.rows_are ∙ sym (rows_read members run system_order.0 system_plain system_are system_order.1 of.stands ending of.trace);
    last_is = of.last_is ∙ last_read members of.stands;
  }

  only_one : HasOneEventTrace (event_run_of system)
  only_one = subst (λ pace. HasOneEventTrace (with_pace pace)) system_pace (one_event_trace members run system_order.0 system_plain system_are system_order.1)

  pub one_outcome : HasOneEventTraceOf system
  one_outcome = record {
    rows = event_rows_of (event_run_of system) only_one.stands;
    last = last_event_point only_one.stands;
    ending = only_one.ending;
    is_trace = record { stands = only_one.stands; trace = only_one.is_trace; rows_are = refl; last_is = refl };
    is_only = λ others point end of.
        let same = only_one.is_only of.stands end of.trace in (
          of.rows_are ∙ ap (event_rows_of (event_run_of system)) same.0,
          of.last_is ∙ ap last_event_point same.0,
          same.1,
        );
  }

  pub rows_shaped : (rows : List Row) (last : Point) (ending : Ending) → IsTraceOf system rows last ending
      → AllByRecursion (λ row. HasShape (system_shape system) row.words) rows
  rows_shaped rows last ending of =
      subst (AllByRecursion (λ row. HasShape (system_shape system) row.words)) (sym of.rows_are)
      (rows_fit members run system_order.0 system_plain system_are system_order.1 of.stands ending of.trace)

  pub one_assignment : (states : List (List ℤ)) → StatesFit members states → HasOneEventAssignment members states
  one_assignment states fit = one_event_assignment members run states system_plain fit system_order.0 system_order.1
