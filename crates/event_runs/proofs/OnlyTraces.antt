-- A source whose plain form has an order of its places has exactly one trace.
use Rattle.std.proofs.Common.{◌≡◌, ℕ, List, [], ◌∷◌, map, refl, sym, ap, ◌∙◌, subst}
use Rattle.unit_tree.specs.Compositions.{Composition, AreMembers}
use Rattle.unit_tree.specs.Ports.{IsPlaceOrder}
use Rattle.unit_tree.specs.Successor.{Position, goes, ends}
use Rattle.unit_tree.specs.Trace.{Stand, IsStand, Follows, IsTrace, HasWords}
use Rattle.unit_tree.specs.declared.ending.Ending.{Ending}
use Rattle.run_laws.proofs.PositionLaws.{positions_keep}
use Rattle.run_laws.proofs.RunTraces.{one_trace}
use Rattle.run_laws.proofs.RunTraces.{goes_keeps}
use Rattle.event_runs.specs.EventPorts.{EventMember, IsEventAssignment}
use Rattle.event_runs.specs.Laws.{IsPlainRun, HasOneEventTrace}
use Rattle.event_runs.specs.EventTrace.{EventRun, EventStand, EventFollows, IsEventTrace}
use Rattle.event_runs.specs.Readings.{read_ending, read_stand, pace_of}
use Rattle.event_runs.proofs.RunLaws.{one_event_assignment}
use Rattle.event_runs.proofs.TraceLaws.{read_next, fits, stand_read, successor_read, first_is, trace_read}

module _ (members : List EventMember) (run : Composition) (order : List ℕ) (plain : IsPlainRun members run) (are : AreMembers run)
    (ordered : IsPlaceOrder run order) where
  abbrev source : EventRun
  source = record { members = members; pace = pace_of run }

  goes_is : {one other : Position} → goes one ≡ goes other → one ≡ other
  goes_is is = cc

  ends_is : {one other : Ending} → ends one ≡ ends other → one ≡ other
  ends_is is = cc

  -- Two stands at the same position are the same.
  pub same_stand : (here : Stand) (other : EventStand) → HasWords run here.at → IsStand run here → IsEventAssignment members other.at.states other.signals
      → other.at ≡ here.at → other ≡ read_stand members here
  same_stand here other words is assigned same =
      let only = one_event_assignment members run here.at.states plain (fits members run order plain are ordered here.at words) order ordered in
      let signals : other.signals ≡ (read_stand members here).signals =
      only.is_only other.signals (subst (λ (at : Position). IsEventAssignment members at.states other.signals) same assigned)
      ∙ sym (only.is_only (read_stand members here).signals (stand_read members run order plain are ordered here words is)) in
      ap (λ (at : Position). record { at = at; signals = other.signals }) same ∙ ap (λ s. record { at = here.at; signals = s }) signals

  pub same_rest : (here : Stand) (xs : List Stand) (ys : List EventStand) (e f : Ending) → HasWords run here.at → IsStand run here → Follows run here xs e
      → EventFollows source (read_stand members here) ys f → (ys ≡ map (read_stand members) xs) × (f ≡ read_ending members e)
  same_rest here [] [] e f words is p q =
      (refl, ends_is (sym q ∙ successor_read members run order plain are ordered here words is ∙ ap (read_next members) p))
  same_rest here [] (y ∷ ys) e f words is p q =
      let both : goes y.at ≡ ends (read_ending members e) = sym q.0 ∙ successor_read members run order plain are ordered here words is
      ∙ ap (read_next members) p in absurd (cc)
  same_rest here (x ∷ xs) [] e f words is p q =
      let both : ends f ≡ goes x.at = sym q ∙ successor_read members run order plain are ordered here words is ∙ ap (read_next members) p.0.0 in absurd (cc)
  same_rest here (x ∷ xs) (y ∷ ys) e f words is p q =
      let kept = goes_keeps run here x are words p.0 in
      let at_is : y.at ≡ x.at = goes_is (sym q.0 ∙ successor_read members run order plain are ordered here words is ∙ ap (read_next members) p.0.0) in
      let same : y ≡ read_stand members x = same_stand x y kept p.0.1 q.1 at_is in
      let rest = same_rest x xs ys e f kept p.0.1 p.1 (subst (λ (z : EventStand). EventFollows source z ys f) same q.2) in
      (ap (λ z. z ∷ ys) same ∙ ap (λ zs. read_stand members x ∷ zs) rest.0, rest.1)

  pub same_trace : (xs : List Stand) (ys : List EventStand) (e f : Ending) → IsTrace run xs e → IsEventTrace source ys f
      → (ys ≡ map (read_stand members) xs) × (f ≡ read_ending members e)
  same_trace [] ys e f p q = absurd p
  same_trace (x ∷ xs) [] e f p q = absurd q
  same_trace (x ∷ xs) (y ∷ ys) e f p q =
      let words = subst (HasWords run) (sym p.0) (positions_keep run are).first in
      let same : y ≡ read_stand members x = same_stand x y words p.1 q.1 (q.0 ∙ sym (p.0 ∙ first_is members run order plain are ordered)) in
      let rest = same_rest x xs ys e f words p.1 p.2 (subst (λ (z : EventStand). EventFollows source z ys f) same q.2) in
      (ap (λ z. z ∷ ys) same ∙ ap (λ zs. read_stand members x ∷ zs) rest.0, rest.1)

  pub one_event_trace : HasOneEventTrace source
  one_event_trace =
      let only = one_trace run order are ordered in
      record {
        stands = map (read_stand members) only.stands;
        ending = read_ending members only.ending;
        is_trace = trace_read members run order plain are ordered only.stands only.ending only.is_trace;
        is_only = λ other end is. same_trace only.stands other only.ending end only.is_trace is;
      }
