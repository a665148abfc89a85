-- The trace of a plain form, read as signals, is that of the source.
use Rattle.std.proofs.Common.{◌≡◌, ℕ, suc, ◌+◌, ◌==◌, Bool, true, false, ℤ, List, [], ◌∷◌, map, length, if◌then◌else◌, Option, Some, None, Result, Ok, Err}
use Rattle.std.proofs.Common.{refl, sym, ap, ◌∙◌, subst}
use Rattle.std.specs.Prelude.{zip, ⊤, is_some, nat_lt, ◌&&◌}
use Rattle.std.specs.List.{AllByRecursion, AllZip, flat_map, enumerate_from, list_all}
use Rattle.std.specs.Option.{option_map}
use Rattle.std.proofs.lemmas.Slice.Zip.{AllZip-long}
use Rattle.fixed_words.specs.declared.types.Fault.{Fault}
use Rattle.super_time.specs.LocalTime.{local_step}
use Rattle.unit_tree.specs.Components.{Moved, initial}
use Rattle.unit_tree.specs.Compositions.{Composition, AreMembers}
use Rattle.unit_tree.specs.Ports.{Ports, IsPlaceOrder, first_some, port_fault}
use Rattle.unit_tree.specs.Successor.{Position, Next, goes, ends, first_position, when, first_told, max_end_of, step_end_of, ends_or, successor}
use Rattle.unit_tree.specs.Trace.{Stand, IsStand, Follows, IsTrace, AreWordsOf, HasWords}
use Rattle.unit_tree.specs.declared.ending.Ending.{Ending}
use Rattle.unit_tree.specs.declared.ending.Ending.TheVariants.{Completed, RowBudget, ZeroBudget, StepRefused}
use Rattle.run_laws.proofs.AssignmentLaws.{undefined_faults}
use Rattle.run_laws.proofs.PositionLaws.{positions_keep}
use Rattle.run_laws.proofs.RunTraces.{goes_keeps}
use Rattle.event_runs.specs.EventPorts.{Signals, EventMember, IsEventAssignment}
use Rattle.event_runs.specs.Readings.{shape_of, read_ports, plain_member, read_ending, read_stand, pace_of, offers_of}
use Rattle.event_runs.specs.Laws.{IsPlainRun, StatesFit}
use Rattle.event_runs.specs.EventTrace.{EventRun, event_port_fault, event_offers, event_successor, first_event_position, EventFollows, IsEventTrace}
use Rattle.event_runs.specs.Offers.{Pace, Limits, Steps, redo_with, ends_by, after_by, next_of, proposal_at, agreed_at, next_by}
use Rattle.event_runs.proofs.FaultLaws.{fault_is_read}
use Rattle.event_runs.proofs.OfferLaws.{give_the_same}
use Rattle.event_runs.proofs.RunLaws.{assignment_is_read}
use Rattle.event_runs.proofs.TurnLaws.{successor_is, next_same}

-- ---- States

fit_of : (shape : _) (members : List EventMember) (states : List (List ℤ))
    → AllZip (λ member state. AreWordsOf member.component.unit.states state) (map (plain_member shape) members) states → StatesFit members states
fit_of shape [] [] all = tt
fit_of shape [] (state ∷ states) all = absurd all
fit_of shape (one ∷ members) [] all = absurd all
fit_of shape (one ∷ members) (state ∷ states) all = (AllZip-long _ one.member.component.unit.states state all.0, fit_of shape members states all.1)

initial_states : (shape : _) (members : List EventMember)
    → map (λ member. initial member.component) (map (plain_member shape) members) ≡ map (λ one. initial one.member.component) members
initial_states shape [] = refl
initial_states shape (one ∷ members) = ap (λ rest. initial one.member.component ∷ rest) (initial_states shape members)

-- ---- Endings that are the same in both forms

module _ (members : List EventMember) where
  abbrev Keeps : Option Ending → Type 0
  Keeps None = ⊤
  Keeps (Some ending) = read_ending members ending ≡ ending

  first_keeps : (all : List (Option Ending)) → AllByRecursion Keeps all → Keeps (first_some all)
  first_keeps [] keeps = tt
  first_keeps (None ∷ all) keeps = first_keeps all keeps.1
  first_keeps (Some ending ∷ all) keeps = keeps.0

  told_keeps : {A : Type 0} (tell : ℕ × A → Option Ending) → ((instance : ℕ) (x : A) → Keeps (tell (instance, x))) → (from : ℕ) (xs : List A)
      → AllByRecursion Keeps (map tell (enumerate_from from xs))
  told_keeps tell each from [] = tt
  told_keeps tell each from (x ∷ xs) = (each from x, told_keeps tell each (from + 1) xs)

  when_keeps : (test : Bool) (ending : Ending) → read_ending members ending ≡ ending → Keeps (when test ending)
  when_keeps true ending is = is
  when_keeps false ending is = tt

  max_keeps : (instance : ℕ) (told : Result (Option ℕ) Fault) → Keeps (max_end_of (instance, told))
  max_keeps instance (Ok limit) = tt
  max_keeps instance (Err fault) = refl

  step_keeps : (instance : ℕ) (step : Option (Result Moved Fault)) → Keeps (step_end_of (instance, step))
  step_keeps instance None = tt
  step_keeps instance (Some (Ok moved)) = tt
  step_keeps instance (Some (Err fault)) = refl

  redo_keeps : (t h instance : ℕ) (x : ℕ × Option (Result Moved Fault)) → Keeps (redo_with t h (instance, x))
  redo_keeps t h instance (factor, None) = tt
  redo_keeps t h instance (factor, Some (Ok moved)) =
      when_keeps (nat_lt moved.accepted (local_step factor t h)) (StepRefused instance (local_step factor t h) moved.accepted) refl
  redo_keeps t h instance (factor, Some (Err fault)) = refl

  if_keeps : (test : Bool) (given : Option Ending) → Keeps given → Keeps (if test then given else None)
  if_keeps true given keeps = keeps
  if_keeps false given keeps = tt

  abbrev pub read_next : Next → Next
  read_next (goes at) = goes at
  read_next (ends ending) = ends (read_ending members ending)

  next_by_end : (end : Option Ending) (at : Position) → Keeps end → read_next (ends_or end at) ≡ ends_or end at
  next_by_end None at keeps = refl
  next_by_end (Some ending) at keeps = ap ends keeps

  -- Without a port fault, no ending names an output.
  next_keeps : (pace : Pace) (at : Position) (limits : Limits) (p a : ℕ) (trial redo : Steps)
      → read_next (next_of pace at None limits p a trial redo) ≡ next_of pace at None limits p a trial redo
  next_keeps pace at limits p a trial redo =
      next_by_end (first_some (ends_by pace at None limits p a trial redo)) (after_by at a redo)
      (first_keeps (ends_by pace at None limits p a trial redo) (
        tt,
        (
          when_keeps (at.point.t == pace.stop) Completed refl,
          (
            when_keeps (suc at.number == pace.row_budget) RowBudget refl,
            (
              first_keeps (map max_end_of (enumerate_from 0 limits)) (told_keeps max_end_of max_keeps 0 limits),
              (
                first_keeps (map step_end_of (enumerate_from 0 trial)) (told_keeps step_end_of step_keeps 0 trial),
                (
                  if_keeps (nat_lt a p) (first_told (redo_with at.point.t a) (zip pace.factors redo))
                      (first_keeps (map (redo_with at.point.t a) (enumerate_from 0 (zip pace.factors redo)))
                      (told_keeps (redo_with at.point.t a) (redo_keeps at.point.t a) 0 (zip pace.factors redo))),
                  (
                    when_keeps ((a == 0) && (at.point.n == pace.zero_budget)) ZeroBudget refl,
                    tt,
                  ),
                ),
              ),
            ),
          ),
        ),
      ))

-- ---- The trace

module _ (members : List EventMember) (run : Composition) (order : List ℕ) (plain : IsPlainRun members run) (are : AreMembers run)
    (ordered : IsPlaceOrder run order) where
  abbrev pub source : EventRun
  source = record { members = members; pace = pace_of run }

  abbrev pub read : Ports → Signals
  read ports = read_ports (flat_map shape_of members) ports

  pub fits : (at : Position) → HasWords run at → StatesFit members at.states
  fits at words = fit_of (flat_map shape_of members) members at.states
      (subst (λ all. AllZip (λ member state. AreWordsOf member.component.unit.states state) all at.states) plain.members_are words)

  -- With the port fault.
  next_read : (fault : Option Ending) (at : Position) (ports : Ports) → HasWords run at → IsStand run (record { at = at; ports = ports })
      → port_fault run at.states ports ≡ fault → event_successor source at (read ports) ≡ read_next members (successor run at ports)
  next_read (Some ending) at ports words is told =
      let tidy = (assignment_is_read members run at.states plain (fits at words) ports is).0 in
      let event_told : event_port_fault members at.states (read ports) ≡ Some (read_ending members ending) =
      fault_is_read members run at.states ports plain (fits at words) tidy ∙ ap (option_map (read_ending members)) told in
      let offers = event_offers members at (read ports) in
      let p = proposal_at (pace_of run) at offers in
      let a = agreed_at (pace_of run) at offers in
      ap (λ fault. next_of (pace_of run) at fault offers.limits p a (offers.steps p) (offers.steps a)) event_told
      ∙ sym (ap (read_next members)
      (successor_is run at ports
      ∙ ap (λ fault. next_of (pace_of run) at fault (offers_of run at ports).limits (proposal_at (pace_of run) at (offers_of run at ports))
      (agreed_at (pace_of run) at (offers_of run at ports)) ((offers_of run at ports).steps (proposal_at (pace_of run) at (offers_of run at ports)))
      ((offers_of run at ports).steps (agreed_at (pace_of run) at (offers_of run at ports)))) told))
  next_read None at ports words is told =
      let fit = fits at words in
      let tidy = (assignment_is_read members run at.states plain fit ports is).0 in
      let count : length at.states ≡ length run.members = AllZip-long _ run.members at.states words in
      let defined : list_all is_some ports ≡ true = (undefined_faults run order at.states ports ordered count is).0 told in
      let same = give_the_same members run at ports plain fit tidy defined in
      let event_told : event_port_fault members at.states (read ports) ≡ None = fault_is_read members run at.states ports plain fit tidy
      ∙ ap (option_map (read_ending members)) told in
      let offers = offers_of run at ports in
      let p = proposal_at (pace_of run) at offers in
      let a = agreed_at (pace_of run) at offers in
      let none : next_by (pace_of run) at offers ≡ next_of (pace_of run) at None offers.limits p a (offers.steps p) (offers.steps a) =
      ap (λ fault. next_of (pace_of run) at fault offers.limits p a (offers.steps p) (offers.steps a)) told in
      sym (next_same (pace_of run) at offers (event_offers members at (read ports)) (told ∙ sym event_told) same.limits same.steps)
      ∙ none
      ∙ sym (next_keeps members (pace_of run) at offers.limits p a (offers.steps p) (offers.steps a))
      ∙ sym (ap (read_next members) (successor_is run at ports ∙ none))

  pub successor_read : (stand : Stand) → HasWords run stand.at → IsStand run stand
      → event_successor source stand.at (read stand.ports) ≡ read_next members (successor run stand.at stand.ports)
  successor_read stand words is = next_read (port_fault run stand.at.states stand.ports) stand.at stand.ports words is refl

  pub stand_read : (stand : Stand) → HasWords run stand.at → IsStand run stand → IsEventAssignment members stand.at.states (read stand.ports)
  stand_read stand words is = (assignment_is_read members run stand.at.states plain (fits stand.at words) stand.ports is).1

  pub follows_read : (here : Stand) (stands : List Stand) (ending : Ending) → HasWords run here.at → IsStand run here → Follows run here stands ending
      → EventFollows source (read_stand members here) (map (read_stand members) stands) (read_ending members ending)
  follows_read here [] ending words is follows = successor_read here words is ∙ ap (read_next members) follows
  follows_read here (next ∷ stands) ending words is follows =
      let kept = goes_keeps run here next are words follows.0 in (
        successor_read here words is ∙ ap (read_next members) follows.0.0,
        stand_read next kept follows.0.1,
        follows_read next stands ending kept follows.0.1 follows.1,
      )

  pub first_is : first_position run ≡ first_event_position source
  first_is = ap (λ states. record { point = record { t = 0; n = 0 }; states = states; number = 0 })
      (ap (map (λ member. initial member.component)) plain.members_are ∙ initial_states (flat_map shape_of members) members)

  pub trace_read : (stands : List Stand) (ending : Ending) → IsTrace run stands ending
      → IsEventTrace source (map (read_stand members) stands) (read_ending members ending)
  trace_read [] ending trace = absurd trace
  trace_read (first ∷ stands) ending trace =
      let words = subst (HasWords run) (sym trace.0) (positions_keep run are).first in (
        trace.0 ∙ first_is,
        stand_read first words trace.1,
        follows_read first stands ending words trace.1 trace.2,
      )
