-- The agreed steps of the plain form's trace, and their reports, are those of the system as it is written.
use Rattle.std.proofs.Common.{◌≡◌, ◌∙◌, ℕ, true, List, [], ◌∷◌, ◌++◌, map, length, Option, Some, None, refl, ap, sym, subst}
use Rattle.std.proofs.lemmas.Slice.Zip.{AllZip-long}
use Rattle.std.specs.Prelude.{if◌then◌else◌, is_some}
use Rattle.std.specs.List.{cons_option, count_by, filter_map, flat_map, list_all}
use Rattle.std.specs.Option.{option_map}
use Rattle.event_runs.proofs.FaultLaws.{fault_is_read}
use Rattle.event_runs.proofs.OfferLaws.{give_the_same}
use Rattle.event_runs.proofs.RunLaws.{assignment_is_read}
use Rattle.event_runs.proofs.SystemTraces.{system_are, system_order, system_pace, system_plain}
use Rattle.event_runs.proofs.TraceLaws.{fits}
use Rattle.event_runs.specs.EventPorts.{EventMember, Signals}
use Rattle.event_runs.specs.EventRuns.{event_members_of, event_run_of}
use Rattle.event_runs.specs.EventTrace.{event_offers, event_port_fault}
use Rattle.event_runs.specs.Laws.{IsPlainRun}
use Rattle.event_runs.specs.Offers.{Offers, Pace, proposal_at, proposed_by}
use Rattle.event_runs.specs.Readings.{offers_of, pace_of, read_ending, read_ports, read_stand, shape_of}
use Rattle.run_laws.proofs.AssignmentLaws.{undefined_faults}
use Rattle.run_laws.proofs.PositionLaws.{positions_keep}
use Rattle.run_laws.proofs.RunTraces.{goes_keeps}
use Rattle.step_counts.specs.Counts.{all_counts, is_longest, is_redone, is_stop}
use Rattle.step_counts.specs.Summaries.{faulted_by, instance_lines, summary_of, totals}
use Rattle.step_counts.specs.declared.step.AgreedStep.{AgreedStep}
use Rattle.step_log.specs.Reports.{event_step, event_steps, log_of, plain_step, plain_steps, report_text}
use Rattle.step_log.specs.Steps.{step_at, step_by}
use Rattle.step_log.specs.declared.report.StepReport.{StepReport}
use Rattle.step_log.specs.declared.report.StepReport.TheVariants.{Log, Summary}
use Rattle.unit_tree.specs.Compositions.{AreMembers, Composition, run_of}
use Rattle.unit_tree.specs.Orders.{HasNoCycle}
use Rattle.unit_tree.specs.Ports.{IsPlaceOrder, Ports, port_fault}
use Rattle.unit_tree.specs.Printable.{IsRanged}
use Rattle.unit_tree.specs.Successor.{Position}
use Rattle.unit_tree.specs.Trace.{Follows, HasWords, IsStand, IsTrace, Stand}
use Rattle.unit_tree.specs.WellFormed.{IsWellFormed}
use Rattle.unit_tree.specs.declared.ending.Ending.{Ending}
use Rattle.unit_tree.specs.declared.ending.Ending.TheVariants.{Completed, RowBudget, StepRefused, UnitFault, ZeroBudget}
use Rattle.unit_tree.specs.declared.system.System.{System}

-- ---- Where the results of the calls are the same

-- Without a port fault.
same_step : (pace : Pace) (at : Position) (one other : Offers) → one.fault ≡ other.fault → one.limits ≡ other.limits
    → ((h : ℕ) → one.steps h ≡ other.steps h) → step_at pace at one ≡ step_at pace at other
same_step pace at one other fault limits steps =
    let p = proposal_at pace at one in
    let q = proposal_at pace at other in
    let proposed : p ≡ q = ap (proposed_by pace at) limits in
    ap (λ f. step_by pace at f one.limits p (one.steps p)) fault
    ∙ ap (λ l. step_by pace at other.fault l p (one.steps p)) limits
    ∙ ap (λ h. step_by pace at other.fault other.limits h (one.steps h)) proposed
    ∙ ap (step_by pace at other.fault other.limits q) (steps q)

-- With one.
pub no_step : (pace : Pace) (at : Position) (offers : Offers) (ending : Ending) → offers.fault ≡ Some ending → step_at pace at offers ≡ None
no_step pace at offers ending fault =
    ap (λ f. step_by pace at f offers.limits (proposal_at pace at offers) (offers.steps (proposal_at pace at offers))) fault

module _ (system : System) (ranged : IsRanged system) (kept : IsWellFormed system) (no_cycle : HasNoCycle system) where
  abbrev members : List EventMember
  members = event_members_of system

  abbrev run : Composition
  run = run_of system

  plain : IsPlainRun members run
  plain = system_plain system ranged kept no_cycle

  are : AreMembers run
  are = system_are system ranged kept no_cycle

  abbrev order : List ℕ
  order = (system_order system ranged kept no_cycle).0

  ordered : IsPlaceOrder run order
  ordered = (system_order system ranged kept no_cycle).1

  abbrev read : Ports → Signals
  read ports = read_ports (flat_map shape_of members) ports

  -- The agreed step of a stand, by its port fault.
  step_read : (fault : Option Ending) (at : Position) (ports : Ports) → HasWords run at → IsStand run (record { at = at; ports = ports })
      → port_fault run at.states ports ≡ fault
      → step_at (pace_of run) at (offers_of run at ports) ≡ step_at (pace_of run) at (event_offers members at (read ports))
  step_read (Some ending) at ports words is told =
      let fit = fits members run order plain are ordered at words in
      let tidy = (assignment_is_read members run at.states plain fit ports is).0 in
      no_step (pace_of run) at (offers_of run at ports) ending told
      ∙ sym (no_step (pace_of run) at (event_offers members at (read ports)) (read_ending members ending)
      (fault_is_read members run at.states ports plain fit tidy ∙ ap (option_map (read_ending members)) told))
  step_read None at ports words is told =
      let fit = fits members run order plain are ordered at words in
      let tidy = (assignment_is_read members run at.states plain fit ports is).0 in
      let count : length at.states ≡ length run.members = AllZip-long _ run.members at.states words in
      let defined : list_all is_some ports ≡ true = (undefined_faults run order at.states ports ordered count is).0 told in
      let same = give_the_same members run at ports plain fit tidy defined in
      let event_told : event_port_fault members at.states (read ports) ≡ None =
      fault_is_read members run at.states ports plain fit tidy ∙ ap (option_map (read_ending members)) told in
      same_step (pace_of run) at (offers_of run at ports) (event_offers members at (read ports)) (told ∙ sym event_told) same.limits same.steps

  stand_read : (stand : Stand) → HasWords run stand.at → IsStand run stand
      → plain_step run stand ≡ event_step (event_run_of system) (read_stand members stand)
  stand_read stand words is =
      step_read (port_fault run stand.at.states stand.ports) stand.at stand.ports words is refl
      ∙ ap (λ pace. step_at pace stand.at (event_offers members stand.at (read stand.ports))) (system_pace system ranged kept no_cycle)

  abbrev read_steps : List Stand → List AgreedStep
  read_steps stands = event_steps (event_run_of system) (map (read_stand members) stands)

  all_read : (here : Stand) (stands : List Stand) (ending : Ending) → HasWords run here.at → IsStand run here → Follows run here stands ending
      → filter_map (plain_step run) (here ∷ stands) ≡ read_steps (here ∷ stands)
  all_read here [] ending words is follows = ap (λ step. cons_option step []) (stand_read here words is)
  all_read here (next ∷ stands) ending words is follows =
      ap (λ step. cons_option step (filter_map (plain_step run) (next ∷ stands))) (stand_read here words is)
      ∙ ap (cons_option (event_step (event_run_of system) (read_stand members here)))
      (all_read next stands ending (goes_keeps run here next are words follows.0) follows.0.1 follows.1)

  pub steps_read : (stands : List Stand) (ending : Ending) → IsTrace run stands ending → plain_steps run stands ≡ read_steps stands
  unfolding plain_steps
  steps_read [] ending trace = absurd trace
  steps_read (first ∷ stands) ending trace =
      let words = subst (HasWords run) (sym trace.0) (positions_keep run are).first in
      all_read first stands ending words trace.1 trace.2

  -- ---- The reports

  -- A reading keeps the instance that faulted.
  same_faulted : (ending : Ending) → faulted_by (read_ending members ending) ≡ faulted_by ending
  same_faulted (UnitFault instance place fault) = refl
  same_faulted Completed = refl
  same_faulted RowBudget = refl
  same_faulted ZeroBudget = refl
  same_faulted (StepRefused instance asked accepted) = refl

  -- The report of the plain form's trace is that of the system's own.
  pub report_read : (report : StepReport) (stands : List Stand) (ending : Ending) → IsTrace run stands ending
      → report_text report system (plain_steps run stands) ending ≡ report_text report system (read_steps stands) (read_ending members ending)
  report_read Log stands ending trace = ap (log_of system) (steps_read stands ending trace)
  report_read Summary stands ending trace =
      ap (λ steps. summary_of system steps ending) (steps_read stands ending trace)
      ∙ ap (summary_by system (read_steps stands)) (sym (same_faulted ending))
    where
      summary_by : System → List AgreedStep → Option ℕ → List ℕ
      summary_by system steps faulted =
          totals system (if is_some faulted then 1 else 0) (length steps) (count_by is_redone steps) (count_by (λ step. is_stop step.limiter) steps)
          (count_by (λ step. is_longest step.limiter) steps)
          ++ instance_lines system faulted (all_counts (length system.instances) steps)
