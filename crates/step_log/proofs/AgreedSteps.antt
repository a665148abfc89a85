-- The agreed step of a position, where the members come to agree on one there.
use Rattle.std.proofs.Common.{◌≡◌, ◌∙◌, ℕ, ◌≤◌, ◌+◌, ◌^◌, Option, Some, None, [], ◌∷◌, refl, ap, sym, subst, arith}
use Rattle.std.proofs.lemmas.Option.{same_Some}
use Rattle.event_runs.proofs.TurnLaws.{proposed_is}
use Rattle.run_laws.proofs.StepLaws.{proposal_is_greatest}
use Rattle.event_runs.specs.Offers.{Offers, Pace, agreed_by, proposal_at}
use Rattle.event_runs.specs.Readings.{offers_of, pace_of}
use Rattle.step_log.specs.Negotiated.{least_reply, limiter_of, shortener_of, trial_of}
use Rattle.step_log.specs.Steps.{agreement_by, end_before, held_in, step_at, step_by, unless}
use Rattle.step_counts.specs.declared.step.AgreedStep.{AgreedStep}
use Rattle.trace_core.specs.Runs.{IsPhase, IsTrial, RunState, Stands, first_end}
use Rattle.trace_core.specs.declared.phase.Phase.TheVariants.{Ended, Trial}
use Rattle.trace_rows.proofs.FreshRuns.{By, phase_by}
use Rattle.trace_rows.specs.Passing.{IsFresh}
use Rattle.unit_tree.specs.Compositions.{Composition}
use Rattle.unit_tree.specs.Ports.{first_some, port_fault}
use Rattle.unit_tree.specs.Successor.{Position, first_told, limits, max_end, proposed, row_end, step_end_of, stop_end}
use Rattle.unit_tree.specs.Trace.{Stand}
use Rattle.unit_tree.specs.declared.ending.Ending.{Ending}

last_some : (end : Option Ending) → first_some (end ∷ []) ≡ end
last_some None = refl
last_some (Some end) = refl

-- With a least reply, no step met a fault.
agreed_unless : (end : Option Ending) (least reply : ℕ) (step : ℕ → AgreedStep) → Some least ≡ unless end reply → Some (step least) ≡ unless end (step reply)
agreed_unless None least reply step is = ap (λ n. Some (step n)) (same_Some least reply is)
agreed_unless (Some end) least reply step is = absurd (cc)

none_unless : (end : Option Ending) (reply : ℕ) (step : AgreedStep) → None ≡ unless end reply → None ≡ unless end step
none_unless None reply step is = absurd (cc)
none_unless (Some end) reply step is = refl

-- Where the run ends before a trial, there is no agreed step.
first_of : (a b c d x : Option Ending) (ending : Ending) → first_some (a ∷ b ∷ c ∷ d ∷ []) ≡ Some ending → first_some (a ∷ b ∷ c ∷ d ∷ x ∷ []) ≡ Some ending
first_of (Some a) b c d x ending is = is
first_of None (Some b) c d x ending is = is
first_of None None (Some c) d x ending is = is
first_of None None None (Some d) x ending is = is
first_of None None None None x ending is = absurd (cc)

pub ended_step : (run : Composition) (stand : Stand) (ending : Ending) → first_end run stand ≡ Some ending
    → step_at (pace_of run) stand.at (offers_of run stand.at stand.ports) ≡ None
ended_step run stand ending is =
    let pace = pace_of run in
    let offers = offers_of run stand.at stand.ports in
    let p = proposal_at pace stand.at offers in
    ap (λ end. unless end (agreement_by pace stand.at offers.limits p (offers.steps p)))
    (first_of (port_fault run stand.at.states stand.ports) (stop_end run stand.at) (row_end run stand.at) (max_end run stand.at stand.ports)
    (first_told step_end_of (offers.steps p)) ending is)

-- A fresh run that isn't in a trial has ended there.
pub record EndsHere (r : RunState) : Type 0 where
  pub ending : Ending
  pub phase : r.phase ≡ Ended ending
  pub step : step_at (pace_of r.plan.run) r.stand.at (offers_of r.plan.run r.stand.at r.stand.ports) ≡ None

ends_by : (r : RunState) (end : Option Ending) → first_end r.plan.run r.stand ≡ end → By r end → ((h : ℕ) → r.phase ≡ Trial h → ⊥) → EndsHere r
ends_by r None is by not = absurd (not (proposed r.plan.run r.stand.at r.stand.ports) by.phase)
ends_by r (Some ending) is by not = record { ending = ending; phase = by.phase; step = ended_step r.plan.run r.stand ending is }

pub ends_here : (r : RunState) → IsFresh r → ((h : ℕ) → r.phase ≡ Trial h → ⊥) → EndsHere r
ends_here r fresh not = ends_by r (first_end r.plan.run r.stand) refl (phase_by r (first_end r.plan.run r.stand) fresh refl) not

module _ (r : RunState) (h : ℕ) (stands : Stands r) (trial : r.phase ≡ Trial h) where
  abbrev pace : Pace
  pace = pace_of r.plan.run

  abbrev at : Position
  at = r.stand.at

  abbrev offers : Offers
  offers = offers_of r.plan.run at r.stand.ports

  is_trial : IsTrial r.plan.run r.stand h r.cells
  is_trial = subst (λ phase. IsPhase r.plan.run r.stand phase r.cells) trial stands.phase_is

  -- Only a fault of a step could end the run here.
  end_is : end_before pace at offers.fault offers.limits (trial_of r h) ≡ first_told step_end_of (trial_of r h)
  end_is =
      ap (λ end. first_some (end ∷ stop_end r.plan.run at ∷ row_end r.plan.run at ∷ max_end r.plan.run at r.stand.ports ∷ first_told step_end_of (trial_of r h) ∷ []))
      is_trial.going.ports_known
      ∙ ap (λ end. first_some (end ∷ row_end r.plan.run at ∷ max_end r.plan.run at r.stand.ports ∷ first_told step_end_of (trial_of r h) ∷ []))
      is_trial.going.before_stop
      ∙ ap (λ end. first_some (end ∷ max_end r.plan.run at r.stand.ports ∷ first_told step_end_of (trial_of r h) ∷ [])) is_trial.going.rows_left
      ∙ ap (λ end. first_some (end ∷ first_told step_end_of (trial_of r h) ∷ [])) is_trial.going.limits_told
      ∙ last_some (first_told step_end_of (trial_of r h))

  step_is : step_at pace at offers ≡ unless (first_told step_end_of (trial_of r h)) (agreement_by pace at offers.limits h (trial_of r h))
  step_is =
      ap (λ p. step_by pace at offers.fault offers.limits p (trial_of r p)) (sym (is_trial.is ∙ proposed_is r.plan.run at r.stand.ports))
      ∙ ap (λ end. unless end (agreement_by pace at offers.limits h (trial_of r h))) end_is

  -- The agreed step by its length.
  abbrev pub agreed_on : ℕ → AgreedStep
  agreed_on agreed = record {
    point = at.point;
    proposed = h;
    limiter = limiter_of r h;
    agreed = agreed;
    shortening = shortener_of r h agreed;
    held = held_in pace at.point.t agreed;
  }

  pub some_agreed : (least : ℕ) → Some least ≡ least_reply r h → Some (agreed_on least) ≡ step_at pace at offers
  some_agreed least is =
      agreed_unless (first_told step_end_of (trial_of r h)) least (agreed_by pace at h (trial_of r h)) agreed_on is ∙ sym step_is

  pub none_agreed_on : None ≡ least_reply r h → None ≡ step_at pace at offers
  none_agreed_on is =
      none_unless (first_told step_end_of (trial_of r h)) (agreed_by pace at h (trial_of r h)) (agreement_by pace at offers.limits h (trial_of r h)) is
      ∙ sym step_is

  pub in_time : r.stand.at.point.t + h ≤ 10 ^ 15
  in_time =
      let within =
      (proposal_is_greatest r.plan.run.stop r.plan.run.longest r.stand.at.point.t (limits r.plan.run r.stand.at r.stand.ports)).holds.within_stop in
      let before = stands.in_bounds.stop in
      let most = stands.bounded.stop in
      let is = is_trial.is in
      omega (arith, within, before, most, is)
