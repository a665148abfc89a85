-- A run at the beginning of its trial, and the limits there.
use Rattle.std.proofs.Common.{◌≡◌, ◌∙◌, ℕ, ◌+◌, ◌-◌, ◌≤◌, ◌==◌, cond, is_some, Bool, true, false, List, [], ◌∷◌, length, map, zip, Option, Some, None, refl, ap, sym, arith}
use Rattle.std.proofs.lemmas.List.{length-map}
use Rattle.std.proofs.lemmas.Option.{slice_get-map}
use Rattle.std.proofs.lemmas.Bool.{eq-eqb, eqb-true}
use Rattle.std.specs.Prelude.{slice_get}
use Rattle.std.specs.Option.{option_eq, option_map}
use Rattle.event_runs.specs.Offers.{limit_with}
use Rattle.list_laws.proofs.Members.{at_place}
use Rattle.step_log.proofs.Agreements.{zipped_few}
use Rattle.step_log.specs.Negotiated.{IsBegun, limiter_of, limits_of}
use Rattle.step_log.specs.Steps.{limited_to, limiter_or}
use Rattle.step_counts.specs.declared.step.Limiter.TheVariants as limiter
use Rattle.step_rule.proofs.StepLaws.{EndFrom, end_here, end_next, end_none}
use Rattle.trace_core.specs.Runs.{Held, Empty, RunState, cell_of, is_filled}
use Rattle.trace_core.specs.declared.phase.Phase.TheVariants.{Ended}
use Rattle.trace_rows.proofs.FreshRuns.{fresh_tried}
use Rattle.trace_rows.specs.Passing.{IsFresh}
use Rattle.unit_tree.specs.Compositions.{Member}
use Rattle.unit_tree.specs.Negotiation.{is_held, limit_at, max_at}
use Rattle.unit_tree.specs.Ports.{Ports}
use Rattle.unit_tree.specs.Successor.{proposed, standings, when}
use Rattle.unit_tree.specs.declared.ending.Ending.{Ending}

-- ---- No step was made yet

unfilled : (held : Bool) → is_filled (cond held Held Empty) ≡ false
unfilled true = refl
unfilled false = refl

pub begun : (r : RunState) → IsFresh r → ((ending : Ending) → r.phase ≡ Ended ending → ⊥) → IsBegun r
begun r fresh going instance within =
    let tried = fresh_tried r fresh going in
    let t = r.stand.at.point.t in
    let h = proposed r.plan.run r.stand.at r.stand.ports in
    let there = at_place r.plan.run.members instance within in
    ap (λ cells. option_map is_filled (slice_get cells instance)) tried.cells
    ∙ ap (option_map is_filled) (slice_get-map (cell_of t h) r.plan.run.members instance ∙ ap (option_map (cell_of t h)) there.1)
    ∙ ap Some (unfilled (is_held there.0.factor t h))

-- ---- The limits

pub option_same : (limit : Option ℕ) (h : ℕ) → option_eq (λ a b. a == b) limit (Some h) ≡ true → limit ≡ Some h
option_same None h is = absurd (cc)
option_same (Some limit) h is = ap Some (eqb-true limit h is)

pub option_differs : (limit : Option ℕ) (h : ℕ) → option_eq (λ a b. a == b) limit (Some h) ≡ false → limit ≡ Some h → ⊥
option_differs limit h is same =
    let yes : true ≡ false = sym (eq-eqb h h refl) ∙ sym (ap (λ one. option_eq (λ a b. a == b) one (Some h)) same) ∙ is in absurd (cc)

limits_along : (t : ℕ) (ports : Ports) (members : List Member) (states : List (List _))
    → map (limit_with t) (zip (map (λ (member : Member). member.factor) members) (map (max_at t ports) (zip members states)))
    ≡ map (limit_at t ports) (zip members states)
limits_along t ports [] states = refl
limits_along t ports (member ∷ members) [] = refl
limits_along t ports (member ∷ members) (state ∷ states) = ap (λ rest. limit_at t ports (member, state) ∷ rest) (limits_along t ports members states)

module _ (r : RunState) where
  abbrev t : ℕ
  t = r.stand.at.point.t

  limits_are : limits_of r ≡ map (limit_at t r.stand.ports) (standings r.plan.run r.stand.at)
  limits_are = limits_along t r.stand.ports r.plan.run.members r.stand.at.states

  limit_there : (instance : ℕ) (limit : Option ℕ)
      → option_map (limit_at t r.stand.ports) (slice_get (standings r.plan.run r.stand.at) instance) ≡ Some limit
      → slice_get (limits_of r) instance ≡ Some limit
  limit_there instance limit is =
      ap (λ all. slice_get all instance) limits_are ∙ slice_get-map (limit_at t r.stand.ports) (standings r.plan.run r.stand.at) instance ∙ is

  limits_few : length (limits_of r) ≤ length r.plan.run.members
  limits_few =
      let long = ap length limits_are ∙ length-map (standings r.plan.run r.stand.at) (limit_at t r.stand.ports) in
      let few = zipped_few r.plan.run.members r.stand.at.states in
      omega (arith, long, few)

  module _ (h : ℕ) where
    -- No instance before this one has the limit.
    abbrev pub LimitedFrom : ℕ → Type 0
    LimitedFrom = EndFrom (limited_to h) (limits_of r)

    abbrev left : ℕ
    left = r.plan.run.stop - r.stand.at.point.t

    other_limit : (instance : ℕ) (limit : Option ℕ) → (limit ≡ Some h → ⊥) → limited_to h (instance, limit) ≡ None
    other_limit instance None not = refl
    other_limit instance (Some limit) not = by (limit == h) refl
      where
        by : (same : Bool) → (limit == h) ≡ same → when same instance ≡ None
        by true is = absurd (not (ap Some (eqb-true limit h is)))
        by false is = refl

    pub pass_limit : (instance : ℕ) (limit : Option ℕ)
        → option_map (limit_at t r.stand.ports) (slice_get (standings r.plan.run r.stand.at) instance) ≡ Some limit → (limit ≡ Some h → ⊥)
        → LimitedFrom instance → LimitedFrom (instance + 1)
    pass_limit instance limit is not so_far =
        end_next (limited_to h) (limits_of r) instance limit (limit_there instance limit is) (ap is_some (other_limit instance limit not)) so_far

    same_limit : (instance : ℕ) → limited_to h (instance, Some h) ≡ Some instance
    same_limit instance = ap (λ same. when same instance) (eq-eqb h h refl)

    pub limit_found : (instance : ℕ) (limit : Option ℕ)
        → option_map (limit_at t r.stand.ports) (slice_get (standings r.plan.run r.stand.at) instance) ≡ Some limit → limit ≡ Some h
        → LimitedFrom instance → limiter.Instance instance ≡ limiter_of r h
    limit_found instance limit is same so_far =
        let told : limited_to h (instance, limit) ≡ Some instance = ap (λ one. limited_to h (instance, one)) same ∙ same_limit instance in
        ap (λ found. limiter_or found left h)
        (sym told ∙ end_here (limited_to h) (limits_of r) instance limit (limit_there instance limit is) (ap is_some told) so_far)

    pub no_limit : (instance : ℕ) → length r.plan.run.members ≤ instance → LimitedFrom instance → limiter_or None left h ≡ limiter_of r h
    no_limit instance past so_far =
        ap (λ found. limiter_or found left h)
        (end_none (limited_to h) (limits_of r) instance (let few = limits_few in omega (arith, few, past)) so_far)
