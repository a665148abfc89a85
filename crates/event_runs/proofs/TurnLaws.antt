-- The successor depends only on the results of members' calls.
use Rattle.std.proofs.Common.{◌≡◌, ℕ, ◌+◌, List, [], ◌∷◌, map, Option, Some, None, Result, Ok, Err, refl, ap, ◌∙◌}
use Rattle.std.specs.Prelude.{zip}
use Rattle.std.specs.List.{filter_map, enumerate_from, cons_option}
use Rattle.fixed_words.specs.declared.types.Fault.{Fault}
use Rattle.unit_tree.specs.Components.{Moved}
use Rattle.unit_tree.specs.Compositions.{Member, Composition}
use Rattle.unit_tree.specs.Negotiation.{proposal_of, agreed_step, max_at, limit_at, reply_at}
use Rattle.unit_tree.specs.Ports.{Ports, first_some}
use Rattle.unit_tree.specs.Successor.{Position, Next, steps_by, proposed, agreed, replies_to, first_told, redo_end_of, successor}
use Rattle.event_runs.specs.Offers.{Pace, Steps, limit_with, proposed_by, reply_with, agreed_by, redo_with, next_of, Offers, proposal_at, agreed_at, next_by}
use Rattle.event_runs.specs.Readings.{pace_of, offers_of}

abbrev factors_of : List Member → List ℕ
factors_of members = map (λ member. member.factor) members

pub limits_are : (t : ℕ) (ports : Ports) (members : List Member) (states : List (List _))
    → filter_map (limit_at t ports) (zip members states) ≡ filter_map (limit_with t) (zip (factors_of members) (map (max_at t ports) (zip members states)))
limits_are t ports [] states = refl
limits_are t ports (member ∷ members) [] = refl
limits_are t ports (member ∷ members) (state ∷ states) = ap (cons_option (limit_at t ports (member, state))) (limits_are t ports members states)

reply_is : (t h : ℕ) (member : Member) (step : Option (Result Moved Fault)) → reply_at t h (member, step) ≡ reply_with t h (member.factor, step)
reply_is t h member None = refl
reply_is t h member (Some (Ok moved)) = refl
reply_is t h member (Some (Err fault)) = refl

pub replies_are : (t h : ℕ) (members : List Member) (steps : Steps) → map (reply_at t h) (zip members steps) ≡ map (reply_with t h) (zip (factors_of members) steps)
replies_are t h [] steps = refl
replies_are t h (member ∷ members) [] = refl
replies_are t h (member ∷ members) (step ∷ steps) =
    ap (λ reply. reply ∷ map (reply_at t h) (zip members steps)) (reply_is t h member step)
    ∙ ap (λ rest. reply_with t h (member.factor, step) ∷ rest) (replies_are t h members steps)

redo_is : (t h instance : ℕ) (member : Member) (step : Option (Result Moved Fault))
    → redo_end_of t h (instance, (member, step)) ≡ redo_with t h (instance, (member.factor, step))
redo_is t h instance member None = refl
redo_is t h instance member (Some (Ok moved)) = refl
redo_is t h instance member (Some (Err fault)) = refl

redos_are : (t h from : ℕ) (members : List Member) (steps : Steps)
    → map (redo_end_of t h) (enumerate_from from (zip members steps)) ≡ map (redo_with t h) (enumerate_from from (zip (factors_of members) steps))
redos_are t h from [] steps = refl
redos_are t h from (member ∷ members) [] = refl
redos_are t h from (member ∷ members) (step ∷ steps) =
    ap (λ first. first ∷ map (redo_end_of t h) (enumerate_from (from + 1) (zip members steps))) (redo_is t h from member step)
    ∙ ap (λ rest. redo_with t h (from, (member.factor, step)) ∷ rest) (redos_are t h (from + 1) members steps)

-- ---- Where the results are the same

pub next_same : (pace : Pace) (at : Position) (one other : Offers) → one.fault ≡ other.fault → one.limits ≡ other.limits
    → ((h : ℕ) → one.steps h ≡ other.steps h) → next_by pace at one ≡ next_by pace at other
next_same pace at one other fault limits steps =
    let p = proposal_at pace at one in
    let p' = proposal_at pace at other in
    let same_proposal : p ≡ p' = ap (proposed_by pace at) limits in
    let same_trial : one.steps p ≡ other.steps p' = ap one.steps same_proposal ∙ steps p' in
    let same_agreed : agreed_at pace at one ≡ agreed_at pace at other = ap (λ q. agreed_by pace at q (one.steps p)) same_proposal
    ∙ ap (agreed_by pace at p') same_trial in
    let same_redo : one.steps (agreed_at pace at one) ≡ other.steps (agreed_at pace at other) = ap one.steps same_agreed ∙ steps (agreed_at pace at other) in
    ap (λ f. next_of pace at f one.limits p (agreed_at pace at one) (one.steps p) (one.steps (agreed_at pace at one))) fault
    ∙ ap (λ l. next_of pace at other.fault l p (agreed_at pace at one) (one.steps p) (one.steps (agreed_at pace at one))) limits
    ∙ ap (λ q. next_of pace at other.fault other.limits q (agreed_at pace at one) (one.steps p) (one.steps (agreed_at pace at one))) same_proposal
    ∙ ap (λ a. next_of pace at other.fault other.limits p' a (one.steps p) (one.steps (agreed_at pace at one))) same_agreed
    ∙ ap (λ trial. next_of pace at other.fault other.limits p' (agreed_at pace at other) trial (one.steps (agreed_at pace at one))) same_trial
    ∙ ap (λ redo. next_of pace at other.fault other.limits p' (agreed_at pace at other) (other.steps p') redo) same_redo

-- ---- The successor

module _ (run : Composition) (at : Position) (ports : Ports) where
  abbrev pace : Pace
  pace = pace_of run

  abbrev offers : Offers
  offers = offers_of run at ports

  pub proposed_is : proposed run at ports ≡ proposal_at pace at offers
  proposed_is = ap (proposal_of run.stop run.longest at.point.t) (limits_are at.point.t ports run.members at.states)

  pub agreed_is : agreed run at ports ≡ agreed_at pace at offers
  agreed_is =
      ap (λ h. agreed_step h (replies_to run at ports h)) proposed_is
      ∙ ap (agreed_step (proposal_at pace at offers))
      (replies_are at.point.t (proposal_at pace at offers) run.members (steps_by run at ports (proposal_at pace at offers)))

  redo_of : (h : ℕ) → first_told (redo_end_of at.point.t h) (zip run.members (steps_by run at ports h))
      ≡ first_told (redo_with at.point.t h) (zip (factors_of run.members) (steps_by run at ports h))
  redo_of h = ap first_some (redos_are at.point.t h 0 run.members (steps_by run at ports h))

  -- With the two lengths.
  abbrev next_at : (p a : ℕ) → Next
  next_at p a = next_of pace at offers.fault offers.limits p a (steps_by run at ports p) (steps_by run at ports a)

  pub successor_is : successor run at ports ≡ next_by pace at offers
  successor_is = unredone ∙ ap (λ p. next_at p (agreed run at ports)) proposed_is ∙ ap (next_at (proposal_at pace at offers)) agreed_is
    where
      unredone : successor run at ports ≡ next_at (proposed run at ports) (agreed run at ports)
      unredone = rw (redo_of (agreed run at ports)) refl
