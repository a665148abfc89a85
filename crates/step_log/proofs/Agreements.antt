-- What is agreed on, found instance by instance from the slots of a run in its trial.
use Rattle.std.proofs.Common.{◌≡◌, ◌∙◌, ℕ, ◌+◌, ◌≤◌, ◌==◌, true, false, cond, is_some, List, [], ◌∷◌, length, zip, Option, Some, None, Result, refl, ap, sym, subst, arith}
use Rattle.std.proofs.lemmas.List.{length-map}
use Rattle.std.specs.Prelude.{slice_get, nat_lt, IfSome}
use Rattle.event_runs.proofs.TurnLaws.{replies_are}
use Rattle.event_runs.specs.Readings.{pace_of}
use Rattle.fixed_words.specs.declared.types.Fault.{Fault}
use Rattle.run_laws.proofs.PositionLaws.{agreed_is_at_most}
use Rattle.step_rule.specs.Steps.{ending_or}
use Rattle.std.specs.Result.{result_ok}
use Rattle.step_log.specs.Negotiated.{least_reply, shortener_of}
use Rattle.step_log.specs.Steps.{first_given, shortened_to, unless}
use Rattle.step_log.proofs.StepsMade.{StepHere, TellsStep}
use Rattle.step_rule.proofs.StepLaws.{EndFrom, end_here, end_next, end_none}
use Rattle.trace_core.specs.Runs.{IsPhase, RunState, Stands}
use Rattle.trace_core.specs.declared.phase.Phase.TheVariants.{Trial}
use Rattle.step_rule.specs.declared.steps.Slot.{Slot}
use Rattle.step_rule.specs.declared.steps.Slot.TheVariants as slot
use Rattle.unit_tree.specs.Components.{Moved}
use Rattle.unit_tree.specs.Compositions.{Composition, Member}
use Rattle.unit_tree.specs.Negotiation.{agreed_step, reply_of}
use Rattle.unit_tree.specs.Successor.{agreed, proposed, steps_by, trial, trial_end, when}
use Rattle.unit_tree.specs.declared.ending.Ending.{Ending}

-- ---- Lists

pub zipped_few : {A B : Type 0} (xs : List A) (ys : List B) → length (zip xs ys) ≤ length xs
zipped_few [] ys = omega arith
zipped_few (x ∷ xs) [] = omega arith
zipped_few (x ∷ xs) (y ∷ ys) = let rest = zipped_few xs ys in omega (arith, rest)

unless_ok : (end : Option Ending) (least : ℕ) → result_ok (ending_or end least) ≡ unless end least
unless_ok None least = refl
unless_ok (Some ending) least = refl

module _ (r : RunState) (h : ℕ) where
  abbrev run : Composition
  run = r.plan.run

  abbrev t : ℕ
  t = r.stand.at.point.t

  abbrev steps : List (Option (Result Moved Fault))
  steps = steps_by run r.stand.at r.stand.ports h

  abbrev pairs : List (ℕ × Option (Result Moved Fault))
  pairs = zip (pace_of run).factors steps

  -- No instance before this one replies the agreed step.
  abbrev pub ShortenedFrom : ℕ → ℕ → Type 0
  ShortenedFrom agreed = EndFrom (shortened_to t h agreed) pairs

  pub pairs_few : length pairs ≤ length run.members
  pairs_few =
      let few = zipped_few (pace_of run).factors steps in
      let long = length-map run.members (λ (member : Member). member.factor) in
      omega (arith, few, long)

  -- ---- The least reply

  module _ (stands : Stands r) (in_trial : r.phase ≡ Trial h) where
    tried : h ≡ proposed run r.stand.at r.stand.ports
    tried = (subst (λ phase. IsPhase run r.stand phase r.cells) in_trial stands.phase_is).is

    -- The agreed step of the run is the least reply to its trial.
    pub least_agreed : result_ok (ending_or (trial_end run r.stand.at r.stand.ports) (agreed run r.stand.at r.stand.ports)) ≡ least_reply r h
    least_agreed =
        unless_ok (trial_end run r.stand.at r.stand.ports) (agreed run r.stand.at r.stand.ports)
        ∙ ap (unless (trial_end run r.stand.at r.stand.ports))
        (ap (agreed_step (proposed run r.stand.at r.stand.ports))
        (replies_are t (proposed run r.stand.at r.stand.ports) run.members (trial run r.stand.at r.stand.ports)))
        ∙ sym (ap (least_reply r) tried)

    pub agreed_most : IfSome (result_ok (ending_or (trial_end run r.stand.at r.stand.ports) (agreed run r.stand.at r.stand.ports))) (λ least. least ≤ h)
    agreed_most = by (trial_end run r.stand.at r.stand.ports)
      where
        by : (end : Option Ending) → IfSome (result_ok (ending_or end (agreed run r.stand.at r.stand.ports))) (λ least. least ≤ h)
        by (Some ending) = tt
        by None = subst (λ step. agreed run r.stand.at r.stand.ports ≤ step) (sym tried) (agreed_is_at_most run r.stand.at r.stand.ports stands.members stands.words)

  -- ---- The first that replies it

  module _ (agreed : ℕ) where
    pass : (instance factor : ℕ) (step : Option (Result Moved Fault)) → slice_get pairs instance ≡ Some (factor, step)
        → shortened_to t h agreed (instance, (factor, step)) ≡ None → ShortenedFrom agreed instance → ShortenedFrom agreed (instance + 1)
    pass instance factor step is none so_far =
        end_next (shortened_to t h agreed) pairs instance (factor, step) is (ap is_some none) so_far

    unmade : (told : Slot) → ((accepted : ℕ) → told ≡ slot.Took accepted → ⊥) → (instance factor : ℕ) (step : Option (Result Moved Fault))
        → TellsStep factor t h step told → shortened_to t h agreed (instance, (factor, step)) ≡ None
    unmade slot.Held not instance factor step tells = ap (λ s. shortened_to t h agreed (instance, (factor, s))) tells
    unmade slot.Empty not instance factor step tells = absurd tells
    unmade (slot.Took accepted) not instance factor step tells = absurd (not accepted refl)
    unmade (slot.Failed fault) not instance factor step tells = ap (λ s. shortened_to t h agreed (instance, (factor, s))) tells

    pub pass_unmade : (instance : ℕ) (told : Slot) → StepHere r h instance told → ((accepted : ℕ) → told ≡ slot.Took accepted → ⊥)
        → ShortenedFrom agreed instance → ShortenedFrom agreed (instance + 1)
    pass_unmade instance told here not so_far =
        pass instance here.member.factor here.step here.pair_is (unmade told not instance here.member.factor here.step here.tells) so_far

    reply_test : (instance accepted : ℕ) (here : StepHere r h instance (slot.Took accepted))
        → shortened_to t h agreed (instance, (here.member.factor, here.step))
        ≡ when (reply_of here.member.factor t h accepted == agreed) (record { instance = instance; accepted = accepted })
    reply_test instance accepted here =
        ap (λ s. shortened_to t h agreed (instance, (here.member.factor, s))) here.tells.made
        ∙ ap (λ n. when (reply_of here.member.factor t h n == agreed) (record { instance = instance; accepted = n })) here.tells.took

    pub pass_other : (instance accepted reply : ℕ) (here : StepHere r h instance (slot.Took accepted)) → reply ≡ reply_of here.member.factor t h accepted
        → (reply == agreed) ≡ false → ShortenedFrom agreed instance → ShortenedFrom agreed (instance + 1)
    pass_other instance accepted reply here is differs so_far =
        pass instance here.member.factor here.step here.pair_is
        (reply_test instance accepted here
        ∙ ap (λ test. when test (record { instance = instance; accepted = accepted })) (ap (λ n. n == agreed) (sym is) ∙ differs)) so_far

    pub first_found : (instance accepted reply : ℕ) (here : StepHere r h instance (slot.Took accepted)) → reply ≡ reply_of here.member.factor t h accepted
        → (reply == agreed) ≡ true → nat_lt agreed h ≡ true → ShortenedFrom agreed instance
        → Some (record { instance = instance; accepted = accepted }) ≡ shortener_of r h agreed
    first_found instance accepted reply here is same shorter so_far =
        let told : shortened_to t h agreed (instance, (here.member.factor, here.step)) ≡ Some (record { instance = instance; accepted = accepted }) =
        reply_test instance accepted here
        ∙ ap (λ test. when test (record { instance = instance; accepted = accepted })) (ap (λ n. n == agreed) (sym is) ∙ same) in
        sym told
        ∙ end_here (shortened_to t h agreed) pairs instance (here.member.factor, here.step) here.pair_is (ap is_some told) so_far
        ∙ sym (ap (λ test. cond test (first_given (shortened_to t h agreed) pairs) None) shorter)

    pub none_found : (instance : ℕ) → length run.members ≤ instance → nat_lt agreed h ≡ true → ShortenedFrom agreed instance → None ≡ shortener_of r h agreed
    none_found instance past shorter so_far =
        end_none (shortened_to t h agreed) pairs instance (let few = pairs_few in omega (arith, few, past)) so_far
        ∙ sym (ap (λ test. cond test (first_given (shortened_to t h agreed) pairs) None) shorter)

    pub not_shorter : nat_lt agreed h ≡ false → None ≡ shortener_of r h agreed
    not_shorter is = sym (ap (λ test. cond test (first_given (shortened_to t h agreed) pairs) None) is)
