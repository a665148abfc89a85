-- The steps of all components, read one after the other.
use Rattle.std.proofs.Common.{◌≡◌, ◌∙◌, ℕ, zero, suc, ◌+◌, ◌≤◌, min, true, false, is_some, List, [], ◌∷◌, length, map, Option, Some, None, Ok, Err}
use Rattle.std.proofs.Common.{sym, ap, subst, arith}
use Rattle.std.proofs.lemmas.List.{length-map}
use Rattle.std.proofs.lemmas.List.FromFn.{length-enumerate_from}
use Rattle.std.specs.Prelude.{slice_get}
use Rattle.std.specs.List.{enumerate_from}
use Rattle.step_rule.specs.Steps.{AreAsked, IsAsked, ending_or, reply_by, ends_trial, trial_result}
use Rattle.step_rule.specs.declared.steps.Step.{Step}
use Rattle.step_rule.proofs.AlongLaws.{Least, ToldFrom, first_at, least_is, mapped_at, one_lesser, told_here, told_next, told_none}
use Rattle.unit_tree.specs.Negotiation.{least_of}
use Rattle.unit_tree.specs.Ports.{first_some}
use Rattle.unit_tree.specs.declared.ending.Ending.{Ending}

-- ---- What an item of a list tells, by its number

module _ {X B : Type 0} (tell : ℕ × X → Option B) (items : List X) where
  -- No item before a place tells anything.
  abbrev pub EndFrom : ℕ → Type 0
  EndFrom place = ToldFrom (map tell (enumerate_from 0 items)) place

  end_at : (place : ℕ) (item : X) → slice_get items place ≡ Some item
      → slice_get (map tell (enumerate_from 0 items)) place ≡ Some (tell (place, item))
  end_at place item is = mapped_at tell (enumerate_from 0 items) place (place, item) (first_at items place item is)

  pub end_next : (place : ℕ) (item : X) → slice_get items place ≡ Some item → is_some (tell (place, item)) ≡ false → EndFrom place → EndFrom (place + 1)
  end_next place item is none so = told_next (map tell (enumerate_from 0 items)) place (tell (place, item)) (end_at place item is) none so

  pub end_here : (place : ℕ) (item : X) → slice_get items place ≡ Some item → is_some (tell (place, item)) ≡ true → EndFrom place
      → tell (place, item) ≡ first_some (map tell (enumerate_from 0 items))
  end_here place item is some so = told_here (map tell (enumerate_from 0 items)) place (tell (place, item)) (end_at place item is) some so

  pub end_none : (place : ℕ) → length items ≤ place → EndFrom place → None ≡ first_some (map tell (enumerate_from 0 items))
  end_none place past so = told_none (map tell (enumerate_from 0 items)) place
      (omega (arith, length-map (enumerate_from 0 items) tell, length-enumerate_from 0 items, past)) so

-- ---- A trial

-- No step before a place has a fault, and this is the least of the replies before it.
pub record ReadSoFar (t h : ℕ) (steps : List Step) (place least : ℕ) : Type 0 where
  pub no_end : EndFrom ends_trial steps place
  pub so_far : Least h (map (reply_by t h) steps) place least
  pub at_most : least ≤ h

pub asked_at : (t h : ℕ) (steps : List Step) (place : ℕ) (step : Step) → AreAsked t h steps → slice_get steps place ≡ Some step → IsAsked t h step
asked_at t h [] place step are is = absurd (cc)
asked_at t h (first ∷ steps) zero step are is = let same : first ≡ step = cc in subst (IsAsked t h) same are.0
asked_at t h (first ∷ steps) (suc place) step are is = asked_at t h steps place step are.1 is

pub read_next : (t h : ℕ) (steps : List Step) (place least : ℕ) (step : Step) → slice_get steps place ≡ Some step
    → is_some (ends_trial (place, step)) ≡ false → ReadSoFar t h steps place least
    → ReadSoFar t h steps (place + 1) (min least (reply_by t h step))
read_next t h steps place least step is none so = record {
  no_end = end_next ends_trial steps place step is none so.no_end;
  so_far = one_lesser h (map (reply_by t h) steps) place least (reply_by t h step) (mapped_at (reply_by t h) steps place step is) so.so_far;
  at_most = omega (arith, so.at_most);
}

pub fault_here : (t h : ℕ) (steps : List Step) (place least : ℕ) (step : Step) (ending : Ending) → slice_get steps place ≡ Some step
    → ends_trial (place, step) ≡ Some ending → ReadSoFar t h steps place least → Err ending ≡ trial_result t h steps
fault_here t h steps place least step ending is ends so =
    ap (λ end. ending_or end (least_of h (map (reply_by t h) steps)))
    (sym ends ∙ end_here ends_trial steps place step is (ap is_some ends) so.no_end)

pub all_read : (t h : ℕ) (steps : List Step) (place least : ℕ) → length steps ≤ place → ReadSoFar t h steps place least → Ok least ≡ trial_result t h steps
all_read t h steps place least past so =
    ap (λ l. Ok l) (least_is h (map (reply_by t h) steps) place least (omega (arith, length-map steps (reply_by t h), past)) so.so_far)
    ∙ ap (λ end. ending_or end (least_of h (map (reply_by t h) steps))) (end_none ends_trial steps place past so.no_end)
