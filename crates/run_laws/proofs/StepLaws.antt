-- Laws of proposed steps, replies and agreed steps.
use Rattle.std.proofs.Common.{◌≡◌, ℕ, ◌-◌, ◌<◌, ◌≤◌, ◌==◌, min, cond, nat_le, ◌⊎◌, Bool, true, false, List, [], ◌∷◌, inl, inr, refl, sym, subst, arith}
use Rattle.std.proofs.lemmas.Bool.Decides.{nat_tests}
use Rattle.std.specs.List.{AllByRecursion}
use Rattle.super_time.specs.LocalTime.{local_step, limit_of}
use Rattle.super_time.proofs.LimitLaws.{limit_is_at_most}
use Rattle.unit_tree.specs.Negotiation.{least_of, proposal_of, reply_of, agreed_step}
use Rattle.unit_tree.specs.Ports.{IsAmong}
use Rattle.run_laws.specs.RunLaws.{IsAllowed, IsGreatest, IsLeastOf}

pub all_below : (least other : ℕ) (numbers : List ℕ) → least ≤ other → AllByRecursion (λ number. other ≤ number) numbers
    → AllByRecursion (λ number. least ≤ number) numbers
all_below least other [] below all = tt
all_below least other (number ∷ numbers) below all =
    let first : other ≤ number = all.0 in
    (omega arith, all_below least other numbers below all.1)

pub least_below : (first : ℕ) (others : List ℕ) → AllByRecursion (λ number. least_of first others ≤ number) (first ∷ others)
least_below first [] = (omega arith, tt)
least_below first (other ∷ others) =
    (omega arith, all_below (min first (least_of other others)) (least_of other others) (other ∷ others) (omega arith) (least_below other others))

pub below_least : (first h : ℕ) (others : List ℕ) → AllByRecursion (λ number. h ≤ number) (first ∷ others) → h ≤ least_of first others
below_least first h [] all = all.0
below_least first h (other ∷ others) all =
    let here : h ≤ first = all.0 in
    let later : h ≤ least_of other others = below_least other h others all.1 in
    omega arith

pub proposal_is_greatest : (stop longest t : ℕ) (limits : List ℕ) → IsGreatest (IsAllowed stop longest t limits) (proposal_of stop longest t limits)
proposal_is_greatest stop longest t limits =
    let below = least_below (stop - t) (longest ∷ limits) in
    record {
      holds = record { within_stop = below.0; within_longest = below.1.0; within_limits = below.1.1 };
      is_greatest = λ h allowed. below_least (stop - t) h (longest ∷ limits) (allowed.within_stop, (allowed.within_longest, allowed.within_limits));
    }

pub min_is_one : (below : Bool) (first other : ℕ) → nat_le first other ≡ below → (min first other ≡ first) ⊎ (min first other ≡ other)
min_is_one true first other is = let below : first ≤ other = grind (arith, nat_tests) in inl (omega arith)
min_is_one false first other is = let above : other < first = grind (arith, nat_tests) in inr (omega arith)

pub one_of_two : (first other : ℕ) (others : List ℕ) → IsAmong others other → (min first other ≡ first) ⊎ (min first other ≡ other)
    → IsAmong (first ∷ others) (min first other)
one_of_two first other others among (inl is) = inl (sym is)
one_of_two first other others among (inr is) = inr (subst (IsAmong others) (sym is) among)

pub least_is_one : (first : ℕ) (others : List ℕ) → IsAmong (first ∷ others) (least_of first others)
least_is_one first [] = inl refl
least_is_one first (other ∷ others) =
    one_of_two first (least_of other others) (other ∷ others) (least_is_one other others)
    (min_is_one (nat_le first (least_of other others)) first (least_of other others) refl)

pub agreed_is_least : (h first : ℕ) (others : List ℕ) → IsLeastOf (first ∷ others) (agreed_step h (first ∷ others))
agreed_is_least h first others = record { is_one = least_is_one first others; is_least = least_below first others }

-- With whether all of the local step was accepted.
reply_by : (whole : Bool) (factor t h accepted : ℕ) → 1 ≤ factor → accepted ≤ local_step factor t h → cond whole h (limit_of factor t accepted) ≤ h
reply_by true factor t h accepted some within = omega arith
reply_by false factor t h accepted some within = limit_is_at_most factor t accepted h some within

pub reply_is_at_most : (factor t h accepted : ℕ) → 1 ≤ factor → accepted ≤ local_step factor t h → reply_of factor t h accepted ≤ h
reply_is_at_most factor t h accepted some within = reply_by (accepted == local_step factor t h) factor t h accepted some within
