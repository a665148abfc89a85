-- The proposed step, read from one limit after the other.
use Rattle.std.proofs.Common.{◌≡◌, ◌∙◌, ℕ, ◌+◌, ◌-◌, ◌≤◌, min, List, length, drop, Option, Some, None, Ok, Err, refl, sym, ap, arith}
use Rattle.std.proofs.lemmas.List.{drop_all}
use Rattle.std.specs.Prelude.{slice_get}
use Rattle.std.specs.List.{cons_option, filter_map}
use Rattle.step_rule.proofs.AlongLaws.{least_next, left_is}
use Rattle.step_rule.specs.Limits.{with_limit}
use Rattle.step_rule.specs.Steps.{ending_or}
use Rattle.unit_tree.specs.Negotiation.{least_of, proposal_of}
use Rattle.unit_tree.specs.declared.ending.Ending.{Ending}

-- The least so far, with the limits that are left, is the least of all.
pub record Proposes {X : Type 0} (limit : X → Option ℕ) (xs : List X) (first k least : ℕ) : Type 0 where
  pub is : least_of least (filter_map limit (drop k xs)) ≡ least_of first (filter_map limit xs)

pub none_proposed : {X : Type 0} (limit : X → Option ℕ) (xs : List X) (first : ℕ) → Proposes limit xs first 0 first
none_proposed limit xs first = record { is = refl }

pub proposes_next : {X : Type 0} (limit : X → Option ℕ) (xs : List X) (first k least : ℕ) (x : X) → slice_get xs k ≡ Some x → Proposes limit xs first k least
    → Proposes limit xs first (k + 1) (with_limit least (limit x))
proposes_next limit xs first k least x is so = record {
  is = by_limit (limit x) ∙ sym (ap (λ left. least_of least (filter_map limit left)) (left_is xs k x is)) ∙ so.is;
}
  where
    by_limit : (found : Option ℕ) → least_of (with_limit least found) (filter_map limit (drop (k + 1) xs)) ≡ least_of least
        (cons_option found (filter_map limit (drop (k + 1) xs)))
    by_limit None = refl
    by_limit (Some number) = sym (least_next least number (filter_map limit (drop (k + 1) xs)))

pub proposed_is : {X : Type 0} (limit : X → Option ℕ) (xs : List X) (stop longest t k least : ℕ) → length xs ≤ k
    → Proposes limit xs (min (stop - t) longest) k least
    → least ≡ proposal_of stop longest t (filter_map limit xs)
proposed_is limit xs stop longest t k least past so =
    sym (ap (λ left. least_of least (filter_map limit left)) (drop_all k xs past)) ∙ so.is ∙ sym (least_next (stop - t) longest (filter_map limit xs))

pub with_most : (least : ℕ) (found : Option ℕ) → with_limit least found ≤ least
with_most least None = omega arith
with_most least (Some limit) = omega arith

-- ---- An ending or a length

pub ends_by : (end : Option Ending) (length : ℕ) (ending : Ending) → ending_or end length ≡ Err ending → end ≡ Some ending
ends_by None length ending is = absurd (cc)
ends_by (Some other) length ending is = cc

pub no_end_by : (end : Option Ending) (length other : ℕ) → ending_or end length ≡ Ok other → end ≡ None
no_end_by None length other is = refl
no_end_by (Some ending) length other is = absurd (cc)

pub length_by : (end : Option Ending) (length other : ℕ) → ending_or end length ≡ Ok other → other ≡ length
length_by None length other is = cc
length_by (Some ending) length other is = absurd (cc)
