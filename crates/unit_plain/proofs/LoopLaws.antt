-- A step of a loop over a list.
use Rattle.std.proofs.Common.{◌≡◌, ℕ, suc, ◌+◌, ◌<◌, List, ◌++◌, length, drop, get_or, ap, sym, subst, ◌∙◌, append_assoc, drop-cons, arith}
use Rattle.std.specs.List.{flat_map}

-- The list that was made so far grows by what one more item becomes.
pub flat_next : {A B : Type 0} (f : A → List B) (items all : List A) (i : ℕ) (item : A) (before after : List B) → items ≡ all → i < length items
    → item ≡ get_or items i item → after ≡ before ++ f item → before ++ flat_map f (drop i all) ≡ after ++ flat_map f (drop (i + 1) all)
flat_next f items all i item before after same within is grown =
    let next : suc i ≡ i + 1 = omega arith in
    subst (λ list. before ++ flat_map f (drop i list) ≡ after ++ flat_map f (drop (i + 1) list)) same (
    ap (λ rest. before ++ flat_map f rest) (drop-cons items i item within)
    ∙ ap (λ first. before ++ (f first ++ flat_map f (drop (suc i) items))) (sym is)
    ∙ sym (append_assoc before (f item) (flat_map f (drop (suc i) items)))
    ∙ ap (λ made. made ++ flat_map f (drop (suc i) items)) (sym grown)
    ∙ ap (λ n. after ++ flat_map f (drop n items)) next
    )
