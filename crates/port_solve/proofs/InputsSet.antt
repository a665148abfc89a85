-- Inputs that are set one after the other, and ports that are given by two slices.
use Rattle.std.proofs.Common.{◌≡◌, ◌∙◌, ℕ, zero, suc, ◌+◌, ◌<◌, Bool, true, false, ℤ, List, [], ◌∷◌, length, get_or, drop, set, Some, None, refl, ap, sym}
use Rattle.std.proofs.Common.{subst, add-one, drop-cons, arith}
use Rattle.std.specs.List.{AllByRecursion}
use Rattle.port_solve.specs.Solved.{port_told, ports_told, with_words, all_with}
use Rattle.unit_tree.specs.Given.{with_input}
use Rattle.unit_tree.specs.declared.order.InputAt.{InputAt}
use Rattle.unit_tree.specs.declared.order.StartWord.{StartWord}

-- ---- What is left of a list

pub left : {A : Type 0} (xs : List A) (k : ℕ) (default : A) → k < length xs → drop k xs ≡ get_or xs k default ∷ drop (k + 1) xs
left xs k default within = rw (add-one, drop-cons xs k default) refl

pub all_left : {A : Type 0} (P : A → Type 0) (xs : List A) (k : ℕ) (default : A) → k < length xs → AllByRecursion P (drop k xs)
    → P (get_or xs k default) × AllByRecursion P (drop (k + 1) xs)
all_left P xs k default within all = subst (AllByRecursion P) (left xs k default within) all

pub one_set : (inputs now : List (List ℤ)) (starts : List StartWord) (k : ℕ) (default : StartWord) → k < length starts
    → now ≡ with_input inputs (get_or starts k default).at.instance (get_or starts k default).at.input (get_or starts k default).word
    → with_words now (drop (k + 1) starts) ≡ with_words inputs (drop k starts)
one_set inputs now starts k default within is =
    ap (λ words. with_words words (drop (k + 1) starts)) is ∙ ap (with_words inputs) (sym (left starts k default within))

pub one_fed : (inputs now : List (List ℤ)) (word : ℤ) (feeds : List InputAt) (k : ℕ) (default : InputAt) → k < length feeds
    → now ≡ with_input inputs (get_or feeds k default).instance (get_or feeds k default).input word
    → with_words now (all_with word (drop (k + 1) feeds)) ≡ with_words inputs (all_with word (drop k feeds))
one_fed inputs now word feeds k default within is =
    ap (λ words. with_words words (all_with word (drop (k + 1) feeds))) is
    ∙ ap (λ left. with_words inputs (all_with word left)) (sym (left feeds k default within))

-- ---- Ports that are given by slices

pub told_known : (known : List Bool) (words : List ℤ) (place : ℕ) (word : ℤ) → length known ≡ length words → place < length words
    → ports_told (set known place true) (set words place word) ≡ set (ports_told known words) place (Some word)
told_known [] words place word same within = absurd (omega (arith, same))
told_known (k ∷ known) [] place word same within = absurd (omega (arith, within))
told_known (k ∷ known) (w ∷ words) zero word same within = refl
told_known (k ∷ known) (w ∷ words) (suc place) word same within =
    ap (λ rest. port_told (k, w) ∷ rest) (told_known known words place word (omega (arith, same)) (omega (arith, within)))

pub told_unknown : (known : List Bool) (words : List ℤ) (place : ℕ) → length known ≡ length words → place < length words
    → ports_told (set known place false) words ≡ set (ports_told known words) place None
told_unknown [] words place same within = absurd (omega (arith, same))
told_unknown (k ∷ known) [] place same within = absurd (omega (arith, within))
told_unknown (k ∷ known) (w ∷ words) zero same within = refl
told_unknown (k ∷ known) (w ∷ words) (suc place) same within =
    ap (λ rest. port_told (k, w) ∷ rest) (told_unknown known words place (omega (arith, same)) (omega (arith, within)))
