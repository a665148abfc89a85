-- Sorting into canonical order keeps each entry once.
use Rattle.std.proofs.Common.{◌≡◌, ℕ, zero, suc, ◌+◌, ◌≤◌, Bool, true, false, cond, List, [], ◌∷◌, ◌++◌, append_assoc, length, take, drop, refl, ap, sym, subst}
use Rattle.std.proofs.Common.{◌∙◌, arith}
use Rattle.std.specs.Prelude.{◌==◌}
use Rattle.std.specs.List.{flat_map}
use Rattle.std.specs.List.Sorted.{IsPermutation}
use Rattle.std.proofs.lemmas.List.{length-append, length-drop, take-append-drop, take_all}
use Rattle.std.proofs.lemmas.List.Sorted.{IsPermutation-refl, IsPermutation-trans, IsPermutation-append, IsPermutation-append_left, IsPermutation-append_right}
use Rattle.std.proofs.lemmas.List.Sorted.{IsPermutation-append_comm}
use Rattle.unit_tree.specs.Parts as parts
use Rattle.unit_tree.specs.Parts.{Part, UnitPart, unit_part_forms, part_forms, text_forms}
use Rattle.unit_tree.specs.SourceLines.{unit_part_rank, part_rank, of_rank, by_rank, each_ranked, unit_lines_in_order, part_lines_in_order, in_canonical_order}
use Rattle.unit_tree.specs.declared.line_form.LineForm.{LineForm}

-- ---- A rank that occurs once

abbrev pub not_in : ℕ → List ℕ → Bool
not_in rank [] = true
not_in rank (first ∷ ranks) = cond (rank == first) false (not_in rank ranks)

abbrev pub stands_once : ℕ → List ℕ → Bool
stands_once rank [] = false
stands_once rank (first ∷ ranks) = cond (rank == first) (not_in rank ranks) (stands_once rank ranks)

pub none_ranked : {A : Type 0} (ranks : List ℕ) → by_rank {A = A} ranks [] ≡ []
none_ranked [] = refl
none_ranked (rank ∷ ranks) = none_ranked ranks

pub skipped_by : {A : Type 0} (test : Bool) (rank first : ℕ) (ranks : List ℕ) (list : List A) (rest : List (ℕ × List A)) → (rank == first) ≡ test
    → cond test false (not_in rank ranks) ≡ true → (not_in rank ranks ≡ true → by_rank ranks ((rank, list) ∷ rest) ≡ by_rank ranks rest)
    → by_rank (first ∷ ranks) ((rank, list) ∷ rest) ≡ by_rank (first ∷ ranks) rest
skipped_by true rank first ranks list rest is told later = absurd (cc told)
skipped_by false rank first ranks list rest is told later = rw is (ap (λ more. of_rank rest first ++ more) (later told))

pub skipped : {A : Type 0} (ranks : List ℕ) (rank : ℕ) (list : List A) (rest : List (ℕ × List A)) → not_in rank ranks ≡ true
    → by_rank ranks ((rank, list) ∷ rest) ≡ by_rank ranks rest
skipped [] rank list rest told = refl
skipped (first ∷ ranks) rank list rest told = skipped_by (rank == first) rank first ranks list rest refl told (skipped ranks rank list rest)

pub once_by : {A : Type 0} (test : Bool) (rank first : ℕ) (ranks : List ℕ) (list : List A) (rest : List (ℕ × List A)) → (rank == first) ≡ test
    → cond test (not_in rank ranks) (stands_once rank ranks) ≡ true
    → (stands_once rank ranks ≡ true → IsPermutation (by_rank ranks ((rank, list) ∷ rest)) (list ++ by_rank ranks rest))
    → IsPermutation (by_rank (first ∷ ranks) ((rank, list) ∷ rest)) (list ++ by_rank (first ∷ ranks) rest)
once_by true rank first ranks list rest is told later =
    let same : by_rank (first ∷ ranks) ((rank, list) ∷ rest) ≡ list ++ by_rank (first ∷ ranks) rest =
    rw is (ap (λ more. (list ++ of_rank rest first) ++ more) (skipped ranks rank list rest told)
    ∙ append_assoc list (of_rank rest first) (by_rank ranks rest)) in
    subst (λ xs. IsPermutation xs (list ++ by_rank (first ∷ ranks) rest)) (sym same) (IsPermutation-refl (list ++ by_rank (first ∷ ranks) rest))
once_by false rank first ranks list rest is told later =
    let here = of_rank rest first in
    let more = by_rank ranks rest in
    let start : by_rank (first ∷ ranks) ((rank, list) ∷ rest) ≡ here ++ by_rank ranks ((rank, list) ∷ rest) = rw is refl in
    let one = IsPermutation-append_right here (by_rank ranks ((rank, list) ∷ rest)) (list ++ more) (later told) in
    let two = IsPermutation-append_left more (here ++ list) (list ++ here) (IsPermutation-append_comm here list) in
    subst (λ xs. IsPermutation xs (list ++ (here ++ more))) (sym start)
    (IsPermutation-trans (here ++ by_rank ranks ((rank, list) ∷ rest)) (here ++ (list ++ more)) (list ++ (here ++ more)) one
    (subst (λ xs. IsPermutation xs (list ++ (here ++ more))) (append_assoc here list more)
    (subst (λ ys. IsPermutation ((here ++ list) ++ more) ys) (append_assoc list here more) two)))

pub once : {A : Type 0} (ranks : List ℕ) (rank : ℕ) (list : List A) (rest : List (ℕ × List A)) → stands_once rank ranks ≡ true
    → IsPermutation (by_rank ranks ((rank, list) ∷ rest)) (list ++ by_rank ranks rest)
once [] rank list rest told = absurd (cc told)
once (first ∷ ranks) rank list rest told = once_by (rank == first) rank first ranks list rest refl told (once ranks rank list rest)

-- ---- Lists with an element for each line of parts

abbrev pub total : {P : Type 0} → (P → ℕ) → List P → ℕ
total size [] = 0
total size (part ∷ parts) = size part + total size parts

pub take_none : {A : Type 0} (n : ℕ) → take {A = A} n [] ≡ []
take_none zero = refl
take_none (suc n) = refl

pub take_more : {A : Type 0} (n m : ℕ) (xs : List A) → take (n + m) xs ≡ take n xs ++ take m (drop n xs)
take_more zero m xs = let same : 0 + m ≡ m = omega arith in ap (λ k. take k xs) same
take_more (suc n) m [] = take_none (suc n + m) ∙ sym (take_none m)
take_more (suc n) m (x ∷ xs) = let more : suc n + m ≡ suc (n + m) = omega arith in ap (λ k. take k (x ∷ xs)) more ∙ ap (λ rest. x ∷ rest) (take_more n m xs)

pub ranked : {A P : Type 0} (rank size : P → ℕ) (inside : P → List A → List A) (ranks : List ℕ) → ((part : P) → stands_once (rank part) ranks ≡ true)
    → ((part : P) (lines : List A) → IsPermutation (inside part lines) lines) → (all : List P) (lines : List A)
    → IsPermutation (by_rank ranks (each_ranked rank size inside all lines)) (take (total size all) lines)
ranked rank size inside ranks on_ranks on_parts [] lines = subst (λ xs. IsPermutation xs []) (sym (none_ranked ranks)) (IsPermutation-refl [])
ranked rank size inside ranks on_ranks on_parts (part ∷ all) lines =
    let rest = each_ranked rank size inside all (drop (size part) lines) in
    let here = take (size part) lines in
    subst (λ ys. IsPermutation (by_rank ranks ((rank part, inside part here) ∷ rest)) ys) (sym (take_more (size part) (total size all) lines))
    (IsPermutation-trans (by_rank ranks ((rank part, inside part here) ∷ rest)) (inside part here ++ by_rank ranks rest)
    (here ++ take (total size all) (drop (size part) lines)) (once ranks (rank part) (inside part here) rest (on_ranks part))
    (IsPermutation-append (inside part here) here (by_rank ranks rest) (take (total size all) (drop (size part) lines)) (on_parts part here)
    (ranked rank size inside ranks on_ranks on_parts all (drop (size part) lines))))

-- ---- A unit and a text

pub unit_ranks_once : (part : UnitPart) → stands_once (unit_part_rank part) (0 ∷ 1 ∷ 2 ∷ 3 ∷ 4 ∷ 5 ∷ 6 ∷ 7 ∷ 8 ∷ 9 ∷ []) ≡ true
unit_ranks_once (parts.Resolution decimals) = refl
unit_ranks_once (parts.HasParam param) = refl
unit_ranks_once (parts.HasState state) = refl
unit_ranks_once (parts.HasLocal local) = refl
unit_ranks_once (parts.HasInput input) = refl
unit_ranks_once (parts.HasEventIn event) = refl
unit_ranks_once (parts.HasOutput output) = refl
unit_ranks_once (parts.HasEventOut event) = refl
unit_ranks_once (parts.Max value) = refl
unit_ranks_once (parts.Step lines) = refl

pub ranks_once : (part : Part) → stands_once (part_rank part) (0 ∷ 1 ∷ 2 ∷ 3 ∷ 4 ∷ 5 ∷ 6 ∷ 7 ∷ []) ≡ true
ranks_once (parts.HasUnit name inside) = refl
ranks_once (parts.HasInstance instance) = refl
ranks_once (parts.Connects wire) = refl
ranks_once (parts.Stop seconds) = refl
ranks_once (parts.Longest seconds) = refl
ranks_once (parts.Zero count) = refl
ranks_once (parts.Rows count) = refl
ranks_once (parts.Samples port) = refl

pub total_is : {P : Type 0} (forms : P → List LineForm) (all : List P) → total (λ part. length (forms part)) all ≡ length (flat_map forms all)
total_is forms [] = refl
total_is forms (part ∷ all) = ap (λ n. length (forms part) + n) (total_is forms all) ∙ sym (length-append (forms part) (flat_map forms all))

pub in_unit_once : {A : Type 0} (all : List UnitPart) (lines : List A)
    → IsPermutation (unit_lines_in_order all lines) (take (length (flat_map unit_part_forms all)) lines)
in_unit_once all lines =
    subst (λ n. IsPermutation (unit_lines_in_order all lines) (take n lines)) (total_is unit_part_forms all)
    (ranked unit_part_rank (λ part. length (unit_part_forms part)) (λ part inside. inside) (0 ∷ 1 ∷ 2 ∷ 3 ∷ 4 ∷ 5 ∷ 6 ∷ 7 ∷ 8 ∷ 9 ∷ []) unit_ranks_once
    (λ part inside. IsPermutation-refl inside) all lines)

pub in_part_once : {A : Type 0} (part : Part) (lines : List A) → IsPermutation (part_lines_in_order part lines) lines
in_part_once (parts.HasUnit name inside) lines =
    let n = length (flat_map unit_part_forms inside) in
    let rest = drop 1 lines in
    let whole : (take 1 lines ++ take n rest) ++ drop n rest ≡ lines = append_assoc (take 1 lines) (take n rest) (drop n rest)
    ∙ ap (λ more. take 1 lines ++ more) (take-append-drop n rest) ∙ take-append-drop 1 lines in
    subst (λ ys. IsPermutation (take 1 lines ++ unit_lines_in_order inside rest ++ drop n rest) ys) whole
    (IsPermutation-append_left (drop n rest) (take 1 lines ++ unit_lines_in_order inside rest) (take 1 lines ++ take n rest)
    (IsPermutation-append_right (take 1 lines) (unit_lines_in_order inside rest) (take n rest) (in_unit_once inside rest)))
in_part_once (parts.HasInstance instance) lines = IsPermutation-refl lines
in_part_once (parts.Connects wire) lines = IsPermutation-refl lines
in_part_once (parts.Stop seconds) lines = IsPermutation-refl lines
in_part_once (parts.Longest seconds) lines = IsPermutation-refl lines
in_part_once (parts.Zero count) lines = IsPermutation-refl lines
in_part_once (parts.Rows count) lines = IsPermutation-refl lines
in_part_once (parts.Samples port) lines = IsPermutation-refl lines

pub each_once : (version : ℕ) (all : List Part) (lines : List ℕ) → length lines ≡ length (text_forms version all)
    → IsPermutation (in_canonical_order all lines) lines
each_once version all lines long =
    let rest = drop 1 lines in
    let n = total (λ part. length (part_forms part)) all in
    let as_many : length rest ≤ n = omega (arith, long, total_is part_forms all, length-drop 1 lines) in
    let whole : take 1 lines ++ take n rest ≡ lines = ap (λ more. take 1 lines ++ more) (take_all n rest as_many) ∙ take-append-drop 1 lines in
    subst (λ ys. IsPermutation (in_canonical_order all lines) ys) whole
    (IsPermutation-append_right (take 1 lines)
    (by_rank (0 ∷ 1 ∷ 2 ∷ 3 ∷ 4 ∷ 5 ∷ 6 ∷ 7 ∷ []) (each_ranked part_rank (λ part. length (part_forms part)) part_lines_in_order all rest)) (take n rest)
    (ranked part_rank (λ part. length (part_forms part)) part_lines_in_order (0 ∷ 1 ∷ 2 ∷ 3 ∷ 4 ∷ 5 ∷ 6 ∷ 7 ∷ []) ranks_once in_part_once all rest))
