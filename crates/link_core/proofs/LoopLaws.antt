-- Loops over lists.
use Rattle.std.proofs.Common.{◌≡◌, ◌∙◌, ℕ, zero, suc, ◌+◌, ◌<◌, ◌≤◌, List, [], ◌∷◌, ◌++◌, length, map, take, drop, get_or, set, refl, ap, sym, arith}
use Rattle.std.proofs.Common.{append_assoc, append-nil}
use Rattle.std.proofs.lemmas.List.{drop_more, drop_all, take_all, take_more_set}
use Rattle.std.proofs.Common.{length-set}

-- ---- A list that is made element by element

-- So many elements are changed, and the others are left.
pub record Made {A : Type 0} (made : List A) (count : ℕ) (whole : List A) : Type 0 where
  pub long : length made ≡ length whole
  pub so_far : take count made ++ drop count whole ≡ whole

pub none_made : {A : Type 0} (made whole : List A) → length made ≡ length whole → Made made 0 whole
none_made made whole long = record { long = long; so_far = refl }

pub one_made : {A : Type 0} (made whole : List A) (count : ℕ) (x : A) → count < length whole → get_or whole count x ≡ x → Made made count whole
    → Made (set made count x) (count + 1) whole
one_made made whole count x within is so =
    let more : take (count + 1) (set made count x) ≡ take count made ++ (x ∷ []) = take_more_set made count x (omega (arith, within, so.long)) in
    let left : drop count whole ≡ x ∷ drop (count + 1) whole = drop_more whole count x within ∙ ap (λ one. one ∷ drop (count + 1) whole) is in
    record {
      long = length-set made count x ∙ so.long;
      so_far =
          ap (λ front. front ++ drop (count + 1) whole) more
          ∙ append_assoc (take count made) (x ∷ []) (drop (count + 1) whole)
          ∙ ap (λ rest. take count made ++ rest) (sym left)
          ∙ so.so_far;
    }

pub all_made : {A : Type 0} (made whole : List A) (count : ℕ) → length whole ≤ count → Made made count whole → made ≡ whole
all_made made whole count past so =
    sym (append-nil made)
    ∙ ap (λ front. front ++ []) (sym (take_all count made (omega (arith, past, so.long))))
    ∙ ap (λ rest. take count made ++ rest) (sym (drop_all count whole past))
    ∙ so.so_far

pub value_there : {A : Type 0} (items : List A) (value : A) (place : ℕ) → get_or (map (λ item. value) items) place value ≡ value
value_there [] value place = refl
value_there (one ∷ items) value zero = refl
value_there (one ∷ items) value (suc place) = value_there items value place

pub as_many_values : {A B : Type 0} (items : List A) (value : B) → length items ≡ length (map (λ item. value) items)
as_many_values [] value = refl
as_many_values (one ∷ items) value = let rest = as_many_values items value in omega (arith, rest)
