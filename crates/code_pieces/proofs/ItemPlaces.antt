-- Items that are in a list from a place on: instructions in code, heights among those of its places.
use Rattle.std.proofs.Common.{◌≡◌, ℕ, suc, ◌+◌, List, [], ◌∷◌, ◌++◌, length, Some, sym, ap, ◌∙◌, subst, arith}
use Rattle.std.specs.Prelude.{slice_get, ⊤}

-- A list has these items from a place on, one after the other.
abbrev pub HasAt : {A : Type 0} → List A → ℕ → List A → Type 0
HasAt list place [] = ⊤
HasAt list place (x ∷ xs) = (slice_get list place ≡ Some x) × HasAt list (suc place) xs

pub has_front : {A : Type 0} (list : List A) (place : ℕ) (xs ys : List A) → HasAt list place (xs ++ ys) → HasAt list place xs
has_front list place [] ys h = tt
has_front list place (x ∷ xs) ys h = (h.0, has_front list (suc place) xs ys h.1)

pub has_to : {A : Type 0} (list : List A) (place other : ℕ) (xs : List A) → place ≡ other → HasAt list place xs → HasAt list other xs
has_to list place other xs e h = subst (λ n. HasAt list n xs) e h

pub has_back : {A : Type 0} (list : List A) (place : ℕ) (xs ys : List A) → HasAt list place (xs ++ ys) → HasAt list (place + length xs) ys
has_back list place [] ys h = let e : place ≡ place + 0 = omega arith in has_to list place (place + 0) ys e h
has_back list place (x ∷ xs) ys h =
    let e : suc place + length xs ≡ place + suc (length xs) = omega arith in
    has_to list (suc place + length xs) (place + suc (length xs)) ys e (has_back list (suc place) xs ys h.1)

-- A list has its own items.
has_all : {A : Type 0} (list : List A) (place : ℕ) (xs : List A) → ((k : ℕ) → slice_get list (place + k) ≡ slice_get xs k) → HasAt list place xs
has_all list place [] h = tt
has_all list place (x ∷ xs) h =
    let here : place + 0 ≡ place = omega arith in (
      ap (λ n. slice_get list n) (sym here)
          ∙ h 0,
      has_all list (suc place) xs (λ k. let e : suc place + k ≡ place + suc k = omega arith in ap (λ n. slice_get list n) e ∙ h (suc k)),
    )

pub has_itself : {A : Type 0} (list : List A) → HasAt list 0 list
has_itself list = has_all list 0 list (λ k. let e : 0 + k ≡ k = omega arith in ap (λ n. slice_get list n) e)
