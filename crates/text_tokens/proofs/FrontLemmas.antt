-- The longest prefix of a list whose elements pass a test.
use Rattle.std.proofs.Common.{◌≡◌, ℕ, suc, ◌+◌, Bool, true, false, cond, List, [], ◌∷◌, ◌++◌, length, take, drop, refl, one-add}
use Rattle.std.specs.List.{list_all, prefix_len}
use Rattle.std.proofs.lemmas.Bool.{and_parts, and_from}
use Rattle.unit_tree.specs.Tokens.{begins_with}

front_passes_case : (p : ℕ → Bool) (x : ℕ) (xs : List ℕ) (b : Bool) → p x ≡ b → list_all p (take (prefix_len p xs) xs) ≡ true
    → list_all p (take (cond b (1 + prefix_len p xs) 0) (x ∷ xs)) ≡ true
front_passes_case p x xs true passes later = rw (one-add (prefix_len p xs)) (and_from (p x) _ passes later)
front_passes_case p x xs false fails later = refl

pub front_passes : (p : ℕ → Bool) (xs : List ℕ) → list_all p (take (prefix_len p xs) xs) ≡ true
front_passes p [] = refl
front_passes p (x ∷ xs) = front_passes_case p x xs (p x) refl (front_passes p xs)

front_stops_case : (p : ℕ → Bool) (x : ℕ) (xs : List ℕ) (b : Bool) → p x ≡ b → begins_with p (drop (prefix_len p xs) xs) ≡ false
    → begins_with p (drop (cond b (1 + prefix_len p xs) 0) (x ∷ xs)) ≡ false
front_stops_case p x xs true passes later = rw (one-add (prefix_len p xs)) later
front_stops_case p x xs false fails later = fails

pub front_stops : (p : ℕ → Bool) (xs : List ℕ) → begins_with p (drop (prefix_len p xs) xs) ≡ false
front_stops p [] = refl
front_stops p (x ∷ xs) = front_stops_case p x xs (p x) refl (front_stops p xs)

pub prefix_len-none : (p : ℕ → Bool) (xs : List ℕ) → begins_with p xs ≡ false → prefix_len p xs ≡ 0
prefix_len-none p [] stops = refl
prefix_len-none p (x ∷ xs) stops = rw stops refl

pub prefix_len-front : (p : ℕ → Bool) (xs ys : List ℕ) → list_all p xs ≡ true → begins_with p ys ≡ false → prefix_len p (xs ++ ys) ≡ length xs
prefix_len-front p [] ys pass stops = prefix_len-none p ys stops
prefix_len-front p (x ∷ xs) ys pass stops =
    let parts = and_parts (p x) (list_all p xs) pass in
    rw (parts.0, prefix_len-front p xs ys parts.1 stops) (one-add (length xs))

-- where the first element passes, the prefix isn't empty
pub prefix_len-some : (p : ℕ → Bool) (x : ℕ) (xs : List ℕ) → p x ≡ true → prefix_len p (x ∷ xs) ≡ suc (prefix_len p xs)
prefix_len-some p x xs passes = rw passes (one-add (prefix_len p xs))
