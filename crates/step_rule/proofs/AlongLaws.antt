-- Loops over the elements of a list: what is left of it, items by their numbers, the first item that tells something, tests, the least.
use Rattle.std.proofs.Common.{◌≡◌, ◌∙◌, ℕ, zero, suc, ◌+◌, ◌≤◌, ◌<◌, min, get_or, Bool, true, false, ◌&&◌, is_some, List, [], ◌∷◌, length, map, drop, Option, Some, None, refl, sym}
use Rattle.std.proofs.Common.{ap, ap₂, arith}
use Rattle.std.proofs.lemmas.List.{at_drop_more, drop_all}
use Rattle.std.proofs.lemmas.Option.{slice_get-map}
use Rattle.std.specs.Prelude.{slice_get}
use Rattle.std.specs.List.{enumerate_from, list_all}
use Rattle.std.specs.Option.{option_map}
use Rattle.unit_tree.specs.Negotiation.{agreed_step, least_of}
use Rattle.unit_tree.specs.Ports.{first_some}

-- ---- What is left of a list

pub left_is : {X : Type 0} (xs : List X) (k : ℕ) (x : X) → slice_get xs k ≡ Some x → drop k xs ≡ x ∷ drop (k + 1) xs
left_is xs k x is = by_clauses xs k x is ∙ ap (λ count. x ∷ drop count xs) (more k)
  where
    more : (k : ℕ) → suc k ≡ k + 1
    more k = omega arith

    by_clauses : {X : Type 0} (xs : List X) (k : ℕ) (x : X) → slice_get xs k ≡ Some x → drop k xs ≡ x ∷ drop (suc k) xs
    by_clauses [] k x is = absurd (cc)
    by_clauses (first ∷ xs) zero x is = let same : first ≡ x = cc in ap (λ one. one ∷ xs) same
    by_clauses (first ∷ xs) (suc k) x is = by_clauses xs k x is

-- A loop over a list: what holds of the elements that are left holds of the whole.
pub record Along {X Y : Type 0} (tell : List X → Y) (xs : List X) (k : ℕ) : Type 0 where
  pub is : tell (drop k xs) ≡ tell xs

pub along_next : {X Y : Type 0} (tell : List X → Y) (xs : List X) (k : ℕ) (x : X) → slice_get xs k ≡ Some x
    → tell (x ∷ drop (k + 1) xs) ≡ tell (drop (k + 1) xs) → Along tell xs k → Along tell xs (k + 1)
along_next tell xs k x is same so = record { is = sym same ∙ sym (ap tell (left_is xs k x is)) ∙ so.is }

pub along_here : {X Y : Type 0} (tell : List X → Y) (xs : List X) (k : ℕ) (x : X) (y : Y) → slice_get xs k ≡ Some x → tell (x ∷ drop (k + 1) xs) ≡ y
    → Along tell xs k → y ≡ tell xs
along_here tell xs k x y is told so = sym told ∙ sym (ap tell (left_is xs k x is)) ∙ so.is

pub along_end : {X Y : Type 0} (tell : List X → Y) (xs : List X) (k : ℕ) (y : Y) → length xs ≤ k → tell [] ≡ y → Along tell xs k → y ≡ tell xs
along_end tell xs k y past told so = sym told ∙ sym (ap tell (drop_all k xs past)) ∙ so.is

-- ---- Items by their numbers

pub numbered_at : {X : Type 0} (xs : List X) (from k : ℕ) (x : X) → slice_get xs k ≡ Some x → slice_get (enumerate_from from xs) k ≡ Some (from + k, x)
numbered_at [] from k x is = absurd (cc)
numbered_at (first ∷ xs) from zero x is =
    let same : first ≡ x = cc in
    let at : from ≡ from + 0 = omega arith in
    ap₂ (λ number one. Some (number, one)) at same
numbered_at (first ∷ xs) from (suc k) x is =
    let at : from + 1 + k ≡ from + suc k = omega arith in
    numbered_at xs (from + 1) k x is ∙ ap (λ number. Some (number, x)) at

pub first_at : {X : Type 0} (xs : List X) (k : ℕ) (x : X) → slice_get xs k ≡ Some x → slice_get (enumerate_from 0 xs) k ≡ Some (k, x)
first_at xs k x is = numbered_at xs 0 k x is ∙ ap (λ number. Some (number, x)) (none_before k)
  where
    none_before : (k : ℕ) → 0 + k ≡ k
    none_before k = omega arith

pub mapped_at : {X Y : Type 0} (f : X → Y) (xs : List X) (k : ℕ) (x : X) → slice_get xs k ≡ Some x → slice_get (map f xs) k ≡ Some (f x)
mapped_at f xs k x is = slice_get-map f xs k ∙ ap (option_map f) is

-- ---- The least of some numbers

pub least_next : (least first : ℕ) (numbers : List ℕ) → least_of least (first ∷ numbers) ≡ least_of (min least first) numbers
least_next least first [] = refl
least_next least first (next ∷ numbers) = omega arith

-- The least of the numbers up to a place, from the least of those before it.
pub least_at : (least place : ℕ) (numbers : List ℕ) → place < length numbers
    → least_of least (drop place numbers) ≡ least_of (min least (get_or numbers place 0)) (drop (place + 1) numbers)
least_at least place numbers within =
    at_drop_more (least_of least) numbers place 0 within ∙ least_next least (get_or numbers place 0) (drop (place + 1) numbers)

-- The agreed step, where it is at most the step, is the least of this and of the replies.
pub least_agreed : (h : ℕ) (replies : List ℕ) → agreed_step h replies ≤ h → least_of h replies ≡ agreed_step h replies
least_agreed h [] most = refl
least_agreed h (reply ∷ replies) most = omega (arith, most)

-- The least so far, with what is left, is the least of all.
pub record Least (first : ℕ) (numbers : List ℕ) (k least : ℕ) : Type 0 where
  pub is : least_of least (drop k numbers) ≡ least_of first numbers

pub one_lesser : (first : ℕ) (numbers : List ℕ) (k least number : ℕ) → slice_get numbers k ≡ Some number → Least first numbers k least
    → Least first numbers (k + 1) (min least number)
one_lesser first numbers k least number is so = record {
  is = sym (least_next least number (drop (k + 1) numbers)) ∙ sym (ap (least_of least) (left_is numbers k number is)) ∙ so.is;
}

pub least_is : (first : ℕ) (numbers : List ℕ) (k least : ℕ) → length numbers ≤ k → Least first numbers k least → least ≡ least_of first numbers
least_is first numbers k least past so = sym (ap (least_of least) (drop_all k numbers past)) ∙ so.is

-- ---- What the first of some items tells

-- No item before a place tells anything.
abbrev pub ToldFrom : {B : Type 0} → List (Option B) → ℕ → Type 0
ToldFrom found k = Along first_some found k

pub told_next : {B : Type 0} (found : List (Option B)) (k : ℕ) (one : Option B) → slice_get found k ≡ Some one → is_some one ≡ false → ToldFrom found k
    → ToldFrom found (k + 1)
told_next found k None is none so = along_next first_some found k None is refl so
told_next found k (Some told) is none so = absurd (cc)

pub told_here : {B : Type 0} (found : List (Option B)) (k : ℕ) (one : Option B) → slice_get found k ≡ Some one → is_some one ≡ true → ToldFrom found k
    → one ≡ first_some found
told_here found k None is some so = absurd (cc)
told_here found k (Some told) is some so = along_here first_some found k (Some told) (Some told) is refl so

pub told_none : {B : Type 0} (found : List (Option B)) (k : ℕ) → length found ≤ k → ToldFrom found k → None ≡ first_some found
told_none found k past so = along_end first_some found k None past refl so

-- ---- A test of all items

abbrev pub AllFrom : {X : Type 0} → (X → Bool) → List X → ℕ → Type 0
AllFrom test xs k = Along (list_all test) xs k

pub all_next : {X : Type 0} (test : X → Bool) (xs : List X) (k : ℕ) (x : X) → slice_get xs k ≡ Some x → test x ≡ true → AllFrom test xs k
    → AllFrom test xs (k + 1)
all_next test xs k x is so_test so = along_next (list_all test) xs k x is (ap (λ one. one && list_all test (drop (k + 1) xs)) so_test) so

pub all_fails : {X : Type 0} (test : X → Bool) (xs : List X) (k : ℕ) (x : X) → slice_get xs k ≡ Some x → test x ≡ false → AllFrom test xs k
    → false ≡ list_all test xs
all_fails test xs k x is fails so = along_here (list_all test) xs k x false is (ap (λ one. one && list_all test (drop (k + 1) xs)) fails) so
