-- Elements of a list, and lists whose elements all differ.
use Rattle.std.proofs.Common.{◌≡◌, ℕ, zero, suc, ◌+◌, ◌<◌, Bool, true, false, List, [], ◌∷◌, ◌++◌, map, length, Option, Some, inl}
use Rattle.std.proofs.Common.{inr, refl, ap, sym, subst, ◌∙◌, ◌⊎◌, arith, cond, find, get_or, set, take}
use Rattle.std.specs.Prelude.{⊤, slice_get}
use Rattle.std.specs.List.{All, AllByRecursion}
use Rattle.std.proofs.lemmas.List.{take_more}
use Rattle.std.proofs.lemmas.List.Elements.{All-head, All-tail}
use Rattle.std.proofs.lemmas.Option.{same_Some, slice_get_read, slice_get_within, get_or_from_slice_get}
use lib.ListN.{get_elem?}
use mathlib.Core.Option.{some, some-injective, some-ne-none}

abbrev pub Has : {A : Type 0} → List A → A → Type 0
Has [] x = ⊥
Has (first ∷ others) x = (first ≡ x) ⊎ Has others x

abbrev pub Distinct : {A : Type 0} → List A → Type 0
Distinct [] = ⊤
Distinct (first ∷ others) = (Has others first → ⊥) × Distinct others

pub has_front : {A : Type 0} (front behind : List A) (x : A) → Has front x → Has (front ++ behind) x
has_front [] behind x has = absurd has
has_front (first ∷ front) behind x (inl is) = inl is
has_front (first ∷ front) behind x (inr has) = inr (has_front front behind x has)

pub has_behind : {A : Type 0} (front behind : List A) (x : A) → Has behind x → Has (front ++ behind) x
has_behind [] behind x has = has
has_behind (first ∷ front) behind x has = inr (has_behind front behind x has)

pub has_either : {A : Type 0} (front behind : List A) (x : A) → Has (front ++ behind) x → Has front x ⊎ Has behind x
has_either [] behind x has = inr has
has_either (first ∷ front) behind x (inl is) = inl (inl is)
has_either (first ∷ front) behind x (inr has) = elim (has_either front behind x has) [ inl h ↦ inl (inr h) | inr h ↦ inr h ]

pub has_map : {A B : Type 0} (f : A → B) (xs : List A) (x : A) → Has xs x → Has (map f xs) (f x)
has_map f [] x has = absurd has
has_map f (first ∷ others) x (inl is) = inl (ap f is)
has_map f (first ∷ others) x (inr has) = inr (has_map f others x has)

pub has_at : {A : Type 0} (xs : List A) (k : ℕ) (x : A) → slice_get xs k ≡ Some x → Has xs x
has_at [] k x is = absurd (cc)
has_at (first ∷ others) zero x is = inl (cc)
has_at (first ∷ others) (suc k) x is = inr (has_at others k x is)

pub at_place : {A : Type 0} (xs : List A) (k : ℕ) → k < length xs → (x : A) × (slice_get xs k ≡ Some x)
at_place [] k within = absurd (omega arith)
at_place (x ∷ xs) zero within = (x, refl)
at_place (x ∷ xs) (suc k) within = at_place xs k (omega (arith, within))

pub all_has : {A : Type 0} (P : A → Type 0) (xs : List A) → ((x : A) → Has xs x → P x) → AllByRecursion P xs
all_has P [] each = tt
all_has P (x ∷ xs) each = (each x (inl refl), all_has P xs (λ y has. each y (inr has)))

pub distinct_append : {A : Type 0} (xs ys : List A) → Distinct xs → Distinct ys → ((x : A) → Has xs x → Has ys x → ⊥) → Distinct (xs ++ ys)
distinct_append [] ys one other apart = other
distinct_append (x ∷ xs) ys one other apart =
    (λ has. elim (has_either xs ys x has) [ inl h ↦ one.0 h | inr h ↦ apart x (inl refl) h ], distinct_append xs ys one.1 other (λ y h. apart y (inr h)))

pub each_has : {A : Type 0} (P : A → Type 0) (xs : List A) (x : A) → AllByRecursion P xs → Has xs x → P x
each_has P [] x all has = absurd has
each_has P (first ∷ xs) x all (inl is) = subst P is all.0
each_has P (first ∷ xs) x all (inr has) = each_has P xs x all.1 has

pub has_place : {A : Type 0} (xs : List A) (x : A) → Has xs x → (k : ℕ) × (slice_get xs k ≡ Some x)
has_place [] x has = absurd has
has_place (first ∷ xs) x (inl is) = (zero, ap Some is)
has_place (first ∷ xs) x (inr has) = let later = has_place xs x has in (suc later.0, later.1)

pub at_front : {A : Type 0} (front behind : List A) (k : ℕ) (x : A) → slice_get front k ≡ Some x → slice_get (front ++ behind) k ≡ Some x
at_front [] behind k x is = absurd (cc)
at_front (first ∷ front) behind zero x is = is
at_front (first ∷ front) behind (suc k) x is = at_front front behind k x is

pub at_seam : {A : Type 0} (front : List A) (x : A) (behind : List A) → slice_get (front ++ (x ∷ behind)) (length front) ≡ Some x
at_seam [] x behind = refl
at_seam (first ∷ front) x behind = at_seam front x behind

-- an element that is read at a place is the one there
pub read_at : {A : Type 0} (xs : List A) (k : ℕ) (x : A) → k < length xs → x ≡ get_or xs k x → slice_get xs k ≡ Some x
read_at xs k x within is = slice_get_read xs (length xs) k x refl within is

pub take_next : {A : Type 0} (xs : List A) (k : ℕ) (x : A) → slice_get xs k ≡ Some x → take (k + 1) xs ≡ take k xs ++ (x ∷ [])
take_next xs k x is = take_more xs k x (slice_get_within xs k x is) ∙ ap (λ y. take k xs ++ (y ∷ [])) (get_or_from_slice_get xs k x x is)

-- after a set the place has the new element, and all other places are unchanged
pub set_there : {A : Type 0} (xs : List A) (k : ℕ) (x : A) → k < length xs → slice_get (set xs k x) k ≡ Some x
set_there [] k x within = absurd (omega (arith, within))
set_there (y ∷ ys) zero x within = refl
set_there (y ∷ ys) (suc k) x within = set_there ys k x (omega (arith, within))

pub set_elsewhere : {A : Type 0} (xs : List A) (k j : ℕ) (x : A) → (j ≡ k → ⊥) → slice_get (set xs k x) j ≡ slice_get xs j
set_elsewhere [] k j x differ = refl
set_elsewhere (y ∷ ys) zero zero x differ = absurd (differ refl)
set_elsewhere (y ∷ ys) zero (suc j) x differ = refl
set_elsewhere (y ∷ ys) (suc k) zero x differ = refl
set_elsewhere (y ∷ ys) (suc k) (suc j) x differ = set_elsewhere ys k j x (λ is. differ (ap suc is))

-- a property of the element at each place, and of one more at the end, holds at all places of the
-- longer list
pub at_push : {A : Type 0} (P : ℕ → A → Type 0) (xs : List A) (x : A) → ((k : ℕ) (y : A) → slice_get xs k ≡ Some y → P k y) → P (length xs) x
    → (k : ℕ) (y : A) → slice_get (xs ++ (x ∷ [])) k ≡ Some y → P k y
at_push P [] x each last zero y is = subst (P 0) (same_Some x y is) last
at_push P [] x each last (suc k) y is = absurd (cc)
at_push P (z ∷ zs) x each last zero y is = each zero y is
at_push P (z ∷ zs) x each last (suc k) y is = at_push (λ j. P (suc j)) zs x (λ j. each (suc j)) last k y is

-- to set a place to the element that it already has changes nothing
pub set_same : {A : Type 0} (xs : List A) (k : ℕ) (x : A) → slice_get xs k ≡ Some x → set xs k x ≡ xs
set_same [] k x is = refl
set_same (first ∷ xs) zero x is = ap (λ y. y ∷ xs) (sym (same_Some first x is))
set_same (first ∷ xs) (suc k) x is = ap (λ ys. first ∷ ys) (set_same xs k x is)

pub map_same : {A : Type 0} (f : A → A) (xs : List A) → ((x : A) → Has xs x → f x ≡ x) → map f xs ≡ xs
map_same f [] each = refl
map_same f (x ∷ xs) each = ap (λ y. y ∷ map f xs) (each x (inl refl)) ∙ ap (λ ys. x ∷ ys) (map_same f xs (λ y has. each y (inr has)))

-- an element that is found by a test passes the test
found_by : {A : Type 0} (test : A → Bool) (told : Bool) (first x : A) (rest : Option A) → test first ≡ told → (rest ≡ Some x → test x ≡ true)
    → cond told (Some first) rest ≡ Some x → test x ≡ true
found_by test true first x rest is later same = subst (λ y. test y ≡ true) (same_Some first x same) is
found_by test false first x rest is later same = later same

pub found_passes : {A : Type 0} (test : A → Bool) (xs : List A) (x : A) → find test xs ≡ Some x → test x ≡ true
found_passes test [] x is = absurd (cc)
found_passes test (first ∷ xs) x is = found_by test (test first) first x (find test xs) refl (found_passes test xs x) is

-- the same for lists whose elements are looked up by mathlib's function
pub all_at : {A : Type 0} (P : A → Type 0) (xs : List A) (k : ℕ) (x : A) → All P xs → get_elem? xs k ≡ some x → P x
all_at P [] k x all is = absurd (some-ne-none x (sym is))
all_at P (first ∷ xs) zero x all is = subst P (some-injective first x is) (All-head P first xs all)
all_at P (first ∷ xs) (suc k) x all is = all_at P xs k x (All-tail P first xs all) is
