-- Elements of lists, what is found in them, and the results of tests of all and of any.
use Rattle.std.proofs.Common.{◌≡◌, Bool, true, false, List, [], ◌∷◌, Some, inl, inr, refl, sym, ap, ◌∙◌, ◌⊎◌, cond, find}
use Rattle.std.specs.Prelude.{Contains, ◌||◌}
use Rattle.std.specs.List.{filter, list_all, list_any}
use Rattle.std.proofs.lemmas.Bool.{and_parts}
use Rattle.std.proofs.lemmas.Option.{same_Some, slice_get_within, get_or_from_slice_get}
use Rattle.list_laws.proofs.Members.{Has, has_at, has_place, read_at}

-- ---- Members

pub contained : {A : Type 0} (xs : List A) (x : A) → Contains xs x → Has xs x
contained xs x is = has_at xs is.0 x (read_at xs is.0 x is.1 (sym is.2))

pub contains : {A : Type 0} (xs : List A) (x : A) → Has xs x → Contains xs x
contains xs x has =
    let place = has_place xs x has in
    (place.0, slice_get_within xs place.0 x place.1, get_or_from_slice_get xs place.0 x x place.1)

-- ---- Tests

pub passes_any : {A : Type 0} (test : A → Bool) (xs : List A) (x : A) → Has xs x → test x ≡ true → list_any test xs ≡ true
passes_any test [] x has is = absurd has
passes_any test (first ∷ xs) x (inl same) is = ap (λ told. told || list_any test xs) (ap test same ∙ is)
passes_any test (first ∷ xs) x (inr has) is = by (test first) (passes_any test xs x has is)
  where
    by : (told : Bool) → list_any test xs ≡ true → (told || list_any test xs) ≡ true
    by true later = refl
    by false later = later

pub record Passing {A : Type 0} (test : A → Bool) (xs : List A) : Type 0 where
  pub one : A
  pub has : Has xs one
  pub passes : test one ≡ true

pub any_passes : {A : Type 0} (test : A → Bool) (xs : List A) → list_any test xs ≡ true → Passing test xs
any_passes test [] is = absurd (cc)
any_passes test (first ∷ xs) is = by (test first) refl is (any_passes test xs)
  where
    by : (told : Bool) → test first ≡ told → (told || list_any test xs) ≡ true → (list_any test xs ≡ true → Passing test xs)
        → Passing test (first ∷ xs)
    by true told any later = record { one = first; has = inl refl; passes = told }
    by false told any later = let found = later any in record { one = found.one; has = inr found.has; passes = found.passes }

pub fails_any : {A : Type 0} (test : A → Bool) (xs : List A) (x : A) → list_any test xs ≡ false → Has xs x → test x ≡ false
fails_any test [] x none has = absurd has
fails_any {A} test (first ∷ xs) x none has = by (test first) refl none has (fails_any test xs x)
  where
    by : (told : Bool) → test first ≡ told → (told || list_any test xs) ≡ false → (first ≡ x) ⊎ Has xs x
        → (list_any test xs ≡ false → Has xs x → test x ≡ false) → test x ≡ false
    by true told any has later = absurd (cc)
    by false told any (inl same) later = ap test (sym same) ∙ told
    by false told any (inr there) later = later any there

pub all_pass : {A : Type 0} (test : A → Bool) (xs : List A) (x : A) → list_all test xs ≡ true → Has xs x → test x ≡ true
all_pass test [] x all has = absurd has
all_pass test (first ∷ xs) x all (inl same) = ap test (sym same) ∙ (and_parts (test first) (list_all test xs) all).0
all_pass test (first ∷ xs) x all (inr has) = all_pass test xs x (and_parts (test first) (list_all test xs) all).1 has

-- ---- What is found

pub found_has : {A : Type 0} (test : A → Bool) (xs : List A) (x : A) → find test xs ≡ Some x → Has xs x
found_has test [] x is = absurd (cc)
found_has test (first ∷ xs) x is = by (test first) is (found_has test xs x)
  where
    by : (told : Bool) → cond told (Some first) (find test xs) ≡ Some x → (find test xs ≡ Some x → Has xs x) → (first ≡ x) ⊎ Has xs x
    by true is later = inl (same_Some first x is)
    by false is later = inr (later is)

pub record Finding {A : Type 0} (test : A → Bool) (xs : List A) : Type 0 where
  pub one : A
  pub is : find test xs ≡ Some one

pub finds : {A : Type 0} (test : A → Bool) (xs : List A) (x : A) → Has xs x → test x ≡ true → Finding test xs
finds test [] x has is = absurd has
finds {A} test (first ∷ xs) x has is = by (test first) refl has (λ there. finds test xs x there is)
  where
    by : (told : Bool) → test first ≡ told → (first ≡ x) ⊎ Has xs x → (Has xs x → Finding test xs) → Finding test (first ∷ xs)
    by true told has later = record { one = first; is = ap (λ t. cond t (Some first) (find test xs)) told }
    by false told (inl same) later = absurd (cc)
    by false told (inr there) later =
        let found = later there in
        record { one = found.one; is = ap (λ t. cond t (Some first) (find test xs)) told ∙ found.is }

-- ---- What a test keeps

pub filtered_has : {A : Type 0} (test : A → Bool) (xs : List A) (x : A) → Has (filter test xs) x → Has xs x
filtered_has test [] x has = absurd has
filtered_has test (first ∷ xs) x has = by (test first) has (filtered_has test xs x)
  where
    by : (told : Bool) → Has (cond told (first ∷ filter test xs) (filter test xs)) x → (Has (filter test xs) x → Has xs x) → (first ≡ x) ⊎ Has xs x
    by true (inl same) later = inl same
    by true (inr there) later = inr (later there)
    by false there later = inr (later there)

pub has_filtered : {A : Type 0} (test : A → Bool) (xs : List A) (x : A) → Has xs x → test x ≡ true → Has (filter test xs) x
has_filtered test [] x has is = absurd has
has_filtered test (first ∷ xs) x has is = by (test first) refl has (λ there. has_filtered test xs x there is)
  where
    by : (told : Bool) → test first ≡ told → (first ≡ x) ⊎ Has xs x → (Has xs x → Has (filter test xs) x)
        → Has (cond told (first ∷ filter test xs) (filter test xs)) x
    by true told (inl same) later = inl same
    by true told (inr there) later = inr (later there)
    by false told (inl same) later = absurd (cc)
    by false told (inr there) later = later there
