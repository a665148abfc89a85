-- Properties of all elements of a list.
use Rattle.std.proofs.Common.{◌≡◌, ◌+◌, Bool, true, List, [], ◌∷◌, ◌++◌, map}
use Rattle.std.proofs.Common.{refl, ap, ◌∙◌}
use Rattle.std.specs.Prelude.{◌&&◌}
use Rattle.std.specs.List.{AllByRecursion, flat_map, list_all, list_any}
use Rattle.std.proofs.lemmas.Bool.{and_parts, or_left, or_right}
use Rattle.std.proofs.lemmas.List.Folds.{list_all-append, list_any-append}

pub each_so : {A : Type 0} (P Q : A → Type 0) → ((x : A) → P x → Q x) → (xs : List A) → AllByRecursion P xs → AllByRecursion Q xs
each_so P Q so [] all = _
each_so P Q so (x ∷ xs) all = (so x all.0, each_so P Q so xs all.1)

pub of_mapped : {A B : Type 0} (P : B → Type 0) (f : A → B) (xs : List A) → AllByRecursion P (map f xs) → AllByRecursion (λ x. P (f x)) xs
of_mapped P f [] all = _
of_mapped P f (x ∷ xs) all = (all.0, of_mapped P f xs all.1)

pub front_of : {A : Type 0} (P : A → Type 0) (xs ys : List A) → AllByRecursion P (xs ++ ys) → AllByRecursion P xs
front_of P [] ys all = _
front_of P (x ∷ xs) ys all = (all.0, front_of P xs ys all.1)

pub back_of : {A : Type 0} (P : A → Type 0) (xs ys : List A) → AllByRecursion P (xs ++ ys) → AllByRecursion P ys
back_of P [] ys all = all
back_of P (x ∷ xs) ys all = back_of P xs ys all.1

pub of_flat : {A B : Type 0} (P : B → Type 0) (f : A → List B) (xs : List A) → AllByRecursion P (flat_map f xs)
    → AllByRecursion (λ x. AllByRecursion P (f x)) xs
of_flat P f [] all = _
of_flat P f (x ∷ xs) all = (front_of P (f x) (flat_map f xs) all, of_flat P f xs (back_of P (f x) (flat_map f xs) all))

pub all_of_two : {A : Type 0} (test : A → Bool) (xs ys : List A) → list_all test xs ≡ true → list_all test ys ≡ true → list_all test (xs ++ ys) ≡ true
all_of_two test [] ys on_xs on_ys = on_ys
all_of_two test (x ∷ xs) ys on_xs on_ys =
    let both = and_parts (test x) (list_all test xs) on_xs in
    rw (both.0) (all_of_two test xs ys both.1 on_ys)

pub each_append : {A : Type 0} (P : A → Type 0) (xs ys : List A) → AllByRecursion P xs → AllByRecursion P ys → AllByRecursion P (xs ++ ys)
each_append P [] ys on_xs on_ys = on_ys
each_append P (x ∷ xs) ys on_xs on_ys = (on_xs.0, each_append P xs ys on_xs.1 on_ys)

pub each_part : {A : Type 0} (P : A → Type 0) (xs ys : List A) → AllByRecursion P (xs ++ ys) → AllByRecursion P xs × AllByRecursion P ys
each_part P xs ys all = (front_of P xs ys all, back_of P xs ys all)

pub flat_all : {A B : Type 0} (test : B → Bool) (f : A → List B) (xs : List A) → list_all test (flat_map f xs) ≡ list_all (λ x. list_all test (f x)) xs
flat_all test f [] = refl
flat_all test f (x ∷ xs) = list_all-append test (f x) (flat_map f xs) ∙ ap (λ rest. list_all test (f x) && rest) (flat_all test f xs)

pub mapped_all : {A B C : Type 0} (test : C → Bool) (forms : B → List C) (part : A → B) (xs : List A)
    → list_all test (flat_map forms (map part xs)) ≡ list_all (λ x. list_all test (forms (part x))) xs
mapped_all test forms part [] = refl
mapped_all test forms part (x ∷ xs) =
    list_all-append test (forms (part x)) (flat_map forms (map part xs)) ∙ ap (λ rest. list_all test (forms (part x)) && rest)
    (mapped_all test forms part xs)

-- a property of each element holds after one more element with it is added at the end
pub each_more : {A : Type 0} (P : A → Type 0) (xs : List A) (x : A) → AllByRecursion P xs → P x → AllByRecursion P (xs ++ (x ∷ []))
each_more P xs x all holds = each_append P xs (x ∷ []) all (holds, tt)

pub each_map : {A B : Type 0} (P : B → Type 0) (f : A → B) (xs : List A) → ((x : A) → P (f x)) → AllByRecursion P (map f xs)
each_map P f [] holds = tt
each_map P f (x ∷ xs) holds = (holds x, each_map P f xs holds)

pub any_front : {A : Type 0} (test : A → Bool) (front behind : List A) → list_any test front ≡ true → list_any test (front ++ behind) ≡ true
any_front test front behind holds = list_any-append test front behind ∙ or_left (list_any test front) (list_any test behind) holds

pub any_behind : {A : Type 0} (test : A → Bool) (front behind : List A) → list_any test behind ≡ true → list_any test (front ++ behind) ≡ true
any_behind test front behind holds = list_any-append test front behind ∙ or_right (list_any test front) (list_any test behind) holds

-- the empty list has no element at which it could be split
pub none_cut : {A : Type 0} (front : List A) (x : A) (behind : List A) → [] ≡ front ++ (x ∷ behind) → ⊥
none_cut [] x behind is = absurd (cc)
none_cut (y ∷ front) x behind is = absurd (cc)

pub same_first : {A : Type 0} (x y : A) (xs ys : List A) → x ∷ xs ≡ y ∷ ys → x ≡ y
same_first x y xs ys same = cc

pub same_rest : {A : Type 0} (x y : A) (xs ys : List A) → x ∷ xs ≡ y ∷ ys → xs ≡ ys
same_rest x y xs ys same = cc
