-- Pairs of lists, element by element.
use Rattle.std.proofs.Common.{◌≡◌, ℕ, zero, suc, ◌+◌, List, [], ◌∷◌, ◌++◌, Some}
use Rattle.std.proofs.Common.{refl, ap, subst, ◌∙◌}
use Rattle.std.specs.Prelude.{slice_get, get_or, set}
use Rattle.std.specs.List.{AllZip, zip}
use Rattle.std.proofs.lemmas.Option.{same_Some}

pub zip_append : {A B : Type 0} (R : A → B → Type 0) (xs xs' : List A) (ys ys' : List B) → AllZip R xs ys → AllZip R xs' ys' → AllZip R (xs ++ xs') (ys ++ ys')
zip_append R [] xs' [] ys' one other = other
zip_append R [] xs' (y ∷ ys) ys' one other = absurd one
zip_append R (x ∷ xs) xs' [] ys' one other = absurd one
zip_append R (x ∷ xs) xs' (y ∷ ys) ys' one other = (one.0, zip_append R xs xs' ys ys' one.1 other)

pub record Beside {A B : Type 0} (R : A → B → Type 0) (x : A) (ys : List B) (k : ℕ) : Type 0 where
  pub other : B
  pub is : slice_get ys k ≡ Some other
  pub related : R x other

pub zip_at : {A B : Type 0} (R : A → B → Type 0) (xs : List A) (ys : List B) (k : ℕ) (x : A) → AllZip R xs ys → slice_get xs k ≡ Some x → Beside R x ys k
zip_at R [] ys k x all is = absurd (cc)
zip_at R (first ∷ xs) [] k x all is = absurd all
zip_at R (first ∷ xs) (y ∷ ys) zero x all is = let same : first ≡ x = cc in record { other = y; is = refl; related = subst (λ z. R z y) same all.0 }
zip_at R (first ∷ xs) (y ∷ ys) (suc k) x all is = let later = zip_at R xs ys k x all.1 is in
    record { other = later.other; is = later.is; related = later.related }

pub zip_set : {A B : Type 0} (R : A → B → Type 0) (xs : List A) (ys : List B) (k : ℕ) (default y : B) → AllZip R xs ys
    → ((x : A) → R x (get_or ys k default) → R x y) → AllZip R xs (set ys k y)
zip_set R [] [] k default y all one = tt
zip_set R [] (first ∷ ys) k default y all one = absurd all
zip_set R (x ∷ xs) [] k default y all one = absurd all
zip_set R (x ∷ xs) (first ∷ ys) zero default y all one = (one x all.0, all.1)
zip_set R (x ∷ xs) (first ∷ ys) (suc k) default y all one = (all.0, zip_set R xs ys k default y all.1 one)

pub zip_there : {A B : Type 0} (xs : List A) (ys : List B) (k : ℕ) (x : A) (y : B) → slice_get xs k ≡ Some x → slice_get ys k ≡ Some y
    → slice_get (zip xs ys) k ≡ Some (x, y)
zip_there [] ys k x y x_is y_is = absurd (cc)
zip_there (one ∷ xs) [] k x y x_is y_is = absurd (cc)
zip_there (one ∷ xs) (other ∷ ys) zero x y x_is y_is = ap (λ z. Some (z, other)) (same_Some one x x_is) ∙ ap (λ z. Some (x, z)) (same_Some other y y_is)
zip_there (one ∷ xs) (other ∷ ys) (suc k) x y x_is y_is = zip_there xs ys k x y x_is y_is
