-- Numbering keys: the first of equal keys counts.
use Rattle.std.proofs.Common.{◌≡◌, ℕ, zero, suc, ◌+◌, ◌<◌, ◌≤◌, Bool, true, false, cond, List, [], ◌∷◌, length, take, get_or, Option, Some, None, refl, ap, sym}
use Rattle.std.proofs.Common.{subst, ◌∙◌, arith, Bor}
use Rattle.std.specs.Prelude.{is_some}
use Rattle.std.specs.Cmp.{IsEquivalence}
use Rattle.std.specs.List.{position_from}
use Rattle.std.specs.Map.{lookup}
use Rattle.std.specs.Option.{option_copied, option_or}
use Rattle.std.proofs.lemmas.List.{take_all}
use Rattle.list_laws.proofs.Options.{put_behind}

module _ {K : Type 0} (eq : K → K → Bool) (laws : IsEquivalence eq) where
  lookup_alike : (one other : K) (entries : List (K × ℕ)) → eq one other ≡ true → lookup (eq one) entries ≡ lookup (eq other) entries
  lookup_alike one other [] same = refl
  lookup_alike one other (entry ∷ entries) same =
      ap (λ told. cond told (Some entry.1) (lookup (eq one) entries)) (laws.congr one other entry.0 same)
      ∙ ap (cond (eq other entry.0) (Some entry.1)) (lookup_alike one other entries same)

  pub noted_new : (key asked : K) (place : ℕ) (entries : List (K × ℕ)) (new : Option ℕ) → new ≡ cond (eq key asked) (Some place) (lookup (eq asked) entries)
      → lookup (eq key) entries ≡ None → new ≡ option_or (lookup (eq asked) entries) (cond (eq asked key) (Some place) None)
  noted_new key asked place entries new put none =
      put_behind (eq asked key) (eq key asked) (lookup (eq asked) entries) new place (laws.symm asked key)
      (λ same. lookup_alike asked key entries same ∙ none) put

  old_by : (told : Bool) (place : ℕ) (found : Option ℕ) → (told ≡ true → is_some found ≡ true) → found ≡ option_or found (cond told (Some place) None)
  old_by told place (Some value) some = refl
  old_by true place None some = let none : false ≡ true = some refl in absurd (cc none)
  old_by false place None some = refl

  pub noted_before : (key asked : K) (place : ℕ) (entries : List (K × ℕ)) → is_some (lookup (eq key) entries) ≡ true
      → lookup (eq asked) entries ≡ option_or (lookup (eq asked) entries) (cond (eq asked key) (Some place) None)
  noted_before key asked place entries some =
      old_by (eq asked key) place (lookup (eq asked) entries) (λ same. ap is_some (lookup_alike asked key entries same) ∙ some)

pub copied_some : (found : Option (Bor ℕ)) (value : Option ℕ) (told : Bool) → option_copied found ≡ value → told ≡ is_some found → is_some value ≡ told
copied_some None value told is told_is = ap is_some (sym is) ∙ sym told_is
copied_some (Some x) value told is told_is = ap is_some (sym is) ∙ sym told_is

-- One key more.
places_by : (told : Bool) (from k : ℕ) (rest before : Option ℕ) (last : Bool) → rest ≡ option_or before (cond last (Some (suc from + k)) None)
    → cond told (Some from) rest ≡ option_or (cond told (Some from) before) (cond last (Some (from + suc k)) None)
places_by true from k rest before last is = refl
places_by false from k rest before last is = let next : suc from + k ≡ from + suc k = omega arith in
    is ∙ ap (λ n. option_or before (cond last (Some n) None)) next

places_from : {X : Type 0} (p : X → Bool) (from : ℕ) (xs : List X) (k : ℕ) (d : X) → k < length xs
    → position_from p from (take (suc k) xs) ≡ option_or (position_from p from (take k xs)) (cond (p (get_or xs k d)) (Some (from + k)) None)
places_from p from [] k d within = absurd (omega arith)
places_from p from (x ∷ xs) zero d within = let same : from ≡ from + 0 = omega arith in ap (λ n. cond (p x) (Some n) None) same
places_from p from (x ∷ xs) (suc k) d within =
    let next : from + 1 ≡ suc from = omega arith in
    places_by (p x) from k (position_from p (from + 1) (take (suc k) xs)) (position_from p (from + 1) (take k xs)) (p (get_or xs k d))
    (subst (λ n. position_from p (from + 1) (take (suc k) xs)
    ≡ option_or (position_from p (from + 1) (take k xs)) (cond (p (get_or xs k d)) (Some (n + k)) None)) next
    (places_from p (from + 1) xs k d (omega (arith, within))))

pub place_more : {X : Type 0} (p : X → Bool) (xs : List X) (k : ℕ) (d : X) (more : Option ℕ) → k < length xs
    → more ≡ option_or (position_from p 0 (take k xs)) (cond (p (get_or xs k d)) (Some k) None) → more ≡ position_from p 0 (take (k + 1) xs)
place_more p xs k d more within is =
    let next : suc k ≡ k + 1 = omega arith in
    let same : 0 + k ≡ k = omega arith in
    is ∙ ap (λ n. option_or (position_from p 0 (take k xs)) (cond (p (get_or xs k d)) (Some n) None)) (sym same)
    ∙ sym (places_from p 0 xs k d within)
    ∙ ap (λ n. position_from p 0 (take n xs)) next

pub place_all : {X : Type 0} (p : X → Bool) (xs : List X) (k : ℕ) → length xs ≤ k → position_from p 0 (take k xs) ≡ position_from p 0 xs
place_all p xs k all = ap (position_from p 0) (take_all k xs all)

pub place_noted : {X : Type 0} (p : X → Bool) (xs : List X) (k : ℕ) (x : X) (old more : Option ℕ) → k < length xs → x ≡ get_or xs k x
    → old ≡ position_from p 0 (take k xs) → more ≡ option_or old (cond (p x) (Some k) None) → more ≡ position_from p 0 (take (k + 1) xs)
place_noted p xs k x old more within read old_is is =
    place_more p xs k x more within
    (is ∙ ap (λ found. option_or found (cond (p x) (Some k) None)) old_is ∙ ap (λ y. option_or (position_from p 0 (take k xs)) (cond (p y) (Some k) None)) read)
