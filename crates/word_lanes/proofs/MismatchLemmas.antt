-- From the lanes at which two vectors differ to the first place at which two lists do.
use Rattle.std.proofs.Common.{◌≡◌, ◌≢◌, ℕ, zero, suc, ◌+◌, ◌-◌, ◌*◌, ◌<◌, ◌≤◌, ◌%◌, ◌^◌, Bool, true, false, not, eqb, cond, ℤ, List, [], ◌∷◌, map, length, take}
use Rattle.std.proofs.Common.{drop, refl, sym, ◌∙◌, ap, ap₂, ◌++◌, arith, one-add, zero-add}
use Rattle.std.proofs.lemmas.Int.{to_z-of_z}
use Rattle.std.proofs.lemmas.Bool.{eqb-true, eq-eqb, true≢false}
use Rattle.std.proofs.lemmas.List.{take-take, take_all, take-append-drop, length-map}
use Rattle.std.proofs.Math.Seq.{take-add}
use Rattle.std.proofs.lemmas.Simd.{mask_l-mod, leading_from_mask_l, trailing_mask_l}
use Rattle.std.specs.Prelude.{slice_get, FitsSigned}
use Rattle.std.specs.List.{prefix_len}
use lib.Count.{count_trailing_zeros}
use lib.Lanes.{Each1, zip2, top, mask_l}
use mir.Syntax.{w64, mask, ne}
use mir.Val.{of_z, to_z}
use borrow.Rule.Simd.Lanes.{act2}
use borrow.Table.Row.{s_int}
use Rattle.word_lanes.specs.Mismatch.{IsFirstMismatch}

-- what `simd_ne` gives: a word of ones in each lane that differs
abbrev pub ne_lanes : List ℤ → List ℤ → List ℕ
ne_lanes xs ys = zip2 (act2 (mask ne) (s_int w64) (s_int w64) (s_int w64)) (map (of_z w64) xs) (map (of_z w64) ys)

-- in how many lanes, from the first on, two vectors agree
abbrev pub agreeing : List ℤ → List ℤ → ℕ
agreeing xs ys = prefix_len (λ z. not (top 63 z)) (ne_lanes xs ys)

-- that number for one lane more, which agrees by the test
abbrev agreeing_more : Bool → ℕ → ℕ
agreeing_more same n = cond (not (top 63 (cond (not same) (2 ^ 64 - 1) 0))) (1 + n) 0

-- words whose bits are equal are equal
same_word : (x y : ℤ) → FitsSigned w64 x → FitsSigned w64 y → eqb (of_z w64 x) (of_z w64 y) ≡ true → x ≡ y
same_word x y f g e = sym (to_z-of_z w64 x f) ∙ ap (to_z w64) (eqb-true _ _ e) ∙ to_z-of_z w64 y g

-- words whose bits differ differ
other_word : (x y : ℤ) → eqb (of_z w64 x) (of_z w64 y) ≡ false → x ≢ y
other_word x y e = λ same. let t : eqb (of_z w64 x) (of_z w64 y) ≡ true = eq-eqb _ _ (ap (of_z w64) same) in true≢false (sym t ∙ e)

-- one lane more, by whether it agrees: the lanes that agree, and then the lane that differs
agree_more : (same : Bool) (x y : ℤ) (xs ys : List ℤ) (n : ℕ) → (same ≡ true → x ≡ y) → take n xs ≡ take n ys
    → take (agreeing_more same n) (x ∷ xs) ≡ take (agreeing_more same n) (y ∷ ys)
agree_more true x y xs ys n h r = let e = h refl in rw one-add (cc)
agree_more false x y xs ys n h r = refl

differ_more : (same : Bool) (x y : ℤ) (xs ys : List ℤ) (n : ℕ) → (same ≡ false → x ≢ y) → (n < length xs → slice_get xs n ≢ slice_get ys n)
    → agreeing_more same n < suc (length xs) → slice_get (x ∷ xs) (agreeing_more same n) ≢ slice_get (y ∷ ys) (agreeing_more same n)
differ_more true x y xs ys n h r lt = let below : n < length xs = omega arith in rw one-add (r below)
differ_more false x y xs ys n h r lt = λ e. let other = h refl in let same : x ≡ y = cc in other same

-- up to that many lanes two vectors agree, and at the next they differ
pub agree : (xs ys : List ℤ) → Each1 (FitsSigned w64) xs → Each1 (FitsSigned w64) ys → take (agreeing xs ys) xs ≡ take (agreeing xs ys) ys
agree [] ys f g = refl
agree (x ∷ xs) [] f g = refl
agree (x ∷ xs) (y ∷ ys) f g = agree_more (eqb (of_z w64 x) (of_z w64 y)) x y xs ys _ (same_word x y f.0 g.0) (agree xs ys f.1 g.1)

pub differ : (xs ys : List ℤ) → length xs ≡ length ys → agreeing xs ys < length xs → slice_get xs (agreeing xs ys) ≢ slice_get ys (agreeing xs ys)
differ [] ys l lt = absurd (omega arith)
differ (x ∷ xs) [] l lt = λ e. cc
differ (x ∷ xs) (y ∷ ys) l lt =
    differ_more (eqb (of_z w64 x) (of_z w64 y)) x y xs ys _ (other_word x y) (differ xs ys (omega arith)) lt

-- ---- what the mask of the lanes that differ means

length-ne_lanes : (xs ys : List ℤ) → length xs ≡ length ys → length (ne_lanes xs ys) ≡ length xs
length-ne_lanes [] ys l = refl
length-ne_lanes (x ∷ xs) [] l = cc
length-ne_lanes (x ∷ xs) (y ∷ ys) l = ap suc (length-ne_lanes xs ys (omega arith))

-- one lane more, by whether its bit is set
some_more : (set : Bool) (n m l : ℕ) → (0 < m → n < l) → 0 < cond set 1 0 + 2 * m → cond (not set) (1 + n) 0 < suc l
some_more true n m l h some = omega arith
some_more false n m l h some = let below = h (omega arith) in omega arith

-- where a bit is set, the first lane that has one is a lane of the vector
some_set : (zs : List ℕ) → 0 < mask_l (map (top 63) zs) → prefix_len (λ z. not (top 63 z)) zs < length zs
some_set [] some = absurd (omega arith)
some_set (z ∷ zs) some = some_more (top 63 z) _ _ _ (some_set zs) some

-- the mask as `to_bitmask` gives it
abbrev pub mask_of : List ℤ → List ℤ → ℕ
mask_of xs ys = mask_l (map (top 63) (ne_lanes xs ys)) % 2 ^ 64

module _ (xs ys : List ℤ) (same_length : length xs ≡ length ys) (few : length xs ≤ 64) where
  -- the mask of this many lanes loses no bit
  mask_is : mask_of xs ys ≡ mask_l (map (top 63) (ne_lanes xs ys))
  mask_is = mask_l-mod (map (top 63) (ne_lanes xs ys)) 64 (omega (arith, length-map (ne_lanes xs ys) (top 63), length-ne_lanes xs ys same_length))

  -- where no bit is set the vectors are equal
  pub same_without_mask : Each1 (FitsSigned w64) xs → Each1 (FitsSigned w64) ys → mask_of xs ys ≡ 0 → xs ≡ ys
  same_without_mask f g none =
      let whole : agreeing xs ys ≡ length xs = leading_from_mask_l (top 63) (ne_lanes xs ys) (sym mask_is ∙ none) ∙ length-ne_lanes xs ys same_length in
      sym (take_all (agreeing xs ys) xs (omega arith)) ∙ agree xs ys f g ∙ take_all (agreeing xs ys) ys (omega arith)

  module _ (some : mask_of xs ys ≢ 0) where
    -- the lowest bit that is set is that of the first lane that differs
    lowest : count_trailing_zeros 64 (mask_of xs ys) ≡ agreeing xs ys
    lowest = ap (count_trailing_zeros 64) mask_is
        ∙ trailing_mask_l (top 63) 64 (ne_lanes xs ys) (omega (arith, length-ne_lanes xs ys same_length)) (omega (arith, mask_is))

    stops : agreeing xs ys < length xs
    stops = omega (arith, some_set (ne_lanes xs ys) (omega (arith, mask_is)), length-ne_lanes xs ys same_length)

    pub lowest_within : count_trailing_zeros 64 (mask_of xs ys) < length xs
    lowest_within = rw lowest stops

    pub lowest_is_first : Each1 (FitsSigned w64) xs → Each1 (FitsSigned w64) ys → IsFirstMismatch xs ys (count_trailing_zeros 64 (mask_of xs ys))
    lowest_is_first f g = rw lowest record { agree = agree xs ys f g; differ = differ xs ys same_length stops }

-- ---- a first mismatch after a place up to which two lists agree

-- a first mismatch of the rests is n places further on in the whole lists
pub further : (n : ℕ) (a b : List ℤ) (k : ℕ) → n ≤ length a → n ≤ length b → take n a ≡ take n b → IsFirstMismatch (drop n a) (drop n b) k
    → IsFirstMismatch a b (n + k)
further zero a b k la lb same h = rw zero-add h
further (suc n) [] b k la lb same h = absurd (omega arith)
further (suc n) (x ∷ a) [] k la lb same h = absurd (omega arith)
further (suc n) (x ∷ a) (y ∷ b) k la lb same h =
    let rest : take n a ≡ take n b = cc in
    let r = further n a b k (omega arith) (omega arith) rest h in
    let first : x ≡ y = cc in
    let shift : suc n + k ≡ suc (n + k) = omega arith in
    let agree = r.agree in
    rw shift record { agree = cc; differ = r.differ }

slice_get-take : (m k : ℕ) (xs : List ℤ) → k < m → slice_get (take m xs) k ≡ slice_get xs k
slice_get-take zero k xs lt = absurd (omega arith)
slice_get-take (suc m) k [] lt = refl
slice_get-take (suc m) zero (x ∷ xs) lt = refl
slice_get-take (suc m) (suc k) (x ∷ xs) lt = slice_get-take m k xs (omega arith)

-- a first mismatch of the first m words is one of the whole lists
pub within_front : (m : ℕ) (a b : List ℤ) (k : ℕ) → k < m → IsFirstMismatch (take m a) (take m b) k → IsFirstMismatch a b k
within_front m a b k lt h =
    let le : k ≤ m = omega arith in
    record {
      agree = sym (take-take k m a le) ∙ h.agree
          ∙ take-take k m b le;
      differ = λ e. h.differ (slice_get-take m k a lt ∙ e ∙ sym (slice_get-take m k b lt));
    }

-- lists that agree on n words, and then on m more, agree on n + m
pub take_further : (n m : ℕ) (a b : List ℤ) → take n a ≡ take n b → take m (drop n a) ≡ take m (drop n b) → take (n + m) a ≡ take (n + m) b
take_further n m a b h r = take-add n m a ∙ ap₂ ◌++◌ h r ∙ sym (take-add n m b)

-- the lowest bit of the mask of n lanes that were loaded from two lists
pub loaded_first : (n : ℕ) (a b xs ys : List ℤ) → n ≤ 64 → xs ≡ take n a → ys ≡ take n b → length xs ≡ n → length ys ≡ n
    → Each1 (FitsSigned w64) xs → Each1 (FitsSigned w64) ys → mask_of xs ys ≢ 0 → IsFirstMismatch a b (count_trailing_zeros 64 (mask_of xs ys))
loaded_first n a b xs ys few is_a is_b xs_lanes ys_lanes f g some =
    let k = count_trailing_zeros 64 (mask_of xs ys) in
    let first = lowest_is_first xs ys (omega arith) (omega arith) some f g in
    let within : k < n = omega (arith, lowest_within xs ys (omega arith) (omega arith) some) in
    within_front n a b k within
    (record {
      agree = ap (take k) (sym is_a) ∙ first.agree
          ∙ ap (take k) is_b;
      differ = λ e. first.differ (ap (λ l. slice_get l k) is_a ∙ e ∙ ap (λ l. slice_get l k) (sym is_b));
    })

-- lists that agree on n words, and then on the rest, are equal
pub joined : (n : ℕ) (a b : List ℤ) → take n a ≡ take n b → drop n a ≡ drop n b → a ≡ b
joined n a b front rest = sym (take-append-drop n a) ∙ ap₂ ◌++◌ front rest ∙ take-append-drop n b
