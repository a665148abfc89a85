-- From the lanes of a vector of guesses to the guesses.
use Rattle.std.proofs.Common.{◌≡◌, ℕ, ◌+◌, ◌-◌, ◌<◌, ◌≤◌, ◌%◌, ◌^◌, Bool, true, false, cond, ℤ, pos, ◌+ℤ◌, ◌-ℤ◌, ◌*ℤ◌, ◌≤ℤ◌, neg_ℤ, List, [], ◌∷◌, map, length}
use Rattle.std.proofs.Common.{take, drop, get_or, set, ◌++◌, length-drop, append-nil, zero, suc, refl, sym, ◌∙◌, ap, ap₂, arith}
use Rattle.std.proofs.lemmas.Int.{ints, clamps, to_z-of_z, wrapping_add_is, wrapping_sub_onto, int_wrap-add_left}
use Rattle.std.proofs.lemmas.List.{take_at, drop_at, drop_all, length-take-le, take-append-drop, take_more, take_more_set}
use Rattle.std.proofs.Math.Seq.{take-add}
use borrow.Rule.Slice.PartMut.{put_mid}
use Rattle.std.specs.Prelude.{FitsSigned}
use Rattle.std.specs.Int.{int_wrap, int_min, int_max}
use Rattle.std.proofs.lemmas.Simd.{take_more_put_chunk}
use lib.Lanes.{Each1, zip2, sel_l, top, put_chunk}
use mir.Syntax.{w64, mask, lt, signed, wrap_add, wrap_sub}
use lib.Signed.{lt_z}
use mir.Val.{of_z, to_z}
use borrow.Rule.Simd.Lanes.{act2}
use borrow.Table.Row.{s_int}
use Rattle.word_lanes.specs.Guess.{brought_into, guess, guesses, wrapped, EachAtMost}

-- the bits of `last + last - before`, as the machine wraps them
abbrev pub straight : ℤ → ℤ → ℕ
straight last before = ((of_z w64 last + of_z w64 last) % 2 ^ 64 + (2 ^ 64 - of_z w64 before)) % 2 ^ 64

-- the machine adds a word to itself
doubled : (z : ℤ) → z +ℤ z ≡ pos 2 *ℤ z
doubled z = omega (arith, ints)

-- read as a signed word, they are the wrapped integer
pub straight_is : (last before : ℤ) → FitsSigned w64 last → FitsSigned w64 before → to_z w64 (straight last before) ≡ wrapped (pos 2 *ℤ last -ℤ before)
straight_is last before f g =
    wrapping_sub_onto w64 ((of_z w64 last + of_z w64 last) % 2 ^ 64) before (omega arith) g
    ∙ ap (λ z. int_wrap w64 (z -ℤ before)) (wrapping_add_is w64 last last f f)
    ∙ int_wrap-add_left w64 (last +ℤ last) (neg_ℤ before)
    ∙ ap (λ z. int_wrap w64 (z -ℤ before)) (doubled last)

-- what `simd_lt` gives
abbrev lt_lanes : List ℕ → List ℕ → List ℕ
lt_lanes = zip2 (act2 (mask (lt signed)) (s_int w64) (s_int w64) (s_int w64))

-- what `simd_min` and `simd_max` choose lane by lane
abbrev min_lanes : List ℕ → List ℕ → List ℕ
min_lanes xs ys = sel_l (map (top 63) (lt_lanes xs ys)) xs ys

abbrev max_lanes : List ℕ → List ℕ → List ℕ
max_lanes xs ys = sel_l (map (top 63) (lt_lanes xs ys)) ys xs

-- the bits of each word
abbrev words : List ℤ → List ℕ
words = map (of_z w64)

-- `last + last - before`, lane by lane
abbrev pub straight_lanes : List ℤ → List ℤ → List ℕ
straight_lanes last before =
    zip2 (act2 wrap_sub (s_int w64) (s_int w64) (s_int w64)) (zip2 (act2 wrap_add (s_int w64) (s_int w64) (s_int w64)) (words last) (words last)) (words before)

-- the choice of one lane, by the test of its mask
abbrev chosen : Bool → ℕ → ℕ → ℕ
chosen t x y = cond (top 63 (cond t (2 ^ 64 - 1) 0)) x y

chosen_is : (t : Bool) (x y : ℕ) → to_z w64 (chosen t x y) ≡ cond t (to_z w64 x) (to_z w64 y)
chosen_is true x y = refl
chosen_is false x y = refl

-- `simd_min` chooses the second of two equal words, and `min` the first
least_is : (x y : ℤ) → cond (lt_z x y) x y ≡ int_min x y
least_is x y = grind (arith, ints)

-- one lane is the guess of one word
guess_is : (l b lo hi : ℤ) → FitsSigned w64 l → FitsSigned w64 b → FitsSigned w64 lo → FitsSigned w64 hi
    → (let s = straight l b in let s' = chosen (lt_z (to_z w64 s) (to_z w64 (of_z w64 hi))) s (of_z w64 hi) in
    to_z w64 (chosen (lt_z (to_z w64 s') (to_z w64 (of_z w64 lo))) (of_z w64 lo) s')) ≡ guess l b lo hi
guess_is l b lo hi f g m n =
    let s = straight l b in
    let s' = chosen (lt_z (to_z w64 s) (to_z w64 (of_z w64 hi))) s (of_z w64 hi) in
    let least : to_z w64 s' ≡ int_min (wrapped (pos 2 *ℤ l -ℤ b)) hi =
    chosen_is _ s (of_z w64 hi) ∙ least_is (to_z w64 s) (to_z w64 (of_z w64 hi)) ∙ ap₂ int_min (straight_is l b f g) (to_z-of_z w64 hi n) in
    chosen_is _ (of_z w64 lo) s' ∙ ap₂ int_max (to_z-of_z w64 lo m) least

-- all lanes are the guesses of their words
pub lanes_are : (last before low high : List ℤ) → Each1 (FitsSigned w64) last → Each1 (FitsSigned w64) before → Each1 (FitsSigned w64) low
    → Each1 (FitsSigned w64) high
    → map (to_z w64) (max_lanes (min_lanes (straight_lanes last before) (words high)) (words low)) ≡ guesses last before low high
lanes_are [] before low high f g m n = refl
lanes_are (l ∷ last) [] low high f g m n = refl
lanes_are (l ∷ last) (b ∷ before) [] [] f g m n = refl
lanes_are (l ∷ last) (b ∷ before) [] (hi ∷ high) f g m n = refl
lanes_are (l ∷ last) (b ∷ before) (lo ∷ low) [] f g m n = refl
lanes_are (l ∷ last) (b ∷ before) (lo ∷ low) (hi ∷ high) f g m n = ap₂ ◌∷◌ (guess_is l b lo hi f.0 g.0 m.0 n.0) (lanes_are last before low high f.1 g.1 m.1 n.1)

-- ---- a part of the guesses

pub take-guesses : (n : ℕ) (last before low high : List ℤ)
    → guesses (take n last) (take n before) (take n low) (take n high) ≡ take n (guesses last before low high)
take-guesses zero last before low high = refl
take-guesses (suc n) [] before low high = refl
take-guesses (suc n) (l ∷ last) [] low high = refl
take-guesses (suc n) (l ∷ last) (b ∷ before) [] high = refl
take-guesses (suc n) (l ∷ last) (b ∷ before) (lo ∷ low) [] = refl
take-guesses (suc n) (l ∷ last) (b ∷ before) (lo ∷ low) (hi ∷ high) = ap (λ r. guess l b lo hi ∷ r) (take-guesses n last before low high)

pub drop-guesses : (n : ℕ) (last before low high : List ℤ) → length before ≡ length last → length low ≡ length last → length high ≡ length last
    → guesses (drop n last) (drop n before) (drop n low) (drop n high) ≡ drop n (guesses last before low high)
drop-guesses zero last before low high p q r = refl
drop-guesses (suc n) [] before low high p q r = refl
drop-guesses (suc n) (l ∷ last) [] low high p q r = cc
drop-guesses (suc n) (l ∷ last) (b ∷ before) [] high p q r = cc
drop-guesses (suc n) (l ∷ last) (b ∷ before) (lo ∷ low) [] p q r = cc
drop-guesses (suc n) (l ∷ last) (b ∷ before) (lo ∷ low) (hi ∷ high) p q r = drop-guesses n last before low high (omega arith) (omega arith) (omega arith)

pub length-guesses : (last before low high : List ℤ) → length before ≡ length last → length low ≡ length last → length high ≡ length last
    → length (guesses last before low high) ≡ length last
length-guesses [] before low high p q r = refl
length-guesses (l ∷ last) [] low high p q r = cc
length-guesses (l ∷ last) (b ∷ before) [] high p q r = cc
length-guesses (l ∷ last) (b ∷ before) (lo ∷ low) [] p q r = cc
length-guesses (l ∷ last) (b ∷ before) (lo ∷ low) (hi ∷ high) p q r = ap suc (length-guesses last before low high (omega arith) (omega arith) (omega arith))

pub get_or-guesses : (last before low high : List ℤ) (k : ℕ) (d e : ℤ) → k < length last → k < length before → k < length low → k < length high
    → get_or (guesses last before low high) k e ≡ guess (get_or last k d) (get_or before k d) (get_or low k d) (get_or high k d)
get_or-guesses [] before low high k d e p q r s = absurd (omega arith)
get_or-guesses (l ∷ last) [] low high k d e p q r s = absurd (omega arith)
get_or-guesses (l ∷ last) (b ∷ before) [] high k d e p q r s = absurd (omega arith)
get_or-guesses (l ∷ last) (b ∷ before) (lo ∷ low) [] k d e p q r s = absurd (omega arith)
get_or-guesses (l ∷ last) (b ∷ before) (lo ∷ low) (hi ∷ high) zero d e p q r s = refl
get_or-guesses (l ∷ last) (b ∷ before) (lo ∷ low) (hi ∷ high) (suc k) d e p q r s =
    get_or-guesses last before low high k d e (omega arith) (omega arith) (omega arith) (omega arith)

-- ---- the intervals

pub interval_at : (low high : List ℤ) (k : ℕ) (d : ℤ) → EachAtMost low high → k < length low → k < length high → get_or low k d ≤ℤ get_or high k d
interval_at [] high k d h p q = absurd (omega arith)
interval_at (lo ∷ low) [] k d h p q = absurd (omega arith)
interval_at (lo ∷ low) (hi ∷ high) zero d h p q = h.0
interval_at (lo ∷ low) (hi ∷ high) (suc k) d h p q = interval_at low high k d h.1 (omega arith) (omega arith)

pub take-EachAtMost : (n : ℕ) (low high : List ℤ) → EachAtMost low high → EachAtMost (take n low) (take n high)
take-EachAtMost zero low high h = tt
take-EachAtMost (suc n) [] high h = tt
take-EachAtMost (suc n) (lo ∷ low) [] h = tt
take-EachAtMost (suc n) (lo ∷ low) (hi ∷ high) h = (h.0, take-EachAtMost n low high h.1)

nothing_above : (low : List ℤ) → EachAtMost low []
nothing_above [] = tt
nothing_above (lo ∷ low) = tt

pub drop-EachAtMost : (n : ℕ) (low high : List ℤ) → EachAtMost low high → EachAtMost (drop n low) (drop n high)
drop-EachAtMost zero low high h = h
drop-EachAtMost (suc n) [] high h = tt
drop-EachAtMost (suc n) (lo ∷ low) [] h = nothing_above (drop n low)
drop-EachAtMost (suc n) (lo ∷ low) (hi ∷ high) h = drop-EachAtMost n low high h.1

-- no guess is below low or above high
low_bound : (low high z : ℤ) → low ≤ℤ brought_into low high z
low_bound low high z = omega (arith, ints, clamps)

high_bound : (low high z : ℤ) → low ≤ℤ high → brought_into low high z ≤ℤ high
high_bound low high z h = omega (arith, ints, clamps)

pub guesses_from_low : (last before low high : List ℤ) → EachAtMost low (guesses last before low high)
guesses_from_low last before [] high = tt
guesses_from_low [] before (lo ∷ low) high = tt
guesses_from_low (l ∷ last) [] (lo ∷ low) high = tt
guesses_from_low (l ∷ last) (b ∷ before) (lo ∷ low) [] = tt
guesses_from_low (l ∷ last) (b ∷ before) (lo ∷ low) (hi ∷ high) = (low_bound lo hi _, guesses_from_low last before low high)

pub guesses_to_high : (last before low high : List ℤ) → EachAtMost low high → EachAtMost (guesses last before low high) high
guesses_to_high [] before low high h = tt
guesses_to_high (l ∷ last) [] low high h = tt
guesses_to_high (l ∷ last) (b ∷ before) [] high h = tt
guesses_to_high (l ∷ last) (b ∷ before) (lo ∷ low) [] h = tt
guesses_to_high (l ∷ last) (b ∷ before) (lo ∷ low) (hi ∷ high) h = (high_bound lo hi _ h.0, guesses_to_high last before low high h.1)

-- the guesses of n lanes that were loaded and are stored
module _ (n : ℕ) (out last before low high : List ℤ) (room : n ≤ length out) {l b lo hi : List ℤ}
    (last_is : l ≡ take n last) (before_is : b ≡ take n before) (low_is : lo ≡ take n low) (high_is : hi ≡ take n high)
    (last_lanes : length l ≡ n) (before_lanes : length b ≡ n) (low_lanes : length lo ≡ n) (high_lanes : length hi ≡ n) where
  pub stored : Each1 (FitsSigned w64) l → Each1 (FitsSigned w64) b → Each1 (FitsSigned w64) lo → Each1 (FitsSigned w64) hi
      → take n (put_chunk 0 out (map (to_z w64) (max_lanes (min_lanes (straight_lanes l b) (words hi)) (words lo)))) ≡ take n (guesses last before low high)
  stored f g m k =
      let line = guesses l b lo hi in
      let lanes : length line ≡ n = length-guesses l b lo hi (omega arith) (omega arith) (omega arith) ∙ last_lanes in
      ap (λ v. take n (put_chunk 0 out v)) (lanes_are l b lo hi f g m k)
      ∙ take_more_put_chunk 0 out line n (omega arith) room
      ∙ rw (last_is, before_is, low_is, high_is) (take-guesses n last before low high)

-- ---- a line that is written from its beginning on

-- a slice whose part from n on was written
pub put_rest : (n : ℕ) (xs ys : List ℤ) → n ≤ length xs → put_mid n (length xs - n) xs ys ≡ take n xs ++ ys
put_rest n xs ys le =
    let nothing : drop (length xs - n) (drop n xs) ≡ [] = drop_all (length xs - n) (drop n xs) (omega (arith, length-drop n xs)) in
    ap (λ r. take n xs ++ (ys ++ r)) nothing ∙ ap (λ r. take n xs ++ r) (append-nil ys)

pub written_on : (n m : ℕ) (xs ys line : List ℤ) → n ≤ length xs → take n xs ≡ take n line → take m ys ≡ take m (drop n line)
    → take (n + m) (take n xs ++ ys) ≡ take (n + m) line
written_on n m xs ys line le front next =
    let long : length (take n xs) ≡ n = length-take-le n xs le in
    take-add n m (take n xs ++ ys)
    ∙ ap₂ ◌++◌ (take_at (take n xs) ys n long ∙ front) (ap (take m) (drop_at (take n xs) ys n long) ∙ next)
    ∙ sym (take-add n m line)

pub written_all : (n : ℕ) (xs ys line : List ℤ) → take n xs ≡ take n line → ys ≡ drop n line → take n xs ++ ys ≡ line
written_all n xs ys line front rest = ap₂ ◌++◌ front rest ∙ take-append-drop n line

pub written_more : (n : ℕ) (xs line : List ℤ) (z : ℤ) → n < length xs → length line ≡ length xs → take n xs ≡ take n line → z ≡ get_or line n z
    → take (n + 1) (set xs n z) ≡ take (n + 1) line
written_more n xs line z below same front is =
    let below' : n < length line = omega arith in
    take_more_set xs n z below ∙ ap₂ (λ l w. l ++ w ∷ []) front is ∙ sym (take_more line n z below')
