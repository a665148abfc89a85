-- Fixed point as text: where the point is among the digits.
use Rattle.std.proofs.Common.{◌≡◌, ℕ, suc, ◌+◌, ◌-◌, ◌<◌, ◌≤◌, List, [], ◌∷◌, ◌++◌, length, take, drop, replicate, refl, sym, ap, ◌∙◌}
use Rattle.std.proofs.Common.{arith}
use Rattle.std.proofs.lemmas.List.{append_assoc, length-append, length-replicate, take_at, take-take, take-replicate}
use Rattle.fixed_words.specs.Digits.{pointed}
use Rattle.fixed_words.specs.Texts.{padded, pointed_before}
use Rattle.fixed_words.proofs.Numbers.{pointed-more}

-- the same list after another list, cut at any place
cut_at : (decimals : ℕ) (digits : List ℕ) (place : ℕ) → length digits - decimals ≡ place
    → pointed_before decimals digits ≡ take place digits ++ pointed (drop place digits)
cut_at decimals digits place is = ap (λ n. take n digits ++ pointed (drop n digits)) is

-- where all digits are decimals, a zero is before the point and zeros may follow it
pub below_one : (decimals : ℕ) (digits : List ℕ) → length digits ≤ decimals → 0 < decimals
    → pointed_before decimals (padded decimals digits) ≡ 48 ∷ 46 ∷ (replicate (decimals - length digits) 48 ++ digits)
below_one decimals digits all some =
    let rest = replicate (decimals - length digits) 48 ++ digits in
    let zeros : decimals + 1 - length digits ≡ suc (decimals - length digits) = omega arith in
    let is : padded decimals digits ≡ 48 ∷ rest = ap (λ n. replicate n 48 ++ digits) zeros in
    let long : length rest ≡ decimals =
    omega (arith, length-append (replicate (decimals - length digits) 48) digits, length-replicate {A = ℕ} (decimals - length digits) 48) in
    let place : suc (length rest) - decimals ≡ 1 = omega arith in
    ap (pointed_before decimals) is
    ∙ cut_at decimals (48 ∷ rest) 1 place
    ∙ ap (λ behind. 48 ∷ behind) (pointed-more rest (omega arith))

-- what is appended to a list leaves the list as its prefix
pub front_stays : (old first one all : List ℕ) → one ≡ old ++ first → take (length one) all ≡ one → take (length old) all ≡ old
front_stays old first one all is front =
    let longer : length old ≤ length one = omega (arith, ap length is, length-append old first) in
    sym (take-take (length old) (length one) all longer)
    ∙ ap (take (length old)) (front ∙ is)
    ∙ take_at old first (length old) refl

pub zeros_are : (count : ℕ) → count ≤ 9 → take {A = ℕ} count (48 ∷ 48 ∷ 48 ∷ 48 ∷ 48 ∷ 48 ∷ 48 ∷ 48 ∷ 48 ∷ []) ≡ replicate count 48
zeros_are count few = let zero_digit : ℕ = 48 in take-replicate count 9 zero_digit few

-- three pieces that are appended in turn
pub three_pieces : (old first second third one two all : List ℕ) → one ≡ old ++ first → two ≡ one ++ second → all ≡ two ++ third
    → all ≡ old ++ (first ++ (second ++ third))
three_pieces old first second third one two all is_one is_two is_all =
    is_all
    ∙ ap (λ bytes. bytes ++ third) (is_two ∙ ap (λ bytes. bytes ++ second) is_one)
    ∙ append_assoc (old ++ first) second third
    ∙ append_assoc old first (second ++ third)
