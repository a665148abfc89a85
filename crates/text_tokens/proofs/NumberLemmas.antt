-- Lemmas on numbers as digits.
use Rattle.std.proofs.Common.{◌≡◌, ℕ, ◌+◌, ◌-◌, ◌*◌, ◌^◌, ◌<◌, ◌≤◌, Bool, true, false, cond, List, length, refl, sym, ◌∙◌, arith, nat_le, drop}
use Rattle.std.proofs.Common.{get_or, Some, None}
use Rattle.std.proofs.lemmas.List.{at_drop_more}
use Rattle.std.proofs.lemmas.Bool.{cond-true, cond-false}
use Rattle.std.proofs.lemmas.Bool.Decides.{nat_tests}
use Rattle.unit_tree.specs.Tokens.{number_from}
use Rattle.text_tokens.specs.Scanning.{bounded_number}
use Rattle.fixed_words.proofs.Numbers.{number_from-ge}

pub bounded_number_past : (before : ℕ) (digits : List ℕ) (now : ℕ) (rest : List ℕ) → number_from now rest ≡ number_from before digits → 2 ^ 63 < now
    → bounded_number before digits ≡ None
unfolding bounded_number
bounded_number_past before digits now rest same past =
    let grows = number_from-ge now rest in
    let over : 2 ^ 63 < number_from before digits = omega arith in
    cond-false (nat_le (number_from before digits) (2 ^ 63)) (Some (number_from before digits)) None (grind (arith, nat_tests))

-- a number that has grown past the limit before the digits end
pub bounded_number_at : (before : ℕ) (digits : List ℕ) (number i : ℕ) → i < length digits → number_from number (drop i digits) ≡ number_from before digits
    → 2 ^ 63 < 10 * number + (get_or digits i 0 - 48) → bounded_number before digits ≡ None
bounded_number_at before digits number i more same past =
    bounded_number_past before digits (10 * number + (get_or digits i 0 - 48)) (drop (i + 1) digits)
    (sym (at_drop_more (number_from number) digits i 0 more) ∙ same) past

pub bounded_number_within : (before : ℕ) (digits : List ℕ) → number_from before digits ≤ 2 ^ 63
    → bounded_number before digits ≡ Some (number_from before digits)
unfolding bounded_number
bounded_number_within before digits within =
    cond-true (nat_le (number_from before digits) (2 ^ 63)) (Some (number_from before digits)) None (grind (arith, nat_tests))

bounded_case : (n : ℕ) (found : ℕ) (b : Bool) → nat_le n (2 ^ 63) ≡ b → cond b (Some n) None ≡ Some found → (n ≡ found) × (n ≤ 2 ^ 63)
bounded_case n found true within e = (cc, grind (arith, nat_tests))
bounded_case n found false past e = absurd cc

pub bounded_number_is : (before : ℕ) (digits : List ℕ) (found : ℕ) → bounded_number before digits ≡ Some found
    → (number_from before digits ≡ found) × (number_from before digits ≤ 2 ^ 63)
unfolding bounded_number
bounded_number_is before digits found e = bounded_case (number_from before digits) found (nat_le (number_from before digits) (2 ^ 63)) refl e
