-- Numbers as text: where their digits and their point are, and what reading them digit by digit gives.
use Rattle.std.proofs.Common.{zero, true, replicate, ◌%◌, ◌≡◌, ℕ, suc, ◌+◌, ◌-◌, ◌*◌, ◌^◌, ◌<◌, ◌≤◌, ◌==◌, not, inl, inr, nat_lt, unwrap_or, List, [], ◌∷◌}
use Rattle.std.proofs.Common.{◌++◌, length, get_or, take, drop, IsTrue, Option, Some, None, if◌then◌else◌, refl, sym, ap, ◌∙◌, subst, arith}
use Rattle.std.specs.List.{list_all, position_or_len}
use Rattle.std.specs.Option.{option_and_then}
use Rattle.std.proofs.lemmas.Bool.{and_from, and_parts, le-leb, cases_lt, eqb-true, not-false}
use Rattle.std.proofs.lemmas.Bool.Decides.{nat_tests}
use Rattle.std.proofs.lemmas.List.{append-nil, length-append, drop_more, drop_all, take_at, take_all, take-append-drop, length-take-le}
use Rattle.std.proofs.lemmas.List.Sums.{prefix_len_stops, prefix_len-le-length}
use Rattle.std.specs.Fmt.{decimal}
use Rattle.std.proofs.lemmas.Fmt.{decimal_by_steps}
use Rattle.fixed_words.specs.Digits.{is_digit, number_from, pointed, IsNumber, number_of_digits}

-- a number grows with each digit
pub number_from-ge : (before : ℕ) (bytes : List ℕ) → before ≤ number_from before bytes
number_from-ge before [] = omega arith
number_from-ge before (byte ∷ bytes) = omega (arith, number_from-ge (10 * before + (byte - 48)) bytes)

pub number_from-append : (before : ℕ) (first later : List ℕ) → number_from before (first ++ later) ≡ number_from (number_from before first) later
number_from-append before [] later = refl
number_from-append before (byte ∷ bytes) later = number_from-append (10 * before + (byte - 48)) bytes later

-- one digit, and then the others
pub number_of_digits-cons : (before byte : ℕ) (bytes : List ℕ)
    → number_of_digits before (byte ∷ bytes) ≡ option_and_then (λ n. number_of_digits n bytes) (number_of_digits before (byte ∷ []))
number_of_digits-cons before byte bytes =
    let grows = number_from-ge (10 * before + (byte - 48)) bytes in
    grind (arith, nat_tests)

-- what is known of the digits of a number that is not too large
pub record IsRead (before : ℕ) (bytes : List ℕ) (number : ℕ) : Type 0 where
  pub all_digits : IsTrue (list_all is_digit bytes)
  pub makes : number_from before bytes ≡ number
  pub bounded : number ≤ 2 ^ 63

pub read_from_digits : (before : ℕ) (bytes : List ℕ) (number : ℕ) → number_of_digits before bytes ≡ Some number → IsRead before bytes number
read_from_digits before bytes number is = grind (arith, nat_tests)

pub digits_from_read : (before : ℕ) (bytes : List ℕ) (number : ℕ) → IsRead before bytes number → number_of_digits before bytes ≡ Some number
digits_from_read before bytes number read =
    rw (read.all_digits, read.makes, le-leb number (2 ^ 63) read.bounded)

-- the first digits give no larger number than all of them
pub first_bounded : (before : ℕ) (first later : List ℕ) → number_from before (first ++ later) ≤ 2 ^ 63 → number_from before first ≤ 2 ^ 63
first_bounded before first later within =
    omega (arith, number_from-append before first later, number_from-ge (number_from before first) later)

-- one digit more of those that are left
pub read_one_more : (before : ℕ) (bytes : List ℕ) (place : ℕ) (made wanted : Option ℕ) → place < length bytes
    → made ≡ number_of_digits before (get_or bytes place 0 ∷ []) → number_of_digits before (drop place bytes) ≡ wanted
    → option_and_then (λ n. number_of_digits n (drop (place + 1) bytes)) made ≡ wanted
read_one_more before bytes place made wanted within is same =
    ap (option_and_then (λ n. number_of_digits n (drop (place + 1) bytes))) is
    ∙ sym (number_of_digits-cons before (get_or bytes place 0) (drop (place + 1) bytes))
    ∙ sym (ap (number_of_digits before) (drop_more bytes place 0 within))
    ∙ same

pub read_all : (before : ℕ) (bytes : List ℕ) (place : ℕ) (wanted : Option ℕ) → length bytes ≤ place → before ≤ 2 ^ 63
    → number_of_digits before (drop place bytes) ≡ wanted → Some before ≡ wanted
read_all before bytes place wanted past bounded same =
    sym (digits_from_read before [] before (record { all_digits = refl; makes = refl; bounded = bounded }))
    ∙ sym (ap (number_of_digits before) (drop_all place bytes past))
    ∙ same

-- the place of the point
pub place_from_position : (found : Option ℕ) (place whole : ℕ) → place ≤ whole → found ≡ (if nat_lt place whole then Some place else None)
    → unwrap_or found whole ≡ place
place_from_position found place whole within is = grind (arith, nat_tests)

pub pointed-more : (fraction : List ℕ) → 0 < length fraction → pointed fraction ≡ 46 ∷ fraction
pointed-more [] some = absurd (omega arith)
pointed-more (byte ∷ bytes) some = refl

-- the byte at the place of the first point is a point
point_at : (text : List ℕ) → position_or_len (λ byte. byte == 46) text < length text → get_or text (position_or_len (λ byte. byte == 46) text) 0 ≡ 46
point_at text within =
    let stops = prefix_len_stops (λ byte. not (byte == 46)) text 0 within in
    eqb-true _ 46 (not-false _ stops)

-- the text before the first point, and the text after it
pub split_at_point : (text : List ℕ) (place : ℕ) → place ≡ position_or_len (λ byte. byte == 46) text
    → (place < length text → 0 < length (drop (place + 1) text)) → text ≡ take place text ++ pointed (drop (place + 1) text)
split_at_point text place is more =
    elim (cases_lt place (length text)) [
      | inl within ↦
          sym (take-append-drop place text)
          ∙ ap (λ rest. take place text ++ rest)
          (drop_more text place 0 within
          ∙ ap (λ byte. byte ∷ drop (place + 1) text) (subst (λ n. get_or text n 0 ≡ 46) (sym is) (point_at text (subst (λ n. n < length text) is within)))
          ∙ sym (pointed-more (drop (place + 1) text) (more within)))
      | inr past ↦
          sym (append-nil text)
          ∙ ap (λ whole. whole ++ []) (sym (take_all place text past))
          ∙ ap (λ rest. take place text ++ pointed rest) (sym (drop_all (place + 1) text (omega arith)))
    ]

pub place_within : (text : List ℕ) (place : ℕ) → place ≡ position_or_len (λ byte. byte == 46) text → place ≤ length text
place_within text place is = subst (λ n. n ≤ length text) (sym is) (prefix_len-le-length _ text)

-- no digit is a point
pub place_of_point : (whole fraction : List ℕ) → IsTrue (list_all is_digit whole)
    → position_or_len (λ byte. byte == 46) (whole ++ pointed fraction) ≡ length whole
place_of_point [] [] digits = refl
place_of_point [] (byte ∷ bytes) digits = refl
place_of_point (byte ∷ bytes) fraction digits =
    let parts = and_parts (is_digit byte) (list_all is_digit bytes) digits in
    let others = place_of_point bytes fraction parts.1 in
    let here = parts.0 in
    grind (arith, nat_tests)

-- a text whose parts were read spells their number
pub number_from_parts : (text fraction : List ℕ) (place whole digits : ℕ) → place ≡ position_or_len (λ byte. byte == 46) text
    → fraction ≡ drop (place + 1) text → (place < length text → 0 < length fraction) → 0 < place → place ≤ length text → length fraction ≤ 9
    → number_of_digits 0 (take place text) ≡ Some whole → number_of_digits whole fraction ≡ Some digits → IsNumber digits (length fraction) text
number_from_parts text fraction place whole digits is behind more some within short first_read then_read =
    let first_digits = read_from_digits 0 (take place text) whole first_read in
    let later_digits = read_from_digits whole fraction digits then_read in
    record {
      whole = take place text;
      fraction = fraction;
      spelled =
          split_at_point text place is (λ early. subst (λ rest. 0 < length rest) behind (more early))
          ∙ ap (λ rest. take place text ++ pointed rest) (sym behind);
      is_whole = (first_digits.all_digits, omega (arith, length-take-le place text within));
      is_fraction = (later_digits.all_digits, refl, short);
      value =
          number_from-append 0 (take place text) fraction
          ∙ ap (λ before. number_from before fraction) first_digits.makes
          ∙ later_digits.makes;
      bounded = later_digits.bounded;
    }

drop_behind : (whole fraction : List ℕ) → drop (length whole + 1) (whole ++ pointed fraction) ≡ fraction
drop_behind [] [] = refl
drop_behind [] (byte ∷ bytes) = refl
drop_behind (byte ∷ bytes) fraction =
    let next : suc (length bytes) + 1 ≡ suc (length bytes + 1) = omega arith in
    rw next (drop_behind bytes fraction)

not_last_point : (whole fraction : List ℕ) → length whole + 1 ≡ length (whole ++ pointed fraction) → ⊥
not_last_point whole [] last = omega (arith, length-append whole [])
not_last_point whole (byte ∷ bytes) last = omega (arith, length-append whole (46 ∷ byte ∷ bytes))

-- what reading the parts of a number gives
pub record HasParts (digits decimals place whole : ℕ) (text : List ℕ) : Type 0 where
  pub some : 0 < place
  pub not_last : place + 1 ≡ length text → ⊥
  pub decimals_are : length (drop (place + 1) text) ≡ decimals
  pub few : decimals ≤ 9
  pub first_read : number_of_digits 0 (take place text) ≡ Some whole
  pub then_read : number_of_digits whole (drop (place + 1) text) ≡ Some digits

pub parts_of_number : (digits decimals : ℕ) (text : List ℕ) (number : IsNumber digits decimals text)
    → HasParts digits decimals (position_or_len (λ byte. byte == 46) text) (number_from 0 number.whole) text
parts_of_number digits decimals text number =
    let whole = number.whole in
    let fraction = number.fraction in
    let place_is : position_or_len (λ byte. byte == 46) text ≡ length whole =
    ap (position_or_len (λ byte. byte == 46)) number.spelled ∙ place_of_point whole fraction number.is_whole.0 in
    let all_within : number_from 0 (whole ++ fraction) ≤ 2 ^ 63 = omega (arith, number.value, number.bounded) in
    let first_is : IsRead 0 whole (number_from 0 whole) =
    record { all_digits = number.is_whole.0; makes = refl; bounded = first_bounded 0 whole fraction all_within } in
    let later_is : IsRead (number_from 0 whole) fraction digits =
    record { all_digits = number.is_fraction.0; makes = sym (number_from-append 0 whole fraction) ∙ number.value; bounded = number.bounded } in
    let at_length : HasParts digits decimals (length whole) (number_from 0 whole) (whole ++ pointed fraction) =
    record {
      some = number.is_whole.1;
      not_last = not_last_point whole fraction;
      decimals_are = ap length (drop_behind whole fraction) ∙ number.is_fraction.1;
      few = number.is_fraction.2;
      first_read =
          ap (number_of_digits 0) (take_at whole (pointed fraction) (length whole) refl)
          ∙ digits_from_read 0 whole (number_from 0 whole) first_is;
      then_read =
          ap (number_of_digits (number_from 0 whole)) (drop_behind whole fraction)
          ∙ digits_from_read (number_from 0 whole) fraction digits later_is;
    } in
    subst (λ place. HasParts digits decimals place (number_from 0 whole) text) (sym place_is)
    (subst (HasParts digits decimals (length whole) (number_from 0 whole)) (sym number.spelled) at_length)

-- the same at the place and the fraction that the code has
pub parts_at : (digits decimals : ℕ) (text fraction : List ℕ) (place : ℕ) → place ≡ position_or_len (λ byte. byte == 46) text
    → fraction ≡ drop (place + 1) text → IsNumber digits decimals text
    → (whole : ℕ) × (HasParts digits decimals place whole text) × (length fraction ≡ decimals) × (number_of_digits whole fraction ≡ Some digits)
parts_at digits decimals text fraction place is behind number =
    let parts = subst (λ n. HasParts digits decimals n (number_from 0 number.whole) text) (sym is) (parts_of_number digits decimals text number) in
    (number_from 0 number.whole, parts, ap length behind ∙ parts.decimals_are, ap (number_of_digits (number_from 0 number.whole)) behind ∙ parts.then_read)

-- a text spells at most one number
pub one_number : (one other few many : ℕ) (text : List ℕ) → IsNumber one few text → IsNumber other many text → (one ≡ other) × (few ≡ many)
one_number one other few many text is also =
    let first = parts_of_number one few text is in
    let second = parts_of_number other many text also in
    let wholes = sym first.first_read ∙ second.first_read in
    let same_whole : number_from 0 is.whole ≡ number_from 0 also.whole = ap (λ o. unwrap_or o (number_from 0 is.whole)) wholes in
    let numbers = sym first.then_read ∙ ap (λ n. number_of_digits n (drop (position_or_len (λ byte. byte == 46) text + 1) text)) same_whole
    ∙ second.then_read in
    (ap (λ o. unwrap_or o one) numbers, sym first.decimals_are ∙ second.decimals_are)

digits_end : (before : ℕ) (first : List ℕ) (digit : ℕ) → number_from before (first ++ digit ∷ []) ≡ 10 * number_from before first + (digit - 48)
digits_end before first digit = number_from-append before first (digit ∷ [])

all_digits-append : (first later : List ℕ) → IsTrue (list_all is_digit first) → IsTrue (list_all is_digit later) → IsTrue (list_all is_digit (first ++ later))
all_digits-append [] later all more = more
all_digits-append (byte ∷ bytes) later all more =
    let parts = and_parts (is_digit byte) (list_all is_digit bytes) all in
    and_from (is_digit byte) (list_all is_digit (bytes ++ later)) parts.0 (all_digits-append bytes later parts.1 more)

-- the decimal digits of a number, read again
abbrev pub IsDecimal : ℕ → List ℕ → Type 0
IsDecimal number bytes = IsTrue (list_all is_digit bytes) × (number_from 0 bytes ≡ number)

last_digit : (digit : ℕ) → digit < 10 → is_digit (48 + digit) ≡ true
last_digit digit small = grind (arith, nat_tests)

pub decimal_is : (number : ℕ) → number < 2 ^ 64 → IsDecimal number (decimal number)
decimal_is number fits =
    decimal_by_steps IsDecimal
    (λ n small. (and_from (is_digit (48 + n)) true (last_digit n small) refl, omega arith))
    (λ n digits more is. (
      all_digits-append digits ((48 + n % 10) ∷ []) is.0 (and_from (is_digit (48 + n % 10)) true (last_digit (n % 10) (omega arith)) refl),
      digits_end 0 digits (48 + n % 10) ∙ omega (arith, is.1),
    ))
    number fits

-- zeros before digits change no number
pub zeros_before : (count number : ℕ) (digits : List ℕ) → IsDecimal number digits → IsDecimal number (replicate count 48 ++ digits)
zeros_before zero number digits is = is
zeros_before (suc count) number digits is =
    let rest = zeros_before count number digits is in
    (rest.0, rest.1)

pub all_digits_parts : (first later : List ℕ) → IsTrue (list_all is_digit (first ++ later))
    → IsTrue (list_all is_digit first) × IsTrue (list_all is_digit later)
all_digits_parts [] later all = (refl, all)
all_digits_parts (byte ∷ bytes) later all =
    let here = and_parts (is_digit byte) (list_all is_digit (bytes ++ later)) all in
    let rest = all_digits_parts bytes later here.1 in
    (and_from (is_digit byte) (list_all is_digit bytes) here.0 rest.0, rest.1)
