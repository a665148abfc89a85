-- How many bytes tokens take, and that a line is no shorter than the canonical text of the tokens that it spells.
use Rattle.std.proofs.Common.{◌≡◌, ℕ, suc, ◌+◌, ◌-◌, ◌*◌, ◌^◌, ◌<◌, ◌≤◌, Bool, true, false, ◌&&◌, List, [], ◌∷◌, ◌++◌, length, take, drop, replicate, IsTrue}
use Rattle.std.proofs.Common.{if◌then◌else◌, refl, sym, ap, subst, ◌∙◌, arith, rules}
use Rattle.std.specs.Fmt.{decimal}
use Rattle.std.specs.List.{list_all}
use Rattle.std.proofs.lemmas.Bool.{and_from, and_parts, or_left, or_right}
use Rattle.std.proofs.lemmas.Bool.Decides.{nat_tests}
use Rattle.std.proofs.lemmas.Fmt.{length-decimal-le}
use Rattle.std.proofs.lemmas.List.{append_assoc, length-append, length-take-le, length-drop, length-replicate}
use Rattle.std.proofs.lemmas.List.Folds.{list_all-append}
use Rattle.std.proofs.Math.Nat.{mul_assoc, mul_comm, pow-succ'}
use Rattle.fixed_words.specs.Texts.{padded, fixed_text}
use Rattle.unit_tree.specs.Canonical.{token_text, tokens_text, spaced, ends_in_word}
use Rattle.unit_tree.specs.Tokens.{is_digit, is_letter, is_word_byte, begins_with, keyword_text, symbol_text, number_from, pointed, IsNumber, IsName, IsWord}
use Rattle.unit_tree.specs.Tokens.{IsSpelling, Ends, BeginsWith, Spells}
use Rattle.unit_tree.specs.declared.token.Symbol.{Symbol}
use Rattle.unit_tree.specs.declared.token.Token.{Token}
use Rattle.unit_tree.specs.declared.token.Token.TheVariants as token
use Rattle.text_tokens.proofs.TableLemmas.{is_word_text, keyword_is_word}

-- Words and numbers begin and end with a byte of a word. Symbols do not.
abbrev pub is_worded : Token → Bool
is_worded (token.Symbol spelled) = false
is_worded _ = true

-- There is one space between two words or numbers, and none between other tokens.
abbrev pub gap : Bool → Bool → ℕ
gap true true = 1
gap _ _ = 0

-- The bytes that tokens take with the spaces between them, after a word or number or not.
abbrev pub width : Bool → List Token → ℕ
width behind [] = 0
width behind (first ∷ others) = gap behind (is_worded first) + (length (token_text first) + width (is_worded first) others)

-- ---- What comes before tokens

-- There is at most one space.
gap_bound : (one other : Bool) → gap one other ≤ 1
gap_bound true true = omega arith
gap_bound true false = omega arith
gap_bound false true = omega arith
gap_bound false false = omega arith

-- A word has at most 32 bytes.
pub word_short : (name : List ℕ) → IsWord name → length name ≤ 32
word_short [] is = absurd is
word_short (first ∷ others) is = omega (arith, is.2)

-- What comes before tokens makes a difference of at most one byte.
pub width_bound : (one other : Bool) (tokens : List Token) → width one tokens ≤ suc (width other tokens)
width_bound one other [] = omega arith
width_bound one other (first ∷ others) = omega (arith, gap_bound one (is_worded first))

-- After a word tokens take the most bytes.
pub width_most : (one : Bool) (tokens : List Token) → width one tokens ≤ width true tokens
width_most true tokens = omega arith
width_most false [] = omega arith
width_most false (first ∷ others) = omega arith

-- ---- The canonical text

-- Two texts with or without a space between them.
joined_length : (both : Bool) (text others : List ℕ)
    → length (if both then text ++ (32 ∷ others) else text ++ others) ≡ gap both true + (length text + length others)
joined_length true text others = omega (arith, length-append text (32 ∷ others))
joined_length false text others = omega (arith, length-append text others)

-- No symbol ends or begins with a byte of a word.
symbol_ends : (symbol : Symbol) → ends_in_word (symbol_text symbol) ≡ false
symbol_ends symbol = search rules

symbol_begins : (symbol : Symbol) (others : List ℕ) → begins_with is_word_byte (spaced (symbol_text symbol) others) ≡ false
symbol_begins symbol others = search rules

-- The last byte of a token's text requires no space that the token does not.
width_behind : (first : Token) (others : List Token) → width (ends_in_word (token_text first)) others ≤ width (is_worded first) others
width_behind (token.Keyword keyword) others = width_most (ends_in_word (keyword_text keyword)) others
width_behind (token.Name name) others = width_most (ends_in_word name) others
width_behind (token.Number digits decimals) others = width_most (ends_in_word (fixed_text decimals digits)) others
width_behind (token.Symbol symbol) others = rw (symbol_ends symbol) (omega arith)

-- A space that both sides require is required by one.
gap_most : (ends begins : Bool) → gap (ends && begins) true ≤ gap ends true
gap_most true true = omega arith
gap_most true false = omega arith
gap_most false begins = omega arith

-- There is none where one side requires none.
no_gap : (ends : Bool) → gap (ends && false) true ≡ 0
no_gap true = refl
no_gap false = refl

-- The first byte of a token's text requires no space that the token does not.
gap_before : (ends : Bool) (first : Token) (others : List ℕ)
    → gap (ends && begins_with is_word_byte (spaced (token_text first) others)) true ≤ gap ends (is_worded first)
gap_before ends (token.Keyword keyword) others = gap_most ends _
gap_before ends (token.Name name) others = gap_most ends _
gap_before ends (token.Number digits decimals) others = gap_most ends _
gap_before ends (token.Symbol symbol) others = rw (symbol_begins symbol others) (omega (arith, no_gap ends))

-- A text and the canonical text of tokens after it.
text_within : (text : List ℕ) (tokens : List Token) → length (spaced text (tokens_text tokens)) ≤ length text + width (ends_in_word text) tokens
text_within text [] = omega (arith, joined_length (ends_in_word text && false) text [], no_gap (ends_in_word text))
text_within text (first ∷ others) =
    let behind = spaced (token_text first) (tokens_text others) in
    let more = text_within (token_text first) others in
    omega (
      arith,
      joined_length (ends_in_word text && begins_with is_word_byte behind) text behind,
      gap_before (ends_in_word text) first (tokens_text others),
      width_behind first others,
    )

-- The canonical text of tokens is no longer than their width.
pub tokens_within : (tokens : List Token) → length (tokens_text tokens) ≤ width false tokens
tokens_within [] = omega arith
tokens_within (first ∷ others) = omega (arith, text_within (token_text first) others, width_behind first others)

-- ---- Numbers

-- One more digit makes room for ten times as many numbers.
room_of_more : (room count : ℕ) → room * 10 ^ suc count ≡ 10 * room * 10 ^ count
room_of_more room count =
    ap (λ power. room * power) (pow-succ' 10 count) ∙ sym (mul_assoc room 10 (10 ^ count)) ∙ ap (λ more. more * 10 ^ count) (mul_comm room 10)

-- Digits make a number below the power of ten of their count.
number_below : (before room : ℕ) (bytes : List ℕ) → IsTrue (list_all is_digit bytes) → before < room → number_from before bytes < room * 10 ^ length bytes
number_below before room [] all within = omega arith
number_below before room (digit ∷ digits) all within =
    let parts = and_parts (is_digit digit) (list_all is_digit digits) all in
    let is = parts.0 in
    let small : digit ≤ 57 = grind (arith, nat_tests) in
    let more = number_below (10 * before + (digit - 48)) (10 * room) digits parts.1 (omega arith) in
    subst (λ all_room. number_from before (digit ∷ digits) < all_room) (sym (room_of_more room (length digits))) more

-- Fractions of the same length are as long with their points.
pointed_length : (one other : List ℕ) → length one ≡ length other → length (pointed one) ≡ length (pointed other)
pointed_length [] [] same = refl
pointed_length [] (byte ∷ bytes) same = absurd (omega arith)
pointed_length (byte ∷ bytes) [] same = absurd (omega arith)
pointed_length (byte ∷ bytes) (next ∷ others) same = omega arith

-- The canonical text of a number is no longer than a text that spells it.
number_within : (digits decimals : ℕ) (text : List ℕ) → IsNumber digits decimals text → length (fixed_text decimals digits) ≤ length text
number_within digits decimals text number =
    let whole = number.whole in
    let fraction = number.fraction in
    let all = list_all-append is_digit whole fraction
    ∙ and_from (list_all is_digit whole) (list_all is_digit fraction) number.is_whole.0 number.is_fraction.0 in
    let below = number_below 0 1 (whole ++ fraction) all (omega arith) in
    let few : digits < 10 ^ length (whole ++ fraction) = omega (arith, number.value) in
    let sum = length-append whole fraction in
    let short : length (decimal digits) ≤ length (whole ++ fraction) =
    length-decimal-le (length (whole ++ fraction)) digits (omega (arith, number.is_whole.1)) few (omega (arith, number.bounded)) in
    let all_digits = padded decimals (decimal digits) in
    let zeros = decimals + 1 - length (decimal digits) in
    let long : length all_digits ≡ zeros + length (decimal digits) =
    omega (arith, length-append (replicate {A = ℕ} zeros 48) (decimal digits), length-replicate {A = ℕ} zeros 48) in
    let place = length all_digits - decimals in
    let behind : length (drop place all_digits) ≡ length fraction = omega (arith, length-drop place all_digits, number.is_fraction.1) in
    omega (
      arith,
      length-append (take place all_digits) (pointed (drop place all_digits)),
      length-take-le place all_digits (omega arith),
      pointed_length (drop place all_digits) fraction behind,
      ap length number.spelled,
      length-append whole (pointed fraction),
      number.is_whole.1,
      number.is_fraction.1,
    )

-- ---- Spelled tokens

-- No spelling of a token is shorter than its canonical text.
spelling_within : (first : Token) (text : List ℕ) → IsSpelling first text → length (token_text first) ≤ length text
spelling_within (token.Keyword keyword) text is = omega (arith, ap length is)
spelling_within (token.Name name) text is = omega (arith, ap length is.0)
spelling_within (token.Number digits decimals) text is = number_within digits decimals text is
spelling_within (token.Symbol symbol) text is = omega (arith, ap length is)

-- Words, numbers and names begin with a byte of a word.
word_begins : (text rest : List ℕ) → is_word_text text ≡ true → begins_with is_word_byte (text ++ rest) ≡ true
word_begins [] rest is = absurd cc
word_begins (byte ∷ bytes) rest is = or_left (is_letter byte) (is_digit byte) (and_parts (is_letter byte) (list_all is_word_byte (byte ∷ bytes)) is).0

number_begins : (whole rest : List ℕ) → IsTrue (list_all is_digit whole) → 0 < length whole → begins_with is_word_byte (whole ++ rest) ≡ true
number_begins [] rest all some = absurd (omega arith)
number_begins (byte ∷ bytes) rest all some = or_right (is_letter byte) (is_digit byte) (and_parts (is_digit byte) (list_all is_digit bytes) all).0

name_begins : (name rest : List ℕ) → IsName name → begins_with is_word_byte (name ++ rest) ≡ true
name_begins [] rest is = absurd is.0
name_begins (byte ∷ bytes) rest is = or_left (is_letter byte) (is_digit byte) is.0.0

-- A text that spells a word or a number begins with such a byte.
spelling_begins : (first : Token) (text rest : List ℕ) → IsSpelling first text → is_worded first ≡ true → begins_with is_word_byte (text ++ rest) ≡ true
spelling_begins (token.Keyword keyword) text rest is worded = rw is (word_begins (keyword_text keyword) rest (keyword_is_word keyword))
spelling_begins (token.Name name) text rest is worded = rw is.0 (name_begins name rest is.1)
spelling_begins (token.Number digits decimals) text rest is worded =
    rw (is.spelled, append_assoc is.whole (pointed is.fraction) rest) (number_begins is.whole (pointed is.fraction ++ rest) is.is_whole.0 is.is_whole.1)
spelling_begins (token.Symbol symbol) text rest is worded = absurd cc

-- No byte of a word follows a word or a number.
ends_apart : (first : Token) (rest : List ℕ) → Ends first rest → is_worded first ≡ true → begins_with is_word_byte rest ≡ false
ends_apart (token.Keyword keyword) rest ends worded = ends
ends_apart (token.Name name) rest ends worded = ends
ends_apart (token.Number digits decimals) rest ends worded = ends.0
ends_apart (token.Symbol symbol) rest ends worded = absurd cc

-- The tokens take no more bytes than the line has, also after a word where the line does not begin with a byte of
-- a word.
record Fits (tokens : List Token) (line : List ℕ) : Type 0 where
  bare : width false tokens ≤ length line
  apart : begins_with is_word_byte line ≡ false → width true tokens ≤ length line

-- The bytes after a token have room for the others.
others_within : (worded : Bool) (others : List Token) (rest : List ℕ) → (worded ≡ true → begins_with is_word_byte rest ≡ false) → Fits others rest
    → width worded others ≤ length rest
others_within true others rest apart fits = fits.apart (apart refl)
others_within false others rest apart fits = fits.bare

-- Where a space is required before a token, the line has a blank.
gap_within : (worded : Bool) (blanks text rest : List ℕ) → (worded ≡ true → begins_with is_word_byte (text ++ rest) ≡ true)
    → begins_with is_word_byte (blanks ++ text ++ rest) ≡ false → gap true worded ≤ length blanks
gap_within false blanks text rest begins apart = omega arith
gap_within true [] text rest begins apart = absurd (cc (begins refl))
gap_within true (blank ∷ blanks) text rest begins apart = omega arith

-- Tokens that fit after a token fit with it.
fits_more : (first : Token) (others : List Token) (line rest : List ℕ) → BeginsWith line first rest → Fits others rest → Fits (first ∷ others) line
fits_more first others line rest is fits =
    let text = spelling_within first is.text is.spelling in
    let behind = others_within (is_worded first) others rest (ends_apart first rest is.ends) fits in
    let sizes : length line ≡ length is.blanks + length is.text + length rest =
    omega (arith, ap length is.cut, length-append (is.blanks ++ is.text) rest, length-append is.blanks is.text) in
    record {
      bare = omega arith;
      apart = λ apart.
          omega (
            arith,
            gap_within (is_worded first) is.blanks is.text rest (spelling_begins first is.text rest is.spelling)
                (ap (begins_with is_word_byte) (sym is.cut) ∙ apart),
          );
    }

-- Tokens that a line spells fit in it.
spelled_fits : (tokens : List Token) (line : List ℕ) → Spells tokens line → Fits tokens line
spelled_fits [] line spelled = record { bare = omega arith; apart = λ apart. omega arith }
spelled_fits (first ∷ others) line spelled = fits_more first others line spelled.0 spelled.1 (spelled_fits others spelled.0 spelled.2)

-- The tokens that a line spells take no more bytes than the line has.
pub line_is_no_shorter : (tokens : List Token) (line : List ℕ) → Spells tokens line → width false tokens ≤ length line
line_is_no_shorter tokens line spelled = (spelled_fits tokens line spelled).bare
