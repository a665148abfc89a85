-- The token that is found at the beginning of bytes is the one token that they begin with.
use Rattle.std.proofs.Common.{◌≡◌, ℕ, suc, zero, ◌^◌, ◌<◌, ◌≤◌, Bool, true, false, not, cond, ◌&&◌, List, [], ◌∷◌, ◌++◌, length, take, drop, refl, ap, sym, ◌∙◌}
use Rattle.std.proofs.Common.{arith, ◌==◌, nat_lt, Option, Some, None, append_assoc, option_and_then, IsTrue}
use Rattle.std.specs.List.{list_all, prefix_len}
use Rattle.std.specs.Option.{option_map, option_or}
use Rattle.std.proofs.lemmas.Bool.{and_parts, and_from, and_left, and_right, or_parts, or_left, cond-true, cond-false}
use Rattle.std.proofs.lemmas.Bool.Decides.{nat_tests}
use Rattle.std.proofs.lemmas.List.{drop_all, take_at, drop_at, take-append-drop, length-append, length-take, length-drop, nil_from_length, append-nil}
use Rattle.std.proofs.lemmas.List.Folds.{length-prefix_len}
use Rattle.unit_tree.specs.Tokens.{is_blank, is_digit, is_letter, is_word_byte, keyword_text, symbol_text, number_from, pointed, begins_with}
use Rattle.unit_tree.specs.Tokens.{begins_with_fraction, IsWord, IsReserved, IsNumber, IsSpelling, IsLongest, Ends, BeginsWith, Spells}
use Rattle.unit_tree.specs.declared.token.Keyword.{Keyword}
use Rattle.unit_tree.specs.declared.token.Symbol.{Symbol}
use Rattle.unit_tree.specs.declared.token.Token.{Token}
use Rattle.unit_tree.specs.declared.token.Token.TheVariants as token
use Rattle.text_tokens.specs.Scanning.{keyword_of, symbol_of, named, word_token, word_at, bounded_number, fraction_of, number_token, number_at, symbol_token}
use Rattle.text_tokens.specs.Scanning.{symbol_at, token_at, with_rest, TokensAre}
use Rattle.text_tokens.proofs.FrontLemmas.{front_passes, front_stops, prefix_len-none, prefix_len-front, prefix_len-some}
use Rattle.text_tokens.proofs.NumberLemmas.{bounded_number_within, bounded_number_is}
use Rattle.text_tokens.proofs.TableLemmas.{keyword_of-keyword_text, keyword_of_is, keyword_of_none, is_word_text, keyword_is_word, symbol_of-symbol_text}
use Rattle.text_tokens.proofs.TableLemmas.{symbol_of_is, is_symbol_text, symbol_is_text}
use Rattle.list_laws.proofs.Truths.{not_true}
use Rattle.fixed_words.proofs.Numbers.{number_from-append, number_from-ge, pointed-more}

-- ---- what is spelled is read

word_front : (text rest : List ℕ) → list_all is_word_byte text ≡ true → begins_with is_word_byte rest ≡ false
    → word_at (text ++ rest) ≡ with_rest (word_token text) rest
unfolding word_at
word_front text rest passes stops =
    let n = prefix_len-front is_word_byte text rest passes stops in
    rw (n, take_at text rest (length text) refl, drop_at text rest (length text) refl) refl

token_at-word : (text rest : List ℕ) → is_word_text text ≡ true → begins_with is_word_byte rest ≡ false
    → token_at (text ++ rest) ≡ with_rest (word_token text) rest
unfolding token_at
token_at-word [] rest passes stops = absurd cc
token_at-word (x ∷ xs) rest passes stops =
    let parts = and_parts (is_letter x) (list_all is_word_byte (x ∷ xs)) passes in
    cond-true (is_letter x) (word_at (x ∷ xs ++ rest)) (cond (is_digit x) (number_at (x ∷ xs ++ rest)) (symbol_at (x ∷ xs ++ rest))) parts.0
    ∙ word_front (x ∷ xs) rest parts.1 stops

keyword_again : (keyword : Keyword) (rest : List ℕ) → begins_with is_word_byte rest ≡ false
    → token_at (keyword_text keyword ++ rest) ≡ Some (token.Keyword keyword, rest)
keyword_again keyword rest stops =
    token_at-word (keyword_text keyword) rest (keyword_is_word keyword) stops
    ∙ ap (λ k. with_rest (named (keyword_text keyword) k) rest) (keyword_of-keyword_text keyword)

not_reserved : (text : List ℕ) (found : Option Keyword) → keyword_of text ≡ found → (IsReserved text → ⊥) → keyword_of text ≡ None
not_reserved text None e free = e
not_reserved text (Some keyword) e free = absurd (free (keyword, keyword_of_is text keyword e))

IsWord-text : (text : List ℕ) → IsWord text → (is_word_text text ≡ true) × (length text ≤ 32)
IsWord-text [] word = absurd word
IsWord-text (x ∷ xs) word =
    (and_from (is_letter x) _ word.0 (and_from (is_word_byte x) _ (or_left (is_letter x) (is_digit x) word.0) word.1), omega (arith, word.2))

name_again : (name rest : List ℕ) → IsWord name → (IsReserved name → ⊥) → begins_with is_word_byte rest ≡ false
    → token_at (name ++ rest) ≡ Some (token.Name name, rest)
name_again name rest word free stops =
    let is = IsWord-text name word in
    let short : length name ≤ 32 = is.1 in
    let test : nat_lt 32 (length name) ≡ false = grind (arith, nat_tests) in
    token_at-word name rest is.0 stops ∙ ap (λ k. with_rest (named name k) rest) (not_reserved name (keyword_of name) refl free)
    ∙ ap (λ t. with_rest t rest) (cond-false (nat_lt 32 (length name)) None (Some (token.Name name)) test)

-- no digit begins where no byte of a word does
no_digit : (bytes : List ℕ) → begins_with is_word_byte bytes ≡ false → begins_with is_digit bytes ≡ false
no_digit [] stops = refl
no_digit (x ∷ xs) stops = (or_parts (is_letter x) (is_digit x) stops).1

no_digit_pointed : (fraction rest : List ℕ) → begins_with is_word_byte rest ≡ false → begins_with is_digit (pointed fraction ++ rest) ≡ false
no_digit_pointed [] rest stops = no_digit rest stops
no_digit_pointed (x ∷ xs) rest stops = refl

fraction_of-none_case : (x : ℕ) (xs : List ℕ) (b : Bool) → (x == 46) ≡ b → ((x == 46) && begins_with is_digit xs) ≡ false
    → ◌≡◌ {A = List ℕ × List ℕ}
    (cond b (cond (prefix_len is_digit xs == 0) ([], x ∷ xs) (take (prefix_len is_digit xs) xs, drop (prefix_len is_digit xs) xs)) ([], x ∷ xs))
    ([], x ∷ xs)
fraction_of-none_case x xs true point none =
    let stops : begins_with is_digit xs ≡ false = rw point at none in
    rw (prefix_len-none is_digit xs stops) refl
fraction_of-none_case x xs false other none = refl

fraction_of-none : (bytes : List ℕ) → begins_with_fraction bytes ≡ false → fraction_of bytes ≡ ([], bytes)
fraction_of-none [] none = refl
fraction_of-none (x ∷ xs) none = fraction_of-none_case x xs (x == 46) refl none

nonzero : (n : ℕ) → (suc n == 0) ≡ false
nonzero n = grind (arith, nat_tests)

fraction_again : (fraction rest : List ℕ) → list_all is_digit fraction ≡ true → begins_with is_word_byte rest ≡ false
    → (length fraction ≡ 0 → begins_with_fraction rest ≡ false) → fraction_of (pointed fraction ++ rest) ≡ (fraction, rest)
fraction_again [] rest digits stops none = fraction_of-none rest (none refl)
fraction_again (x ∷ xs) rest digits stops none =
    let n = prefix_len-front is_digit (x ∷ xs) rest digits (no_digit rest stops) in
    rw (n, take_at (x ∷ xs) rest (length (x ∷ xs)) refl, drop_at (x ∷ xs) rest (length (x ∷ xs)) refl, nonzero (length xs)) refl

number_token_again : (whole fraction : List ℕ) (digits : ℕ) → length fraction ≤ 9 → number_from 0 (whole ++ fraction) ≡ digits → digits ≤ 2 ^ 63
    → number_token whole fraction ≡ Some (token.Number digits (length fraction))
unfolding number_token
number_token_again whole fraction digits short value bounded =
    let both : number_from (number_from 0 whole) fraction ≡ digits = sym (number_from-append 0 whole fraction) ∙ value in
    let grows = number_from-ge (number_from 0 whole) fraction in
    let first = bounded_number_within 0 whole (omega arith) in
    let second = bounded_number_within (number_from 0 whole) fraction (omega arith) in
    let test : nat_lt 9 (length fraction) ≡ false = grind (arith, nat_tests) in
    rw (test, first, second, both) refl

number_at_again : (whole fraction rest : List ℕ) (found : Option Token) → list_all is_digit whole ≡ true → list_all is_digit fraction ≡ true
    → begins_with is_word_byte rest ≡ false → (length fraction ≡ 0 → begins_with_fraction rest ≡ false) → number_token whole fraction ≡ found
    → number_at (whole ++ (pointed fraction ++ rest)) ≡ with_rest found rest
unfolding number_at
number_at_again whole fraction rest found digits decimals stops none e =
    let behind = pointed fraction ++ rest in
    let n = prefix_len-front is_digit whole behind digits (no_digit_pointed fraction rest stops) in
    rw (n, take_at whole behind (length whole) refl, drop_at whole behind (length whole) refl, fraction_again fraction rest decimals stops none, stops, e) refl

not_letter : (x : ℕ) → is_digit x ≡ true → is_letter x ≡ false
not_letter x digit = grind (arith, nat_tests)

token_at-digit : (bytes : List ℕ) → begins_with is_digit bytes ≡ true → token_at bytes ≡ number_at bytes
unfolding token_at
token_at-digit [] digit = absurd cc
token_at-digit (x ∷ xs) digit = rw (not_letter x digit, digit) refl

begins_digit : (whole rest : List ℕ) → list_all is_digit whole ≡ true → 0 < length whole → begins_with is_digit (whole ++ rest) ≡ true
begins_digit [] rest digits some = absurd (omega arith)
begins_digit (x ∷ xs) rest digits some = (and_parts (is_digit x) (list_all is_digit xs) digits).0

number_again : (digits decimals : ℕ) (text rest : List ℕ) → IsNumber digits decimals text → begins_with is_word_byte rest ≡ false
    → (decimals ≡ 0 → begins_with_fraction rest ≡ false) → token_at (text ++ rest) ≡ Some (token.Number digits decimals, rest)
number_again digits decimals text rest is stops none =
    let bytes : text ++ rest ≡ is.whole ++ (pointed is.fraction ++ rest) = ap (λ t. t ++ rest) is.spelled ∙ append_assoc is.whole (pointed is.fraction) rest in
    let read = number_token_again is.whole is.fraction digits (omega (arith, is.is_fraction.1, is.is_fraction.2)) is.value is.bounded in
    rw (bytes, token_at-digit (is.whole ++ (pointed is.fraction ++ rest)) (begins_digit is.whole (pointed is.fraction ++ rest) is.is_whole.0 is.is_whole.1))
    (number_at_again is.whole is.fraction rest (Some (token.Number digits (length is.fraction))) is.is_whole.0 is.is_fraction.0 stops
    (λ e. none (sym is.is_fraction.1 ∙ e)) read
    ∙ ap (λ d. Some (token.Number digits d, rest)) is.is_fraction.1)

-- ---- symbols

token_at-sign : (x : ℕ) (xs : List ℕ) → is_letter x ≡ false → is_digit x ≡ false → token_at (x ∷ xs) ≡ symbol_at (x ∷ xs)
unfolding token_at
token_at-sign x xs letter digit = rw (letter, digit) refl

-- what is known of a symbol's first byte
abbrev is_sign : ℕ → Bool
is_sign x = not (is_blank x) && not (is_letter x) && not (is_digit x)

record IsSign (x : ℕ) : Type 0 where
  blank : is_blank x ≡ false
  letter : is_letter x ≡ false
  digit : is_digit x ≡ false

IsSign-from : (x : ℕ) → is_sign x ≡ true → IsSign x
IsSign-from x sign =
    let parts = and_parts (not (is_blank x) && not (is_letter x)) (not (is_digit x)) sign in
    let fronts = and_parts (not (is_blank x)) (not (is_letter x)) parts.0 in
    record { blank = not_true (is_blank x) fronts.0; letter = not_true (is_letter x) fronts.1; digit = not_true (is_digit x) parts.1 }

symbol_short : (symbol other : Symbol) (x y : ℕ) (ys : List ℕ) (found : Option Symbol) → x ∷ [] ≡ symbol_text symbol → IsLongest symbol (y ∷ ys)
    → symbol_of (x ∷ y ∷ []) ≡ found → found ≡ None
symbol_short symbol other x y ys None text longest e = refl
symbol_short symbol other x y ys (Some longer) text longest e =
    let spelled : x ∷ y ∷ [] ≡ symbol_text longer = symbol_of_is (x ∷ y ∷ []) longer e in
    let same : symbol_text symbol ++ (y ∷ ys) ≡ symbol_text longer ++ ys = rw (← text, ← spelled) refl in
    absurd (omega (arith, longest longer ys same, ap length text, ap length spelled))

symbol_again_as : (symbol : Symbol) (text rest : List ℕ) → text ≡ symbol_text symbol → is_symbol_text text ≡ true → symbol_of text ≡ Some symbol
    → IsLongest symbol rest → token_at (text ++ rest) ≡ Some (token.Symbol symbol, rest)
unfolding symbol_at
symbol_again_as symbol [] rest spelled is read longest = absurd cc
symbol_again_as symbol (x ∷ []) [] spelled is read longest =
    let sign = IsSign-from x is in
    token_at-sign x [] sign.letter sign.digit ∙ rw read refl
symbol_again_as symbol (x ∷ []) (y ∷ ys) spelled is read longest =
    let sign = IsSign-from x is in
    let none : symbol_of (x ∷ y ∷ []) ≡ None = symbol_short symbol symbol x y ys (symbol_of (x ∷ y ∷ [])) spelled longest refl in
    token_at-sign x (y ∷ ys) sign.letter sign.digit ∙ rw (none, read) refl
symbol_again_as symbol (x ∷ y ∷ []) rest spelled is read longest =
    let sign = IsSign-from x (and_parts (is_sign x) (not (is_blank y)) is).0 in
    token_at-sign x (y ∷ rest) sign.letter sign.digit ∙ rw read refl
symbol_again_as symbol (x ∷ y ∷ z ∷ others) rest spelled is read longest = absurd cc

symbol_again : (symbol : Symbol) (rest : List ℕ) → IsLongest symbol rest → token_at (symbol_text symbol ++ rest) ≡ Some (token.Symbol symbol, rest)
symbol_again symbol rest longest =
    symbol_again_as symbol (symbol_text symbol) rest refl (symbol_is_text symbol) (symbol_of-symbol_text symbol) longest

-- ---- every token

pub token_again : (first : Token) (text rest : List ℕ) → IsSpelling first text → Ends first rest → token_at (text ++ rest) ≡ Some (first, rest)
token_again (token.Keyword keyword) text rest spelled ends = rw spelled (keyword_again keyword rest ends)
token_again (token.Name name) text rest spelled ends = rw spelled.0 (name_again name rest spelled.1.0 spelled.1.1 ends)
token_again (token.Number digits decimals) text rest spelled ends = number_again digits decimals text rest spelled ends.0 ends.1
token_again (token.Symbol symbol) text rest spelled ends = rw spelled (symbol_again symbol rest ends)

-- a token's first byte is not a blank
starts_apart : (test : ℕ → Bool) (text : List ℕ) → ((x : ℕ) → test x ≡ true → is_blank x ≡ false) → begins_with test text ≡ true → (rest : List ℕ)
    → begins_with is_blank (text ++ rest) ≡ false
starts_apart test [] apart begins rest = absurd cc
starts_apart test (x ∷ xs) apart begins rest = apart x begins

letter_apart : (x : ℕ) → is_letter x ≡ true → is_blank x ≡ false
letter_apart x letter = grind (arith, nat_tests)

digit_apart : (x : ℕ) → is_digit x ≡ true → is_blank x ≡ false
digit_apart x digit = grind (arith, nat_tests)

sign_apart : (text rest : List ℕ) → is_symbol_text text ≡ true → begins_with is_blank (text ++ rest) ≡ false
sign_apart [] rest is = absurd cc
sign_apart (x ∷ []) rest is = (IsSign-from x is).blank
sign_apart (x ∷ y ∷ []) rest is = (IsSign-from x (and_parts (is_sign x) (not (is_blank y)) is).0).blank
sign_apart (x ∷ y ∷ z ∷ others) rest is = absurd cc

word_apart : (text rest : List ℕ) → is_word_text text ≡ true → begins_with is_blank (text ++ rest) ≡ false
word_apart text rest is =
    starts_apart is_letter text letter_apart (and_parts (begins_with is_letter text) (list_all is_word_byte text) is).0 rest

number_apart : (digits decimals : ℕ) (text rest : List ℕ) → IsNumber digits decimals text → begins_with is_blank (text ++ rest) ≡ false
number_apart digits decimals text rest is =
    rw is.spelled
    (starts_apart is_digit (is.whole ++ pointed is.fraction) digit_apart (begins_digit is.whole (pointed is.fraction) is.is_whole.0 is.is_whole.1) rest)

token_apart : (first : Token) (text rest : List ℕ) → IsSpelling first text → begins_with is_blank (text ++ rest) ≡ false
token_apart (token.Keyword keyword) text rest spelled = rw spelled (word_apart (keyword_text keyword) rest (keyword_is_word keyword))
token_apart (token.Name name) text rest spelled = rw spelled.0 (word_apart name rest (IsWord-text name spelled.1.0).0)
token_apart (token.Number digits decimals) text rest spelled = number_apart digits decimals text rest spelled
token_apart (token.Symbol symbol) text rest spelled = rw spelled (sign_apart (symbol_text symbol) rest (symbol_is_text symbol))

-- the bytes after the blanks
abbrev pub behind_blanks : List ℕ → List ℕ
behind_blanks line = drop (prefix_len is_blank line) line

pub first_again : (line : List ℕ) (first : Token) (rest : List ℕ) → BeginsWith line first rest → token_at (behind_blanks line) ≡ Some (first, rest)
first_again line first rest is =
    let behind = is.text ++ rest in
    let n = prefix_len-front is_blank is.blanks behind is.are_blank (token_apart first is.text rest is.spelling) in
    let cut : line ≡ is.blanks ++ behind = is.cut ∙ append_assoc is.blanks is.text rest in
    rw (cut, n, drop_at is.blanks behind (length is.blanks) refl) (token_again first is.text rest is.spelling is.ends)

-- ---- what is read is spelled

-- the bytes begin with the token, with no blank before it
record Front (bytes : List ℕ) (first : Token) (rest : List ℕ) : Type 0 where
  text : List ℕ
  cut : bytes ≡ text ++ rest
  spelling : IsSpelling first text
  ends : Ends first rest
  some : 0 < length text

with_rest_is : {X Y : Type 0} (found : Option X) (behind : Y) (x : X) (rest : Y) → with_rest found behind ≡ Some (x, rest) → (found ≡ Some x) × (behind ≡ rest)
with_rest_is None behind x rest e = absurd cc
with_rest_is {X} {Y} (Some y) behind x rest e =
    let pairs : ◌≡◌ {A = X × Y} (y, behind) (x, rest) = cc in
    (ap (λ (p : X × Y). Some (p.0)) pairs, ap (λ (p : X × Y). p.1) pairs)

-- a word is its token's text
name_case : (text : List ℕ) (first : Token) (rest : List ℕ) (long : Bool) → nat_lt 32 (length text) ≡ long → IsTrue (is_word_text text)
    → (IsReserved text → ⊥) → begins_with is_word_byte rest ≡ false → cond long None (Some (token.Name text)) ≡ Some first
    → IsSpelling first text × Ends first rest
name_case text first rest true long word free stops e = absurd cc
name_case text first rest false short word free stops e =
    let same : token.Name text ≡ first = cc in
    let within : length text ≤ 32 = grind (arith, nat_tests) in
    rw (← same) ((refl, (word_is text within word, free)), stops)
  where
    word_is : (text : List ℕ) → length text ≤ 32 → IsTrue (is_word_text text) → IsWord text
    word_is [] within word = absurd cc
    word_is (x ∷ xs) within word =
        let parts = and_parts (is_letter x) (list_all is_word_byte (x ∷ xs)) word in
        (parts.0, (and_parts (is_word_byte x) (list_all is_word_byte xs) parts.1).1, omega arith)

named_is : (text : List ℕ) (first : Token) (rest : List ℕ) (found : Option Keyword) → keyword_of text ≡ found → IsTrue (is_word_text text)
    → begins_with is_word_byte rest ≡ false → named text found ≡ Some first → IsSpelling first text × Ends first rest
named_is text first rest (Some keyword) read word stops e =
    let same : token.Keyword keyword ≡ first = cc in
    rw (← same) (keyword_of_is text keyword read, stops)
named_is text first rest None read word stops e =
    name_case text first rest (nat_lt 32 (length text)) refl word (keyword_of_none text read) stops e

word_at_is : (x : ℕ) (xs : List ℕ) (first : Token) (rest : List ℕ) → is_letter x ≡ true → word_at (x ∷ xs) ≡ Some (first, rest) → Front (x ∷ xs) first rest
unfolding word_at
word_at_is x xs first rest letter e =
    let n = prefix_len is_word_byte (x ∷ xs) in
    let size = prefix_len-some is_word_byte x xs (or_left (is_letter x) (is_digit x) letter) in
    let text : take n (x ∷ xs) ≡ x ∷ take (prefix_len is_word_byte xs) xs = rw size refl in
    let parts = with_rest_is (word_token (take n (x ∷ xs))) (drop n (x ∷ xs)) first rest e in
    let word : is_word_text (take n (x ∷ xs)) ≡ true =
    and_from (begins_with is_letter (take n (x ∷ xs))) (list_all is_word_byte (take n (x ∷ xs))) (rw text letter) (front_passes is_word_byte (x ∷ xs)) in
    let stops : begins_with is_word_byte rest ≡ false = rw (← parts.1) (front_stops is_word_byte (x ∷ xs)) in
    let is = named_is (take n (x ∷ xs)) first rest (keyword_of (take n (x ∷ xs))) refl word stops parts.0 in
    record { text = take n (x ∷ xs); cut = rw (← parts.1) (sym (take-append-drop n (x ∷ xs))); spelling = is.0; ends = is.1; some = rw text (omega arith) }

-- a fraction and the rest, as they are cut
record FractionIs (bytes digits rest : List ℕ) : Type 0 where
  cut : bytes ≡ pointed digits ++ rest
  are_digits : list_all is_digit digits ≡ true
  none : length digits ≡ 0 → begins_with_fraction rest ≡ false

fraction_digits_case : (x : ℕ) (xs : List ℕ) (b : Bool) → x ≡ 46 → (prefix_len is_digit xs == 0) ≡ b
    → let cut : List ℕ × List ℕ = cond b ([], x ∷ xs) (take (prefix_len is_digit xs) xs, drop (prefix_len is_digit xs) xs) in FractionIs (x ∷ xs) cut.0 cut.1
fraction_digits_case x xs true point e =
    let n : prefix_len is_digit xs ≡ 0 = grind (arith, nat_tests) in
    let stops : begins_with is_digit (drop (prefix_len is_digit xs) xs) ≡ false = front_stops is_digit xs in
    let here : begins_with is_digit xs ≡ false = rw n at stops in
    record { cut = refl; are_digits = refl; none = λ _. and_right (x == 46) (begins_with is_digit xs) here }
fraction_digits_case x xs false point e =
    let n : 0 < prefix_len is_digit xs = grind (arith, nat_tests) in
    let size = length-prefix_len is_digit xs in
    let text = pointed-more (take (prefix_len is_digit xs) xs) (omega arith) in
    record {
      cut = rw (text, point) (ap (λ (t : List ℕ). 46 ∷ t) (sym (take-append-drop (prefix_len is_digit xs) xs)));
      are_digits =
          front_passes is_digit xs;
      none = λ z. absurd (omega arith);
    }

fraction_is_case : (x : ℕ) (xs : List ℕ) (b : Bool) → (x == 46) ≡ b
    → let cut : List ℕ × List ℕ =
    cond b (cond (prefix_len is_digit xs == 0) ([], x ∷ xs) (take (prefix_len is_digit xs) xs, drop (prefix_len is_digit xs) xs)) ([], x ∷ xs) in
    FractionIs (x ∷ xs) cut.0 cut.1
fraction_is_case x xs true e = fraction_digits_case x xs (prefix_len is_digit xs == 0) (grind (arith, nat_tests)) refl
fraction_is_case x xs false e = record { cut = refl; are_digits = refl; none = λ _. and_left (x == 46) (begins_with is_digit xs) e }

fraction_is : (bytes : List ℕ) → FractionIs bytes (fraction_of bytes).0 (fraction_of bytes).1
fraction_is [] = record { cut = refl; are_digits = refl; none = λ _. refl }
fraction_is (x ∷ xs) = fraction_is_case x xs (x == 46) refl

-- a number is its token's digits
record NumberIs (whole fraction : List ℕ) (first : Token) : Type 0 where
  digits : ℕ
  is : token.Number digits (length fraction) ≡ first
  value : number_from 0 (whole ++ fraction) ≡ digits
  bounded : digits ≤ 2 ^ 63
  short : length fraction ≤ 9

number_token_second : (whole fraction : List ℕ) (first : Token) (found : Option ℕ) → bounded_number (number_from 0 whole) fraction ≡ found
    → length fraction ≤ 9 → option_and_then (λ digits. Some (token.Number digits (length fraction))) found ≡ Some first → NumberIs whole fraction first
number_token_second whole fraction first None read short e = absurd cc
number_token_second whole fraction first (Some digits) read short e =
    let is = bounded_number_is (number_from 0 whole) fraction digits read in
    record { digits = digits; is = cc; value = number_from-append 0 whole fraction ∙ is.0; bounded = omega (arith, is.0, is.1); short = short }

number_token_first : (whole fraction : List ℕ) (first : Token) (found : Option ℕ) → bounded_number 0 whole ≡ found → length fraction ≤ 9
    → option_and_then (λ before. option_and_then (λ digits. Some (token.Number digits (length fraction))) (bounded_number before fraction)) found ≡ Some first
    → NumberIs whole fraction first
number_token_first whole fraction first None read short e = absurd cc
number_token_first whole fraction first (Some before) read short e =
    let is : before ≡ number_from 0 whole = sym (bounded_number_is 0 whole before read).0 in
    let again : option_and_then (λ digits. Some (token.Number digits (length fraction))) (bounded_number (number_from 0 whole) fraction) ≡ Some first =
    rw (← is) e in
    number_token_second whole fraction first (bounded_number (number_from 0 whole) fraction) refl short again

number_token_case : (whole fraction : List ℕ) (first : Token) (long : Bool) → nat_lt 9 (length fraction) ≡ long
    → cond long None
    (option_and_then (λ before. option_and_then (λ digits. Some (token.Number digits (length fraction))) (bounded_number before fraction))
    (bounded_number 0 whole))
    ≡ Some first
    → NumberIs whole fraction first
number_token_case whole fraction first true long e = absurd cc
number_token_case whole fraction first false short e = number_token_first whole fraction first (bounded_number 0 whole) refl (grind (arith, nat_tests)) e

number_token_is : (whole fraction : List ℕ) (first : Token) → number_token whole fraction ≡ Some first → NumberIs whole fraction first
unfolding number_token
number_token_is whole fraction first e = number_token_case whole fraction first (nat_lt 9 (length fraction)) refl e

number_at_case : (x : ℕ) (xs whole behind fraction after : List ℕ) (first : Token) (rest : List ℕ) (stops : Bool) → x ∷ xs ≡ whole ++ behind
    → list_all is_digit whole ≡ true → 0 < length whole → FractionIs behind fraction after → begins_with is_word_byte after ≡ stops
    → cond stops None (with_rest (number_token whole fraction) after) ≡ Some (first, rest) → Front (x ∷ xs) first rest
number_at_case x xs whole behind fraction after first rest true cut digits some is stops e = absurd cc
number_at_case x xs whole behind fraction after first rest false cut digits some is stops e =
    let parts = with_rest_is (number_token whole fraction) after first rest e in
    let number = number_token_is whole fraction first parts.0 in
    let joined : x ∷ xs ≡ (whole ++ pointed fraction) ++ rest = cut ∙ ap (λ (t : List ℕ). whole ++ t) is.cut
    ∙ sym (append_assoc whole (pointed fraction) after) ∙ ap (λ (t : List ℕ). (whole ++ pointed fraction) ++ t) parts.1 in
    let as_number : IsNumber number.digits (length fraction) (whole ++ pointed fraction) =
    record {
      whole = whole;
      fraction = fraction;
      spelled = refl;
      is_whole = (digits, some);
      is_fraction = (is.are_digits, refl, number.short);
      value =
          number.value;
      bounded = number.bounded;
    } in
    let last : begins_with is_word_byte rest ≡ false = rw (← parts.1) stops in
    let none : length fraction ≡ 0 → begins_with_fraction rest ≡ false = rw (← parts.1) is.none in
    record {
      text = whole ++ pointed fraction;
      cut = joined;
      spelling = rw (← number.is) as_number;
      ends = rw (← number.is) (last, none);
      some =
          omega (arith, length-append whole (pointed fraction));
    }

number_at_is : (x : ℕ) (xs : List ℕ) (first : Token) (rest : List ℕ) → is_digit x ≡ true → number_at (x ∷ xs) ≡ Some (first, rest) → Front (x ∷ xs) first rest
unfolding number_at
number_at_is x xs first rest digit e =
    let n = prefix_len is_digit (x ∷ xs) in
    let size = prefix_len-some is_digit x xs digit in
    let behind = fraction_of (drop n (x ∷ xs)) in
    number_at_case x xs (take n (x ∷ xs)) (drop n (x ∷ xs)) behind.0 behind.1 first rest (begins_with is_word_byte behind.1)
    (sym (take-append-drop n (x ∷ xs))) (front_passes is_digit (x ∷ xs)) (omega (arith, length-prefix_len is_digit (x ∷ xs), size))
    (fraction_is (drop n (x ∷ xs))) refl e

pub symbol_length : (text : List ℕ) → is_symbol_text text ≡ true → (0 < length text) × (length text ≤ 2)
symbol_length [] is = absurd cc
symbol_length (x ∷ []) is = (omega arith, omega arith)
symbol_length (x ∷ y ∷ []) is = (omega arith, omega arith)
symbol_length (x ∷ y ∷ z ∷ others) is = absurd cc

longest_pair : (symbol : Symbol) (bytes rest : List ℕ) → 0 < length bytes → take 2 bytes ≡ symbol_text symbol → drop 2 bytes ≡ rest → IsLongest symbol rest
longest_pair symbol bytes rest some text behind other after same =
    let short = symbol_length (symbol_text other) (symbol_is_text other) in
    omega (
      arith,
      short.1,
      ap length text,
      ap length behind,
      ap length same,
      length-take 2 bytes,
      length-drop 2 bytes,
      length-append (symbol_text symbol) rest,
      length-append (symbol_text other) after,
    )

longest_single_case : (x : ℕ) (xs : List ℕ) (other : Symbol) (after text : List ℕ) → text ≡ symbol_text other → is_symbol_text text ≡ true
    → symbol_of (take 2 (x ∷ xs)) ≡ None → x ∷ xs ≡ text ++ after → length text ≤ 1
longest_single_case x xs other after [] spelled is none same = omega arith
longest_single_case x xs other after (a ∷ []) spelled is none same = omega arith
longest_single_case x xs other after (a ∷ b ∷ []) spelled is none same =
    let pair : take 2 (x ∷ xs) ≡ a ∷ b ∷ [] = ap (λ (t : List ℕ). take 2 t) same in
    let found : symbol_of (take 2 (x ∷ xs)) ≡ Some other = rw (pair, spelled) (symbol_of-symbol_text other) in
    absurd cc
longest_single_case x xs other after (a ∷ b ∷ d ∷ others) spelled is none same = absurd cc

longest_single : (symbol : Symbol) (x : ℕ) (xs : List ℕ) → x ∷ [] ≡ symbol_text symbol → symbol_of (take 2 (x ∷ xs)) ≡ None → IsLongest symbol xs
longest_single symbol x xs text none other after same =
    let line : x ∷ xs ≡ symbol_text other ++ after = ap (λ (t : List ℕ). t ++ xs) text ∙ same in
    let short = longest_single_case x xs other after (symbol_text other) refl (symbol_is_text other) none line in
    omega (arith, short, ap length text)

symbol_at_second : (x : ℕ) (xs : List ℕ) (first : Token) (rest : List ℕ) (single : Option Symbol) → symbol_of (take 2 (x ∷ xs)) ≡ None
    → symbol_of (x ∷ []) ≡ single → with_rest (symbol_token single) xs ≡ Some (first, rest) → Front (x ∷ xs) first rest
symbol_at_second x xs first rest None none read e = absurd cc
symbol_at_second x xs first rest (Some symbol) none read e =
    let parts = with_rest_is (Some (token.Symbol symbol)) xs first rest e in
    let is : token.Symbol symbol ≡ first = cc in
    let text = symbol_of_is (x ∷ []) symbol read in
    record {
      text = x ∷ [];
      cut = ap (λ (t : List ℕ). x ∷ t) parts.1;
      spelling = rw (← is) text;
      ends =
          rw (← is, ← parts.1) (longest_single symbol x xs text none);
      some = omega arith;
    }

symbol_at_case : (x : ℕ) (xs : List ℕ) (first : Token) (rest : List ℕ) (pair : Option Symbol) → symbol_of (take 2 (x ∷ xs)) ≡ pair
    → option_or (with_rest (symbol_token pair) (drop 2 (x ∷ xs))) (with_rest (symbol_token (symbol_of (x ∷ []))) xs) ≡ Some (first, rest)
    → Front (x ∷ xs) first rest
symbol_at_case x xs first rest None read e = symbol_at_second x xs first rest (symbol_of (x ∷ [])) read refl e
symbol_at_case x xs first rest (Some symbol) read e =
    let parts = with_rest_is (Some (token.Symbol symbol)) (drop 2 (x ∷ xs)) first rest e in
    let is : token.Symbol symbol ≡ first = cc in
    let text = symbol_of_is (take 2 (x ∷ xs)) symbol read in
    record {
      text = take 2 (x ∷ xs);
      cut = sym (take-append-drop 2 (x ∷ xs))
          ∙ ap (λ (t : List ℕ). take 2 (x ∷ xs) ++ t) parts.1;
      spelling = rw (← is) text;
      ends = rw (← is) (longest_pair symbol (x ∷ xs) rest (omega arith) text parts.1);
      some = omega (arith, length-take 2 (x ∷ xs));
    }

symbol_at_is : (x : ℕ) (xs : List ℕ) (first : Token) (rest : List ℕ) → symbol_at (x ∷ xs) ≡ Some (first, rest) → Front (x ∷ xs) first rest
unfolding symbol_at
symbol_at_is x xs first rest e = symbol_at_case x xs first rest (symbol_of (take 2 (x ∷ xs))) refl e

token_at_case : (x : ℕ) (xs : List ℕ) (first : Token) (rest : List ℕ) (letter digit : Bool) → is_letter x ≡ letter → is_digit x ≡ digit
    → cond letter (word_at (x ∷ xs)) (cond digit (number_at (x ∷ xs)) (symbol_at (x ∷ xs))) ≡ Some (first, rest) → Front (x ∷ xs) first rest
token_at_case x xs first rest true digit a b e = word_at_is x xs first rest a e
token_at_case x xs first rest false true a b e = number_at_is x xs first rest b e
token_at_case x xs first rest false false a b e = symbol_at_is x xs first rest e

token_at_is : (bytes : List ℕ) (first : Token) (rest : List ℕ) → token_at bytes ≡ Some (first, rest) → Front bytes first rest
unfolding token_at
token_at_is [] first rest e = absurd cc
token_at_is (x ∷ xs) first rest e = token_at_case x xs first rest (is_letter x) (is_digit x) refl refl e

pub token_at_shorter : (bytes : List ℕ) (first : Token) (rest : List ℕ) → token_at bytes ≡ Some (first, rest) → length rest < length bytes
token_at_shorter bytes first rest e =
    let front = token_at_is bytes first rest e in
    omega (arith, front.some, ap length front.cut, length-append front.text rest)

-- ---- all tokens of a line

pub begins_with_first : (line : List ℕ) (first : Token) (rest : List ℕ) → token_at (behind_blanks line) ≡ Some (first, rest) → BeginsWith line first rest
begins_with_first line first rest e =
    let front = token_at_is (behind_blanks line) first rest e in
    let blanks = take (prefix_len is_blank line) line in
    record {
      blanks = blanks;
      text = front.text;
      cut = sym (take-append-drop (prefix_len is_blank line) line) ∙ ap (λ (t : List ℕ). blanks ++ t) front.cut ∙ sym (append_assoc blanks front.text rest);
      are_blank = front_passes is_blank line;
      spelling = front.spelling;
      ends = front.ends;
    }

blank_line : (line : List ℕ) → list_all is_blank line ≡ true → behind_blanks line ≡ []
blank_line line blank =
    let n : prefix_len is_blank (line ++ []) ≡ length line = prefix_len-front is_blank line [] blank refl in
    drop_all (prefix_len is_blank line) line (omega (arith, ap (prefix_len is_blank) (append-nil line)))

pub line_blank : (line : List ℕ) → behind_blanks line ≡ [] → list_all is_blank line ≡ true
line_blank line none =
    let parts : take (prefix_len is_blank line) line ++ behind_blanks line ≡ line = take-append-drop (prefix_len is_blank line) line in
    let whole : take (prefix_len is_blank line) line ≡ line = sym (append-nil (take (prefix_len is_blank line) line)) ∙ (rw none at parts) in
    rw whole at (front_passes is_blank line)

tokens_end : (line : List ℕ) → behind_blanks line ≡ [] → TokensAre line (Some [])
tokens_end line none = line_blank line none

no_token : token_at [] ≡ None
unfolding token_at
no_token = refl

spells_some : (tokens : List Token) (line : List ℕ) (first : Token) (rest : List ℕ) → token_at (behind_blanks line) ≡ Some (first, rest) → Spells tokens line
    → (others : List Token) × (tokens ≡ first ∷ others) × Spells others rest
spells_some [] line first rest e spelled =
    let none = blank_line line spelled in
    let read : token_at (behind_blanks line) ≡ None = rw none no_token in
    absurd cc
spells_some (token ∷ others) line first rest e (after, begins, more) =
    let read = first_again line token after begins in
    let pairs : ◌≡◌ {A = Token × List ℕ} (token, after) (first, rest) = cc in
    let is : token ≡ first = ap (λ (p : Token × List ℕ). p.0) pairs in
    let behind : after ≡ rest = ap (λ (p : Token × List ℕ). p.1) pairs in
    (others, ap (λ (t : Token). t ∷ others) is, rw (← behind) more)

tokens_step : (line : List ℕ) (first : Token) (rest : List ℕ) (found : Option (List Token)) → token_at (behind_blanks line) ≡ Some (first, rest)
    → TokensAre rest found → TokensAre line (option_map (λ others. first ∷ others) found)
tokens_step line first rest (Some others) e are = (rest, begins_with_first line first rest e, are)
tokens_step line first rest None e are = λ tokens spelled. (let parts = spells_some tokens line first rest e spelled in are parts.0 parts.2)

pub tokens_none : (line : List ℕ) → 0 < length (behind_blanks line) → token_at (behind_blanks line) ≡ None → TokensAre line None
tokens_none line some e [] spelled = omega (arith, ap length (blank_line line spelled))
tokens_none line some e (token ∷ others) (after, begins, more) =
    let read = first_again line token after begins in
    absurd cc

-- the tokens of the rest, after the tokens so far, are the tokens of the line
pub record Completes (line : List ℕ) (tokens : List Token) (rest : List ℕ) : Type 0 where
  pub by : (found : Option (List Token)) → TokensAre rest found → TokensAre line (option_map (λ others. tokens ++ others) found)

completes_start : (line : List ℕ) (found : Option (List Token)) → TokensAre line found → TokensAre line (option_map (λ others. [] ++ others) found)
completes_start line None are = are
completes_start line (Some tokens) are = are

pub completes_none : (line : List ℕ) → Completes line [] line
completes_none line = record { by = completes_start line }

completes_step : (line : List ℕ) (tokens : List Token) (first : Token) (found : Option (List Token))
    → TokensAre line (option_map (λ others. tokens ++ others) (option_map (λ others. first ∷ others) found))
    → TokensAre line (option_map (λ others. (tokens ++ first ∷ []) ++ others) found)
completes_step line tokens first None are = are
completes_step line tokens first (Some others) are = rw (append_assoc tokens (first ∷ []) others) are

pub completes_more : (line : List ℕ) (tokens : List Token) (rest behind : List ℕ) (first : Token) (after : List ℕ) → Completes line tokens rest
    → behind ≡ drop (prefix_len is_blank rest) rest → token_at behind ≡ Some (first, after) → Completes line (tokens ++ first ∷ []) after
completes_more line tokens rest behind first after so_far at e =
    let read : token_at (behind_blanks rest) ≡ Some (first, after) = rw (← at) e in
    record {
      by =
          λ found are.
          completes_step line tokens first found (so_far.by (option_map (λ others. first ∷ others) found) (tokens_step rest first after found read are));
    }

pub completes_end : (line : List ℕ) (tokens : List Token) (rest behind : List ℕ) → Completes line tokens rest → behind ≡ drop (prefix_len is_blank rest) rest
    → length behind ≡ 0 → Spells tokens line
completes_end line tokens rest behind so_far at none =
    let empty : behind_blanks rest ≡ [] = nil_from_length (behind_blanks rest) (rw (← at) none) in
    let whole : Spells (tokens ++ []) line = so_far.by (Some []) (tokens_end rest empty) in
    rw (append-nil tokens) at whole

pub completes_fail : (line : List ℕ) (tokens : List Token) (rest behind : List ℕ) → Completes line tokens rest → behind ≡ drop (prefix_len is_blank rest) rest
    → 0 < length behind → token_at behind ≡ None → (others : List Token) → Spells others line → ⊥
completes_fail line tokens rest behind so_far at some e =
    so_far.by None (tokens_none rest (rw (← at) some) (rw (← at) e))

-- a line spells at most one list of tokens
pub spells_one : (tokens others : List Token) (line : List ℕ) → Spells tokens line → Spells others line → tokens ≡ others
spells_one [] [] line a b = refl
spells_one [] (other ∷ others) line a (rest, begins, more) =
    let read = first_again line other rest begins in
    let none : token_at (behind_blanks line) ≡ None = rw (blank_line line a) no_token in
    absurd cc
spells_one (token ∷ tokens) others line (rest, begins, more) b =
    let parts = spells_some others line token rest (first_again line token rest begins) b in
    ap (λ (t : List Token). token ∷ t) (spells_one tokens parts.0 rest more parts.2) ∙ sym parts.1

-- it is decided whether a line spells tokens
abbrev pub Tokenized : List ℕ → Type 0
Tokenized line = (found : Option (List Token)) × TokensAre line found

tokens_at_none : (line behind : List ℕ) → behind_blanks line ≡ behind → token_at (behind_blanks line) ≡ None → Tokenized line
tokens_at_none line [] at e = (Some [], tokens_end line at)
tokens_at_none line (x ∷ xs) at e = (None, tokens_none line (omega (arith, ap length at)) e)

tokens_case : (line : List ℕ) (found : Option (Token × List ℕ)) → ((rest : List ℕ) → length rest < length line → Tokenized rest)
    → token_at (behind_blanks line) ≡ found → Tokenized line
tokens_case line None shorter e = tokens_at_none line (behind_blanks line) refl e
tokens_case line (Some (first, rest)) shorter e =
    let less = token_at_shorter (behind_blanks line) first rest e in
    let later = shorter rest (omega (arith, length-drop (prefix_len is_blank line) line)) in
    (option_map (λ others. first ∷ others) later.0, tokens_step line first rest later.0 e later.1)

tokens_within : (n : ℕ) (line : List ℕ) → length line < n → Tokenized line
tokens_within zero line short = absurd (omega arith)
tokens_within (suc n) line short =
    tokens_case line (token_at (behind_blanks line)) (λ rest less. tokens_within n rest (omega arith)) refl

pub tokens_decided : (line : List ℕ) → Tokenized line
tokens_decided line = tokens_within (suc (length line)) line (omega arith)
