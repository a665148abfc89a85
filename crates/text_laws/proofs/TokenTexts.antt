-- The texts of tokens, and of tokens that need no blank between them: they spell these tokens.
use Rattle.std.proofs.Common.{◌≡◌, ℕ, zero, suc, ◌<◌, ◌≤◌, Bool, true, false, not, cond, ◌&&◌, ◌||◌, ◌==◌, Option, Some, None, List, [], ◌∷◌}
use Rattle.std.proofs.Common.{◌++◌, length, drop, IsTrue, refl, ap, sym, subst, ◌∙◌, arith, append_assoc}
use Rattle.std.specs.List.{AllByRecursion, list_all, last_or}
use Rattle.std.proofs.lemmas.Bool.{and_parts}
use Rattle.std.proofs.lemmas.Bool.Decides.{nat_tests}
use Rattle.std.proofs.lemmas.List.{append-nil}
use Rattle.fixed_words.specs.Digits.{is_digit, pointed, IsNumber}
use Rattle.fixed_words.specs.Texts.{fixed_text}
use Rattle.fixed_words.proofs.ReadBack.{padded_number}
use Rattle.unit_tree.specs.Canonical.{token_text, ends_in_word, spaced, tokens_text, form_tokens, line_text}
use Rattle.unit_tree.specs.LineForms.{tail_of}
use Rattle.unit_tree.specs.Printable.{names_on, IsInRange, is_writable}
use Rattle.unit_tree.specs.Tokens.{is_letter, is_word_byte, keyword_text, symbol_text, begins_with, begins_with_fraction, IsName, IsWord, IsSpelling, IsLongest}
use Rattle.unit_tree.specs.Tokens.{Ends, Spells}
use Rattle.unit_tree.specs.declared.line_form.LineForm.{LineForm}
use Rattle.unit_tree.specs.declared.token.Keyword.{Keyword}
use Rattle.unit_tree.specs.declared.token.Symbol.{Symbol}
use Rattle.unit_tree.specs.declared.token.Symbol.TheVariants as sign
use Rattle.unit_tree.specs.declared.token.Token.{Token}
use Rattle.unit_tree.specs.declared.token.Token.TheVariants as token
use Rattle.text_tokens.proofs.TableLemmas.{keyword_is_word, symbol_is_text}
use Rattle.text_laws.proofs.TokensApart.{can_grow, is_growth, is_point, starts_with, reads_on, are_apart, form_is_apart}
use Rattle.text_laws.proofs.FitTokens.{IsFit, AreFit, form_fits}
use Rattle.text_laws.proofs.SpelledBytes.{all_pass, word_bytes, keyword_bytes}
use Rattle.text_tokens.proofs.TokenLemmas.{symbol_length}
use Rattle.list_laws.proofs.Truths.{not_true, other_fails}

-- ---- One token

-- The text of a token that fits spells it.
token_is_spelled : (some : Token) → IsFit some → IsSpelling some (token_text some)
token_is_spelled (token.Keyword spelled) fits = refl
token_is_spelled (token.Name name) fits = (refl, fits)
token_is_spelled (token.Number digits decimals) fits = padded_number decimals digits fits.1 fits.0
token_is_spelled (token.Symbol spelled) fits = refl

-- ---- Symbols

-- A symbol has one byte or two.
symbol_size : (some : Symbol) → (0 < length (symbol_text some)) × (length (symbol_text some) ≤ 2)
symbol_size some = symbol_length (symbol_text some) (symbol_is_text some)

-- The second bytes of symbols: `=` and `>`.
abbrev grows : ℕ → Bool
grows byte = (byte == 61) || (byte == 62)

-- The first bytes of symbols of two bytes: `:` `-` `<` `>` `=` and `!`.
abbrev starts_pair : ℕ → Bool
starts_pair byte = (byte == 58) || ((byte == 45) || ((byte == 60) || ((byte == 62) || ((byte == 61) || (byte == 33)))))

-- Whether the first two bytes may be those of a symbol of two bytes.
abbrev begins_pair : List ℕ → Bool
begins_pair bytes = begins_with grows (drop 1 bytes) && begins_with starts_pair bytes

-- A symbol of two bytes begins with two such bytes.
pair_begins : (some : Symbol) (after : List ℕ) → 1 < length (symbol_text some) → begins_pair (symbol_text some ++ after) ≡ true
pair_begins sign.Assign after two = refl
pair_begins sign.Arrow after two = refl
pair_begins sign.Equals after two = refl
pair_begins sign.Differs after two = refl
pair_begins sign.AtMost after two = refl
pair_begins sign.AtLeast after two = refl
pair_begins sign.Colon after two = absurd (omega arith)
pair_begins sign.Is after two = absurd (omega arith)
pair_begins sign.Less after two = absurd (omega arith)
pair_begins sign.Greater after two = absurd (omega arith)
pair_begins sign.Plus after two = absurd (omega arith)
pair_begins sign.Minus after two = absurd (omega arith)
pair_begins sign.Star after two = absurd (omega arith)
pair_begins sign.Slash after two = absurd (omega arith)
pair_begins sign.Open after two = absurd (omega arith)
pair_begins sign.Close after two = absurd (omega arith)
pair_begins sign.Comma after two = absurd (omega arith)
pair_begins sign.Point after two = absurd (omega arith)

-- A number that is not greater than one is at most one.
at_most_one : (size : ℕ) → (1 < size → ⊥) → size ≤ 1
at_most_one zero small = omega arith
at_most_one (suc zero) small = omega arith
at_most_one (suc (suc size)) small = absurd (small (omega arith))

-- A symbol of one byte is the longest where the next byte doesn't make a longer one.
single_longest : (some : Symbol) (byte : ℕ) (rest : List ℕ) → symbol_text some ≡ byte ∷ [] → (begins_with grows rest && starts_pair byte) ≡ false
    → IsLongest some rest
single_longest some byte rest spelled single other after same =
    let bytes : symbol_text other ++ after ≡ byte ∷ rest = sym same ∙ ap (λ text. text ++ rest) spelled in
    let short : length (symbol_text other) ≤ 1 =
    at_most_one (length (symbol_text other))
    (λ two. (let pair : begins_pair (byte ∷ rest) ≡ true = ap begins_pair (sym bytes) ∙ pair_begins other after two in cc)) in
    omega (arith, short, ap length spelled)

-- A symbol of two bytes is always the longest.
double_longest : (some : Symbol) (rest : List ℕ) → length (symbol_text some) ≡ 2 → IsLongest some rest
double_longest some rest two other after same = omega (arith, two, (symbol_size other).1)

-- A symbol is the longest where the next byte doesn't make it longer.
symbol_longest : (some : Symbol) (rest : List ℕ) → (begins_with grows rest && can_grow some) ≡ false → IsLongest some rest
symbol_longest sign.Assign rest other = double_longest sign.Assign rest refl
symbol_longest sign.Arrow rest other = double_longest sign.Arrow rest refl
symbol_longest sign.Equals rest other = double_longest sign.Equals rest refl
symbol_longest sign.Differs rest other = double_longest sign.Differs rest refl
symbol_longest sign.AtMost rest other = double_longest sign.AtMost rest refl
symbol_longest sign.AtLeast rest other = double_longest sign.AtLeast rest refl
symbol_longest sign.Colon rest other = single_longest sign.Colon 58 rest refl other
symbol_longest sign.Is rest other = single_longest sign.Is 61 rest refl other
symbol_longest sign.Less rest other = single_longest sign.Less 60 rest refl other
symbol_longest sign.Greater rest other = single_longest sign.Greater 62 rest refl other
symbol_longest sign.Minus rest other = single_longest sign.Minus 45 rest refl other
symbol_longest sign.Plus rest other = single_longest sign.Plus 43 rest refl other
symbol_longest sign.Star rest other = single_longest sign.Star 42 rest refl other
symbol_longest sign.Slash rest other = single_longest sign.Slash 47 rest refl other
symbol_longest sign.Open rest other = single_longest sign.Open 40 rest refl other
symbol_longest sign.Close rest other = single_longest sign.Close 41 rest refl other
symbol_longest sign.Comma rest other = single_longest sign.Comma 44 rest refl other
symbol_longest sign.Point rest other = single_longest sign.Point 46 rest refl other

-- ---- First bytes

-- The text begins like a word or a number: a test that passes no byte of words doesn't pass its first byte.
record BeginsAsWord (text : List ℕ) : Type 0 where
  some : 0 < length text
  fails : (test : ℕ → Bool) → ((byte : ℕ) → is_word_byte byte ≡ true → test byte ≡ false) → begins_with test text ≡ false

-- Bytes begin so where the first is one of words.
first_of_word : (first : ℕ) (others : List ℕ) → is_word_byte first ≡ true → BeginsAsWord (first ∷ others)
first_of_word first others of_word = record { some = omega arith; fails = λ test fails. fails first of_word }

-- Bytes that begin with a letter begin so.
word_begins : (text : List ℕ) → begins_with is_letter text ≡ true → BeginsAsWord text
word_begins [] letter = absurd (cc)
word_begins (first ∷ others) letter = first_of_word first others (rw letter refl)

-- A word does.
name_begins : (name : List ℕ) → IsWord name → BeginsAsWord name
name_begins [] word = absurd word
name_begins (first ∷ others) word = word_begins (first ∷ others) word.0

-- A digit is a byte of words.
digit_of_word : (byte : ℕ) → is_digit byte ≡ true → is_word_byte byte ≡ true
digit_of_word byte digit = grind (arith, nat_tests)

-- Digits begin so.
digits_begin : (whole behind : List ℕ) → list_all is_digit whole ≡ true → 0 < length whole → BeginsAsWord (whole ++ behind)
digits_begin [] behind digits some = absurd (omega arith)
digits_begin (first ∷ others) behind digits some =
    first_of_word first (others ++ behind) (digit_of_word first (and_parts (is_digit first) (list_all is_digit others) digits).0)

-- A number does.
number_begins : (digits decimals : ℕ) (text : List ℕ) → IsNumber digits decimals text → BeginsAsWord text
number_begins digits decimals text is = subst BeginsAsWord (sym is.spelled) (digits_begin is.whole (pointed is.fraction) is.is_whole.0 is.is_whole.1)

-- A keyword does.
keyword_begins : (spelled : Keyword) → BeginsAsWord (keyword_text spelled)
keyword_begins spelled =
    word_begins (keyword_text spelled)
    (and_parts (begins_with is_letter (keyword_text spelled)) (list_all is_word_byte (keyword_text spelled)) (keyword_is_word spelled)).0

-- No token's text is empty.
pub token_some : (some : Token) → IsFit some → 0 < length (token_text some)
token_some (token.Keyword spelled) fits = (keyword_begins spelled).some
token_some (token.Name name) fits = (name_begins name fits.0).some
token_some (token.Number digits decimals) fits = (number_begins digits decimals (fixed_text decimals digits) (padded_number decimals digits fits.1 fits.0)).some
token_some (token.Symbol spelled) fits = (symbol_size spelled).0

-- A test of the first byte of a token's text agrees with a test of the token: no word passes, and a symbol passes the
-- one exactly if it passes the other.
record SeesFirst (test : ℕ → Bool) (seen : Token → Bool) : Type 0 where
  words : (byte : ℕ) → is_word_byte byte ≡ true → test byte ≡ false
  keywords : (spelled : Keyword) → seen (token.Keyword spelled) ≡ false
  names : (name : List ℕ) → seen (token.Name name) ≡ false
  numbers : (digits decimals : ℕ) → seen (token.Number digits decimals) ≡ false
  symbols : (spelled : Symbol) → begins_with test (symbol_text spelled) ≡ seen (token.Symbol spelled)

-- The two tests agree on each token that fits.
token_first : (test : ℕ → Bool) (seen : Token → Bool) → SeesFirst test seen → (some : Token) → IsFit some → begins_with test (token_text some) ≡ seen some
token_first test seen sees (token.Keyword spelled) fits = (keyword_begins spelled).fails test sees.words ∙ sym (sees.keywords spelled)
token_first test seen sees (token.Name name) fits = (name_begins name fits.0).fails test sees.words ∙ sym (sees.names name)
token_first test seen sees (token.Number digits decimals) fits =
    (number_begins digits decimals (fixed_text decimals digits) (padded_number decimals digits fits.1 fits.0)).fails test sees.words
    ∙ sym (sees.numbers digits decimals)
token_first test seen sees (token.Symbol spelled) fits = sees.symbols spelled

-- A text begins with what its prefix begins with.
begins_front : (test : ℕ → Bool) (text others : List ℕ) → 0 < length text → begins_with test (text ++ others) ≡ begins_with test text
begins_front test [] others some = absurd (omega arith)
begins_front test (byte ∷ bytes) others some = refl

-- The same where a space may follow the prefix.
spaced_begins : (test : ℕ → Bool) (text others : List ℕ) → 0 < length text → begins_with test (spaced text others) ≡ begins_with test text
spaced_begins test text others some =
    elim (ends_in_word text && begins_with is_word_byte others) as
    (λ meet. begins_with test (cond meet (text ++ (32 ∷ others)) (text ++ others))
    ≡ begins_with test text) [ true ↦ begins_front test text (32 ∷ others) some | false ↦ begins_front test text others some ]

-- The two tests agree on tokens that fit.
tokens_first : (test : ℕ → Bool) (seen : Token → Bool) → SeesFirst test seen → (tokens : List Token) → AreFit tokens
    → begins_with test (tokens_text tokens) ≡ starts_with seen tokens
tokens_first test seen sees [] fit = refl
tokens_first test seen sees (first ∷ others) fit =
    spaced_begins test (token_text first) (tokens_text others) (token_some first fit.0) ∙ token_first test seen sees first fit.0

-- The symbols that begin with `=` or `>` are those that make others longer.
symbol_grows : (some : Symbol) → begins_with grows (symbol_text some) ≡ is_growth (token.Symbol some)
symbol_grows sign.Assign = refl
symbol_grows sign.Arrow = refl
symbol_grows sign.Equals = refl
symbol_grows sign.Differs = refl
symbol_grows sign.AtMost = refl
symbol_grows sign.AtLeast = refl
symbol_grows sign.Colon = refl
symbol_grows sign.Is = refl
symbol_grows sign.Less = refl
symbol_grows sign.Greater = refl
symbol_grows sign.Plus = refl
symbol_grows sign.Minus = refl
symbol_grows sign.Star = refl
symbol_grows sign.Slash = refl
symbol_grows sign.Open = refl
symbol_grows sign.Close = refl
symbol_grows sign.Comma = refl
symbol_grows sign.Point = refl

-- The symbol that begins with a point is the point.
symbol_points : (some : Symbol) → begins_with (λ byte. byte == 46) (symbol_text some) ≡ is_point (token.Symbol some)
symbol_points sign.Assign = refl
symbol_points sign.Arrow = refl
symbol_points sign.Equals = refl
symbol_points sign.Differs = refl
symbol_points sign.AtMost = refl
symbol_points sign.AtLeast = refl
symbol_points sign.Colon = refl
symbol_points sign.Is = refl
symbol_points sign.Less = refl
symbol_points sign.Greater = refl
symbol_points sign.Plus = refl
symbol_points sign.Minus = refl
symbol_points sign.Star = refl
symbol_points sign.Slash = refl
symbol_points sign.Open = refl
symbol_points sign.Close = refl
symbol_points sign.Comma = refl
symbol_points sign.Point = refl

-- A byte of words makes no symbol longer.
word_grows_none : (byte : ℕ) → is_word_byte byte ≡ true → grows byte ≡ false
word_grows_none byte of_word = grind (arith, nat_tests)

-- No byte of words is a point.
word_no_point : (byte : ℕ) → is_word_byte byte ≡ true → (byte == 46) ≡ false
word_no_point byte of_word = grind (arith, nat_tests)

-- The first byte shows whether a text makes a symbol longer.
growth_seen : SeesFirst grows is_growth
growth_seen = record { words = word_grows_none; keywords = λ spelled. refl; names = λ name. refl; numbers = λ digits decimals. refl; symbols = symbol_grows }

-- The first byte shows whether a text is a point.
point_seen : SeesFirst (λ byte. byte == 46) is_point
point_seen = record { words = word_no_point; keywords = λ spelled. refl; names = λ name. refl; numbers = λ digits decimals. refl; symbols = symbol_points }

-- ---- Last bytes

-- The last of some bytes of words is a byte of words.
last_of : (first : ℕ) (others : List ℕ) → is_word_byte first ≡ true → list_all is_word_byte others ≡ true
    → (last : ℕ) × (last_or (Some first) others ≡ Some last) × (is_word_byte last ≡ true)
last_of first [] is all = (first, refl, is)
last_of first (next ∷ others) is all =
    let parts = and_parts (is_word_byte next) (list_all is_word_byte others) all in
    last_of next others parts.0 parts.1

-- The last byte of two texts is that of the second.
last_behind : (before : Option ℕ) (front : List ℕ) (first : ℕ) (others : List ℕ) → last_or before (front ++ (first ∷ others)) ≡ last_or (Some first) others
last_behind before [] first others = refl
last_behind before (byte ∷ front) first others = last_behind (Some byte) front first others

-- A text that ends with bytes of a word ends in a word.
word_ends : (front : List ℕ) (first : ℕ) (others : List ℕ) → list_all is_word_byte (first ∷ others) ≡ true → ends_in_word (front ++ (first ∷ others)) ≡ true
word_ends front first others all =
    let parts = and_parts (is_word_byte first) (list_all is_word_byte others) all in
    let last = last_of first others parts.0 parts.1 in
    rw (last_behind None front first others ∙ last.1) last.2

-- A text of bytes of words ends in a word.
all_of_word : (text : List ℕ) → 0 < length text → list_all is_word_byte text ≡ true → ends_in_word text ≡ true
all_of_word [] some all = absurd (omega arith)
all_of_word (first ∷ others) some all = word_ends [] first others all

-- Digits are bytes of words.
digits_of_word : (digits : List ℕ) → list_all is_digit digits ≡ true → list_all is_word_byte digits ≡ true
digits_of_word digits all = all_pass is_digit is_word_byte digit_of_word digits all

-- Digits with a fraction end in a word.
parts_end : (whole fraction : List ℕ) → list_all is_digit whole ≡ true → 0 < length whole → list_all is_digit fraction ≡ true
    → ends_in_word (whole ++ pointed fraction) ≡ true
parts_end whole [] digits some behind = ap ends_in_word (append-nil whole) ∙ all_of_word whole some (digits_of_word whole digits)
parts_end whole (first ∷ others) digits some behind =
    ap ends_in_word (sym (append_assoc whole (46 ∷ []) (first ∷ others))) ∙ word_ends (whole ++ (46 ∷ [])) first others (digits_of_word (first ∷ others) behind)

-- A number ends in a word.
number_ends : (digits decimals : ℕ) (text : List ℕ) → IsNumber digits decimals text → ends_in_word text ≡ true
number_ends digits decimals text is = ap ends_in_word is.spelled ∙ parts_end is.whole is.fraction is.is_whole.0 is.is_whole.1 is.is_fraction.0

-- ---- Where tokens end

-- What is known of the bytes after a token's text: none of a word where the text ends in one, and none that would
-- continue the token.
record StandsBefore (some : Token) (rest : List ℕ) : Type 0 where
  apart : ends_in_word (token_text some) ≡ true → begins_with is_word_byte rest ≡ false
  no_point : (digits decimals : ℕ) → some ≡ token.Number digits decimals → begins_with (λ byte. byte == 46) rest ≡ false
  no_growth : (spelled : Symbol) → some ≡ token.Symbol spelled → (begins_with grows rest && can_grow spelled) ≡ false

-- Where no point comes first, no fraction does.
no_fraction : (rest : List ℕ) → begins_with (λ byte. byte == 46) rest ≡ false → begins_with_fraction rest ≡ false
no_fraction [] none = refl
no_fraction (byte ∷ bytes) none = rw none refl

-- Such bytes end the token.
token_ends : (some : Token) (rest : List ℕ) → IsFit some → StandsBefore some rest → Ends some rest
token_ends (token.Keyword spelled) rest fits before = before.apart (all_of_word (keyword_text spelled) (keyword_begins spelled).some (keyword_bytes spelled))
token_ends (token.Name name) rest fits before = before.apart (all_of_word name (name_begins name fits.0).some (word_bytes name fits.0))
token_ends (token.Number digits decimals) rest fits before = (
  before.apart (number_ends digits decimals (fixed_text decimals digits) (padded_number decimals digits fits.1 fits.0)),
  λ none. no_fraction rest (before.no_point digits decimals refl),
)
token_ends (token.Symbol spelled) rest fits before = symbol_longest spelled rest (before.no_growth spelled refl)

-- A blank ends every token.
before_blank : (some : Token) (rest : List ℕ) → StandsBefore some (32 ∷ rest)
before_blank some rest = record { apart = λ ends. refl; no_point = λ digits decimals is. refl; no_growth = λ spelled is. refl }

-- The text of tokens that need no blank after the one before them ends it.
before_tokens : (some : Token) (others : List Token) → AreFit others → not (reads_on some others) ≡ true
    → (ends_in_word (token_text some) && begins_with is_word_byte (tokens_text others)) ≡ false → StandsBefore some (tokens_text others)
before_tokens some others fit apart no_meeting =
    let alone : reads_on some others ≡ false = not_true (reads_on some others) apart in
    record {
      apart = λ ends. other_fails (ends_in_word (token_text some)) (begins_with is_word_byte (tokens_text others)) ends no_meeting;
      no_point = λ digits decimals is. tokens_first (λ byte. byte == 46) is_point point_seen others fit ∙ ap (λ t. reads_on t others) (sym is) ∙ alone;
      no_growth = λ spelled is. ap (λ first. first && can_grow spelled) (tokens_first grows is_growth growth_seen others fit)
          ∙ ap (λ t. reads_on t others) (sym is) ∙ alone;
    }

-- ---- Lines

-- A line spells the same after a space.
behind_blank : (tokens : List Token) (line : List ℕ) → Spells tokens line → Spells tokens (32 ∷ line)
behind_blank [] line spelled = spelled
behind_blank (first ∷ others) line (rest, begins, more) = (
  rest,
  record {
    blanks = 32 ∷ begins.blanks;
    text = begins.text;
    cut = ap (λ bytes. 32 ∷ bytes) begins.cut;
    are_blank = begins.are_blank;
    spelling =
        begins.spelling;
    ends = begins.ends;
  },
  more,
)

-- A token before bytes that end it is spelled, and so are the tokens after it.
first_spelled : (first : Token) (others : List Token) (rest : List ℕ) → IsFit first → StandsBefore first rest → Spells others rest
    → Spells (first ∷ others) (token_text first ++ rest)
first_spelled first others rest fits before more = (
  rest,
  record {
    blanks = [];
    text = token_text first;
    cut = refl;
    are_blank = refl;
    spelling = token_is_spelled first fits;
    ends =
        token_ends first rest fits before;
  },
  more,
)

-- The same with the space where words would be next to each other, and without it elsewhere.
meeting_or_not : (first : Token) (others : List Token) (meet : Bool)
    → (ends_in_word (token_text first) && begins_with is_word_byte (tokens_text others)) ≡ meet → IsFit first → AreFit others
    → not (reads_on first others) ≡ true → Spells others (tokens_text others)
    → Spells (first ∷ others) (cond meet (token_text first ++ (32 ∷ tokens_text others)) (token_text first ++ tokens_text others))
meeting_or_not first others true is fits fit apart more =
    first_spelled first others (32 ∷ tokens_text others) fits (before_blank first (tokens_text others)) (behind_blank others (tokens_text others) more)
meeting_or_not first others false is fits fit apart more = first_spelled first others (tokens_text others) fits (before_tokens first others fit apart is) more

-- Tokens that fit and need no blanks between them are spelled by their text.
pub tokens_are_spelled : (tokens : List Token) → AreFit tokens → are_apart tokens ≡ true → Spells tokens (tokens_text tokens)
tokens_are_spelled [] fit apart = refl
tokens_are_spelled (first ∷ others) fit apart =
    let parts = and_parts (not (reads_on first others)) (are_apart others) apart in
    meeting_or_not first others (ends_in_word (token_text first) && begins_with is_word_byte (tokens_text others)) refl fit.0 fit.1 parts.0
    (tokens_are_spelled others fit.1 parts.1)

-- A canonical line spells its tokens, where its names are names and its numbers are in range.
pub line_is_spelled : (some : LineForm) → AllByRecursion IsName (names_on some) → IsInRange some → IsTrue (is_writable (tail_of some))
    → Spells (form_tokens some) (line_text some)
line_is_spelled some names ranged writable = tokens_are_spelled (form_tokens some) (form_fits some names ranged writable) (form_is_apart some)
