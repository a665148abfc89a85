-- The bytes of lines that spell tokens.
use Rattle.std.proofs.Common.{◌≡◌, ℕ, Bool, true, false, not, ◌&&◌, ◌==◌, List, [], ◌∷◌, ◌++◌, refl, ap, ◌∙◌, arith, one-add, append_assoc}
use Rattle.std.specs.List.{list_all, before_first, position_or_len}
use Rattle.std.proofs.lemmas.Bool.{and_parts, and_from}
use Rattle.std.proofs.lemmas.Bool.Decides.{nat_tests}
use Rattle.fixed_words.specs.Digits.{is_digit, pointed, IsNumber}
use Rattle.unit_tree.specs.Lines.{is_code_byte, code_of, without_return, has_forbidden_byte}
use Rattle.unit_tree.specs.Tokens.{is_blank, is_letter, is_word_byte, begins_with, keyword_text, symbol_text, IsWord, IsSpelling, Spells}
use Rattle.unit_tree.specs.declared.token.Keyword.{Keyword}
use Rattle.unit_tree.specs.declared.token.Symbol.{Symbol}
use Rattle.unit_tree.specs.declared.token.Symbol.TheVariants as sign
use Rattle.unit_tree.specs.declared.token.Token.{Token}
use Rattle.unit_tree.specs.declared.token.Token.TheVariants as token
use Rattle.text_tokens.proofs.TableLemmas.{keyword_is_word}
use Rattle.list_laws.proofs.Lists.{all_of_two}

-- The bytes of tokens and the blanks between them: the bytes of code except `#`.
abbrev pub is_spelled_byte : ℕ → Bool
is_spelled_byte byte = is_code_byte byte && not (byte == 35)

-- ---- Lists whose elements pass a test

-- Elements that pass the one test pass the other.
pub all_pass : {A : Type 0} (one other : A → Bool) → ((x : A) → one x ≡ true → other x ≡ true) → (xs : List A) → list_all one xs ≡ true
    → list_all other xs ≡ true
all_pass one other passes [] all = refl
all_pass one other passes (x ∷ xs) all =
    let parts = and_parts (one x) (list_all one xs) all in
    and_from (other x) (list_all other xs) (passes x parts.0) (all_pass one other passes xs parts.1)

-- ---- The bytes of tokens

-- Blanks are such bytes.
blank_spelled : (byte : ℕ) → is_blank byte ≡ true → is_spelled_byte byte ≡ true
blank_spelled byte blank = grind (arith, nat_tests)

-- So are the bytes of words.
word_spelled : (byte : ℕ) → is_word_byte byte ≡ true → is_spelled_byte byte ≡ true
word_spelled byte of_word = grind (arith, nat_tests)

-- So are digits.
digit_spelled : (byte : ℕ) → is_digit byte ≡ true → is_spelled_byte byte ≡ true
digit_spelled byte digit = grind (arith, nat_tests)

-- Symbols have such bytes.
symbol_spelled : (symbol : Symbol) → list_all is_spelled_byte (symbol_text symbol) ≡ true
symbol_spelled sign.Assign = refl
symbol_spelled sign.Arrow = refl
symbol_spelled sign.Equals = refl
symbol_spelled sign.Differs = refl
symbol_spelled sign.AtMost = refl
symbol_spelled sign.AtLeast = refl
symbol_spelled sign.Colon = refl
symbol_spelled sign.Is = refl
symbol_spelled sign.Less = refl
symbol_spelled sign.Greater = refl
symbol_spelled sign.Plus = refl
symbol_spelled sign.Minus = refl
symbol_spelled sign.Star = refl
symbol_spelled sign.Slash = refl
symbol_spelled sign.Open = refl
symbol_spelled sign.Close = refl
symbol_spelled sign.Comma = refl
symbol_spelled sign.Point = refl

-- So is a fraction with its point.
pointed_spelled : (fraction : List ℕ) → list_all is_digit fraction ≡ true → list_all is_spelled_byte (pointed fraction) ≡ true
pointed_spelled [] digits = refl
pointed_spelled (digit ∷ others) digits = all_pass is_digit is_spelled_byte digit_spelled (digit ∷ others) digits

-- So is a number.
number_spelled : (digits decimals : ℕ) (text : List ℕ) → IsNumber digits decimals text → list_all is_spelled_byte text ≡ true
number_spelled digits decimals text is =
    ap (list_all is_spelled_byte) is.spelled
    ∙ all_of_two is_spelled_byte is.whole (pointed is.fraction) (all_pass is_digit is_spelled_byte digit_spelled is.whole is.is_whole.0)
    (pointed_spelled is.fraction is.is_fraction.0)

-- A word has bytes of words.
pub word_bytes : (text : List ℕ) → IsWord text → list_all is_word_byte text ≡ true
word_bytes [] word = absurd word
word_bytes (first ∷ others) word = rw word.0 word.1

-- A keyword has bytes of words.
pub keyword_bytes : (keyword : Keyword) → list_all is_word_byte (keyword_text keyword) ≡ true
keyword_bytes keyword = (and_parts (begins_with is_letter (keyword_text keyword)) (list_all is_word_byte (keyword_text keyword)) (keyword_is_word keyword)).1

-- So is every token.
token_spelled : (some : Token) (text : List ℕ) → IsSpelling some text → list_all is_spelled_byte text ≡ true
token_spelled (token.Keyword keyword) text spelling =
    ap (list_all is_spelled_byte) spelling ∙ all_pass is_word_byte is_spelled_byte word_spelled (keyword_text keyword) (keyword_bytes keyword)
token_spelled (token.Name name) text spelling =
    ap (list_all is_spelled_byte) spelling.0 ∙ all_pass is_word_byte is_spelled_byte word_spelled name (word_bytes name spelling.1.0)
token_spelled (token.Number digits decimals) text spelling = number_spelled digits decimals text spelling
token_spelled (token.Symbol symbol) text spelling = ap (list_all is_spelled_byte) spelling ∙ symbol_spelled symbol

-- A line that spells tokens has only the bytes of tokens and blanks.
pub spelled_bytes : (tokens : List Token) (line : List ℕ) → Spells tokens line → list_all is_spelled_byte line ≡ true
spelled_bytes [] line blank = all_pass is_blank is_spelled_byte blank_spelled line blank
spelled_bytes (first ∷ others) line (rest, begins, more) =
    ap (list_all is_spelled_byte) (begins.cut ∙ append_assoc begins.blanks begins.text rest)
    ∙ all_of_two is_spelled_byte begins.blanks (begins.text ++ rest) (all_pass is_blank is_spelled_byte blank_spelled begins.blanks begins.are_blank)
    (all_of_two is_spelled_byte begins.text rest (token_spelled first begins.text begins.spelling) (spelled_bytes others rest more))

-- ---- Lines of such bytes

-- Such a byte is one of code.
spelled_code : (byte : ℕ) → is_spelled_byte byte ≡ true → is_code_byte byte ≡ true
spelled_code byte spelled = (and_parts (is_code_byte byte) (not (byte == 35)) spelled).0

-- The code of a line that is spelled has no forbidden byte.
pub none_forbidden : (tokens : List Token) (line : List ℕ) → Spells tokens (code_of line) → has_forbidden_byte line ≡ false
none_forbidden tokens line spelled = ap not (all_pass is_spelled_byte is_code_byte spelled_code (code_of line) (spelled_bytes tokens (code_of line) spelled))

-- Nothing is cut off where no element passes.
before_first_none : {A : Type 0} (test : A → Bool) (xs : List A) → list_all (λ x. not (test x)) xs ≡ true → before_first test xs ≡ xs
before_first_none test [] none = refl
before_first_none test (x ∷ xs) none =
    let parts = and_parts (not (test x)) (list_all (λ y. not (test y)) xs) none in
    rw (parts.0, one-add (position_or_len test xs)) (ap (λ ys. x ∷ ys) (before_first_none test xs parts.1))

-- Such a byte begins no comment.
spelled_no_comment : (byte : ℕ) → is_spelled_byte byte ≡ true → not (byte == 35) ≡ true
spelled_no_comment byte spelled = (and_parts (is_code_byte byte) (not (byte == 35)) spelled).1

-- A line of such bytes is all code.
pub spelled_is_code : (line : List ℕ) → list_all is_spelled_byte line ≡ true → code_of line ≡ line
spelled_is_code line spelled =
    before_first_none (λ byte. byte == 35) line (all_pass is_spelled_byte (λ byte. not (byte == 35)) spelled_no_comment line spelled)

-- Such a byte is not a CR.
no_return : (byte : ℕ) → is_spelled_byte byte ≡ true → (byte == 13) ≡ false
no_return byte spelled = grind (arith, nat_tests)

-- A line of such bytes has no CR.
pub spelled_no_return : (line : List ℕ) → list_all is_spelled_byte line ≡ true → without_return line ≡ line
spelled_no_return [] spelled = refl
spelled_no_return (byte ∷ []) spelled = rw (no_return byte (and_parts (is_spelled_byte byte) true spelled).0) refl
spelled_no_return (byte ∷ next ∷ line) spelled =
    ap (λ bytes. byte ∷ bytes) (spelled_no_return (next ∷ line) (and_parts (is_spelled_byte byte) (list_all is_spelled_byte (next ∷ line)) spelled).1)

-- None of such bytes ends a line.
pub spelled_no_end : (byte : ℕ) → is_spelled_byte byte ≡ true → (byte == 10) ≡ false
spelled_no_end byte spelled = grind (arith, nat_tests)
