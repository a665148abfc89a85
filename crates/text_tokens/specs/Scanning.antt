-- Reading of bytes as tokens, and what a result of it states.
use Rattle.std.specs.Prelude.{◌≡◌, ℕ, ◌^◌, List, [], ◌∷◌, length, take, drop, find, Option, Some, None, Result, Ok, Err, ⊤, if◌then◌else◌, nat_le, nat_lt, ◌==◌}
use Rattle.std.specs.Prelude.{option_and_then}
use Rattle.std.specs.Borrow.{Bor}
use Rattle.std.specs.List.{prefix_len}
use Rattle.std.specs.Str.{bytes_eq}
use Rattle.std.specs.Option.{option_or}
use Rattle.model_rules.specs.Limits.{decimals_limit, name_limit}
use Rattle.unit_tree.specs.Tokens.{is_digit, is_letter, is_word_byte, keyword_text, symbol_text, number_from, begins_with, Spells}
use Rattle.unit_tree.specs.declared.token.Keyword.{Keyword}
use Rattle.unit_tree.specs.declared.token.Keyword.TheVariants as word
use Rattle.unit_tree.specs.declared.token.Symbol.{Symbol}
use Rattle.unit_tree.specs.declared.token.Symbol.TheVariants as sign
use Rattle.unit_tree.specs.declared.token.Token.{Token}
use Rattle.unit_tree.specs.declared.token.Token.TheVariants as token
use Rattle.text_tokens.specs.declared.fault.Unread.{Unread}
use Rattle.text_tokens.specs.declared.fault.Unread.TheVariants as unread

-- What the result of a reading states: the property holds of what was read, or of `None` where nothing can
-- be read. Without memory it states nothing.
abbrev pub ReadsAs : {X : Type 0} → Result X Unread → (Option X → Type 0) → Type 0
ReadsAs (Ok x) Says = Says (Some x)
ReadsAs (Err unread.NoForm) Says = Says None
ReadsAs (Err unread.NoMemory) Says = ⊤

-- The result is what the definition of the reading gives.
abbrev pub Gives : {X : Type 0} → Result X Unread → Option X → Type 0
Gives (Ok x) read = read ≡ Some x
Gives (Err unread.NoForm) read = read ≡ None
Gives (Err unread.NoMemory) read = ⊤

-- The result is what the definition of the reading gives for the beginning, with the rest after it.
abbrev pub GivesWithRest : {X Y : Type 0} → Result (X × Bor (List Y)) Unread → Option (X × List Y) → Type 0
GivesWithRest (Ok x) read = read ≡ Some (x.0, x.1.now)
GivesWithRest (Err unread.NoForm) read = read ≡ None
GivesWithRest (Err unread.NoMemory) read = ⊤

-- The keywords, and the symbols, that begin with the byte.
abbrev pub keywords_from : ℕ → List Keyword
keywords_from first =
    if first == 97 then word.Accept ∷ word.And ∷ word.Abs ∷ word.Absent ∷ [] else (
    if first == 99 then word.Cosim ∷ word.Connect ∷ word.Clamp ∷ [] else (
    if first == 100 then word.Div ∷ [] else (
    if first == 101 then word.End ∷ word.Else ∷ word.Event ∷ [] else (
    if first == 102 then word.Fix ∷ word.False ∷ [] else (
    if first == 104 then word.Length ∷ [] else (
    if first == 105 then word.Input ∷ word.Instance ∷ word.If ∷ word.Int ∷ [] else (
    if first == 108 then word.Local ∷ word.Longest ∷ [] else (
    if first == 109 then word.Max ∷ word.Mod ∷ word.Min ∷ [] else (
    if first == 110 then word.Needs ∷ word.Not ∷ [] else (
    if first == 111 then word.Output ∷ word.Or ∷ [] else (
    if first == 112 then word.Param ∷ word.Present ∷ [] else (
    if first == 114 then word.Resolution ∷ word.Repeat ∷ word.Rows ∷ [] else (
    if first == 115 then word.State ∷ word.Step ∷ word.Stop ∷ word.Sample ∷ [] else (
    if first == 116 then word.Then ∷ word.True ∷ word.Time ∷ [] else (
    if first == 117 then word.Unit ∷ [] else (
    if first == 122 then word.Zero ∷ [] else []))))))))))))))))

abbrev pub symbols_from : ℕ → List Symbol
symbols_from first =
    if first == 33 then sign.Differs ∷ [] else (
    if first == 40 then sign.Open ∷ [] else (
    if first == 41 then sign.Close ∷ [] else (
    if first == 42 then sign.Star ∷ [] else (
    if first == 43 then sign.Plus ∷ [] else (
    if first == 44 then sign.Comma ∷ [] else (
    if first == 45 then sign.Arrow ∷ sign.Minus ∷ [] else (
    if first == 46 then sign.Point ∷ [] else (
    if first == 47 then sign.Slash ∷ [] else (
    if first == 58 then sign.Assign ∷ sign.Colon ∷ [] else (
    if first == 60 then sign.AtMost ∷ sign.Less ∷ [] else (
    if first == 61 then sign.Equals ∷ sign.Is ∷ [] else (
    if first == 62 then sign.AtLeast ∷ sign.Greater ∷ [] else []))))))))))))

-- The keywords, and the symbols, that begin with the text's first byte.
abbrev pub keywords_like : List ℕ → List Keyword
keywords_like [] = []
keywords_like (first ∷ others) = keywords_from first

abbrev pub symbols_like : List ℕ → List Symbol
symbols_like [] = []
symbols_like (first ∷ others) = symbols_from first

-- The keyword that the text spells, or `None`.
unfoldable pub keyword_of : List ℕ → Option Keyword
keyword_of text = find (λ keyword. bytes_eq (keyword_text keyword) text) (keywords_like text)

-- The symbol that the text spells, or `None`.
unfoldable pub symbol_of : List ℕ → Option Symbol
symbol_of text = find (λ symbol. bytes_eq (symbol_text symbol) text) (symbols_like text)

-- The token of a word that may be a keyword. If it is not, the token is a name, which has at most 32 bytes.
abbrev pub named : List ℕ → Option Keyword → Option Token
named text (Some keyword) = Some (token.Keyword keyword)
named text None = if nat_lt name_limit (length text) then None else Some (token.Name text)

abbrev pub word_token : List ℕ → Option Token
word_token text = named text (keyword_of text)

-- What is read, with the rest after it.
abbrev pub with_rest : {X Y : Type 0} → Option X → Y → Option (X × Y)
with_rest None rest = None
with_rest (Some x) rest = Some (x, rest)

-- The word at the beginning, as long as possible.
unfoldable pub word_at : List ℕ → Option (Token × List ℕ)
word_at bytes = with_rest (word_token (take (prefix_len is_word_byte bytes) bytes)) (drop (prefix_len is_word_byte bytes) bytes)

-- The number of the digits, after the number of the digits before them, where it is at most 2^63.
unfoldable pub bounded_number : ℕ → List ℕ → Option ℕ
bounded_number before digits =
    if nat_le (number_from before digits) (2 ^ 63) then Some (number_from before digits) else None

-- The digits of the fraction after a point that comes first, and the rest. No digits where no fraction
-- comes first.
abbrev pub fraction_of : List ℕ → List ℕ × List ℕ
fraction_of [] = ([], [])
fraction_of (byte ∷ bytes) =
    if byte == 46 then
    (if prefix_len is_digit bytes == 0 then ([], byte ∷ bytes) else (take (prefix_len is_digit bytes) bytes, drop (prefix_len is_digit bytes) bytes)) else
    ([], byte ∷ bytes)

-- The number with these digits before and after its point.
unfoldable pub number_token : List ℕ → List ℕ → Option Token
number_token whole fraction =
    if nat_lt decimals_limit (length fraction) then None else option_and_then
    (λ before. option_and_then (λ digits. Some (token.Number digits (length fraction))) (bounded_number before fraction)) (bounded_number 0 whole)

-- The number at the beginning, as long as possible.
unfoldable pub number_at : List ℕ → Option (Token × List ℕ)
number_at bytes =
    let whole = take (prefix_len is_digit bytes) bytes in
    let behind = fraction_of (drop (prefix_len is_digit bytes) bytes) in
    if begins_with is_word_byte behind.1 then None else with_rest (number_token whole behind.0) behind.1

abbrev pub symbol_token : Option Symbol → Option Token
symbol_token None = None
symbol_token (Some symbol) = Some (token.Symbol symbol)

-- The symbol at the beginning: one of two bytes if there is one, else one of one byte.
unfoldable pub symbol_at : List ℕ → Option (Token × List ℕ)
symbol_at bytes =
    option_or (with_rest (symbol_token (symbol_of (take 2 bytes))) (drop 2 bytes)) (with_rest (symbol_token (symbol_of (take 1 bytes))) (drop 1 bytes))

-- The token at the beginning of bytes that don't begin with a blank.
unfoldable pub token_at : List ℕ → Option (Token × List ℕ)
token_at [] = None
token_at (first ∷ others) =
    if is_letter first then word_at (first ∷ others) else (if is_digit first then number_at (first ∷ others) else symbol_at (first ∷ others))

-- The tokens that the line spells; `None` states that it spells none.
abbrev pub TokensAre : List ℕ → Option (List Token) → Type 0
TokensAre line None = (tokens : List Token) → Spells tokens line → ⊥
TokensAre line (Some tokens) = Spells tokens line
