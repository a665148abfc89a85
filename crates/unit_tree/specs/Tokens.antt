-- The tokens of a line: how each is spelled, and where it ends.
use Rattle.std.specs.Prelude.{◌≡◌, ℕ, ◌<◌, ◌≤◌, Bool, false, ◌&&◌, ◌||◌, ◌==◌, nat_le, List, [], ◌∷◌, ◌++◌, length, codes, IsTrue, IsFalse}
use Rattle.std.specs.List.{list_all}
use Rattle.model_rules.specs.Limits.{name_limit}
pub use Rattle.fixed_words.specs.Digits.{is_digit, number_from, pointed, IsNumber}
use Rattle.unit_tree.specs.declared.token.Keyword.{Keyword}
use Rattle.unit_tree.specs.declared.token.Keyword.TheVariants as word
use Rattle.unit_tree.specs.declared.token.Symbol.{Symbol}
use Rattle.unit_tree.specs.declared.token.Symbol.TheVariants as sign
use Rattle.unit_tree.specs.declared.token.Token.{Token}
use Rattle.unit_tree.specs.declared.token.Token.TheVariants as token

-- Space and tab.
abbrev pub is_blank : ℕ → Bool
is_blank byte = (byte == 32) || (byte == 9)

-- A letter or `_`.
abbrev pub is_letter : ℕ → Bool
is_letter byte = (nat_le 97 byte && nat_le byte 122) || (nat_le 65 byte && nat_le byte 90) || (byte == 95)

-- The bytes of words and numbers: letters, digits and `_`.
abbrev pub is_word_byte : ℕ → Bool
is_word_byte byte = is_letter byte || is_digit byte

abbrev pub keyword_text : Keyword → List ℕ
keyword_text word.Cosim = codes "cosim"
keyword_text word.Unit = codes "unit"
keyword_text word.Resolution = codes "resolution"
keyword_text word.Param = codes "param"
keyword_text word.State = codes "state"
keyword_text word.Local = codes "local"
keyword_text word.Input = codes "input"
keyword_text word.Output = codes "output"
keyword_text word.Needs = codes "needs"
keyword_text word.Max = codes "max"
keyword_text word.Step = codes "step"
keyword_text word.Repeat = codes "repeat"
keyword_text word.Accept = codes "accept"
keyword_text word.End = codes "end"
keyword_text word.Instance = codes "instance"
keyword_text word.Connect = codes "connect"
keyword_text word.Stop = codes "stop"
keyword_text word.Longest = codes "longest"
keyword_text word.Zero = codes "zero"
keyword_text word.Rows = codes "rows"
keyword_text word.Sample = codes "sample"
keyword_text word.If = codes "if"
keyword_text word.Then = codes "then"
keyword_text word.Else = codes "else"
keyword_text word.And = codes "and"
keyword_text word.Or = codes "or"
keyword_text word.Not = codes "not"
keyword_text word.Div = codes "div"
keyword_text word.Mod = codes "mod"
keyword_text word.Abs = codes "abs"
keyword_text word.Min = codes "min"
keyword_text word.Clamp = codes "clamp"
keyword_text word.Int = codes "int"
keyword_text word.Fix = codes "fix"
keyword_text word.True = codes "true"
keyword_text word.False = codes "false"
keyword_text word.Time = codes "t"
keyword_text word.Length = codes "h"
keyword_text word.Event = codes "event"
keyword_text word.Present = codes "present"
keyword_text word.Absent = codes "absent"

abbrev pub symbol_text : Symbol → List ℕ
symbol_text sign.Assign = codes ":="
symbol_text sign.Arrow = codes "->"
symbol_text sign.Equals = codes "=="
symbol_text sign.Differs = codes "!="
symbol_text sign.AtMost = codes "<="
symbol_text sign.AtLeast = codes ">="
symbol_text sign.Colon = codes ":"
symbol_text sign.Is = codes "="
symbol_text sign.Less = codes "<"
symbol_text sign.Greater = codes ">"
symbol_text sign.Plus = codes "+"
symbol_text sign.Minus = codes "-"
symbol_text sign.Star = codes "*"
symbol_text sign.Slash = codes "/"
symbol_text sign.Open = codes "("
symbol_text sign.Close = codes ")"
symbol_text sign.Comma = codes ","
symbol_text sign.Point = codes "."

-- A word: a letter or `_`, then letters, digits and `_`; at most 32 bytes.
abbrev pub IsWord : List ℕ → Type 0
IsWord [] = ⊥
IsWord (first ∷ others) = IsTrue (is_letter first) × IsTrue (list_all is_word_byte others) × (length others < name_limit)

abbrev pub IsReserved : List ℕ → Type 0
IsReserved text = (keyword : Keyword) × (text ≡ keyword_text keyword)

-- A name is a word that is not reserved.
abbrev pub IsName : List ℕ → Type 0
IsName text = IsWord text × (IsReserved text → ⊥)

-- The text spells the token.
abbrev pub IsSpelling : Token → List ℕ → Type 0
IsSpelling (token.Keyword keyword) text = text ≡ keyword_text keyword
IsSpelling (token.Name name) text = (text ≡ name) × IsName name
IsSpelling (token.Number digits decimals) text = IsNumber digits decimals text
IsSpelling (token.Symbol symbol) text = text ≡ symbol_text symbol

-- Whether there is a first byte and it passes the test.
abbrev pub begins_with : (ℕ → Bool) → List ℕ → Bool
begins_with test [] = false
begins_with test (byte ∷ bytes) = test byte

-- Whether the bytes begin with a point and a digit.
abbrev pub begins_with_fraction : List ℕ → Bool
begins_with_fraction [] = false
begins_with_fraction (byte ∷ bytes) = (byte == 46) && begins_with is_digit bytes

-- No longer symbol begins where this symbol, followed by these bytes, does.
abbrev pub IsLongest : Symbol → List ℕ → Type 0
IsLongest symbol rest =
    (other : Symbol) (after : List ℕ) → symbol_text symbol ++ rest ≡ symbol_text other ++ after → length (symbol_text other) ≤ length (symbol_text symbol)

-- The token ends before these bytes. A word or a number is as long as possible; no letter and no `_`
-- follows a number directly; and a symbol is the longest one.
abbrev pub Ends : Token → List ℕ → Type 0
Ends (token.Keyword keyword) rest = IsFalse (begins_with is_word_byte rest)
Ends (token.Name name) rest = IsFalse (begins_with is_word_byte rest)
Ends (token.Number digits decimals) rest =
    IsFalse (begins_with is_word_byte rest) × (decimals ≡ 0 → IsFalse (begins_with_fraction rest))
Ends (token.Symbol symbol) rest = IsLongest symbol rest

-- The line begins with the token, perhaps after blanks, and the rest follows it.
pub record BeginsWith (line : List ℕ) (first : Token) (rest : List ℕ) : Type 0 where
  pub blanks : List ℕ
  pub text : List ℕ
  pub cut : line ≡ blanks ++ text ++ rest
  pub are_blank : IsTrue (list_all is_blank blanks)
  pub spelling : IsSpelling first text
  pub ends : Ends first rest

-- The bytes spell the tokens, one after the other, with blanks between any two and at both ends.
abbrev pub Spells : List Token → List ℕ → Type 0
Spells [] line = IsTrue (list_all is_blank line)
Spells (first ∷ others) line = (rest : List ℕ) × BeginsWith line first rest × Spells others rest
