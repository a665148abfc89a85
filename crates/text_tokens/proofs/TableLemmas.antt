-- Each keyword and symbol is found by its text.
use Rattle.std.proofs.Common.{◌≡◌, ℕ, Bool, true, false, not, ◌&&◌, List, [], ◌∷◌, refl, sym, Some, None}
use Rattle.std.specs.List.{list_all}
use Rattle.std.specs.Str.{bytes_eq}
use Rattle.std.proofs.lemmas.Slice.Eq.{bytes_eq-Decides}
use Rattle.unit_tree.specs.Tokens.{is_blank, is_digit, is_letter, is_word_byte, keyword_text, symbol_text, begins_with, IsReserved}
use Rattle.unit_tree.specs.declared.token.Keyword.{Keyword}
use Rattle.unit_tree.specs.declared.token.Keyword.TheVariants as word
use Rattle.unit_tree.specs.declared.token.Symbol.{Symbol}
use Rattle.unit_tree.specs.declared.token.Symbol.TheVariants as sign
use Rattle.list_laws.proofs.Members.{found_passes}
use Rattle.text_tokens.specs.Scanning.{keywords_like, symbols_like, keyword_of, symbol_of}

-- ---- keywords

pub keyword_of-keyword_text : (keyword : Keyword) → keyword_of (keyword_text keyword) ≡ Some keyword
unfolding keyword_of
keyword_of-keyword_text word.Cosim = refl
keyword_of-keyword_text word.Unit = refl
keyword_of-keyword_text word.Resolution = refl
keyword_of-keyword_text word.Param = refl
keyword_of-keyword_text word.State = refl
keyword_of-keyword_text word.Local = refl
keyword_of-keyword_text word.Input = refl
keyword_of-keyword_text word.Output = refl
keyword_of-keyword_text word.Needs = refl
keyword_of-keyword_text word.Max = refl
keyword_of-keyword_text word.Step = refl
keyword_of-keyword_text word.Repeat = refl
keyword_of-keyword_text word.Accept = refl
keyword_of-keyword_text word.End = refl
keyword_of-keyword_text word.Instance = refl
keyword_of-keyword_text word.Connect = refl
keyword_of-keyword_text word.Stop = refl
keyword_of-keyword_text word.Longest = refl
keyword_of-keyword_text word.Zero = refl
keyword_of-keyword_text word.Rows = refl
keyword_of-keyword_text word.Sample = refl
keyword_of-keyword_text word.If = refl
keyword_of-keyword_text word.Then = refl
keyword_of-keyword_text word.Else = refl
keyword_of-keyword_text word.And = refl
keyword_of-keyword_text word.Or = refl
keyword_of-keyword_text word.Not = refl
keyword_of-keyword_text word.Div = refl
keyword_of-keyword_text word.Mod = refl
keyword_of-keyword_text word.Abs = refl
keyword_of-keyword_text word.Min = refl
keyword_of-keyword_text word.Clamp = refl
keyword_of-keyword_text word.Int = refl
keyword_of-keyword_text word.Fix = refl
keyword_of-keyword_text word.True = refl
keyword_of-keyword_text word.False = refl
keyword_of-keyword_text word.Time = refl
keyword_of-keyword_text word.Length = refl
keyword_of-keyword_text word.Event = refl
keyword_of-keyword_text word.Present = refl
keyword_of-keyword_text word.Absent = refl

pub keyword_of_is : (text : List ℕ) (keyword : Keyword) → keyword_of text ≡ Some keyword → text ≡ keyword_text keyword
unfolding keyword_of
keyword_of_is text keyword e =
    sym ((bytes_eq-Decides (keyword_text keyword) text).0 (found_passes (λ k. bytes_eq (keyword_text k) text) (keywords_like text) keyword e))

pub keyword_of_none : (text : List ℕ) → keyword_of text ≡ None → IsReserved text → ⊥
keyword_of_none text e (keyword, spelled) =
    let found : keyword_of text ≡ Some keyword = rw spelled (keyword_of-keyword_text keyword) in
    cc

-- a letter, and then bytes of a word
abbrev pub is_word_text : List ℕ → Bool
is_word_text text = begins_with is_letter text && list_all is_word_byte text

pub keyword_is_word : (keyword : Keyword) → is_word_text (keyword_text keyword) ≡ true
keyword_is_word word.Cosim = refl
keyword_is_word word.Unit = refl
keyword_is_word word.Resolution = refl
keyword_is_word word.Param = refl
keyword_is_word word.State = refl
keyword_is_word word.Local = refl
keyword_is_word word.Input = refl
keyword_is_word word.Output = refl
keyword_is_word word.Needs = refl
keyword_is_word word.Max = refl
keyword_is_word word.Step = refl
keyword_is_word word.Repeat = refl
keyword_is_word word.Accept = refl
keyword_is_word word.End = refl
keyword_is_word word.Instance = refl
keyword_is_word word.Connect = refl
keyword_is_word word.Stop = refl
keyword_is_word word.Longest = refl
keyword_is_word word.Zero = refl
keyword_is_word word.Rows = refl
keyword_is_word word.Sample = refl
keyword_is_word word.If = refl
keyword_is_word word.Then = refl
keyword_is_word word.Else = refl
keyword_is_word word.And = refl
keyword_is_word word.Or = refl
keyword_is_word word.Not = refl
keyword_is_word word.Div = refl
keyword_is_word word.Mod = refl
keyword_is_word word.Abs = refl
keyword_is_word word.Min = refl
keyword_is_word word.Clamp = refl
keyword_is_word word.Int = refl
keyword_is_word word.Fix = refl
keyword_is_word word.True = refl
keyword_is_word word.False = refl
keyword_is_word word.Time = refl
keyword_is_word word.Length = refl
keyword_is_word word.Event = refl
keyword_is_word word.Present = refl
keyword_is_word word.Absent = refl

-- ---- symbols

pub symbol_of-symbol_text : (symbol : Symbol) → symbol_of (symbol_text symbol) ≡ Some symbol
unfolding symbol_of
symbol_of-symbol_text sign.Assign = refl
symbol_of-symbol_text sign.Arrow = refl
symbol_of-symbol_text sign.Equals = refl
symbol_of-symbol_text sign.Differs = refl
symbol_of-symbol_text sign.AtMost = refl
symbol_of-symbol_text sign.AtLeast = refl
symbol_of-symbol_text sign.Colon = refl
symbol_of-symbol_text sign.Is = refl
symbol_of-symbol_text sign.Less = refl
symbol_of-symbol_text sign.Greater = refl
symbol_of-symbol_text sign.Plus = refl
symbol_of-symbol_text sign.Minus = refl
symbol_of-symbol_text sign.Star = refl
symbol_of-symbol_text sign.Slash = refl
symbol_of-symbol_text sign.Open = refl
symbol_of-symbol_text sign.Close = refl
symbol_of-symbol_text sign.Comma = refl
symbol_of-symbol_text sign.Point = refl

pub symbol_of_is : (text : List ℕ) (symbol : Symbol) → symbol_of text ≡ Some symbol → text ≡ symbol_text symbol
unfolding symbol_of
symbol_of_is text symbol e =
    sym ((bytes_eq-Decides (symbol_text symbol) text).0 (found_passes (λ k. bytes_eq (symbol_text k) text) (symbols_like text) symbol e))

-- one byte or two, the first no blank, no letter and no digit, and the second no blank
abbrev pub is_symbol_text : List ℕ → Bool
is_symbol_text [] = false
is_symbol_text (first ∷ []) = not (is_blank first) && not (is_letter first) && not (is_digit first)
is_symbol_text (first ∷ second ∷ []) = not (is_blank first) && not (is_letter first) && not (is_digit first) && not (is_blank second)
is_symbol_text (first ∷ second ∷ third ∷ others) = false

pub symbol_is_text : (symbol : Symbol) → is_symbol_text (symbol_text symbol) ≡ true
symbol_is_text sign.Assign = refl
symbol_is_text sign.Arrow = refl
symbol_is_text sign.Equals = refl
symbol_is_text sign.Differs = refl
symbol_is_text sign.AtMost = refl
symbol_is_text sign.AtLeast = refl
symbol_is_text sign.Colon = refl
symbol_is_text sign.Is = refl
symbol_is_text sign.Less = refl
symbol_is_text sign.Greater = refl
symbol_is_text sign.Plus = refl
symbol_is_text sign.Minus = refl
symbol_is_text sign.Star = refl
symbol_is_text sign.Slash = refl
symbol_is_text sign.Open = refl
symbol_is_text sign.Close = refl
symbol_is_text sign.Comma = refl
symbol_is_text sign.Point = refl
