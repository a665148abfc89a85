-- Canonical text: of all texts with the same system, the one that the printer writes.
use Rattle.std.specs.Prelude.{ℕ, Bool, false, ◌&&◌, if◌then◌else◌, unsigned_abs, List, [], ◌∷◌, ◌++◌, map, Option, Some, None}
use Rattle.std.specs.Int.{is_negative}
use Rattle.std.specs.List.{flat_map, last_or}
use Rattle.fixed_words.specs.Texts.{fixed_text}
use Rattle.fixed_words.specs.declared.types.Literal.{Literal}
use Rattle.fixed_words.specs.declared.types.Literal.TheVariants as literal
use Rattle.unit_tree.specs.LineForms.{Tail, Nothing, OfLiteral, OfSeconds, OfExpression, front_tokens, tail_of, sign_tokens}
use Rattle.unit_tree.specs.Parts as parts
use Rattle.unit_tree.specs.Parts.{Part, UnitPart, text_forms}
use Rattle.unit_tree.specs.Phrases as phrase
use Rattle.unit_tree.specs.Phrases.{Phrase, Level, level_of, operand_level, left_level, right_level, unary_level, binary_level, allows, phrase_tokens}
use Rattle.unit_tree.specs.Phrases.{keyword, truth_word}
use Rattle.unit_tree.specs.Tokens.{is_word_byte, begins_with, keyword_text, symbol_text}
use Rattle.unit_tree.specs.declared.expr.Expr.{Expr, fold-Expr}
use Rattle.unit_tree.specs.declared.expr.Expr.TheOpen.{Expr-F}
use Rattle.unit_tree.specs.declared.line_form.LineForm.{LineForm}
use Rattle.unit_tree.specs.declared.system.System.{System}
use Rattle.unit_tree.specs.declared.token.Token.{Token}
use Rattle.unit_tree.specs.declared.token.Token.TheVariants as token
use Rattle.unit_tree.specs.declared.unit.Unit.{Unit}

-- ---- Order

abbrev pub optional : {A B : Type 0} → (A → B) → Option A → List B
optional part None = []
optional part (Some given) = part given ∷ []

-- The parts of a unit in canonical order.
abbrev pub unit_parts : Unit → List UnitPart
unit_parts unit =
    optional parts.Resolution unit.resolution
    ++ map parts.HasParam unit.params
    ++ map parts.HasState unit.states
    ++ map parts.HasLocal unit.locals
    ++ map parts.HasInput unit.inputs
    ++ map parts.HasEventIn unit.events_in
    ++ map parts.HasOutput unit.outputs
    ++ map parts.HasEventOut unit.events_out
    ++ optional parts.Max unit.max
    ++ optional parts.Step unit.step

-- The parts of a system in canonical order.
abbrev pub canonical_parts : System → List Part
canonical_parts system =
    map (λ unit. parts.HasUnit unit.name (unit_parts unit)) system.units
    ++ map parts.HasInstance system.instances
    ++ map parts.Connects system.wires
    ++ optional parts.Stop system.stop
    ++ optional parts.Longest system.longest
    ++ optional parts.Zero system.zero
    ++ optional parts.Rows system.rows
    ++ map parts.Samples system.samples

-- The canonical lines of a system.
abbrev pub canonical_forms : System → List LineForm
canonical_forms system = text_forms system.version (canonical_parts system)

-- ---- Tokens

-- An expression where the grammar requires a level: in parentheses exactly where its own level is
-- weaker.
abbrev pub placed : Level → Phrase → Phrase
placed asked inner = if allows asked (level_of inner) then inner else phrase.Parens inner

-- One node, whose parts are given as their canonical phrases.
abbrev pub node_phrase : Expr-F Phrase → Phrase
node_phrase (Expr-F.Number number decimals) = phrase.Number (unsigned_abs number) decimals
node_phrase (Expr-F.Truth told) = phrase.Truth told
node_phrase (Expr-F.Var name) = phrase.Var name
node_phrase Expr-F.Time = phrase.Time
node_phrase Expr-F.Step = phrase.Step
node_phrase (Expr-F.Unary op arg) = phrase.Unary op (placed (operand_level (unary_level op)) arg)
node_phrase (Expr-F.Binary op left right) =
    phrase.Binary op (placed (left_level (binary_level op)) left) (placed (right_level (binary_level op)) right)
node_phrase (Expr-F.Clamp value low high) = phrase.Clamp value low high
node_phrase (Expr-F.Choose cond then_part else_part) = phrase.Choose cond then_part else_part
node_phrase Expr-F.Absent = phrase.Absent
node_phrase (Expr-F.Present name) = phrase.Present name

-- How an expression is written without needless parentheses. Its numbers are not negative.
abbrev pub canonical_phrase : Expr → Phrase
canonical_phrase = fold-Expr Phrase node_phrase

abbrev pub expression_tokens : Expr → List Token
expression_tokens value = phrase_tokens (canonical_phrase value)

-- A literal: only a negative number has a `-` before it.
abbrev pub literal_tokens : Literal → List Token
literal_tokens (literal.Truth told) = keyword (truth_word told) ∷ []
literal_tokens (literal.Number number decimals) =
    sign_tokens (is_negative number) ++ (token.Number (unsigned_abs number) decimals ∷ [])

abbrev pub tail_tokens : Tail → List Token
tail_tokens Nothing = []
tail_tokens (OfLiteral value) = literal_tokens value
tail_tokens (OfSeconds seconds) = literal_tokens seconds
tail_tokens (OfExpression value) = expression_tokens value

-- The tokens of a line.
abbrev pub form_tokens : LineForm → List Token
form_tokens some = front_tokens some ++ tail_tokens (tail_of some)

-- ---- Bytes

-- The text of a token. A number has no needless leading zero, and all of its decimals.
abbrev pub token_text : Token → List ℕ
token_text (token.Keyword spelled) = keyword_text spelled
token_text (token.Name name) = name
token_text (token.Number digits decimals) = fixed_text decimals digits
token_text (token.Symbol spelled) = symbol_text spelled

abbrev pub ends_in_word : List ℕ → Bool
ends_in_word text = meets (last_or None text)
  where
    meets : Option ℕ → Bool
    meets None = false
    meets (Some byte) = is_word_byte byte

-- Two texts, the one after the other, with one space exactly where letters, digits or `_` would be next
-- to each other.
abbrev pub spaced : List ℕ → List ℕ → List ℕ
spaced text others = if ends_in_word text && begins_with is_word_byte others then text ++ (32 ∷ others) else text ++ others

abbrev pub tokens_text : List Token → List ℕ
tokens_text [] = []
tokens_text (first ∷ others) = spaced (token_text first) (tokens_text others)

-- A canonical line, without its end.
abbrev pub line_text : LineForm → List ℕ
line_text some = tokens_text (form_tokens some)

-- The canonical text of a system: its canonical lines, each with a LF at its end.
abbrev pub canonical_text : System → List ℕ
canonical_text system = flat_map (λ some. line_text some ++ (10 ∷ [])) (canonical_forms system)
