-- The conditions on printable systems as tests, line by line.
use Rattle.std.specs.Prelude.{ℕ, suc, Bool, true, false, not, ◌&&◌, ◌||◌, ◌==◌, nat_le, nat_lt, List, [], ◌∷◌, length, if◌then◌else◌}
use Rattle.std.specs.Int.{is_negative}
use Rattle.std.specs.List.{list_all, list_any, flat_map}
use Rattle.std.specs.Str.{bytes_eq}
use Rattle.model_rules.specs.Limits.{decimals_limit, line_limit, name_limit, rows_limit, turn_limit, writing_limit, zero_limit}
use Rattle.fixed_words.specs.Types.{is_word_of}
use Rattle.fixed_words.specs.declared.types.Literal.{Literal}
use Rattle.fixed_words.specs.declared.types.Literal.TheVariants as literal
use Rattle.fixed_words.specs.declared.types.Ty.{Ty}
use Rattle.fixed_words.specs.declared.types.Ty.TheVariants as types
use Rattle.unit_tree.specs.Canonical.{canonical_phrase}
use Rattle.unit_tree.specs.LineForms.{Tail, Nothing, OfLiteral, OfSeconds, OfExpression, tail_of, speaks_of_events}
use Rattle.unit_tree.specs.Names.{names_in}
use Rattle.unit_tree.specs.Parts.{UnitPart, Part, unit_part_forms, part_forms}
use Rattle.unit_tree.specs.Phrases.{nesting}
use Rattle.unit_tree.specs.Printable.{names_said, is_unsigned}
use Rattle.unit_tree.specs.Tokens.{is_letter, is_word_byte, keyword_text}
use Rattle.unit_tree.specs.Values.{is_ranged}
use Rattle.unit_tree.specs.declared.expr.Expr.{Expr}
use Rattle.unit_tree.specs.declared.line_form.LineForm.{LineForm}
use Rattle.unit_tree.specs.declared.line_form.LineForm.TheVariants as form
use Rattle.unit_tree.specs.declared.system.Instance.{Instance}
use Rattle.unit_tree.specs.declared.token.Keyword.{Keyword}
use Rattle.unit_tree.specs.declared.token.Keyword.TheVariants as word

-- ---- Names

-- Whether a text is a word.
abbrev pub is_word : List ℕ → Bool
is_word [] = false
is_word (first ∷ others) = is_letter first && (list_all is_word_byte others && nat_lt (length others) name_limit)

-- The reserved words.
abbrev pub reserved_words : List Keyword
reserved_words =
    word.Cosim ∷ word.Unit ∷ word.Resolution ∷ word.Param ∷ word.State ∷ word.Local ∷ word.Input ∷ word.Output ∷ word.Needs ∷ word.Max ∷ word.Step
    ∷ word.Repeat ∷ word.Accept ∷ word.End ∷ word.Instance ∷ word.Connect ∷ word.Stop ∷ word.Longest ∷ word.Zero ∷ word.Rows ∷ word.Sample ∷ word.If
    ∷ word.Then ∷ word.Else ∷ word.And ∷ word.Or ∷ word.Not ∷ word.Div ∷ word.Mod ∷ word.Abs ∷ word.Min ∷ word.Clamp ∷ word.Int ∷ word.Fix ∷ word.True
    ∷ word.False ∷ word.Time ∷ word.Length ∷ word.Event ∷ word.Present ∷ word.Absent ∷ []

-- Whether a text is one of them.
unfoldable pub is_reserved : List ℕ → Bool
is_reserved text = list_any (λ reserved. bytes_eq text (keyword_text reserved)) reserved_words

-- Whether a text is a name.
unfoldable pub is_name : List ℕ → Bool
is_name text = is_word text && not (is_reserved text)

-- ---- Numbers

-- Whether the decimals of a type are at most 9.
abbrev pub are_decimals : Ty → Bool
are_decimals (types.Fixed decimals) = nat_le decimals decimals_limit
are_decimals _ = true

-- Whether a literal is a truth value, or a word with at most nine decimals.
abbrev pub literal_fits : Literal → Bool
literal_fits (literal.Truth told) = true
literal_fits (literal.Number number decimals) = nat_le decimals decimals_limit && is_word_of types.Int64 number

-- Whether a number of seconds is a word from 0 up with at most nine decimals.
abbrev pub seconds_fit : Literal → Bool
seconds_fit (literal.Truth told) = false
seconds_fit (literal.Number number decimals) = nat_le decimals decimals_limit && (not (is_negative number) && is_word_of types.Int64 number)

-- Whether an expression may be on a line of a text of the version: its names are names, its numbers are in range and
-- not negative, it is nested at most 64 levels deep, and it has `absent` or `present` only in version 2.
unfoldable pub expression_fits : ℕ → Expr → Bool
expression_fits version value =
    list_all is_name (names_in value)
    && (is_ranged value && (is_unsigned value && (nat_le (nesting (canonical_phrase value)) writing_limit && (not (speaks_of_events value) || (version == 2)))))

-- ---- Lines

-- Whether the version, the counts and the decimals on a line are in the ranges of the language.
abbrev pub counts_fit : LineForm → Bool
counts_fit (form.Header version) = nat_le 1 version && nat_le version 2
counts_fit (form.Resolution decimals) = nat_le decimals decimals_limit
counts_fit (form.Param param) = are_decimals param.ty
counts_fit (form.State state) = are_decimals state.ty
counts_fit (form.Local local) = are_decimals local.ty
counts_fit (form.Input input) = are_decimals input.ty
counts_fit (form.EventInput event) = are_decimals event.ty
counts_fit (form.Output output) = are_decimals output.ty
counts_fit (form.EventOutput event) = are_decimals event.ty
counts_fit (form.Repeat count) = nat_le 1 count && nat_le count turn_limit
counts_fit (form.Zero count) = nat_le count zero_limit
counts_fit (form.Rows count) = nat_le 1 count && nat_le count rows_limit
counts_fit _ = true

-- Whether the end of a line, after its first tokens, may be in a text of the version.
abbrev pub tail_fits : ℕ → Tail → Bool
tail_fits version Nothing = true
tail_fits version (OfLiteral value) = literal_fits value
tail_fits version (OfSeconds seconds) = seconds_fit seconds
tail_fits version (OfExpression value) = expression_fits version value

-- Whether only version 2 has lines that begin like this.
abbrev pub begins_in_version_2 : LineForm → Bool
begins_in_version_2 (form.Header version) = version == 2
begins_in_version_2 (form.EventInput event) = true
begins_in_version_2 (form.EventOutput event) = true
begins_in_version_2 _ = false

-- Whether a line may be in a text of the version, apart from its length.
abbrev pub line_fits : ℕ → LineForm → Bool
line_fits version line =
    list_all is_name (names_said line) && (counts_fit line && (tail_fits version (tail_of line) && (not (begins_in_version_2 line) || (version == 2))))

-- Whether the lines of an instance may be in a text of either version.
abbrev pub instance_fits : Instance → Bool
instance_fits instance = (is_name instance.name && is_name instance.unit) && list_all (λ setting. line_fits 1 (form.Setting setting)) instance.settings

-- Whether all lines of parts of a unit may be in a text of the version.
abbrev pub unit_parts_fit : ℕ → List UnitPart → Bool
unit_parts_fit version parts = list_all (line_fits version) (flat_map unit_part_forms parts)

-- Whether all lines of parts of a system may be in a text of the version.
abbrev pub parts_fit : ℕ → List Part → Bool
parts_fit version parts = list_all (line_fits version) (flat_map part_forms parts)

-- ---- Lengths

-- Whether the lines of a text, each ended by LF, have at most 1,000 bytes, where this many bytes come before the
-- first line's.
abbrev pub are_short : ℕ → List ℕ → Bool
are_short before [] = true
are_short before (byte ∷ text) = if byte == 10 then are_short 0 text else (nat_lt before line_limit && are_short (suc before) text)
