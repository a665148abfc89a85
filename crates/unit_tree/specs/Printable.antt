-- Systems whose numbers are in range, and systems that have a canonical text.
use Rattle.std.specs.Prelude.{◌≡◌, ◌≤◌, ℕ, suc, max, Bool, true, false, ◌&&◌, nat_le, not, List, [], ◌∷◌, ◌++◌, map, length, Option, Some, None, IsTrue}
use Rattle.std.specs.Prelude.{IsFalse, ⊤}
use Rattle.std.specs.Int.{is_negative}
use Rattle.std.specs.List.{AllByRecursion, list_all, list_any, fold}
use Rattle.model_rules.specs.Limits.{block_limit, decimals_limit, line_limit, text_limit, writing_limit}
use Rattle.fixed_words.specs.Types.{is_word_of}
use Rattle.fixed_words.specs.declared.types.Literal.{Literal}
use Rattle.fixed_words.specs.declared.types.Literal.TheVariants as literal
use Rattle.fixed_words.specs.declared.types.Ty.TheVariants.{Int64}
use Rattle.unit_tree.specs.Canonical.{canonical_forms, canonical_phrase, canonical_text, line_text}
use Rattle.unit_tree.specs.LineForms.{Tail, Nothing, OfLiteral, OfSeconds, OfExpression, tail_of, AreCountsInRange, is_of_version_2}
use Rattle.unit_tree.specs.Names.{names_in, expression_on}
use Rattle.unit_tree.specs.Phrases.{nesting}
use Rattle.unit_tree.specs.Tokens.{IsWord, IsName}
use Rattle.unit_tree.specs.Values.{is_ranged}
use Rattle.unit_tree.specs.declared.expr.Expr.{Expr, fold-Expr}
use Rattle.unit_tree.specs.declared.expr.Expr.TheOpen.{Expr-F}
use Rattle.unit_tree.specs.declared.line.Line.{Line, fold-Line}
use Rattle.unit_tree.specs.declared.line.Line.TheOpen.{Line-F}
use Rattle.unit_tree.specs.declared.line_form.LineForm.{LineForm}
use Rattle.unit_tree.specs.declared.line_form.LineForm.TheVariants as form
use Rattle.unit_tree.specs.declared.system.System.{System}

-- ---- In range

abbrev pub names_on_expression : Option Expr → List (List ℕ)
names_on_expression None = []
names_on_expression (Some value) = names_in value

-- The names on a line before its expression.
abbrev pub names_said : LineForm → List (List ℕ)
names_said (form.Unit name) = name ∷ []
names_said (form.Param param) = param.name ∷ []
names_said (form.State state) = state.name ∷ []
names_said (form.Local local) = local.name ∷ []
names_said (form.Input input) = input.name ∷ []
names_said (form.EventInput event) = event.name ∷ []
names_said (form.Output output) = output.name ∷ output.needs
names_said (form.EventOutput event) = event.name ∷ event.needs
names_said (form.Assign target value) = target ∷ []
names_said (form.Instance name unit) = name ∷ unit ∷ []
names_said (form.Setting setting) = setting.name ∷ []
names_said (form.Connect wire) = wire.from.instance ∷ wire.from.port ∷ wire.to.instance ∷ wire.to.port ∷ []
names_said (form.Sample port) = port.instance ∷ port.port ∷ []
names_said _ = []

-- All names on a line.
abbrev pub names_on : LineForm → List (List ℕ)
names_on line = names_said line ++ names_on_expression (expression_on line)

-- A literal has at most nine decimals.
abbrev pub IsLiteralInRange : Literal → Type 0
IsLiteralInRange (literal.Truth told) = ⊤
IsLiteralInRange (literal.Number number decimals) = decimals ≤ decimals_limit

-- A literal, a number of seconds, and the numbers of an expression have at most nine decimals; so has each `fix N` in
-- the expression.
abbrev pub IsTailInRange : Tail → Type 0
IsTailInRange Nothing = ⊤
IsTailInRange (OfLiteral value) = IsLiteralInRange value
IsTailInRange (OfSeconds seconds) = IsLiteralInRange seconds
IsTailInRange (OfExpression value) = IsTrue (is_ranged value)

-- The counts and the numbers of decimals on a line are in the ranges of the language.
abbrev pub IsInRange : LineForm → Type 0
IsInRange line = AreCountsInRange line × IsTailInRange (tail_of line)

-- Whether the line declares an event port.
abbrev pub is_event_port : LineForm → Bool
is_event_port (form.EventInput event) = true
is_event_port (form.EventOutput event) = true
is_event_port _ = false

-- The system is in range: its version is 1 or 2, and it has no event ports if the version is 1; its names are words;
-- and the numbers on its lines are in range.
pub record IsRanged (system : System) : Type 0 where
  pub version : (1 ≤ system.version) × (system.version ≤ 2)
  pub events : system.version ≡ 1 → IsFalse (list_any is_event_port (canonical_forms system))
  pub names : AllByRecursion (λ line. AllByRecursion IsWord (names_on line)) (canonical_forms system)
  pub numbers : AllByRecursion IsInRange (canonical_forms system)

-- ---- Printable

-- One node, where for each part it is given whether all its numbers are words from 0 up.
abbrev pub node_is_unsigned : Expr-F Bool → Bool
node_is_unsigned (Expr-F.Number number decimals) = not (is_negative number) && is_word_of Int64 number
node_is_unsigned (Expr-F.Unary op arg) = arg
node_is_unsigned (Expr-F.Binary op left right) = left && right
node_is_unsigned (Expr-F.Clamp value low high) = value && (low && high)
node_is_unsigned (Expr-F.Choose cond then_part else_part) = cond && (then_part && else_part)
node_is_unsigned _ = true

-- The numbers of an expression are words from 0 up.
abbrev pub is_unsigned : Expr → Bool
is_unsigned = fold-Expr Bool node_is_unsigned

-- A literal is a truth value, or its number is a word.
abbrev pub is_word_literal : Literal → Bool
is_word_literal (literal.Truth told) = true
is_word_literal (literal.Number number decimals) = is_word_of Int64 number

-- A number of seconds is a word from 0 up.
abbrev pub is_seconds : Literal → Bool
is_seconds (literal.Truth told) = false
is_seconds (literal.Number number decimals) = not (is_negative number) && is_word_of Int64 number

-- A literal's number is a word, and a number of seconds is a word from 0 up. The numbers of an expression are words
-- from 0 up, and its canonical text is nested at most 64 levels deep.
abbrev pub is_writable : Tail → Bool
is_writable Nothing = true
is_writable (OfLiteral value) = is_word_literal value
is_writable (OfSeconds seconds) = is_seconds seconds
is_writable (OfExpression value) = is_unsigned value && nat_le (nesting (canonical_phrase value)) writing_limit

-- How deep blocks of `if` and `repeat` are nested: the greatest of the depths of lines, and the depth of one line,
-- where the lines of its blocks are given as their depths.
abbrev pub deepest : List ℕ → ℕ
deepest depths = fold max 0 depths

abbrev pub else_depth : Option (List ℕ) → ℕ
else_depth None = 0
else_depth (Some depths) = deepest depths

abbrev pub block_depth : Line-F ℕ → ℕ
block_depth (Line-F.If cond then_lines else_lines) = suc (max (deepest then_lines) (else_depth else_lines))
block_depth (Line-F.Repeat count body) = suc (deepest body)
block_depth _ = 0

abbrev pub line_depth : Line → ℕ
line_depth = fold-Line ℕ block_depth

abbrev pub step_depth : Option (List Line) → ℕ
step_depth None = 0
step_depth (Some lines) = deepest (map line_depth lines)

-- The system has a canonical text. It is in range, and of version 2 where a line is of that version. Its names are not
-- reserved, and its numbers are words with the signs that the language allows. Its nesting, its blocks, its lines and
-- its text are within their limits.
pub record IsPrintable (system : System) : Type 0 where
  pub ranged : IsRanged system
  pub of_version : system.version ≡ 1 → IsFalse (list_any is_of_version_2 (canonical_forms system))
  pub names : AllByRecursion (λ line. AllByRecursion IsName (names_on line)) (canonical_forms system)
  pub tails : IsTrue (list_all (λ line. is_writable (tail_of line)) (canonical_forms system))
  pub blocks : IsTrue (list_all (λ unit. nat_le (step_depth unit.step) block_limit) system.units)
  pub lines : IsTrue (list_all (λ line. nat_le (length (line_text line)) line_limit) (canonical_forms system))
  pub text : length (canonical_text system) ≤ text_limit
