-- A text and a table in one input, with the line `trace` between them.
use Rattle.std.specs.Prelude.{◌≡◌, ◌⊎◌, ℕ, ◌==◌, not, List, [], ◌∷◌, ◌++◌, codes, IsTrue}
use Rattle.std.specs.List.{AllByRecursion, flat_map, list_all}
use Rattle.unit_tree.specs.Lines.{code_of, lines_of, without_return}
use Rattle.unit_tree.specs.Tokens.{Spells}
use Rattle.unit_tree.specs.declared.token.Token.{Token}
use Rattle.unit_tree.specs.declared.token.Token.TheVariants as token

-- `trace`, which is not a reserved word.
abbrev pub trace_tokens : List Token
trace_tokens = token.Name (codes "trace") ∷ []

-- The line, without its LF, has only this word. Blanks, a comment and a CR at its end are allowed as on any line of a text.
abbrev pub IsPartingLine : List ℕ → Type 0
IsPartingLine line = Spells trace_tokens (code_of (without_return line))

abbrev pub IsOtherLine : List ℕ → Type 0
IsOtherLine line = IsPartingLine line → ⊥

-- The line has no end in it.
abbrev pub IsWhole : List ℕ → Type 0
IsWhole line = IsTrue (list_all (λ byte. not (byte == 10)) line)

-- Lines, each with its end.
abbrev pub ended : List (List ℕ) → List ℕ
ended lines = flat_map (λ line. line ++ 10 ∷ []) lines

-- A text is this line, its end and then the rest. The last line may lack its end.
abbrev pub IsCutBehind : List ℕ → List ℕ → List ℕ → Type 0
IsCutBehind text line rest = (text ≡ line ++ 10 ∷ rest) ⊎ ((text ≡ line) × (rest ≡ []))

-- The parts of the input: the lines before its first line `trace`, and the bytes after that line.
pub record IsParted (input model table : List ℕ) : Type 0 where
  pub before : List (List ℕ)
  pub line : List ℕ
  pub behind : List ℕ
  pub model_is : model ≡ ended before
  pub cut : input ≡ model ++ behind
  pub cut_behind : IsCutBehind behind line table
  pub whole : AllByRecursion IsWhole before × IsWhole line
  pub is_trace : IsPartingLine line
  pub is_first : AllByRecursion IsOtherLine before

-- No line of the input is `trace`.
abbrev pub LacksTrace : List ℕ → Type 0
LacksTrace input = AllByRecursion IsOtherLine (lines_of input)
