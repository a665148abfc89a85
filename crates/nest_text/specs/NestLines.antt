-- Lines of nested texts: their kinds, and where each is allowed.
--
-- A nested text is a list of parts. Each part begins with a line `group G`, except the last one, which begins with the
-- line `main`. `group`, `main`, `in` and `out` are not reserved, so names may be these words.
use Rattle.std.specs.Prelude.{◌≡◌, ◌⊎◌, ℕ, Bool, true, false, ◌&&◌, List, [], ◌∷◌, codes, IsTrue}
use Rattle.std.specs.List.{AllZip, enumerate_from}
use Rattle.unit_tree.specs.LineForms.{HasForm, port_tokens}
use Rattle.unit_tree.specs.Lines.{code_of, is_blank_line, lines_of, without_return}
use Rattle.unit_tree.specs.Phrases.{symbol}
use Rattle.unit_tree.specs.Tokens.{Spells}
use Rattle.unit_tree.specs.declared.line_form.LineForm.TheVariants as form
use Rattle.unit_tree.specs.declared.system.Wire.{Wire}
use Rattle.unit_tree.specs.declared.token.Symbol.TheVariants as sign
use Rattle.unit_tree.specs.declared.token.Token.{Token}
use Rattle.unit_tree.specs.declared.token.Token.TheVariants as token
use Rattle.nest_text.specs.declared.kind.LineKind.{LineKind}
use Rattle.nest_text.specs.declared.kind.LineKind.TheVariants as kinds
use Rattle.nest_text.specs.declared.nest.Bind.{Bind}
use Rattle.nest_text.specs.declared.place.PartPlace.{PartPlace}
use Rattle.nest_text.specs.declared.place.PartPlace.TheVariants as places

-- ---- Kinds

-- `group G`, `main`, `in u -> a.v` and `out y = a.w`.
abbrev pub group_tokens : List ℕ → List Token
group_tokens name = token.Name (codes "group") ∷ token.Name name ∷ []

abbrev pub main_tokens : List Token
main_tokens = token.Name (codes "main") ∷ []

abbrev pub in_tokens : Bind → List Token
in_tokens bind = token.Name (codes "in") ∷ token.Name bind.port ∷ symbol sign.Arrow ∷ port_tokens bind.inner

abbrev pub out_tokens : Bind → List Token
out_tokens bind = token.Name (codes "out") ∷ token.Name bind.port ∷ symbol sign.Is ∷ port_tokens bind.inner

-- The line, without its end, has the kind, which is not `Other`.
abbrev pub HasKind : List ℕ → LineKind → Type 0
HasKind line (kinds.Begins name) = Spells (group_tokens name) (code_of line)
HasKind line kinds.Main = Spells main_tokens (code_of line)
HasKind line (kinds.In bind) = Spells (in_tokens bind) (code_of line)
HasKind line (kinds.Out bind) = Spells (out_tokens bind) (code_of line)
HasKind line kinds.Opens = (name : List ℕ) × (unit : List ℕ) × HasForm (form.Instance name unit) line
HasKind line kinds.Ends = HasForm form.End line
HasKind line kinds.Connects = (wire : Wire) × HasForm (form.Connect wire) line
HasKind line kinds.Blank = IsTrue (is_blank_line line)
HasKind line kinds.Other = ⊥

-- Each line has one kind: it is `Other` where it has no other kind.
abbrev pub IsKind : List ℕ → LineKind → Type 0
IsKind line kind = HasKind line kind ⊎ ((kind ≡ kinds.Other) × ((some : LineKind) → HasKind line some → ⊥))

-- ---- Places

-- The place after a line.
abbrev pub place_after : PartPlace → LineKind → PartPlace
place_after places.InMain kind = places.InMain
place_after place kinds.Main = places.InMain
place_after place (kinds.Begins name) = places.InGroup
place_after places.BeforeParts kind = places.BeforeParts
place_after place kinds.Opens = places.InBlock
place_after place kinds.Ends = places.InGroup
place_after place kind = place

-- Whether a line is allowed there. Before the parts all lines are blank. A group has blank lines and lines of five
-- kinds, but `in` and `out` lines only outside blocks. The reader of the language judges all that follows `main`,
-- except that a second `main` is not allowed.
abbrev pub may_stand : PartPlace → LineKind → Bool
may_stand places.InMain kinds.Main = false
may_stand places.InMain kind = true
may_stand place kinds.Blank = true
may_stand place (kinds.Begins name) = true
may_stand place kinds.Main = true
may_stand places.BeforeParts kind = false
may_stand place kinds.Other = false
may_stand places.InBlock (kinds.In bind) = false
may_stand places.InBlock (kinds.Out bind) = false
may_stand place kind = true

-- ---- Lines of a text

-- A line: its number, counted from 1, its bytes without the LF, and its kind.
pub record SourceLine : Type 0 where
  pub number : ℕ
  pub bytes : List ℕ
  pub kind : LineKind

-- The line has this number, these bytes, and their kind. A CR belongs to the end of the line.
pub record IsLine (numbered : ℕ × List ℕ) (line : SourceLine) : Type 0 where
  pub number : line.number ≡ numbered.0
  pub bytes : line.bytes ≡ numbered.1
  pub kind : IsKind (without_return numbered.1) line.kind

-- The lines are those of a text, numbered from `first` on.
abbrev pub AreLines : ℕ → List ℕ → List SourceLine → Type 0
AreLines first text lines = AllZip IsLine (enumerate_from first (lines_of text)) lines

-- Each line is allowed after those before it.
abbrev pub are_placed : PartPlace → List SourceLine → Bool
are_placed place [] = true
are_placed place (line ∷ lines) = may_stand place line.kind && are_placed (place_after place line.kind) lines

-- The place after lines that begin at the first place.
abbrev pub place_behind : PartPlace → List SourceLine → PartPlace
place_behind place [] = place
place_behind place (line ∷ lines) = place_behind (place_after place line.kind) lines
