-- The nest of a nested text, and at which line and by which rule any other text is refused.
--
--   rule 2            the text is too long
--   rule 26           a line is not allowed where it is, or there is no line `main`
--   rules 1, 3 to 7   the reader refuses a part: the lines of a group except `in` and `out`, or those after `main`
--
-- They are judged in this order, and the parts in their order.
use Rattle.std.specs.Prelude.{◌≡◌, ◌⊎◌, ◌≤◌, ◌<◌, ℕ, ◌+◌, ◌-◌, Bool, true, false, List, [], ◌∷◌, ◌++◌, map, codes, Some, IsTrue, IsFalse, slice_get}
use Rattle.std.specs.List.{AllByRecursion, AllZip, flat_map, list_any}
use Rattle.unit_tree.specs.Lines.{lines_of, size_of}
use Rattle.model_rules.specs.Limits.{text_limit}
use Rattle.unit_tree.specs.Texts.{IsRefused, Reads}
use Rattle.unit_tree.specs.declared.system.System.{System}
use Rattle.nest_text.specs.NestLines.{AreLines, SourceLine, are_placed, may_stand, place_behind}
use Rattle.nest_text.specs.declared.kind.LineKind.{LineKind}
use Rattle.nest_text.specs.declared.kind.LineKind.TheVariants as kinds
use Rattle.nest_text.specs.declared.nest.Bind.{Bind}
use Rattle.nest_text.specs.declared.nest.Group.{Group}
use Rattle.nest_text.specs.declared.nest.Nest.{Nest}
use Rattle.nest_text.specs.declared.place.PartPlace.TheVariants.{BeforeParts}

-- ---- Groups as lines

-- A group as lines: its name, the number of the line with its name, and the lines after that line, up to the next part.
pub record GroupLines : Type 0 where
  pub name : List ℕ
  pub head : ℕ
  pub body : List SourceLine

-- Lines in parts: those before the first group, and the groups.
pub record Parted : Type 0 where
  pub prefix : List SourceLine
  pub groups : List GroupLines

-- With one more line, before the others.
abbrev pub with_line : SourceLine → LineKind → Parted → Parted
with_line line (kinds.Begins name) parted =
    record { prefix = []; groups = record { name = name; head = line.number; body = parted.prefix } ∷ parted.groups }
with_line line kind parted = record { prefix = line ∷ parted.prefix; groups = parted.groups }

abbrev pub parted : List SourceLine → Parted
parted [] = record { prefix = []; groups = [] }
parted (line ∷ lines) = with_line line line.kind (parted lines)

-- The groups of lines.
abbrev pub groups_of : List SourceLine → List GroupLines
groups_of lines = (parted lines).groups

-- ---- What the reader reads of a group

-- What a line of such a kind adds for the reader: nothing where it is an `in` or `out` line.
abbrev pub of_kept : {A : Type 0} → LineKind → List A → List A
of_kept (kinds.In bind) told = []
of_kept (kinds.Out bind) told = []
of_kept kind told = told

abbrev pub kept_text : SourceLine → List ℕ
kept_text line = of_kept line.kind (line.bytes ++ 10 ∷ [])

abbrev pub kept_number : SourceLine → List ℕ
kept_number line = of_kept line.kind (line.number ∷ [])

-- The text of a group that the reader reads: a header of its own, and the lines except `in` and `out`.
abbrev pub given : GroupLines → List ℕ
given group = codes "cosim 1\n" ++ flat_map kept_text group.body

-- The lines of the nested text from which those of the group's text come. The header comes from the line with the
-- group's name.
abbrev pub numbers : GroupLines → List ℕ
numbers group = group.head ∷ flat_map kept_number group.body

abbrev pub in_on : LineKind → List Bind
in_on (kinds.In bind) = bind ∷ []
in_on kind = []

abbrev pub out_on : LineKind → List Bind
out_on (kinds.Out bind) = bind ∷ []
out_on kind = []

-- ---- The parts of a nest

-- The lines of a group give the group: its `in` and `out` lines, and what the reader reads of the others.
pub record IsGroupOf (lines : GroupLines) (group : Group) : Type 0 where
  pub name : group.name ≡ lines.name
  pub ins : group.ins ≡ flat_map (λ line. in_on line.kind) lines.body
  pub outs : group.outs ≡ flat_map (λ line. out_on line.kind) lines.body
  pub system : System
  pub reads : Reads (given lines) system
  pub instances : group.instances ≡ system.instances
  pub wires : group.wires ≡ system.wires

-- A text has parts: a line `main`, with lines before and after it, each where it is allowed.
pub record IsCut (text : List ℕ) : Type 0 where
  pub lines : List SourceLine
  pub are_lines : AreLines 1 text lines
  pub placed : IsTrue (are_placed BeforeParts lines)
  pub prefix : List SourceLine
  pub main : SourceLine
  pub later : List SourceLine
  pub cut : lines ≡ prefix ++ (main ∷ later)
  pub is_main : main.kind ≡ kinds.Main
  -- The text after `main`.
  pub rest : List ℕ
  pub rest_is : lines_of rest ≡ map (λ line. line.bytes) later

-- The nest is that of the text.
pub record IsNestOf (text : List ℕ) (nest : Nest) : Type 0 where
  pub short : size_of text ≤ text_limit
  pub cut : IsCut text
  pub groups : AllZip IsGroupOf (groups_of cut.prefix) nest.groups
  pub lines : nest.lines ≡ map (λ group. group.head) (groups_of cut.prefix)
  pub main : Reads cut.rest nest.main
  pub main_line : nest.main_line ≡ cut.main.number

-- ---- Texts that are refused

-- A line of the text is not allowed where it is, and all lines before it are.
pub record StraysAt (lines : List SourceLine) (number : ℕ) : Type 0 where
  pub before : List SourceLine
  pub line : SourceLine
  pub later : List SourceLine
  pub cut : lines ≡ before ++ (line ∷ later)
  pub before_placed : IsTrue (are_placed BeforeParts before)
  pub stray : IsFalse (may_stand (place_behind BeforeParts before) line.kind)
  pub is_number : number ≡ line.number

abbrev pub is_main : LineKind → Bool
is_main kinds.Main = true
is_main kind = false

abbrev pub has_main : List SourceLine → Bool
has_main lines = list_any (λ line. is_main line.kind) lines

-- The text breaks rule 26 at the line: at line 1 where it has no line `main`, else at the first line that is not
-- allowed where it is.
pub record BreaksParts (text : List ℕ) (number : ℕ) : Type 0 where
  pub lines : List SourceLine
  pub are_lines : AreLines 1 text lines
  pub breaks : (IsFalse (has_main lines) × (number ≡ 1)) ⊎ (IsTrue (has_main lines) × StraysAt lines number)

-- The lines give a group.
abbrev pub IsRead : GroupLines → Type 0
IsRead lines = (group : Group) × IsGroupOf lines group

-- The reader refuses the group at this line of the nested text.
pub record RefusesGroup (lines : GroupLines) (number rule : ℕ) : Type 0 where
  -- the line of the group's text
  pub line : ℕ
  pub refused : IsRefused (given lines) line rule
  pub comes_from : slice_get (numbers lines) (line - 1) ≡ Some number

-- One group is refused, and those before it are read.
pub record RefusesGroups (groups : List GroupLines) (number rule : ℕ) : Type 0 where
  pub before : List GroupLines
  pub group : GroupLines
  pub later : List GroupLines
  pub cut : groups ≡ before ++ (group ∷ later)
  pub read : AllByRecursion IsRead before
  pub refuses : RefusesGroup group number rule

-- The reader refuses what follows `main`. Its lines are counted from there, so line 1 is the line after `main`, also
-- where nothing follows it.
pub record RefusesMain (rest : List ℕ) (main number rule : ℕ) : Type 0 where
  pub line : ℕ
  pub refused : IsRefused rest line rule
  pub counted : number ≡ main + line

-- The first part that the reader refuses is refused there.
pub record RefusesPart (text : List ℕ) (number rule : ℕ) : Type 0 where
  pub cut : IsCut text
  pub refused :
      RefusesGroups (groups_of cut.prefix) number rule
      ⊎ (AllByRecursion IsRead (groups_of cut.prefix) × RefusesMain cut.rest cut.main.number number rule)

-- The nested text is refused at the line by the rule.
abbrev pub RefusesNest : List ℕ → ℕ → ℕ → Type 0
RefusesNest text number rule =
    ((text_limit < size_of text) × (number ≡ 1) × (rule ≡ 2))
    ⊎ ((size_of text ≤ text_limit) × (((rule ≡ 26) × BreaksParts text number) ⊎ RefusesPart text number rule))
