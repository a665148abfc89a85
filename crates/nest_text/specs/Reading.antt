-- How nested texts are read: lines by their tokens, and parts in turn.
use Rattle.std.specs.Prelude.{◌≡◌, ℕ, ◌+◌, ◌-◌, Bool, true, false, List, [], ◌∷◌, ◌++◌, map, codes, Option, Some, None, Result, Ok, Err, ⊤, if◌then◌else◌, IsTrue, IsFalse, slice_get}
use Rattle.std.specs.Borrow.{Bor}
use Rattle.std.specs.List.{AllZip, flat_map}
use Rattle.std.specs.Str.{bytes_eq}
use Rattle.unit_tree.specs.Texts.{IsRefused, Reads}
use Rattle.unit_tree.specs.declared.system.Instance.{Instance}
use Rattle.unit_tree.specs.declared.system.System.{System}
use Rattle.unit_tree.specs.declared.system.Wire.{Wire}
use Rattle.unit_tree.specs.declared.token.Keyword.{Keyword}
use Rattle.unit_tree.specs.declared.token.Keyword.TheVariants as word
use Rattle.unit_tree.specs.declared.token.Symbol.TheVariants as sign
use Rattle.unit_tree.specs.declared.token.Token.{Token}
use Rattle.unit_tree.specs.declared.token.Token.TheVariants as token
use Rattle.nest_text.specs.NestLines.{AreLines, SourceLine, are_placed, may_stand, place_after}
use Rattle.nest_text.specs.Nests.{BreaksParts, GroupLines, IsGroupOf, IsNestOf, RefusesGroup, RefusesGroups, RefusesMain, RefusesNest}
use Rattle.nest_text.specs.Nests.{given, groups_of, has_main, in_on, kept_number, kept_text, numbers, out_on, parted}
use Rattle.nest_text.specs.declared.fault.NestFault.{NestFault}
use Rattle.nest_text.specs.declared.fault.NestFault.TheVariants as fault
use Rattle.nest_text.specs.declared.groups.Body.{Body}
use Rattle.nest_text.specs.declared.kind.LineKind.{LineKind}
use Rattle.nest_text.specs.declared.kind.LineKind.TheVariants as kinds
use Rattle.nest_text.specs.declared.nest.Group.{Group}
use Rattle.nest_text.specs.declared.nest.Nest.{Nest}
use Rattle.nest_text.specs.declared.place.PartPlace.{PartPlace}
use Rattle.nest_text.specs.declared.place.PartPlace.TheVariants.{BeforeParts}

-- ---- Kinds by tokens

-- The kinds of lines that begin with `group`, `main`, `in` and `out`, from the tokens after that word.
abbrev pub group_kind : List Token → LineKind
group_kind (token.Name name ∷ []) = kinds.Begins name
group_kind _ = kinds.Other

abbrev pub main_kind : List Token → LineKind
main_kind [] = kinds.Main
main_kind _ = kinds.Other

abbrev pub in_kind : List Token → LineKind
in_kind (token.Name port ∷ token.Symbol sign.Arrow ∷ token.Name instance ∷ token.Symbol sign.Point ∷ token.Name inner ∷ []) =
    kinds.In (record { port = port; inner = record { instance = instance; port = inner } })
in_kind _ = kinds.Other

abbrev pub out_kind : List Token → LineKind
out_kind (token.Name port ∷ token.Symbol sign.Is ∷ token.Name instance ∷ token.Symbol sign.Point ∷ token.Name inner ∷ []) =
    kinds.Out (record { port = port; inner = record { instance = instance; port = inner } })
out_kind _ = kinds.Other

abbrev pub named_kind : List ℕ → List Token → LineKind
named_kind word rest =
    if bytes_eq word (codes "group") then group_kind rest else (
    if bytes_eq word (codes "main") then main_kind rest else (
    if bytes_eq word (codes "in") then in_kind rest else (
    if bytes_eq word (codes "out") then out_kind rest else kinds.Other)))

-- The kinds of lines that begin with `end`, `instance` and `connect`, from the tokens after that word.
abbrev pub ends : List Token → LineKind
ends [] = kinds.Ends
ends _ = kinds.Other

abbrev pub opens : List Token → LineKind
opens (token.Name name ∷ token.Symbol sign.Colon ∷ token.Name unit ∷ []) = kinds.Opens
opens _ = kinds.Other

abbrev pub connects : List Token → LineKind
connects (token.Name a ∷ token.Symbol sign.Point ∷ token.Name y ∷ token.Symbol sign.Arrow ∷ token.Name b ∷ token.Symbol sign.Point ∷ token.Name u ∷ []) = kinds.Connects
connects _ = kinds.Other

abbrev pub keyword_kind : Keyword → List Token → LineKind
keyword_kind word.End rest = ends rest
keyword_kind word.Instance rest = opens rest
keyword_kind word.Connect rest = connects rest
keyword_kind _ rest = kinds.Other

-- The kind of a line with these tokens.
abbrev pub kind_of : List Token → LineKind
kind_of [] = kinds.Blank
kind_of (token.Keyword keyword ∷ rest) = keyword_kind keyword rest
kind_of (token.Name word ∷ rest) = named_kind word rest
kind_of _ = kinds.Other

abbrev pub begins_group : LineKind → Bool
begins_group (kinds.Begins name) = true
begins_group kind = false

abbrev pub name_begun : LineKind → Option (List ℕ)
name_begun (kinds.Begins name) = Some name
name_begun kind = None

-- ---- Line by line

-- A property of a text's lines, which are numbered from `first` on.
abbrev pub OfLines : ℕ → List ℕ → (List SourceLine → Type 0) → Type 0
OfLines first text Says = (lines : List SourceLine) → AreLines first text lines → Says lines

-- The number of the first line that is not allowed where it is.
abbrev pub first_stray : PartPlace → List SourceLine → Option ℕ
first_stray place [] = None
first_stray place (line ∷ lines) = if may_stand place line.kind then first_stray (place_after place line.kind) lines else Some line.number

-- The lines have a line `main` with this number, and these are the texts before and after it.
pub record HasMainAt (lines : List SourceLine) (prefix : List ℕ) (number : ℕ) (rest : List ℕ) : Type 0 where
  pub before : List SourceLine
  pub main : SourceLine
  pub later : List SourceLine
  pub cut : lines ≡ before ++ (main ∷ later)
  pub are_before : AreLines 1 prefix before
  pub is_main : main.kind ≡ kinds.Main
  pub is_number : main.number ≡ number
  pub are_later : AreLines (number + 1) rest later

abbrev pub MainIs : List SourceLine → Option (Bor (List ℕ) × ℕ × Bor (List ℕ)) → Type 0
MainIs lines None = IsFalse (has_main lines)
MainIs lines (Some (prefix, number, rest)) = HasMainAt lines prefix.now number rest.now

-- A text that was cut at its line `main`: each of its lines is allowed where it is.
pub record CutsText (text prefix : List ℕ) (number : ℕ) (rest : List ℕ) : Type 0 where
  pub lines : List SourceLine
  pub are_lines : AreLines 1 text lines
  pub placed : IsTrue (are_placed BeforeParts lines)
  pub has_main : HasMainAt lines prefix number rest

abbrev pub CutAnswers : List ℕ → Result (Bor (List ℕ) × ℕ × Bor (List ℕ)) NestFault → Type 0
CutAnswers text (Ok (prefix, number, rest)) = CutsText text prefix.now number rest.now
CutAnswers text (Err (fault.Line number rule)) = (rule ≡ 26) × BreaksParts text number
CutAnswers text (Err fault.NoMemory) = ⊤

-- ---- Groups

-- A line is added to what was collected of a group.
pub record AddsLine (old new : Body) (line : SourceLine) : Type 0 where
  pub ins : new.ins ≡ old.ins ++ in_on line.kind
  pub outs : new.outs ≡ old.outs ++ out_on line.kind
  pub text : new.text.items ≡ old.text.items ++ kept_text line
  pub numbers : new.numbers ≡ old.numbers ++ kept_number line

-- Lines are added, in their order.
pub record AddsLines (old new : Body) (lines : List SourceLine) : Type 0 where
  pub ins : new.ins ≡ old.ins ++ flat_map (λ line. in_on line.kind) lines
  pub outs : new.outs ≡ old.outs ++ flat_map (λ line. out_on line.kind) lines
  pub text : new.text.items ≡ old.text.items ++ flat_map kept_text lines
  pub numbers : new.numbers ≡ old.numbers ++ flat_map kept_number lines

-- The lines up to the next group are added. This rest follows them, whose lines are numbered after this number.
pub record Gathers (lines : List SourceLine) (old new : Body) (rest : List ℕ) (number : ℕ) : Type 0 where
  pub left : List SourceLine
  pub are_left : AreLines (number + 1) rest left
  pub added : AddsLines old new (parted lines).prefix
  pub groups : groups_of left ≡ groups_of lines

-- All lines of a group are collected.
pub record IsGathered (body : Body) (lines : GroupLines) : Type 0 where
  pub ins : body.ins ≡ flat_map (λ line. in_on line.kind) lines.body
  pub outs : body.outs ≡ flat_map (λ line. out_on line.kind) lines.body
  pub text : body.text.items ≡ given lines
  pub numbers : body.numbers ≡ numbers lines

-- ---- Results of the reader

-- The instances and connections of a text inside a group.
pub record SaysInside (text : List ℕ) (instances : List Instance) (wires : List Wire) : Type 0 where
  pub system : System
  pub reads : Reads text system
  pub instances_are : instances ≡ system.instances
  pub wires_are : wires ≡ system.wires

abbrev pub InsideAnswers : List ℕ → List ℕ → Result (List Instance × List Wire) NestFault → Type 0
InsideAnswers text lines (Ok (instances, wires)) = SaysInside text instances wires
InsideAnswers text lines (Err (fault.Line number rule)) = (line : ℕ) × IsRefused text line rule × (slice_get lines (line - 1) ≡ Some number)
InsideAnswers text lines (Err fault.NoMemory) = ⊤

abbrev pub GroupAnswers : GroupLines → Result Group NestFault → Type 0
GroupAnswers lines (Ok group) = IsGroupOf lines group
GroupAnswers lines (Err (fault.Line number rule)) = RefusesGroup lines number rule
GroupAnswers lines (Err fault.NoMemory) = ⊤

-- The group of this name, with these lines after its own, is read. This rest follows it.
pub record IsNextGroup (name : List ℕ) (head : ℕ) (lines : List SourceLine) (group : Group) (rest : List ℕ) (number : ℕ) : Type 0 where
  pub is_group : IsGroupOf (record { name = name; head = head; body = (parted lines).prefix }) group
  pub left : List SourceLine
  pub are_left : AreLines (number + 1) rest left
  pub groups : groups_of left ≡ groups_of lines

abbrev pub NextGroupIs : List ℕ → ℕ → List SourceLine → Result (Group × Bor (List ℕ) × ℕ) NestFault → Type 0
NextGroupIs name head lines (Ok (group, rest, number)) = IsNextGroup name head lines group rest.now number
NextGroupIs name head lines (Err (fault.Line number rule)) = RefusesGroup (record { name = name; head = head; body = (parted lines).prefix }) number rule
NextGroupIs name head lines (Err fault.NoMemory) = ⊤

abbrev pub GroupsAnswer : List GroupLines → Result (List Group × List ℕ) NestFault → Type 0
GroupsAnswer groups (Ok (made, heads)) = AllZip IsGroupOf groups made × (heads ≡ map (λ group. group.head) groups)
GroupsAnswer groups (Err (fault.Line number rule)) = RefusesGroups groups number rule
GroupsAnswer groups (Err fault.NoMemory) = ⊤

abbrev pub MainAnswers : List ℕ → ℕ → Result System NestFault → Type 0
MainAnswers rest main (Ok system) = Reads rest system
MainAnswers rest main (Err (fault.Line number rule)) = RefusesMain rest main number rule
MainAnswers rest main (Err fault.NoMemory) = ⊤

-- The result for a nested text: its nest, or the line and the rule by which it is refused. Without memory nothing is
-- stated.
abbrev pub AnswersNest : List ℕ → Result Nest NestFault → Type 0
AnswersNest text (Ok nest) = IsNestOf text nest
AnswersNest text (Err (fault.Line number rule)) = RefusesNest text number rule
AnswersNest text (Err fault.NoMemory) = ⊤
