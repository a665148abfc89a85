-- Lines of a nested text in turn.
use Rattle.std.proofs.Common.{◌≡◌, ℕ, ◌+◌, ◌≤◌, ◌<◌, Bool, true, false, List, [], ◌∷◌, ◌++◌, length, Some, None}
use Rattle.std.proofs.Common.{refl, sym, ap, ap₂, subst, ◌∙◌, arith}
use Rattle.std.specs.Prelude.{◌&&◌, if◌then◌else◌}
use Rattle.std.specs.List.{AllZip, enumerate_from}
use Rattle.unit_tree.specs.Lines.{lines_of, without_return}
use Rattle.nest_text.specs.NestLines.{AreLines, IsKind, IsLine, SourceLine, are_placed, may_stand, place_after, place_behind}
use Rattle.nest_text.specs.Reading.{OfLines, first_stray}
use Rattle.nest_text.specs.declared.kind.LineKind.{LineKind}
use Rattle.nest_text.specs.declared.place.PartPlace.{PartPlace}
use Rattle.nest_text.specs.declared.place.PartPlace.TheVariants.{BeforeParts}
use Rattle.nest_text.proofs.KindLaws.{kind_once, kind_there}

-- ---- Each text has one list of lines

line_once : (numbered : ℕ × List ℕ) (one other : SourceLine) → IsLine numbered one → IsLine numbered other → one ≡ other
line_once numbered one other first second =
    let kinds = kind_once (without_return numbered.1) one.kind other.kind first.kind second.kind in
    let numbers = first.number ∙ sym second.number in
    let bytes = first.bytes ∙ sym second.bytes in
    λ i. record { number = numbers i; bytes = bytes i; kind = kinds i }

lines_once : (numbered : List (ℕ × List ℕ)) (one other : List SourceLine) → AllZip IsLine numbered one → AllZip IsLine numbered other → one ≡ other
lines_once [] [] [] a b = refl
lines_once [] [] (y ∷ ys) a b = absurd b
lines_once [] (x ∷ xs) ys a b = absurd a
lines_once (n ∷ ns) [] ys a b = absurd a
lines_once (n ∷ ns) (x ∷ xs) [] a b = absurd b
lines_once (n ∷ ns) (x ∷ xs) (y ∷ ys) a b = ap₂ (λ line lines. line ∷ lines) (line_once n x y a.0 b.0) (lines_once ns xs ys a.1 b.1)

numbered_there : (numbered : List (ℕ × List ℕ)) → (lines : List SourceLine) × AllZip IsLine numbered lines
numbered_there [] = ([], tt)
numbered_there (n ∷ ns) =
    let kind = kind_there (without_return n.1) in
    let later = numbered_there ns in
    (record { number = n.0; bytes = n.1; kind = kind.0 } ∷ later.0, (record { number = refl; bytes = refl; kind = kind.1 }, later.1))

pub lines_there : (first : ℕ) (text : List ℕ) → (lines : List SourceLine) × AreLines first text lines
lines_there first text = numbered_there (enumerate_from first (lines_of text))

pub same_lines : (first : ℕ) (text : List ℕ) (one other : List SourceLine) → AreLines first text one → AreLines first text other → one ≡ other
same_lines first text one other a b = lines_once (enumerate_from first (lines_of text)) one other a b

pub of_lines : (first : ℕ) (text : List ℕ) (Says : List SourceLine → Type 0) (lines : List SourceLine) → AreLines first text lines → Says lines
    → OfLines first text Says
of_lines first text Says lines are said = λ others also. subst Says (same_lines first text lines others are also) said

-- ---- A line that is split off

-- The first of the lines is this one, of this kind, and the others are those of the text after it.
pub record NextLine (first : ℕ) (line behind : List ℕ) (kind : LineKind) (lines : List SourceLine) : Type 0 where
  pub others : List SourceLine
  pub cut : lines ≡ record { number = first; bytes = line; kind = kind } ∷ others
  pub are_others : AreLines (first + 1) behind others

next_of : (first : ℕ) (line behind : List ℕ) (kind : LineKind) (lines : List SourceLine) → IsKind (without_return line) kind
    → AllZip IsLine ((first, line) ∷ enumerate_from (first + 1) (lines_of behind)) lines → NextLine first line behind kind lines
next_of first line behind kind [] is are = absurd are
next_of first line behind kind (one ∷ others) is are = record {
  others = others;
  cut = ap (λ (l : SourceLine). l ∷ others)
      (line_once (first, line) one (record { number = first; bytes = line; kind = kind }) are.0 (record { number = refl; bytes = refl; kind = is }));
  are_others = are.1;
}

pub next_line : (first : ℕ) (text line behind : List ℕ) (kind : LineKind) (lines : List SourceLine) → lines_of text ≡ line ∷ lines_of behind
    → IsKind (without_return line) kind → AreLines first text lines → NextLine first line behind kind lines
next_line first text line behind kind lines cut is are =
    next_of first line behind kind lines is (subst (λ all. AllZip IsLine (enumerate_from first all) lines) cut are)

pub none_left : (first : ℕ) (text : List ℕ) (lines : List SourceLine) → length text ≡ 0 → AreLines first text lines → lines ≡ []
none_left first [] [] none are = refl
none_left first [] (line ∷ lines) none are = absurd are
none_left first (byte ∷ text) lines none are = absurd (omega (arith, none))

-- ---- Lines that are not allowed where they are

-- The first line that is not allowed is the first of those that are left.
pub record StraysLeft (text rest : List ℕ) (number : ℕ) (place : PartPlace) : Type 0 where
  pub lines : List SourceLine
  pub are_lines : AreLines 1 text lines
  pub left : List SourceLine
  pub are_left : AreLines (number + 1) rest left
  pub same : first_stray BeforeParts lines ≡ first_stray place left
  pub within : number + length rest ≤ length text

pub strays_begin : (text : List ℕ) → StraysLeft text text 0 BeforeParts
strays_begin text =
    let all = lines_there 1 text in
    record { lines = all.0; are_lines = all.1; left = all.0; are_left = all.1; same = refl; within = omega arith }

pub stray_next : (text rest line behind : List ℕ) (number : ℕ) (place : PartPlace) (kind : LineKind) → StraysLeft text rest number place
    → lines_of rest ≡ line ∷ lines_of behind → length behind < length rest → IsKind (without_return line) kind → may_stand place kind ≡ true
    → StraysLeft text behind (number + 1) (place_after place kind)
stray_next text rest line behind number place kind so_far cut shorter is stands =
    let next = next_line (number + 1) rest line behind kind so_far.left cut is so_far.are_left in
    let within = so_far.within in
    record {
      lines = so_far.lines;
      are_lines = so_far.are_lines;
      left = next.others;
      are_left = next.are_others;
      same = so_far.same ∙ ap (first_stray place) next.cut
          ∙ ap (λ test. if test then first_stray (place_after place kind) next.others else Some (number + 1)) stands;
      within = omega (arith, within, shorter);
    }

pub stray_found : (text rest line behind : List ℕ) (number : ℕ) (place : PartPlace) (kind : LineKind) → StraysLeft text rest number place
    → lines_of rest ≡ line ∷ lines_of behind → IsKind (without_return line) kind → may_stand place kind ≡ false
    → OfLines 1 text (λ lines. Some (number + 1) ≡ first_stray BeforeParts lines)
stray_found text rest line behind number place kind so_far cut is strays =
    let next = next_line (number + 1) rest line behind kind so_far.left cut is so_far.are_left in
    of_lines 1 text (λ lines. Some (number + 1) ≡ first_stray BeforeParts lines) so_far.lines so_far.are_lines
    (sym (
    so_far.same ∙ ap (first_stray place) next.cut
    ∙ ap (λ test. if test then first_stray (place_after place kind) next.others else Some (number + 1)) strays))

pub stray_none : (text rest : List ℕ) (number : ℕ) (place : PartPlace) → StraysLeft text rest number place → length rest ≡ 0
    → OfLines 1 text (λ lines. None ≡ first_stray BeforeParts lines)
stray_none text rest number place so_far none =
    of_lines 1 text (λ lines. None ≡ first_stray BeforeParts lines) so_far.lines so_far.are_lines
    (sym (so_far.same ∙ ap (first_stray place) (none_left (number + 1) rest so_far.left none so_far.are_left)))

-- ---- The first line that is not allowed

-- After a place, the line with this number is the first that is not allowed where it is.
pub record StraysBehind (place : PartPlace) (lines : List SourceLine) (number : ℕ) : Type 0 where
  pub before : List SourceLine
  pub line : SourceLine
  pub later : List SourceLine
  pub cut : lines ≡ before ++ (line ∷ later)
  pub before_placed : are_placed place before ≡ true
  pub stray : may_stand (place_behind place before) line.kind ≡ false
  pub is_number : number ≡ line.number

same_some : {A : Type 0} (x y : A) → Some x ≡ Some y → x ≡ y
same_some x y is = cc

stray_by : (place : PartPlace) (line : SourceLine) (lines : List SourceLine) (number : ℕ) (test : Bool) → may_stand place line.kind ≡ test
    → ((after : PartPlace) → first_stray after lines ≡ Some number → StraysBehind after lines number)
    → (if test then first_stray (place_after place line.kind) lines else Some line.number) ≡ Some number → StraysBehind place (line ∷ lines) number
stray_by place line lines number true stands later is =
    let found = later (place_after place line.kind) is in
    record {
      before = line ∷ found.before;
      line = found.line;
      later = found.later;
      cut = ap (λ all. line ∷ all) found.cut;
      before_placed = ap (λ test. test && are_placed (place_after place line.kind) found.before) stands ∙ found.before_placed;
      stray = found.stray;
      is_number = found.is_number;
    }
stray_by place line lines number false stands later is = record {
  before = [];
  line = line;
  later = lines;
  cut = refl;
  before_placed = refl;
  stray = stands;
  is_number = sym (same_some line.number number is);
}

pub strays_at : (place : PartPlace) (lines : List SourceLine) (number : ℕ) → first_stray place lines ≡ Some number → StraysBehind place lines number
strays_at place [] number is = absurd (cc)
strays_at place (line ∷ lines) number is =
    stray_by place line lines number (may_stand place line.kind) refl (λ after found. strays_at after lines number found) is

placed_by : (place : PartPlace) (line : SourceLine) (lines : List SourceLine) (test : Bool) → may_stand place line.kind ≡ test
    → ((after : PartPlace) → first_stray after lines ≡ None → are_placed after lines ≡ true)
    → (if test then first_stray (place_after place line.kind) lines else Some line.number) ≡ None → are_placed place (line ∷ lines) ≡ true
placed_by place line lines true stands later is =
    ap (λ test. test && are_placed (place_after place line.kind) lines) stands ∙ later (place_after place line.kind) is
placed_by place line lines false stands later is = absurd (cc)

pub none_strays : (place : PartPlace) (lines : List SourceLine) → first_stray place lines ≡ None → are_placed place lines ≡ true
none_strays place [] is = refl
none_strays place (line ∷ lines) is = placed_by place line lines (may_stand place line.kind) refl (λ after none. none_strays after lines none) is
