-- A text that is split at one of its lines.
use Rattle.std.proofs.Common.{◌≡◌, ℕ, ◌+◌, ◌-◌, ◌≤◌, ◌<◌, Bool, true, false, List, [], ◌∷◌, ◌++◌, map, length, take, inl, inr, Some, None}
use Rattle.std.proofs.Common.{refl, sym, ap, ap₂, subst, ◌∙◌, arith, append_assoc, append-nil, length-append}
use Rattle.std.specs.Prelude.{◌⊎◌, ◌==◌, not, ◌&&◌, ◌||◌, if◌then◌else◌, IsTrue}
use Rattle.std.specs.List.{AllByRecursion, AllZip, enumerate_from, flat_map, list_all, onto_first}
use Rattle.std.proofs.lemmas.Grind.{flat_map-append}
use Rattle.std.proofs.lemmas.List.{map-append}
use Rattle.std.proofs.Math.Seq.{take-append_seam}
use Rattle.list_laws.proofs.Lists.{any_behind, front_of}
use Rattle.text_laws.proofs.WholeLines.{line_more}
use Rattle.unit_tree.specs.Lines.{lines_of, without_return}
use Rattle.nest_text.specs.NestLines.{AreLines, IsKind, IsLine, SourceLine}
use Rattle.nest_text.specs.Nests.{BreaksParts, IsCut, has_main, is_main}
use Rattle.nest_text.specs.Reading.{CutsText, HasMainAt, OfLines, first_stray}
use Rattle.nest_text.specs.declared.kind.LineKind.{LineKind}
use Rattle.nest_text.specs.declared.kind.LineKind.TheVariants as kinds
use Rattle.nest_text.specs.declared.place.PartPlace.TheVariants.{BeforeParts}
use Rattle.nest_text.proofs.LineWalks.{lines_there, next_line, none_left, none_strays, of_lines, strays_at}

-- ---- Lines and their ends

-- Lines, each with its end.
abbrev pub ended : List (List ℕ) → List ℕ
ended lines = flat_map (λ line. line ++ 10 ∷ []) lines

-- There is no line end in the line.
abbrev pub IsWhole : List ℕ → Type 0
IsWhole line = IsTrue (list_all (λ byte. not (byte == 10)) line)

pub lines_ended : (lines : List (List ℕ)) → AllByRecursion IsWhole lines → lines_of (ended lines) ≡ lines
lines_ended [] whole = refl
lines_ended (line ∷ lines) whole =
    ap lines_of (append_assoc line (10 ∷ []) (ended lines)) ∙ line_more line (ended lines) whole.0 ∙ ap (λ all. line ∷ all) (lines_ended lines whole.1)

onto_whole : (byte : ℕ) (lines : List (List ℕ)) → (byte == 10) ≡ false → AllByRecursion IsWhole lines → AllByRecursion IsWhole (onto_first byte lines)
onto_whole byte [] is whole = (ap (λ test. not test && true) is, tt)
onto_whole byte (line ∷ lines) is whole = (ap (λ test. not test && list_all (λ byte. not (byte == 10)) line) is ∙ whole.0, whole.1)

whole_by : (byte : ℕ) (text : List ℕ) (test : Bool) → (byte == 10) ≡ test → AllByRecursion IsWhole (lines_of text)
    → AllByRecursion IsWhole (if test then [] ∷ lines_of text else onto_first byte (lines_of text))
whole_by byte text true is whole = (refl, whole)
whole_by byte text false is whole = onto_whole byte (lines_of text) is whole

all_whole : (text : List ℕ) → AllByRecursion IsWhole (lines_of text)
all_whole [] = tt
all_whole (byte ∷ text) = whole_by byte text (byte == 10) refl (all_whole text)

whole_lines : (first : ℕ) (all : List (List ℕ)) (lines : List SourceLine) → AllZip IsLine (enumerate_from first all) lines → AllByRecursion IsWhole all
    → AllByRecursion (λ line. IsWhole line.bytes) lines
whole_lines first [] [] are whole = tt
whole_lines first [] (line ∷ lines) are whole = absurd are
whole_lines first (one ∷ all) [] are whole = absurd are
whole_lines first (one ∷ all) (line ∷ lines) are whole = (subst IsWhole (sym are.0.bytes) whole.0, whole_lines (first + 1) all lines are.1 whole.1)

-- no line of a text has a line end in it
pub are_whole : (first : ℕ) (text : List ℕ) (lines : List SourceLine) → AreLines first text lines → AllByRecursion (λ line. IsWhole line.bytes) lines
are_whole first text lines are = whole_lines first (lines_of text) lines are (all_whole text)

pub whole_bytes : (lines : List SourceLine) → AllByRecursion (λ line. IsWhole line.bytes) lines → AllByRecursion IsWhole (map (λ (line : SourceLine). line.bytes) lines)
whole_bytes [] whole = tt
whole_bytes (line ∷ lines) whole = (whole.0, whole_bytes lines whole.1)

-- ---- The beginning of a text

bytes_of : (first : ℕ) (all : List (List ℕ)) (lines : List SourceLine) → AllZip IsLine (enumerate_from first all) lines
    → map (λ (line : SourceLine). line.bytes) lines ≡ all
bytes_of first [] [] are = refl
bytes_of first [] (line ∷ lines) are = absurd are
bytes_of first (one ∷ all) [] are = absurd are
bytes_of first (one ∷ all) (line ∷ lines) are = ap₂ (λ bytes others. bytes ∷ others) are.0.bytes (bytes_of (first + 1) all lines are.1)

pub bytes_are : (first : ℕ) (text : List ℕ) (lines : List SourceLine) → AreLines first text lines → lines_of text ≡ map (λ (line : SourceLine). line.bytes) lines
bytes_are first text lines are = sym (bytes_of first (lines_of text) lines are)

front_lines : (first : ℕ) (all : List (List ℕ)) (prefix later : List SourceLine) → AllZip IsLine (enumerate_from first all) (prefix ++ later)
    → AllZip IsLine (enumerate_from first (map (λ (line : SourceLine). line.bytes) prefix)) prefix
front_lines first all [] later are = tt
front_lines first [] (line ∷ prefix) later are = absurd are
front_lines first (one ∷ all) (line ∷ prefix) later are = (
  record { number = are.0.number; bytes = refl; kind = subst (λ bytes. IsKind (without_return bytes) line.kind) (sym are.0.bytes) are.0.kind },
  front_lines (first + 1) all prefix later are.1,
)

-- The lines of a text up to the one before this rest, none of which is `main`.
pub record MainLeft (text rest : List ℕ) (number : ℕ) : Type 0 where
  pub lines : List SourceLine
  pub are_lines : AreLines 1 text lines
  pub before : List SourceLine
  pub left : List SourceLine
  pub cut : lines ≡ before ++ left
  pub are_left : AreLines (number + 1) rest left
  pub none : has_main before ≡ false
  pub text_is : (text ≡ ended (map (λ line. line.bytes) before) ++ rest) ⊎ (rest ≡ [])
  pub within : number + length rest ≤ length text

pub main_begin : (text : List ℕ) → MainLeft text text 0
main_begin text =
    let all = lines_there 1 text in
    record {
      lines = all.0;
      are_lines = all.1;
      before = [];
      left = all.0;
      cut = refl;
      are_left = all.1;
      none = refl;
      text_is = inl refl;
      within = omega arith;
    }

-- What is known of the texts before and after a cut.
abbrev IsCutOff : List ℕ → List ℕ → List ℕ → Type 0
IsCutOff rest line behind = (rest ≡ line ++ 10 ∷ behind) ⊎ ((rest ≡ line) × (behind ≡ []))

ended_more : (prefix : List SourceLine) (one : SourceLine) → ended (map (λ (line : SourceLine). line.bytes) (prefix ++ (one ∷ []))) ≡ ended (map (λ (line : SourceLine). line.bytes) prefix) ++ (one.bytes ++ 10 ∷ [])
ended_more prefix one =
    ap ended (map-append (λ (line : SourceLine). line.bytes) prefix (one ∷ []))
    ∙ flat_map-append (λ line. line ++ 10 ∷ []) (map (λ (line : SourceLine). line.bytes) prefix) (one.bytes ∷ [])
    ∙ ap (λ more. ended (map (λ (line : SourceLine). line.bytes) prefix) ++ more) (append-nil (one.bytes ++ 10 ∷ []))

text_more : (text rest behind : List ℕ) (prefix : List SourceLine) (one : SourceLine) → (text ≡ ended (map (λ (line : SourceLine). line.bytes) prefix) ++ rest) ⊎ (rest ≡ [])
    → IsCutOff rest one.bytes behind → (rest ≡ [] → ⊥)
    → (text ≡ ended (map (λ (line : SourceLine). line.bytes) (prefix ++ (one ∷ []))) ++ behind) ⊎ (behind ≡ [])
text_more text rest behind prefix one (inr empty) off some = absurd (some empty)
text_more text rest behind prefix one (inl is) (inr (all, none)) some = inr none
text_more text rest behind prefix one (inl is) (inl cut) some =
    let done = ended (map (λ (line : SourceLine). line.bytes) prefix) in
    inl (
    is ∙ ap (λ more. done ++ more) (cut ∙ sym (append_assoc one.bytes (10 ∷ []) behind)) ∙ sym (append_assoc done (one.bytes ++ 10 ∷ []) behind)
    ∙ ap (λ all. all ++ behind) (sym (ended_more prefix one)))

not_empty : (rest behind : List ℕ) → length behind < length rest → rest ≡ [] → ⊥
not_empty rest behind shorter is = let none = ap length is in omega (arith, none, shorter)

none_by : (test : Bool) (prefix : List SourceLine) (one : SourceLine) → (has_main prefix ≡ false → has_main (prefix ++ (one ∷ [])) ≡ false)
    → (test || has_main prefix) ≡ false → (test || has_main (prefix ++ (one ∷ []))) ≡ false
none_by true prefix one later none = absurd (cc)
none_by false prefix one later none = later none

none_more : (prefix : List SourceLine) (one : SourceLine) → has_main prefix ≡ false → is_main one.kind ≡ false → has_main (prefix ++ (one ∷ [])) ≡ false
none_more [] one none is = ap (λ test. test || false) is
none_more (line ∷ prefix) one none is = none_by (is_main line.kind) prefix one (λ later. none_more prefix one later is) none

pub main_next : (text rest line behind : List ℕ) (number : ℕ) (kind : LineKind) → MainLeft text rest number → lines_of rest ≡ line ∷ lines_of behind
    → IsCutOff rest line behind → length behind < length rest → IsKind (without_return line) kind → is_main kind ≡ false
    → MainLeft text behind (number + 1)
main_next text rest line behind number kind so_far cut off shorter is other =
    let next = next_line (number + 1) rest line behind kind so_far.left cut is so_far.are_left in
    let one : SourceLine = record { number = number + 1; bytes = line; kind = kind } in
    let within = so_far.within in
    record {
      lines = so_far.lines;
      are_lines = so_far.are_lines;
      before = so_far.before ++ (one ∷ []);
      left = next.others;
      cut = so_far.cut ∙ ap (λ more. so_far.before ++ more) next.cut ∙ sym (append_assoc so_far.before (one ∷ []) next.others);
      are_left = next.are_others;
      none = none_more so_far.before one so_far.none other;
      text_is = text_more text rest behind so_far.before one so_far.text_is off (not_empty rest behind shorter);
      within = omega (arith, within, shorter);
    }

front_is : (text rest : List ℕ) (prefix : List SourceLine) → (text ≡ ended (map (λ (line : SourceLine). line.bytes) prefix) ++ rest) ⊎ (rest ≡ []) → (rest ≡ [] → ⊥)
    → take (length text - length rest) text ≡ ended (map (λ (line : SourceLine). line.bytes) prefix)
front_is text rest prefix (inr empty) some = absurd (some empty)
front_is text rest prefix (inl is) some =
    let done = ended (map (λ (line : SourceLine). line.bytes) prefix) in
    let long = ap length is in
    let count : length text - length rest ≡ length done = omega (arith, long, length-append done rest) in
    ap₂ (λ n all. take n all) count is ∙ take-append_seam done rest

pub main_kind : (kind : LineKind) → is_main kind ≡ true → kind ≡ kinds.Main
main_kind kinds.Main is = refl
main_kind (kinds.Begins name) is = absurd (cc)
main_kind (kinds.In bind) is = absurd (cc)
main_kind (kinds.Out bind) is = absurd (cc)
main_kind kinds.Opens is = absurd (cc)
main_kind kinds.Ends is = absurd (cc)
main_kind kinds.Connects is = absurd (cc)
main_kind kinds.Blank is = absurd (cc)
main_kind kinds.Other is = absurd (cc)

pub main_found : (text rest line behind prefix : List ℕ) (number : ℕ) (kind : LineKind) → MainLeft text rest number → lines_of rest ≡ line ∷ lines_of behind
    → length behind < length rest → IsKind (without_return line) kind → is_main kind ≡ true → prefix ≡ take (length text - length rest) text
    → OfLines 1 text (λ lines. HasMainAt lines prefix (number + 1) behind)
main_found text rest line behind prefix number kind so_far cut shorter is main front_cut =
    let next = next_line (number + 1) rest line behind kind so_far.left cut is so_far.are_left in
    let bytes = map (λ (line : SourceLine). line.bytes) so_far.before in
    let whole =
    front_of (λ (line : SourceLine). IsWhole line.bytes) so_far.before so_far.left
    (subst (AllByRecursion (λ (line : SourceLine). IsWhole line.bytes)) so_far.cut (are_whole 1 text so_far.lines so_far.are_lines)) in
    let lines : lines_of prefix ≡ bytes =
    ap lines_of (front_cut ∙ front_is text rest so_far.before so_far.text_is (not_empty rest behind shorter)) ∙ lines_ended bytes (whole_bytes so_far.before whole) in
    of_lines 1 text (λ lines. HasMainAt lines prefix (number + 1) behind) so_far.lines so_far.are_lines
    (record {
      before = so_far.before;
      main = record { number = number + 1; bytes = line; kind = kind };
      later = next.others;
      cut = so_far.cut ∙ ap (λ more. so_far.before ++ more) next.cut;
      are_before = subst (λ all. AllZip IsLine (enumerate_from 1 all) so_far.before) (sym lines)
          (front_lines 1 (lines_of text) so_far.before so_far.left (subst (AllZip IsLine (enumerate_from 1 (lines_of text))) so_far.cut so_far.are_lines));
      is_main = main_kind kind main;
      is_number = refl;
      are_later = next.are_others;
    })

pub main_none : (text rest : List ℕ) (number : ℕ) → MainLeft text rest number → length rest ≡ 0 → OfLines 1 text (λ lines. has_main lines ≡ false)
main_none text rest number so_far none =
    of_lines 1 text (λ lines. has_main lines ≡ false) so_far.lines so_far.are_lines
    (ap has_main
    (so_far.cut ∙ ap (λ more. so_far.before ++ more) (none_left (number + 1) rest so_far.left none so_far.are_left) ∙ append-nil so_far.before) ∙ so_far.none)

-- ---- Texts that are cut, and others

main_there : (lines : List SourceLine) (prefix : List ℕ) (number : ℕ) (rest : List ℕ) → HasMainAt lines prefix number rest → has_main lines ≡ true
main_there lines prefix number rest has =
    ap has_main has.cut
    ∙ any_behind (λ (line : SourceLine). is_main line.kind) has.before (has.main ∷ has.later)
    (ap (λ kind. is_main kind || has_main has.later) has.is_main)

pub no_main : (text : List ℕ) → OfLines 1 text (λ lines. has_main lines ≡ false) → BreaksParts text 1
no_main text none =
    let all = lines_there 1 text in
    record { lines = all.0; are_lines = all.1; breaks = inl (none all.0 all.1, refl) }

pub breaks_stray : (text prefix : List ℕ) (number : ℕ) (rest : List ℕ) (stray : ℕ) → OfLines 1 text (λ lines. HasMainAt lines prefix number rest)
    → OfLines 1 text (λ lines. Some stray ≡ first_stray BeforeParts lines) → BreaksParts text stray
breaks_stray text prefix number rest stray has strays =
    let all = lines_there 1 text in
    let found = strays_at BeforeParts all.0 stray (sym (strays all.0 all.1)) in
    record {
      lines = all.0;
      are_lines = all.1;
      breaks = inr (
        main_there all.0 prefix number rest (has all.0 all.1),
        record {
          before = found.before;
          line = found.line;
          later = found.later;
          cut = found.cut;
          before_placed = found.before_placed;
          stray = found.stray;
          is_number = found.is_number;
        },
      );
    }

pub cuts_text : (text prefix : List ℕ) (number : ℕ) (rest : List ℕ) → OfLines 1 text (λ lines. HasMainAt lines prefix number rest)
    → OfLines 1 text (λ lines. None ≡ first_stray BeforeParts lines) → CutsText text prefix number rest
cuts_text text prefix number rest has none =
    let all = lines_there 1 text in
    record {
      lines = all.0;
      are_lines = all.1;
      placed = none_strays BeforeParts all.0 (sym (none all.0 all.1));
      has_main = has all.0 all.1;
    }

-- the cut of a text, as the definition has it
abbrev pub cut_of : (text prefix : List ℕ) (number : ℕ) (rest : List ℕ) → CutsText text prefix number rest → IsCut text
cut_of text prefix number rest cuts = record {
  lines = cuts.lines;
  are_lines = cuts.are_lines;
  placed = cuts.placed;
  prefix = cuts.has_main.before;
  main = cuts.has_main.main;
  later = cuts.has_main.later;
  cut = cuts.has_main.cut;
  is_main = cuts.has_main.is_main;
  rest = rest;
  rest_is = bytes_are (number + 1) rest cuts.has_main.later cuts.has_main.are_later;
}
