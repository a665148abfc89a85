-- Each text saves one position, or breaks at one line, and not both.
use Rattle.std.proofs.Common.{◌≡◌, ℕ, zero, suc, ◌+◌, ◌-◌, ◌<◌, ◌≤◌, Bool, true, false, ℤ, List, [], ◌∷◌, ◌++◌, map, length, length-append, take, drop, inl, inr}
use Rattle.std.proofs.Common.{Option, Some, None, refl, sym, ap, ap₂, subst, ◌∙◌, arith, take-append-drop, decimal}
use Rattle.std.specs.Prelude.{◌⊎◌}
use Rattle.std.specs.List.{AllByRecursion, flat_map}
use Rattle.std.specs.Str.{bytes_eq}
use Rattle.std.proofs.lemmas.Bool.{cases_lt}
use Rattle.std.proofs.lemmas.Fmt.{decimal_injective}
use Rattle.std.proofs.lemmas.List.{append_cancel_left, drop_all, take_all, take_at}
use Rattle.std.proofs.lemmas.Option.{same_Some}
use Rattle.std.proofs.lemmas.Slice.Eq.{bytes_eq-Decides}
use Rattle.list_laws.proofs.Truths.{true_is_false}
use Rattle.save_point.specs.Laws.{SavesOrBreaks}
use Rattle.save_point.specs.Reading.{parts_of, state_in}
use Rattle.save_point.specs.SavedTexts.{AreNumbers, BeginsState, BeginsWithLines, BreaksAtLine, BreaksState, IsFirstLine, IsPointLine, IsRowLine, IsSaved, IsState, IsStateLine}
use Rattle.save_point.specs.SavedTexts.{IsTitleLine, IsWithin, LacksLine, LacksPoint, LacksRow, NamedState, number_limit, point_line, row_line, saved_lines}
use Rattle.save_point.specs.SavedTexts.{spaced_words, state_line, title_line}
use Rattle.save_point.specs.declared.reading.Saved.{Saved}
use Rattle.save_point.proofs.LineLaws.{first_line_once, no_first_line, point_front, point_tells, row_front, row_tells}
use Rattle.save_point.proofs.NumberTexts.{number_told}
use Rattle.save_point.proofs.PartTexts.{point_once, points_told, state_bytes_asked}
use Rattle.save_point.proofs.ReadStates.{ReadSoFar, read_all, read_breaks, read_next, read_none, state_front}
use Rattle.super_time.specs.declared.point.Point.{Point}
use Rattle.text_tokens.proofs.LineLemmas.{behind_suc, line_length, lines_of_cut_suc}
use Rattle.unit_tree.specs.Lines.{without_return}
use Rattle.text_tokens.specs.Results.{Tells}

-- ---- The first line of a text

pub record HasLine (text : List ℕ) : Type 0 where
  pub line : List ℕ
  pub rest : List ℕ
  pub is : IsFirstLine text line rest

line_there : (byte : ℕ) (text : List ℕ) → HasLine (byte ∷ text)
line_there byte text =
    let all = byte ∷ text in
    let count = line_length all in
    record {
      line = without_return (take count all);
      rest = drop (suc count) all;
      is = record { whole = take count all; first = lines_of_cut_suc all (omega arith); cut = by (cases_lt count (length all)); without_end = refl };
    }
  where
    by : (line_length (byte ∷ text) < length (byte ∷ text)) ⊎ (length (byte ∷ text) ≤ line_length (byte ∷ text))
        → (byte ∷ text ≡ take (line_length (byte ∷ text)) (byte ∷ text) ++ 10 ∷ drop (suc (line_length (byte ∷ text))) (byte ∷ text))
        ⊎ ((byte ∷ text ≡ take (line_length (byte ∷ text)) (byte ∷ text)) × (drop (suc (line_length (byte ∷ text))) (byte ∷ text) ≡ []))
    by (inl within) = inl (behind_suc (byte ∷ text) within)
    by (inr past) = inr (
      sym (take_all (line_length (byte ∷ text)) (byte ∷ text) past),
      drop_all (suc (line_length (byte ∷ text))) (byte ∷ text) (omega (arith, past)),
    )

-- ---- Whether the first line has a form

-- The first line has this form, or the text lacks such a line.
pub record Found {A : Type 0} (Is : List ℕ → A → Type 0) (text : List ℕ) : Type 0 where
  pub line : List ℕ
  pub rest : List ℕ
  pub value : A
  pub first : IsFirstLine text line rest
  pub is : Is line value

-- A line without a value, and one with bytes after its beginning.
abbrev IsTitle : List ℕ → List ℕ → Type 0
IsTitle line more = line ≡ title_line

abbrev IsBegun : List ℕ → List ℕ → Type 0
IsBegun line more = line ≡ state_front ++ more

abbrev Decided : {A : Type 0} → (List ℕ → A → Type 0) → List ℕ → Type 0
Decided {A} Is text = Found Is text ⊎ LacksLine (λ line. (a : A) × Is line a) text

decide_by : {A : Type 0} (Is : List ℕ → A → Type 0) (text line rest : List ℕ) (told : Option A) → IsFirstLine text line rest → Tells told (Is line) → Decided Is text
decide_by Is text line rest (Some value) first tells = inl (record { line = line; rest = rest; value = value; first = first; is = tells })
decide_by Is text line rest None first tells =
    inr (λ other behind is form. tells form.0 (subst (λ one. Is one form.0) (first_line_once text other line behind rest is first).0 form.1))

decide : {A : Type 0} (Is : List ℕ → A → Type 0) → ((line : List ℕ) → (told : Option A) × Tells told (Is line)) → (text : List ℕ) → Decided Is text
decide Is each [] = inr (λ line rest is form. no_first_line line rest is)
decide Is each (byte ∷ text) =
    let there = line_there byte text in
    let told = each there.line in
    decide_by Is (byte ∷ text) there.line there.rest told.0 there.is told.1

-- The bytes after the beginning of a line.
behind_by : (front line : List ℕ) (same : Bool) → bytes_eq (take (length front) line) front ≡ same → (told : Option (List ℕ)) × Tells told (λ more. line ≡ front ++ more)
behind_by front line true same = (
  Some (drop (length front) line),
  sym (take-append-drop (length front) line) ∙ ap (λ first. first ++ drop (length front) line)
      ((bytes_eq-Decides (take (length front) line) front).0 same),
)
behind_by front line false same = (
  None,
  λ more is. differ (ap (λ all. bytes_eq (take (length front) all) front) is ∙ front_same more) same,
)
  where
    front_same : (more : List ℕ) → bytes_eq (take (length front) (front ++ more)) front ≡ true
    front_same more = (bytes_eq-Decides (take (length front) (front ++ more)) front).1 (take_at front more (length front) refl)

    differ : bytes_eq (take (length front) line) front ≡ true → bytes_eq (take (length front) line) front ≡ false → ⊥
    differ is isnt = true_is_false (bytes_eq (take (length front) line) front) is isnt

behind_told : (front line : List ℕ) → (told : Option (List ℕ)) × Tells told (λ more. line ≡ front ++ more)
behind_told front line = behind_by front line (bytes_eq (take (length front) line) front) refl

title_told : (line : List ℕ) → (told : Option (List ℕ)) × Tells told (IsTitle line)
title_told line = by (bytes_eq line title_line) refl
  where
    by : (same : Bool) → bytes_eq line title_line ≡ same → (told : Option (List ℕ)) × Tells told (IsTitle line)
    by true same = (Some [], (bytes_eq-Decides line title_line).0 same)
    by false same = (None, λ rest is. true_is_false (bytes_eq line title_line) ((bytes_eq-Decides line title_line).1 is) same)

row_told : (line : List ℕ) → (told : Option ℕ) × Tells told (IsRowLine line)
row_told line = by (behind_told row_front line).0 (behind_told row_front line).1
  where
    by : (told : Option (List ℕ)) → Tells told (λ more. line ≡ row_front ++ more) → (row : Option ℕ) × Tells row (IsRowLine line)
    by None none = (None, λ row is. none (decimal row) is.1)
    by (Some number) is = let told = number_told number in (told.0, row_tells line number told.0 is told.1)

point_told : (line : List ℕ) → (told : Option Point) × Tells told (IsPointLine line)
point_told line = by (behind_told point_front line).0 (behind_told point_front line).1
  where
    by : (told : Option (List ℕ)) → Tells told (λ more. line ≡ point_front ++ more) → (point : Option Point) × Tells point (IsPointLine line)
    by None none = (None, λ point is. none (decimal point.t ++ 32 ∷ decimal point.n) is.1)
    by (Some numbers) is = let told = points_told numbers in (told.0, point_tells line numbers told.0 is told.1)

-- ---- There is one or the other

abbrev Answer : List ℕ → Type 0
Answer text = ((saved : Saved) × IsSaved text saved) ⊎ ((number : ℕ) × BreaksAtLine text number)

some_byte : (text line rest : List ℕ) → IsFirstLine text line rest → 0 < length text
some_byte [] line rest is = absurd (no_first_line line rest is)
some_byte (byte ∷ text) line rest is = omega arith

shorter : (text line rest : List ℕ) → IsFirstLine text line rest → length rest < length text
shorter text line rest is = by is.cut
  where
    by : (text ≡ is.whole ++ 10 ∷ rest) ⊎ ((text ≡ is.whole) × (rest ≡ [])) → length rest < length text
    by (inl p) = omega (arith, ap length p, length-append is.whole (10 ∷ rest))
    by (inr p) = omega (arith, ap length p.1, some_byte text line rest is)

module _ (text : List ℕ) (row : ℕ) (point : Point) (numbers : AreNumbers row point) where
  abbrev So : List ℕ → ℕ → List (List ℕ) → List ℕ → List ℤ → Type 0
  So rest number names counts words = ReadSoFar text rest row point number names counts words

  -- By what the line of a state has.
  state_by : (rest line behind : List ℕ) (number : ℕ) (names : List (List ℕ)) (counts : List ℕ) (words : List ℤ) (told : Option NamedState)
      → So rest number names counts words → IsFirstLine rest (state_front ++ line) behind → state_in (parts_of line) ≡ told
      → ((names' : List (List ℕ)) (counts' : List ℕ) (words' : List ℤ) → So behind (number + 1) names' counts' words' → Answer text) → Answer text
  state_by rest line behind number names counts words None so_far first is later =
      inr (number + 1, read_breaks text rest line behind row point number names counts words numbers so_far first is)
  state_by rest line behind number names counts words (Some state) so_far first is later =
      later (names ++ (state.name ∷ [])) (counts ++ (length state.words ∷ [])) (words ++ state.words)
      (read_next text rest line behind row point number names (names ++ (state.name ∷ [])) counts (counts ++ (length state.words ∷ [])) words
      (words ++ state.words) so_far first (record { state = state; told = is; names_are = refl; counts_are = refl; words_are = refl }))

  line_by : (rest : List ℕ) (number : ℕ) (names : List (List ℕ)) (counts : List ℕ) (words : List ℤ) → So rest number names counts words
      → Decided IsBegun rest
      → ((behind : List ℕ) (number' : ℕ) (names' : List (List ℕ)) (counts' : List ℕ) (words' : List ℤ) → length behind < length rest
      → So behind number' names' counts' words' → Answer text) → Answer text
  line_by rest number names counts words so_far (inl found) later =
      state_by rest found.value found.rest number names counts words (state_in (parts_of found.value)) so_far
      (subst (λ line. IsFirstLine rest line found.rest) found.is found.first) refl
      (λ names' counts' words' next. later found.rest (number + 1) names' counts' words' (shorter rest found.line found.rest found.first) next)
  line_by rest number names counts words so_far (inr none) later =
      inl (
        record { row = row; point = point; names = names; counts = counts; states = words; rest = length text - length rest },
        read_all text rest row point number names counts words numbers so_far none,
      )

  states_from : (more : ℕ) (rest : List ℕ) (number : ℕ) (names : List (List ℕ)) (counts : List ℕ) (words : List ℤ) → length rest < more
      → So rest number names counts words → Answer text
  states_from zero rest number names counts words within so_far = absurd (omega arith)
  states_from (suc more) rest number names counts words within so_far =
      line_by rest number names counts words so_far (decide IsBegun (behind_told state_front) rest)
      (λ behind number' names' counts' words' less next. states_from more behind number' names' counts' words' (omega (arith, within, less)) next)

-- By what the first line, the second and the third have.
point_by : (text title rest : List ℕ) (row : ℕ) → IsFirstLine text title_line title → row ≤ number_limit → IsFirstLine title (row_line row) rest
    → Decided IsPointLine rest → Answer text
point_by text title rest row first within second (inl found) =
    let third = subst (λ line. IsFirstLine rest line found.rest) found.is.1 found.first in
    states_from text row found.value (record { row_within = within; point_within = found.is.0 }) (suc (length found.rest)) found.rest 3 [] [] []
    (omega arith) (read_none text found.rest row found.value (title, first, (rest, second, (found.rest, third, refl))))
point_by text title rest row first within second (inr none) =
    inr (3, inr (inr (inl (refl, record { row = row; rest = rest; begins = (title, first, (rest, second, refl)); row_within = within; lacks = none }))))

row_by : (text title : List ℕ) → IsFirstLine text title_line title → Decided IsRowLine title → Answer text
row_by text title first (inl found) =
    point_by text title found.rest found.value first found.is.0 (subst (λ line. IsFirstLine title line found.rest) found.is.1 found.first)
    (decide IsPointLine point_told found.rest)
row_by text title first (inr none) = inr (2, inr (inl (refl, record { rest = title; begins = (title, first, refl); lacks = none })))

title_by : (text : List ℕ) → Decided IsTitle text → Answer text
title_by text (inl found) =
    row_by text found.rest (subst (λ line. IsFirstLine text line found.rest) found.is found.first) (decide IsRowLine row_told found.rest)
title_by text (inr none) = inr (1, inl (refl, λ line rest first is. none line rest first ([], is)))

answer : (text : List ℕ) → Answer text
answer text = title_by text (decide IsTitle title_told text)

-- ---- And not another

-- A text has a title, and then the line of a row, and then that of a point, and then this rest.
record HasTitle (text rest : List ℕ) : Type 0 where
  first : IsFirstLine text title_line rest

record HasRow (text : List ℕ) (row : ℕ) (rest : List ℕ) : Type 0 where
  title : List ℕ
  has_title : HasTitle text title
  second : IsFirstLine title (row_line row) rest
  within : row ≤ number_limit

record HasPoint (text : List ℕ) (row : ℕ) (point : Point) (rest : List ℕ) : Type 0 where
  behind : List ℕ
  has_row : HasRow text row behind
  third : IsFirstLine behind (point_line point) rest
  within : IsWithin point

title_once : (text one other : List ℕ) → HasTitle text one → HasTitle text other → one ≡ other
title_once text one other is also = (first_line_once text title_line title_line one other is.first also.first).1

row_once : (text : List ℕ) (row other : ℕ) (rest behind : List ℕ) → HasRow text row rest → HasRow text other behind → (row ≡ other) × (rest ≡ behind)
row_once text row other rest behind is also =
    let same = title_once text is.title also.title is.has_title also.has_title in
    let lines =
    first_line_once also.title (row_line row) (row_line other) rest behind (subst (λ t. IsFirstLine t (row_line row) rest) same is.second) also.second in (
      decimal_injective row other (omega (arith, is.within)) (omega (arith, also.within))
          (append_cancel_left row_front (decimal row) (decimal other) lines.0),
      lines.1,
    )

points_once : (text : List ℕ) (row other : ℕ) (one two : Point) (rest behind : List ℕ) → HasPoint text row one rest → HasPoint text other two behind
    → (row ≡ other) × (one ≡ two) × (rest ≡ behind)
points_once text row other one two rest behind is also =
    let rows = row_once text row other is.behind also.behind is.has_row also.has_row in
    let lines =
    first_line_once also.behind (point_line one) (point_line two) rest behind (subst (λ t. IsFirstLine t (point_line one) rest) rows.1 is.third) also.third in
    let same =
    append_cancel_left point_front (decimal one.t ++ 32 ∷ decimal one.n) (decimal two.t ++ 32 ∷ decimal two.n) lines.0 in (
      rows.0,
      point_once (decimal one.t ++ 32 ∷ decimal one.n) one two (is.within, refl) (also.within, same),
      lines.1,
    )

no_title : (text rest : List ℕ) → LacksLine IsTitleLine text → HasTitle text rest → ⊥
no_title text rest none has = none title_line rest has.first refl

no_row : (text : List ℕ) (row : ℕ) (rest : List ℕ) → LacksRow text → HasRow text row rest → ⊥
no_row text row rest lacks has =
    let same = title_once text lacks.begins.0 has.title (record { first = lacks.begins.1 }) has.has_title in
    lacks.lacks (row_line row) rest
    (subst (λ t. IsFirstLine t (row_line row) rest) (sym same ∙ lacks.begins.2) has.second)
    (row, (has.within, refl))

row_of : (text : List ℕ) (lacks : LacksPoint text) → HasRow text lacks.row lacks.rest
row_of text lacks = record {
  title = lacks.begins.0;
  has_title = record { first = lacks.begins.1 };
  second = subst (IsFirstLine lacks.begins.0 (row_line lacks.row)) lacks.begins.2.2 lacks.begins.2.1;
  within = lacks.row_within;
}

no_point : (text : List ℕ) (row : ℕ) (point : Point) (rest : List ℕ) → LacksPoint text → HasPoint text row point rest → ⊥
no_point text row point rest lacks has =
    let rows = row_once text lacks.row row lacks.rest has.behind (row_of text lacks) has.has_row in
    lacks.lacks (point_line point) rest (subst (λ t. IsFirstLine t (point_line point) rest) (sym rows.1) has.third) (point, (has.within, refl))

-- ---- The states

-- No first line is the line of a state.
abbrev Stops : List ℕ → Type 0
Stops rest = LacksLine (λ line. (state : NamedState) × IsStateLine line state) rest

stops_by : (rest : List ℕ) → LacksLine BeginsState rest → Stops rest
stops_by rest none line behind first state = none line behind first (state.0.name ++ spaced_words state.0.words, state.1.1)

stops_at : (rest line behind : List ℕ) → IsFirstLine rest line behind → ((state : NamedState) → IsStateLine line state → ⊥) → Stops rest
stops_at rest line behind first none other after is state =
    none state.0 (subst (λ one. IsStateLine one state.0) (first_line_once rest other line after behind is first).0 state.1)

state_once : (one other : NamedState) → IsState one → IsState other → state_line one ≡ state_line other → one ≡ other
state_once one other is also same =
    let bytes =
    append_cancel_left state_front (one.name ++ spaced_words one.words) (other.name ++ spaced_words other.words) same in
    same_Some one other (sym (state_bytes_asked one is) ∙ ap (λ all. state_in (parts_of all)) bytes ∙ state_bytes_asked other also)

states_once : (text : List ℕ) (ones others : List NamedState) (rest behind : List ℕ) → BeginsWithLines text (map state_line ones) rest
    → BeginsWithLines text (map state_line others) behind → AllByRecursion IsState ones → AllByRecursion IsState others → Stops rest → Stops behind
    → (ones ≡ others) × (rest ≡ behind)
states_once text [] [] rest behind begins also are are_also stops stops_also = (refl, sym begins ∙ also)
states_once text [] (state ∷ others) rest behind begins also are are_also stops stops_also =
    absurd
    (stops (state_line state) also.0 (subst (λ t. IsFirstLine t (state_line state) also.0) begins also.1) (state, (are_also.0, refl)))
states_once text (state ∷ ones) [] rest behind begins also are are_also stops stops_also =
    absurd
    (stops_also (state_line state) begins.0 (subst (λ t. IsFirstLine t (state_line state) begins.0) also begins.1) (state, (are.0, refl)))
states_once text (one ∷ ones) (other ∷ others) rest behind begins also are are_also stops stops_also =
    let lines = first_line_once text (state_line one) (state_line other) begins.0 also.0 begins.1 also.1 in
    let later =
    states_once also.0 ones others rest behind (subst (λ t. BeginsWithLines t (map state_line ones) rest) lines.1 begins.2) also.2 are.1 are_also.1 stops
    stops_also in
    (ap₂ (λ state states. state ∷ states) (state_once one other are.0 are_also.0 lines.0) later.0, later.1)

-- The lines of a row, a point and some states, and no more.
record HasStates (text : List ℕ) (row : ℕ) (point : Point) (states : List NamedState) (rest : List ℕ) : Type 0 where
  lines : List ℕ
  has_point : HasPoint text row point lines
  begins : BeginsWithLines lines (map state_line states) rest
  are_states : AllByRecursion IsState states
  stops : Stops rest

has_by : (text : List ℕ) (row : ℕ) (point : Point) (states : List NamedState) (rest : List ℕ) → BeginsWithLines text (saved_lines row point states) rest
    → AreNumbers row point → AllByRecursion IsState states → Stops rest → HasStates text row point states rest
has_by text row point states rest begins numbers are stops = record {
  lines = begins.2.2.0;
  has_point = record {
    behind = begins.2.0;
    has_row =
        record { title = begins.0; has_title = record { first = begins.1 }; second = begins.2.1; within = numbers.row_within };
    third = begins.2.2.1;
    within = numbers.point_within;
  };
  begins = begins.2.2.2;
  are_states = are;
  stops = stops;
}

of_saved : (text : List ℕ) (saved : Saved) (is : IsSaved text saved) → HasStates text saved.row saved.point is.states is.behind
of_saved text saved is = has_by text saved.row saved.point is.states is.behind is.begins is.numbers is.are_states (stops_by is.behind is.no_more)

of_broken : (text : List ℕ) (number : ℕ) (is : BreaksState text number) → HasStates text is.row is.point is.states is.rest
of_broken text number is =
    has_by text is.row is.point is.states is.rest is.begins is.numbers is.are_states (stops_at is.rest is.line is.behind is.first is.is_none)

record AreSame (row other : ℕ) (point two : Point) (states others : List NamedState) (rest behind : List ℕ) : Type 0 where
  rows : row ≡ other
  points : point ≡ two
  all_states : states ≡ others
  rests : rest ≡ behind

has_once : (text : List ℕ) (row other : ℕ) (point two : Point) (states others : List NamedState) (rest behind : List ℕ) → HasStates text row point states rest
    → HasStates text other two others behind → AreSame row other point two states others rest behind
has_once text row other point two states others rest behind is also =
    let same = points_once text row other point two is.lines also.lines is.has_point also.has_point in
    let later =
    states_once also.lines states others rest behind (subst (λ t. BeginsWithLines t (map state_line states) rest) same.2 is.begins) also.begins is.are_states
    also.are_states is.stops also.stops in
    record { rows = same.0; points = same.1; all_states = later.0; rests = later.1 }

-- ---- The law

saved_once : (text : List ℕ) (one other : Saved) → IsSaved text one → IsSaved text other → one ≡ other
saved_once text one other is also =
    let same =
    has_once text one.row other.row one.point other.point is.states also.states is.behind also.behind (of_saved text one is) (of_saved text other also) in
    let names = is.names_are ∙ ap (map (λ (state : NamedState). state.name)) same.all_states ∙ sym also.names_are in
    let counts = is.counts_are ∙ ap (map (λ (state : NamedState). length state.words)) same.all_states ∙ sym also.counts_are in
    let words = is.words_are ∙ ap (flat_map (λ (state : NamedState). state.words)) same.all_states ∙ sym also.words_are in
    let rest : one.rest ≡ other.rest = place one.rest other.rest (length is.behind) (length also.behind) (length text) (ap length same.rests) is.rest_is also.rest_is in
    λ i. record { row = same.rows i; point = same.points i; names = names i; counts = counts i; states = words i; rest = rest i }
  where
    place : (one other behind after all : ℕ) → behind ≡ after → one + behind ≡ all → other + after ≡ all → one ≡ other
    place one other behind after all same is also = omega (arith, same, is, also)

saved_and_broken : (text : List ℕ) (saved : Saved) (number : ℕ) → IsSaved text saved → BreaksState text number → ⊥
saved_and_broken text saved number is broken =
    let same =
    has_once text saved.row broken.row saved.point broken.point is.states broken.states is.behind broken.rest (of_saved text saved is)
    (of_broken text number broken) in
    is.no_more broken.line broken.behind (subst (λ t. IsFirstLine t broken.line broken.behind) (sym same.rests) broken.first) broken.may_be

broken_once : (text : List ℕ) (one other : ℕ) → BreaksState text one → BreaksState text other → one ≡ other
broken_once text one other is also =
    let same =
    has_once text is.row also.row is.point also.point is.states also.states is.rest also.rest (of_broken text one is) (of_broken text other also) in
    is.place ∙ ap (λ (states : List NamedState). length states + 4) same.all_states ∙ sym also.place

-- A text that lacks none of the first lines, or fewer of them.
title_of_row : (text : List ℕ) (lacks : LacksRow text) → HasTitle text lacks.begins.0
title_of_row text lacks = record { first = lacks.begins.1 }

no_both : (text : List ℕ) (saved : Saved) (number : ℕ) → IsSaved text saved → BreaksAtLine text number → ⊥
no_both text saved number is (inl (at, lacks)) =
    let has = (of_saved text saved is).has_point.has_row in
    no_title text has.title lacks has.has_title
no_both text saved number is (inr (inl (at, lacks))) =
    let has = (of_saved text saved is).has_point in
    no_row text saved.row has.behind lacks has.has_row
no_both text saved number is (inr (inr (inl (at, lacks)))) =
    let has = of_saved text saved is in
    no_point text saved.row saved.point has.lines lacks has.has_point
no_both text saved number is (inr (inr (inr broken))) = saved_and_broken text saved number is broken

breaks_once : (text : List ℕ) (one other : ℕ) → BreaksAtLine text one → BreaksAtLine text other → one ≡ other
breaks_once text one other (inl (at, lacks)) (inl (also, as_well)) = at ∙ sym also
breaks_once text one other (inl (at, lacks)) (inr (inl (also, row))) = absurd (no_title text row.begins.0 lacks (title_of_row text row))
breaks_once text one other (inl (at, lacks)) (inr (inr (inl (also, point)))) =
    absurd (no_title text (row_of text point).title lacks (row_of text point).has_title)
breaks_once text one other (inl (at, lacks)) (inr (inr (inr broken))) =
    let has = (of_broken text other broken).has_point.has_row in
    absurd (no_title text has.title lacks has.has_title)
breaks_once text one other (inr (inl (at, row))) (inl (also, lacks)) = absurd (no_title text row.begins.0 lacks (title_of_row text row))
breaks_once text one other (inr (inl (at, row))) (inr (inl (also, as_well))) = at ∙ sym also
breaks_once text one other (inr (inl (at, row))) (inr (inr (inl (also, point)))) = absurd (no_row text point.row point.rest row (row_of text point))
breaks_once text one other (inr (inl (at, row))) (inr (inr (inr broken))) =
    let has = (of_broken text other broken).has_point in
    absurd (no_row text broken.row has.behind row has.has_row)
breaks_once text one other (inr (inr (inl (at, point)))) (inl (also, lacks)) =
    absurd (no_title text (row_of text point).title lacks (row_of text point).has_title)
breaks_once text one other (inr (inr (inl (at, point)))) (inr (inl (also, row))) = absurd (no_row text point.row point.rest row (row_of text point))
breaks_once text one other (inr (inr (inl (at, point)))) (inr (inr (inl (also, as_well)))) = at ∙ sym also
breaks_once text one other (inr (inr (inl (at, point)))) (inr (inr (inr broken))) =
    let has = of_broken text other broken in
    absurd (no_point text broken.row broken.point has.lines point has.has_point)
breaks_once text one other (inr (inr (inr broken))) (inl (also, lacks)) =
    let has = (of_broken text one broken).has_point.has_row in
    absurd (no_title text has.title lacks has.has_title)
breaks_once text one other (inr (inr (inr broken))) (inr (inl (also, row))) =
    let has = (of_broken text one broken).has_point in
    absurd (no_row text broken.row has.behind row has.has_row)
breaks_once text one other (inr (inr (inr broken))) (inr (inr (inl (also, point)))) =
    let has = of_broken text one broken in
    absurd (no_point text broken.row broken.point has.lines point has.has_point)
breaks_once text one other (inr (inr (inr broken))) (inr (inr (inr as_well))) = broken_once text one other broken as_well

pub saves_or_breaks : (text : List ℕ) → SavesOrBreaks text
saves_or_breaks text = record {
  some = answer text;
  saved_once = saved_once text;
  breaks_once = breaks_once text;
  not_both = no_both text;
}
