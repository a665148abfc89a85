-- An input has exactly one text and one table, or no line `trace`.
use Rattle.std.proofs.Common.{◌≡◌, ℕ, zero, suc, ◌-◌, ◌<◌, ◌≤◌, ◌==◌, Bool, true, false, List, [], ◌∷◌, ◌++◌, length, length-append, take, drop, inl, inr}
use Rattle.std.proofs.Common.{None, refl, sym, ap, ap₂, subst, ◌∙◌, arith, append_assoc, append-nil, take-append-drop, lit<}
use Rattle.std.specs.Prelude.{◌⊎◌, not, codes, if◌then◌else◌}
use Rattle.std.specs.List.{AllByRecursion, list_all, onto_first, prefix_len}
use Rattle.std.proofs.lemmas.Bool.{and_parts, cases_lt}
use Rattle.std.proofs.lemmas.Bool.Decides.{nat_tests}
use Rattle.std.proofs.lemmas.List.{append_cancel_left, drop_all, drop_at, take_all, take_at}
use Rattle.list_laws.proofs.Lists.{each_more, same_first, same_rest}
use Rattle.list_laws.proofs.Truths.{not_true, true_is_false}
use Rattle.text_laws.proofs.WholeLines.{line_more}
use Rattle.stimulus_tables.proofs.Deciding.{Decided, is_decided, same_decided}
use Rattle.text_tokens.specs.Scanning.{keyword_of}
use Rattle.text_tokens.proofs.FrontLemmas.{front_passes, prefix_len-front}
use Rattle.text_tokens.proofs.LineLemmas.{behind_suc, line_length, line_of_cut, lines_of_cut_suc}
use Rattle.text_tokens.proofs.TableLemmas.{keyword_of_none}
use Rattle.trace_verify.specs.Laws.{IsPartedOnce}
use Rattle.trace_verify.specs.Parting.{IsCutBehind, IsOtherLine, IsParted, IsPartingLine, IsWhole, LacksTrace, ended, trace_tokens}
use Rattle.unit_tree.specs.Lines.{code_of, lines_of, without_return}
use Rattle.unit_tree.specs.Tokens.{IsName, Spells, begins_with, is_blank, is_word_byte}
use Rattle.text_tokens.specs.Results.{Decides}

-- ---- The word

abbrev pub word : List ℕ
word = codes "trace"

abbrev pub behind_blanks : List ℕ → List ℕ
behind_blanks bytes = drop (prefix_len is_blank bytes) bytes

no_keyword : keyword_of (codes "trace") ≡ None
unfolding keyword_of
no_keyword = refl

is_name : IsName (codes "trace")
is_name = ((refl, refl, lit< tt), keyword_of_none (codes "trace") no_keyword)

-- Where only blanks follow, no word follows.
ends_there : (rest : List ℕ) → list_all is_blank rest ≡ true → begins_with is_word_byte rest ≡ false
ends_there [] blank = refl
ends_there (byte ∷ rest) blank = by byte (and_parts (is_blank byte) (list_all is_blank rest) blank).0
  where
    by : (byte : ℕ) → is_blank byte ≡ true → is_word_byte byte ≡ false
    by byte is = grind (arith, nat_tests)

pub word_there : (code rest : List ℕ) → behind_blanks code ≡ word ++ rest → list_all is_blank rest ≡ true → Spells trace_tokens code
word_there code rest is blank = (
  rest,
  record {
    blanks = take (prefix_len is_blank code) code;
    text = word;
    cut =
        sym (take-append-drop (prefix_len is_blank code) code) ∙ ap (λ behind. take (prefix_len is_blank code) code ++ behind) is
        ∙ sym (append_assoc (take (prefix_len is_blank code) code) word rest);
    are_blank = front_passes is_blank code;
    spelling = (refl, is_name);
    ends = ends_there rest blank;
  },
  blank,
)

-- The word, and then blanks.
abbrev pub HasWord : List ℕ → Type 0
HasWord code = (rest : List ℕ) × (behind_blanks code ≡ word ++ rest) × (list_all is_blank rest ≡ true)

blanks_cut : (blanks rest : List ℕ) → list_all is_blank blanks ≡ true → behind_blanks (blanks ++ (word ++ rest)) ≡ word ++ rest
blanks_cut blanks rest blank =
    ap (λ count. drop count (blanks ++ (word ++ rest))) (prefix_len-front is_blank blanks (word ++ rest) blank refl)
    ∙ drop_at blanks (word ++ rest) (length blanks) refl

pub word_behind : (code : List ℕ) → Spells trace_tokens code → HasWord code
word_behind code (rest, begins, blank) = (
  rest,
  ap behind_blanks (begins.cut ∙ ap (λ text. begins.blanks ++ text ++ rest) begins.spelling.0 ∙ append_assoc begins.blanks word rest)
      ∙ blanks_cut begins.blanks rest begins.are_blank,
  blank,
)

-- Whether the code is the word.
pub word_told : (code rest : List ℕ) (told : Bool) → behind_blanks code ≡ word ++ rest → told ≡ list_all is_blank rest → Decides told (Spells trace_tokens code)
word_told code rest true cut is = word_there code rest cut (sym is)
word_told code rest false cut is = λ spelled. no (word_behind code spelled)
  where
    no : HasWord code → ⊥
    no (others, also, blank) =
        true_is_false (list_all is_blank rest) (subst (λ left. list_all is_blank left ≡ true) (append_cancel_left word others rest (sym also ∙ cut)) blank) (sym is)

pub no_word : (code : List ℕ) → ((rest : List ℕ) → behind_blanks code ≡ word ++ rest → ⊥) → Spells trace_tokens code → ⊥
no_word code none spelled = let has = word_behind code spelled in none has.0 has.1

-- ---- Whether a line is `trace`

word_decided : (code : List ℕ) → Decided (Spells trace_tokens code)
word_decided code = by (same_decided (take 5 (behind_blanks code)) word) (is_decided (list_all is_blank (drop 5 (behind_blanks code))))
  where
    cut : take 5 (behind_blanks code) ≡ word → behind_blanks code ≡ word ++ drop 5 (behind_blanks code)
    cut is = sym (take-append-drop 5 (behind_blanks code)) ∙ ap (λ model. model ++ drop 5 (behind_blanks code)) is

    by : Decided (take 5 (behind_blanks code) ≡ word) → Decided (list_all is_blank (drop 5 (behind_blanks code)) ≡ true) → Decided (Spells trace_tokens code)
    by (inl is) (inl blank) = inl (word_there code (drop 5 (behind_blanks code)) (cut is) blank)
    by (inr never) tail = inr (λ spelled. let has = word_behind code spelled in never (ap (take 5) has.1 ∙ take_at word has.0 5 refl))
    by (inl is) (inr never) = inr (λ spelled. let has = word_behind code spelled in
        never (subst (λ left. list_all is_blank left ≡ true) (append_cancel_left word has.0 (drop 5 (behind_blanks code)) (sym has.1 ∙ cut is)) has.2))

trace_decided : (line : List ℕ) → Decided (IsPartingLine line)
trace_decided line = word_decided (code_of (without_return line))

-- ---- Lines

line_alone : (byte : ℕ) (line : List ℕ) → IsWhole (byte ∷ line) → lines_of (byte ∷ line) ≡ (byte ∷ line) ∷ []
line_alone byte [] whole = ap (λ test. if test then [] ∷ [] else (byte ∷ []) ∷ []) (not_true (byte == 10) (and_parts (not (byte == 10)) true whole).0)
line_alone byte (next ∷ line) whole =
    let both = and_parts (not (byte == 10)) (list_all (λ byte. not (byte == 10)) (next ∷ line)) whole in
    ap (λ test. if test then [] ∷ lines_of (next ∷ line) else onto_first byte (lines_of (next ∷ line))) (not_true (byte == 10) both.0)
    ∙ ap (onto_first byte) (line_alone next line both.1)

lines_before : (before : List (List ℕ)) (rest : List ℕ) → AllByRecursion IsWhole before → lines_of (ended before ++ rest) ≡ before ++ lines_of rest
lines_before [] rest whole = refl
lines_before (line ∷ before) rest whole =
    ap lines_of (append_assoc (line ++ 10 ∷ []) (ended before) rest ∙ append_assoc line (10 ∷ []) (ended before ++ rest))
    ∙ line_more line (ended before ++ rest) whole.0
    ∙ ap (λ lines. line ∷ lines) (lines_before before rest whole.1)

ended_more : (before : List (List ℕ)) (line : List ℕ) → ended (before ++ (line ∷ [])) ≡ ended before ++ (line ++ 10 ∷ [])
ended_more [] line = append-nil (line ++ 10 ∷ [])
ended_more (one ∷ before) line =
    ap (λ rest. (one ++ 10 ∷ []) ++ rest) (ended_more before line) ∙ sym (append_assoc (one ++ 10 ∷ []) (ended before) (line ++ 10 ∷ []))

-- A line that is `trace` has bytes.
trace_written : (line : List ℕ) → IsPartingLine line → line ≡ [] → ⊥
trace_written line is none = no (word_behind [] (subst IsPartingLine none is))
  where
    no : HasWord [] → ⊥
    no (rest, cut, blank) = cc cut

-- The lines from a line on, with its end, where it has bytes.
lines_from : (behind line table : List ℕ) → IsCutBehind behind line table → IsWhole line → (line ≡ [] → ⊥) → lines_of behind ≡ line ∷ lines_of table
lines_from behind line table (inl cut) whole some = ap lines_of cut ∙ line_more line table whole
lines_from behind [] table (inr cut) whole some = absurd (some refl)
lines_from behind (byte ∷ line) table (inr cut) whole some =
    ap lines_of cut.0 ∙ line_alone byte line whole ∙ ap (λ rest. (byte ∷ line) ∷ lines_of rest) (sym cut.1)

pub lines_parted : (input model table : List ℕ) (is : IsParted input model table) → lines_of input ≡ is.before ++ (is.line ∷ lines_of table)
lines_parted input model table is =
    ap lines_of (is.cut ∙ ap (λ bytes. bytes ++ is.behind) is.model_is) ∙ lines_before is.before is.behind is.whole.0
    ∙ ap (λ lines. is.before ++ lines) (lines_from is.behind is.line table is.cut_behind is.whole.1 (trace_written is.line is.is_trace))

-- ---- Not both, and only one

no_trace : (before : List (List ℕ)) (line : List ℕ) (rest : List (List ℕ)) → AllByRecursion IsOtherLine (before ++ (line ∷ rest)) → IsPartingLine line → ⊥
no_trace [] line rest others is = others.0 is
no_trace (one ∷ before) line rest others is = no_trace before line rest others.1 is

not_both : (input model table : List ℕ) → IsParted input model table → LacksTrace input → ⊥
not_both input model table is lacks =
    no_trace is.before is.line (lines_of table) (subst (AllByRecursion IsOtherLine) (lines_parted input model table is) lacks) is.is_trace

same_before : (before others : List (List ℕ)) (line one : List ℕ) (rest more : List (List ℕ)) → before ++ (line ∷ rest) ≡ others ++ (one ∷ more)
    → AllByRecursion IsOtherLine before → AllByRecursion IsOtherLine others → IsPartingLine line → IsPartingLine one → (before ≡ others) × (line ≡ one)
same_before [] [] line one rest more is first also trace too = (refl, same_first line one rest more is)
same_before [] (other ∷ others) line one rest more is first also trace too =
    absurd (also.0 (subst IsPartingLine (same_first line other rest (others ++ (one ∷ more)) is) trace))
same_before (other ∷ before) [] line one rest more is first also trace too =
    absurd (first.0 (subst IsPartingLine (sym (same_first other one (before ++ (line ∷ rest)) more is)) too))
same_before (head ∷ before) (other ∷ others) line one rest more is first also trace too =
    let later = same_before before others line one rest more (same_rest head other (before ++ (line ∷ rest)) (others ++ (one ∷ more)) is) first.1 also.1 trace too in
    (ap₂ (λ bytes lines. bytes ∷ lines) (same_first head other (before ++ (line ∷ rest)) (others ++ (one ∷ more)) is) later.0, later.1)

same_table : (behind line table also : List ℕ) → IsCutBehind behind line table → IsCutBehind behind line also → table ≡ also
same_table behind line table also (inl is) (inl too) = same_rest 10 10 table also (append_cancel_left line (10 ∷ table) (10 ∷ also) (sym is ∙ too))
same_table behind line table also (inl is) (inr too) = absurd (omega (arith, ap length (sym too.0 ∙ is), length-append line (10 ∷ table)))
same_table behind line table also (inr is) (inl too) = absurd (omega (arith, ap length (sym is.0 ∙ too), length-append line (10 ∷ also)))
same_table behind line table also (inr is) (inr too) = is.1 ∙ sym too.1

only : (input model other table also : List ℕ) → IsParted input model table → IsParted input other also → (model ≡ other) × (table ≡ also)
only input model other table also is too =
    let lines = same_before is.before too.before is.line too.line (lines_of table) (lines_of also)
    (sym (lines_parted input model table is) ∙ lines_parted input other also too) is.is_first too.is_first is.is_trace too.is_trace in
    let fronts : model ≡ other = is.model_is ∙ ap ended lines.0 ∙ sym too.model_is in
    let behinds : too.behind ≡ is.behind = append_cancel_left model too.behind is.behind (ap (λ bytes. bytes ++ too.behind) fronts ∙ sym too.cut ∙ is.cut) in (
      fronts,
      same_table is.behind is.line table also is.cut_behind
          (subst (λ line. IsCutBehind is.behind line also) (sym lines.1) (subst (λ behind. IsCutBehind behind too.line also) behinds too.cut_behind)),
    )

-- ---- One line after the other

-- The lines of the input before the rest were others.
pub record IsPassed (input rest : List ℕ) : Type 0 where
  pub before : List (List ℕ)
  pub lines : lines_of input ≡ before ++ lines_of rest
  pub cut : (rest ≡ []) ⊎ (input ≡ ended before ++ rest)
  pub whole : AllByRecursion IsWhole before
  pub others : AllByRecursion IsOtherLine before

pub passed_none : (input : List ℕ) → IsPassed input input
passed_none input = record { before = []; lines = refl; cut = inr refl; whole = tt; others = tt }

-- The next line, where something is left.
pub record IsNextLine (rest line behind : List ℕ) : Type 0 where
  pub written : 0 < length rest
  pub lines : lines_of rest ≡ line ∷ lines_of behind
  pub whole : IsWhole line
  pub cut : IsCutBehind rest line behind

all_left : (input rest : List ℕ) (before : List (List ℕ)) → 0 < length rest → (rest ≡ []) ⊎ (input ≡ ended before ++ rest) → input ≡ ended before ++ rest
all_left input rest before written (inl none) = absurd (omega (arith, ap length none))
all_left input rest before written (inr cut) = cut

pub passed_more : (input rest line behind : List ℕ) → IsPassed input rest → IsNextLine rest line behind → (IsPartingLine line → ⊥) → IsPassed input behind
passed_more input rest line behind passed next other = record {
  before = passed.before ++ (line ∷ []);
  lines = passed.lines ∙ ap (λ lines. passed.before ++ lines) next.lines ∙ sym (append_assoc passed.before (line ∷ []) (lines_of behind));
  cut = by next.cut;
  whole = each_more IsWhole passed.before line passed.whole next.whole;
  others = each_more IsOtherLine passed.before line passed.others other;
}
  where
    whole : input ≡ ended passed.before ++ rest
    whole = all_left input rest passed.before next.written passed.cut

    by : IsCutBehind rest line behind → (behind ≡ []) ⊎ (input ≡ ended (passed.before ++ (line ∷ [])) ++ behind)
    by (inr last) = inl last.1
    by (inl cut) = inr (
        whole ∙ ap (λ bytes. ended passed.before ++ bytes) (cut ∙ sym (append_assoc line (10 ∷ []) behind))
        ∙ sym (append_assoc (ended passed.before) (line ++ 10 ∷ []) behind)
        ∙ ap (λ model. model ++ behind) (sym (ended_more passed.before line)))

-- The text and the table, where the next line is `trace`.
pub parted_here : (input rest line behind : List ℕ) (passed : IsPassed input rest) → IsNextLine rest line behind → IsPartingLine line
    → IsParted input (ended passed.before) behind
parted_here input rest line behind passed next is = record {
  before = passed.before;
  line = line;
  behind = rest;
  model_is = refl;
  cut = all_left input rest passed.before next.written passed.cut;
  cut_behind = next.cut;
  whole = (passed.whole, next.whole);
  is_trace = is;
  is_first = passed.others;
}

pub front_taken : (input rest line behind : List ℕ) → IsPassed input rest → IsNextLine rest line behind → IsPartingLine line
    → IsParted input (take (length input - length rest) input) behind
front_taken input rest line behind passed next is =
    let whole = all_left input rest passed.before next.written passed.cut in
    let count = ap length whole in
    subst (λ model. IsParted input model behind)
    (sym (ap (take (length input - length rest)) whole ∙ take_at (ended passed.before) rest (length input - length rest)
    (omega (arith, count, length-append (ended passed.before) rest))))
    (parted_here input rest line behind passed next is)

pub passed_all : (input rest : List ℕ) → IsPassed input rest → rest ≡ [] → LacksTrace input
passed_all input rest passed none =
    subst (AllByRecursion IsOtherLine)
    (sym (passed.lines ∙ ap (λ left. passed.before ++ lines_of left) none ∙ append-nil passed.before)) passed.others

-- ---- There is one or the other

abbrev Answer : List ℕ → Type 0
Answer input = ((model : List ℕ) × (table : List ℕ) × IsParted input model table) ⊎ LacksTrace input

next_there : (byte : ℕ) (rest : List ℕ) → (line : List ℕ) × (behind : List ℕ) × IsNextLine (byte ∷ rest) line behind
next_there byte rest = (
  take (line_length (byte ∷ rest)) (byte ∷ rest),
  drop (suc (line_length (byte ∷ rest))) (byte ∷ rest),
  record {
    written = omega arith;
    lines = lines_of_cut_suc (byte ∷ rest) (omega arith);
    whole = line_of_cut (byte ∷ rest) (line_length (byte ∷ rest)) refl;
    cut = by (cases_lt (line_length (byte ∷ rest)) (length (byte ∷ rest)));
  },
)
  where
    by : (line_length (byte ∷ rest) < length (byte ∷ rest)) ⊎ (length (byte ∷ rest) ≤ line_length (byte ∷ rest))
        → IsCutBehind (byte ∷ rest) (take (line_length (byte ∷ rest)) (byte ∷ rest)) (drop (suc (line_length (byte ∷ rest))) (byte ∷ rest))
    by (inl within) = inl (behind_suc (byte ∷ rest) within)
    by (inr past) = inr (
      sym (take_all (line_length (byte ∷ rest)) (byte ∷ rest) past),
      drop_all (suc (line_length (byte ∷ rest))) (byte ∷ rest) (omega (arith, past)),
    )

shorter : (rest line behind : List ℕ) → IsNextLine rest line behind → length behind < length rest
shorter rest line behind next = by next.cut
  where
    by : IsCutBehind rest line behind → length behind < length rest
    by (inl cut) = omega (arith, ap length cut, length-append line (10 ∷ behind))
    by (inr last) = omega (arith, next.written, ap length last.1)

-- By the next line, and the lines after it.
next_answered : (input rest line behind : List ℕ) (passed : IsPassed input rest) → IsNextLine rest line behind → Decided (IsPartingLine line)
    → (IsPassed input behind → Answer input) → Answer input
next_answered input rest line behind passed next (inl is) later = inl (ended passed.before, behind, parted_here input rest line behind passed next is)
next_answered input rest line behind passed next (inr other) later = later (passed_more input rest line behind passed next other)

walked : (more : ℕ) (input rest : List ℕ) → length rest < more → IsPassed input rest → Answer input
walked zero input rest within passed = absurd (omega (arith, within))
walked (suc more) input [] within passed = inr (passed_all input [] passed refl)
walked (suc more) input (byte ∷ rest) within passed =
    let there = next_there byte rest in
    next_answered input (byte ∷ rest) there.0 there.1 passed there.2 (trace_decided there.0)
    (λ others. walked more input there.1 (omega (arith, within, shorter (byte ∷ rest) there.0 there.1 there.2)) others)

pub parted_once : (input : List ℕ) → IsPartedOnce input
parted_once input = record {
  some = walked (suc (length input)) input input (omega arith) (passed_none input);
  only = only input;
  not_both = not_both input;
}
