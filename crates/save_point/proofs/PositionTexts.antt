-- The saved text of a position saves it.
use Rattle.std.proofs.Common.{◌≡◌, ℕ, suc, ◌^◌, ◌<◌, ◌==◌, Bool, true, false, cond, not, ℤ, pos, negsuc, List, [], ◌∷◌, ◌++◌, map, length-append, get_or}
use Rattle.std.proofs.Common.{inl, inr, refl, sym, ap, subst, ◌∙◌, arith, append_assoc, decimal}
use Rattle.std.specs.Prelude.{◌&&◌, ◌⊎◌, codes}
use Rattle.std.specs.Fmt.{signed_decimal}
use Rattle.std.specs.List.{AllByRecursion, flat_map, list_all, onto_first}
use Rattle.std.proofs.lemmas.Bool.{and_parts, and_from}
use Rattle.std.proofs.lemmas.Bool.Decides.{nat_tests}
use Rattle.fixed_words.specs.Digits.{is_digit}
use Rattle.fixed_words.specs.Types.{is_word_of}
use Rattle.fixed_words.specs.declared.types.Ty.TheVariants.{Int64}
use Rattle.fixed_words.proofs.Numbers.{decimal_is}
use Rattle.list_laws.proofs.Lists.{all_of_two}
use Rattle.list_laws.proofs.Truths.{not_true}
use Rattle.save_point.specs.Laws.{saved_of}
use Rattle.save_point.specs.SavedTexts.{AreNumbers, BeginsState, BeginsWithLines, IsFirstLine, IsSaved, IsState, LacksLine, NamedState, ended, named_states, point_line, row_line}
use Rattle.save_point.specs.SavedTexts.{saved_lines, saved_text, spaced_words, state_line}
use Rattle.save_point.proofs.LineLaws.{point_front, row_front}
use Rattle.text_laws.proofs.WordTexts.{word_bound}
use Rattle.save_point.proofs.ReadStates.{state_front}
use Rattle.super_time.specs.declared.point.Point.{Point}
use Rattle.unit_tree.specs.Canonical.{canonical_parts, canonical_text, line_text, tokens_text}
use Rattle.unit_tree.specs.Lines.{lines_of, without_return}
use Rattle.unit_tree.specs.Parts.{part_forms}
use Rattle.unit_tree.specs.Phrases.{whole}
use Rattle.unit_tree.specs.Successor.{Position}
use Rattle.unit_tree.specs.Tokens.{IsWord, begins_with, is_letter, is_word_byte}
use Rattle.unit_tree.specs.declared.system.System.{System}

-- ---- Lines without LF and CR

abbrev is_plain : ℕ → Bool
is_plain byte = not (byte == 10) && not (byte == 13)

no_end : (byte : ℕ) → is_plain byte ≡ true → (byte == 10) ≡ false
no_end byte plain = not_true (byte == 10) (and_parts (not (byte == 10)) (not (byte == 13)) plain).0

no_return : (byte : ℕ) → is_plain byte ≡ true → (byte == 13) ≡ false
no_return byte plain = not_true (byte == 13) (and_parts (not (byte == 10)) (not (byte == 13)) plain).1

line_cut : (line rest : List ℕ) → list_all is_plain line ≡ true → lines_of (line ++ 10 ∷ rest) ≡ line ∷ lines_of rest
line_cut [] rest plain = refl
line_cut (byte ∷ line) rest plain =
    let parts = and_parts (is_plain byte) (list_all is_plain line) plain in
    rw (no_end byte parts.0) (ap (onto_first byte) (line_cut line rest parts.1))

kept_whole : (line : List ℕ) → list_all is_plain line ≡ true → line ≡ without_return line
kept_whole [] plain = refl
kept_whole (byte ∷ []) plain = rw (no_return byte (and_parts (is_plain byte) true plain).0) refl
kept_whole (byte ∷ next ∷ line) plain =
    ap (λ others. byte ∷ others) (kept_whole (next ∷ line) (and_parts (is_plain byte) (list_all is_plain (next ∷ line)) plain).1)

first_of : (line rest : List ℕ) → list_all is_plain line ≡ true → IsFirstLine (line ++ 10 ∷ rest) line rest
first_of line rest plain = record { whole = line; first = line_cut line rest plain; cut = inl refl; without_end = kept_whole line plain }

ended_first : (line : List ℕ) (lines : List (List ℕ)) (rest : List ℕ) → ended (line ∷ lines) ++ rest ≡ line ++ 10 ∷ (ended lines ++ rest)
ended_first line lines rest = append_assoc (line ++ 10 ∷ []) (ended lines) rest ∙ append_assoc line (10 ∷ []) (ended lines ++ rest)

begins_ended : (lines : List (List ℕ)) (rest : List ℕ) → AllByRecursion (λ line. list_all is_plain line ≡ true) lines
    → BeginsWithLines (ended lines ++ rest) lines rest
begins_ended [] rest plain = refl
begins_ended (line ∷ lines) rest plain = (
  ended lines ++ rest,
  subst (λ text. IsFirstLine text line (ended lines ++ rest)) (sym (ended_first line lines rest)) (first_of line (ended lines ++ rest) plain.0),
  begins_ended lines rest plain.1,
)

-- ---- The lines of a position

plain_all : (test : ℕ → Bool) → ((byte : ℕ) → test byte ≡ true → is_plain byte ≡ true) → (bytes : List ℕ) → list_all test bytes ≡ true
    → list_all is_plain bytes ≡ true
plain_all test plain [] all = refl
plain_all test plain (byte ∷ bytes) all =
    let parts = and_parts (test byte) (list_all test bytes) all in
    and_from (is_plain byte) (list_all is_plain bytes) (plain byte parts.0) (plain_all test plain bytes parts.1)

digit_plain : (byte : ℕ) → is_digit byte ≡ true → is_plain byte ≡ true
digit_plain byte digit = grind (arith, nat_tests)

letter_plain : (byte : ℕ) → is_letter byte ≡ true → is_plain byte ≡ true
letter_plain byte letter = grind (arith, nat_tests)

byte_plain : (byte : ℕ) → is_word_byte byte ≡ true → is_plain byte ≡ true
byte_plain byte of_word = grind (arith, nat_tests)

number_plain : (number : ℕ) → number < 2 ^ 64 → list_all is_plain (decimal number) ≡ true
number_plain number bound = plain_all is_digit digit_plain (decimal number) (decimal_is number bound).0

word_plain : (word : ℤ) → is_word_of Int64 word ≡ true → list_all is_plain (signed_decimal word) ≡ true
word_plain (pos n) fits = let bound = (word_bound (pos n) fits).sfits in number_plain n (omega arith)
word_plain (negsuc n) fits = let bound = (word_bound (negsuc n) fits).sfits in number_plain (suc n) (omega arith)

name_plain : (name : List ℕ) → IsWord name → list_all is_plain name ≡ true
name_plain [] word = absurd word
name_plain (first ∷ others) word =
    and_from (is_plain first) (list_all is_plain others) (letter_plain first word.0) (plain_all is_word_byte byte_plain others word.1)

words_plain : (words : List ℤ) → AllByRecursion (λ word. is_word_of Int64 word ≡ true) words → list_all is_plain (spaced_words words) ≡ true
words_plain [] fit = refl
words_plain (word ∷ words) fit =
    all_of_two is_plain (32 ∷ signed_decimal word) (spaced_words words) (word_plain word fit.0) (words_plain words fit.1)

row_plain : (row : ℕ) (point : Point) → AreNumbers row point → list_all is_plain (row_line row) ≡ true
row_plain row point numbers = all_of_two is_plain row_front (decimal row) refl (number_plain row (omega (arith, numbers.row_within)))

point_plain : (row : ℕ) (point : Point) → AreNumbers row point → list_all is_plain (point_line point) ≡ true
point_plain row point numbers =
    all_of_two is_plain point_front (decimal point.t ++ 32 ∷ decimal point.n) refl
    (all_of_two is_plain (decimal point.t) (32 ∷ decimal point.n) (number_plain point.t (omega (arith, numbers.point_within.ticks)))
    (number_plain point.n (omega (arith, numbers.point_within.steps))))

state_plain : (state : NamedState) → IsState state → list_all is_plain (state_line state) ≡ true
state_plain state is =
    all_of_two is_plain state_front (state.name ++ spaced_words state.words) refl
    (all_of_two is_plain state.name (spaced_words state.words) (name_plain state.name is.name_is) (words_plain state.words is.words_fit))

states_plain : (states : List NamedState) → AllByRecursion IsState states → AllByRecursion (λ line. list_all is_plain line ≡ true) (map state_line states)
states_plain [] are = tt
states_plain (state ∷ states) are = (state_plain state are.0, states_plain states are.1)

-- ---- The canonical text

first_by : (meets : Bool) (others rest : List ℕ) → get_or ((cond meets (codes "cosim" ++ (32 ∷ others)) (codes "cosim" ++ others) ++ 10 ∷ []) ++ rest) 0 0 ≡ 99
first_by true others rest = refl
first_by false others rest = refl

-- It begins with `c`.
canonical_first : (system : System) → get_or (canonical_text system) 0 0 ≡ 99
canonical_first system =
    let others = tokens_text (whole system.version ∷ []) in
    first_by (begins_with is_word_byte others) others
    (flat_map (λ some. line_text some ++ (10 ∷ [])) (flat_map part_forms (canonical_parts system)))

return_first : (byte : ℕ) (returns : Bool) → get_or (cond returns [] (byte ∷ [])) 0 0 ≡ 115 → byte ≡ 115
return_first byte true is = absurd (omega (arith, is))
return_first byte false is = is

whole_first : (line : List ℕ) → get_or (without_return line) 0 0 ≡ 115 → get_or line 0 0 ≡ 115
whole_first [] is = is
whole_first (byte ∷ []) is = return_first byte (byte == 13) is
whole_first (byte ∷ next ∷ line) is = is

front_first : (line rest : List ℕ) → get_or line 0 0 ≡ 115 → get_or (line ++ rest) 0 0 ≡ 115
front_first [] rest is = absurd (omega (arith, is))
front_first (byte ∷ line) rest is = is

-- The line of a state begins with `s`.
state_first : (text line rest more : List ℕ) → IsFirstLine text line rest → line ≡ state_front ++ more → get_or text 0 0 ≡ 115
state_first text line rest more is begins = by is.cut
  where
    here : get_or is.whole 0 0 ≡ 115
    here = whole_first is.whole (ap (λ bytes. get_or bytes 0 0) (sym is.without_end ∙ begins))

    by : (text ≡ is.whole ++ 10 ∷ rest) ⊎ ((text ≡ is.whole) × (rest ≡ [])) → get_or text 0 0 ≡ 115
    by (inl p) = ap (λ bytes. get_or bytes 0 0) p ∙ front_first is.whole (10 ∷ rest) here
    by (inr p) = ap (λ bytes. get_or bytes 0 0) p.0 ∙ here

no_state_there : (system : System) → LacksLine BeginsState (canonical_text system)
no_state_there system line rest is begins =
    let one = state_first (canonical_text system) line rest begins.0 is begins.1 in
    let other = canonical_first system in
    differ (get_or (canonical_text system) 0 0) one other
  where
    differ : (byte : ℕ) → byte ≡ 115 → byte ≡ 99 → ⊥
    differ byte one other = omega (arith, one, other)

-- ---- The law

pub position_is_saved : (system : System) (at : Position) → AreNumbers at.number at.point → AllByRecursion IsState (named_states system at)
    → IsSaved (saved_text system at) (saved_of system at)
unfolding saved_text
position_is_saved system at numbers are =
    let states = named_states system at in
    let lines = saved_lines at.number at.point states in
    record {
      states = states;
      behind = canonical_text system;
      begins =
          begins_ended lines (canonical_text system)
          (refl, (row_plain at.number at.point numbers, (point_plain at.number at.point numbers, states_plain states are)));
      numbers = numbers;
      are_states = are;
      no_more = no_state_there system;
      names_are = refl;
      counts_are = refl;
      words_are = refl;
      rest_is = sym (length-append (ended lines) (canonical_text system));
    }
