-- The parts of bytes between spaces, and the states that they spell.
use Rattle.std.proofs.Common.{◌≡◌, ℕ, ◌+◌, ◌==◌, Bool, true, false, cond, not, ℤ, List, [], ◌∷◌, ◌++◌, map, length, take, drop, Option, Some, None}
use Rattle.std.proofs.Common.{refl, sym, ap, ap₂, subst, ◌∙◌, arith, decimal, one-add, append-nil}
use Rattle.std.specs.Fmt.{signed_decimal}
use Rattle.std.specs.List.{AllByRecursion, join_with_byte, list_all, onto_first, prefix_len}
use Rattle.std.specs.Option.{option_and_then, option_map}
use Rattle.std.proofs.lemmas.Bool.{and_parts, and_from}
use Rattle.std.proofs.lemmas.Bool.Decides.{nat_tests}
use Rattle.std.proofs.lemmas.List.Splits.{join_with_byte-slice_split}
use Rattle.std.proofs.lemmas.List.{take_at}
use Rattle.std.proofs.lemmas.Option.{none-some, same_Some}
use Rattle.unit_print.proofs.LineTests.{is_word_asked, is_word_told}
use Rattle.unit_print.specs.Fitting.{is_word}
use Rattle.fixed_words.specs.Types.{is_word_of}
use Rattle.fixed_words.specs.declared.types.Ty.TheVariants.{Int64}
use Rattle.list_laws.proofs.Truths.{not_true}
use Rattle.save_point.specs.Reading.{IsNumberText, IsPointText, IsWordText, behind_space, first_part, is_inside, other_parts, parts_in, parts_of, state_in, with_word, word_in, words_in}
use Rattle.save_point.specs.SavedTexts.{IsState, NamedState, spaced_words}
use Rattle.save_point.proofs.NumberTexts.{number_inside, number_once, number_told, word_asked, word_inside, word_tells}
use Rattle.super_time.specs.declared.point.Point.{Point}
use Rattle.text_tokens.proofs.FrontLemmas.{prefix_len-front}
use Rattle.unit_tree.specs.Tokens.{IsWord, is_letter, is_word_byte}
use Rattle.text_tokens.specs.Results.{Tells}

-- ---- Parts

parts_case : (byte : ℕ) (bytes : List ℕ) (is : Bool) (count : ℕ) → parts_of bytes ≡ take count bytes ∷ parts_in (behind_space (drop count bytes))
    → cond is ([] ∷ parts_of bytes) (onto_first byte (parts_of bytes))
    ≡ take (cond (not is) (1 + count) 0) (byte ∷ bytes) ∷ parts_in (behind_space (drop (cond (not is) (1 + count) 0) (byte ∷ bytes)))
parts_case byte bytes true count later = refl
parts_case byte bytes false count later = rw (one-add count) (ap (onto_first byte) later)

-- The first part, and then the others.
pub parts_cut : (bytes : List ℕ) → parts_of bytes ≡ first_part bytes ∷ parts_in (other_parts bytes)
parts_cut [] = refl
parts_cut (byte ∷ bytes) = parts_case byte bytes (byte == 32) (prefix_len is_inside bytes) (parts_cut bytes)

pub cut_left : (bytes part : List ℕ) (others : Option (List ℕ)) → part ≡ first_part bytes → others ≡ other_parts bytes → parts_of bytes ≡ part ∷ parts_in others
cut_left bytes part others part_is others_are = parts_cut bytes ∙ ap₂ (λ one more. one ∷ parts_in more) (sym part_is) (sym others_are)

pub no_some : {A : Type 0} (told : Option A) → ((x : A) → told ≡ Some x → ⊥) → told ≡ None
no_some None not = refl
no_some (Some x) not = absurd (not x refl)

split_alone : (part : List ℕ) → list_all is_inside part ≡ true → parts_of part ≡ part ∷ []
split_alone [] inside = refl
split_alone (byte ∷ part) inside =
    let parts = and_parts (is_inside byte) (list_all is_inside part) inside in
    rw (not_true (byte == 32) parts.0) (ap (onto_first byte) (split_alone part parts.1))

split_front : (part others : List ℕ) → list_all is_inside part ≡ true → parts_of (part ++ 32 ∷ others) ≡ part ∷ parts_of others
split_front [] others inside = refl
split_front (byte ∷ part) others inside =
    let parts = and_parts (is_inside byte) (list_all is_inside part) inside in
    rw (not_true (byte == 32) parts.0) (ap (onto_first byte) (split_front part others parts.1))

abbrev Fit : List ℤ → Type 0
Fit words = AllByRecursion (λ word. is_word_of Int64 word ≡ true) words

-- The parts of a name and words, each after a space.
pub parts_of_words : (name : List ℕ) (words : List ℤ) → list_all is_inside name ≡ true → Fit words
    → parts_of (name ++ spaced_words words) ≡ name ∷ map signed_decimal words
parts_of_words name [] inside fit = ap parts_of (append-nil name) ∙ split_alone name inside
parts_of_words name (word ∷ words) inside fit =
    split_front name (signed_decimal word ++ spaced_words words) inside
    ∙ ap (λ parts. name ∷ parts) (parts_of_words (signed_decimal word) words (word_inside word fit.0) fit.1)

join_words : (name : List ℕ) (words : List ℤ) → join_with_byte 32 (name ∷ map signed_decimal words) ≡ name ++ spaced_words words
join_words name [] = sym (append-nil name)
join_words name (word ∷ words) = ap (λ others. name ++ 32 ∷ others) (join_words (signed_decimal word) words)

pub words_of_parts : (bytes name : List ℕ) (words : List ℤ) → parts_of bytes ≡ name ∷ map signed_decimal words → bytes ≡ name ++ spaced_words words
words_of_parts bytes name words is = sym (join_with_byte-slice_split 32 bytes) ∙ ap (join_with_byte 32) is ∙ join_words name words

-- ---- Words

pub record AreWords (parts : List (List ℕ)) (words : List ℤ) : Type 0 where
  pub texts : parts ≡ map signed_decimal words
  pub fit : Fit words

words_by : (part : List ℕ) (parts : List (List ℕ)) (words : List ℤ) (first : Option ℤ) (others : Option (List ℤ)) → word_in part ≡ first
    → words_in parts ≡ others → ((all : List ℤ) → words_in parts ≡ Some all → AreWords parts all)
    → option_and_then (λ word. with_word word others) first ≡ Some words → AreWords (part ∷ parts) words
words_by part parts words None others first_is others_are later is = absurd (cc)
words_by part parts words (Some word) None first_is others_are later is = absurd (cc)
words_by part parts words (Some word) (Some all) first_is others_are later is =
    let text = subst (λ told. Tells told (IsWordText part)) first_is (word_tells part) in
    let rest = later all others_are in
    subst (AreWords (part ∷ parts)) (same_Some (word ∷ all) words is)
    (record { texts = ap (λ one. one ∷ parts) text.1 ∙ ap (λ all_parts. signed_decimal word ∷ all_parts) rest.texts; fit = (text.0, rest.fit) })

pub words_told : (parts : List (List ℕ)) (words : List ℤ) → words_in parts ≡ Some words → AreWords parts words
words_told [] words is = subst (AreWords []) (same_Some [] words is) (record { texts = refl; fit = tt })
words_told (part ∷ parts) words is = words_by part parts words (word_in part) (words_in parts) refl refl (words_told parts) is

pub words_asked : (words : List ℤ) → Fit words → words_in (map signed_decimal words) ≡ Some words
words_asked [] fit = refl
words_asked (word ∷ words) fit = rw (word_asked word fit.0, words_asked words fit.1) refl

-- ---- States

bytes_inside : (bytes : List ℕ) → list_all is_word_byte bytes ≡ true → list_all is_inside bytes ≡ true
bytes_inside [] all = refl
bytes_inside (byte ∷ bytes) all =
    let parts = and_parts (is_word_byte byte) (list_all is_word_byte bytes) all in
    and_from (is_inside byte) (list_all is_inside bytes) (inside byte parts.0) (bytes_inside bytes parts.1)
  where
    inside : (byte : ℕ) → is_word_byte byte ≡ true → is_inside byte ≡ true
    inside byte of_word = grind (arith, nat_tests)

pub name_inside : (name : List ℕ) → IsWord name → list_all is_inside name ≡ true
name_inside [] word = absurd word
name_inside (first ∷ others) word =
    and_from (is_inside first) (list_all is_inside others) (inside first word.0) (bytes_inside others word.1)
  where
    inside : (byte : ℕ) → is_letter byte ≡ true → is_inside byte ≡ true
    inside byte letter = grind (arith, nat_tests)

-- What holds of parts that are a state's.
pub record AreStateParts (parts : List (List ℕ)) (state : NamedState) : Type 0 where
  pub is_state : IsState state
  pub are : parts ≡ state.name ∷ map signed_decimal state.words

state_by : (name : List ℕ) (parts : List (List ℕ)) (state : NamedState) (is_name : Bool) (words : Option (List ℤ)) → is_word name ≡ is_name
    → words_in parts ≡ words → cond is_name (option_map (λ all. record { name = name; words = all }) words) None ≡ Some state
    → AreStateParts (name ∷ parts) state
state_by name parts state false words name_is words_are is = absurd (cc)
state_by name parts state true None name_is words_are is = absurd (cc)
state_by name parts state true (Some words) name_is words_are is =
    let all = words_told parts words words_are in
    subst (AreStateParts (name ∷ parts)) (same_Some (record { name = name; words = words }) state is) (record {
      is_state = record { name_is = is_word_told name name_is; words_fit = all.fit };
      are = ap (λ others. name ∷ others) all.texts;
    })

pub state_told : (parts : List (List ℕ)) (state : NamedState) → state_in parts ≡ Some state → AreStateParts parts state
state_told [] state is = absurd (cc)
state_told (name ∷ parts) state is = state_by name parts state (is_word name) (words_in parts) refl refl is

pub state_asked : (state : NamedState) → IsState state → state_in (state.name ∷ map signed_decimal state.words) ≡ Some state
state_asked state is_state = rw (is_word_asked state.name is_state.name_is, words_asked state.words is_state.words_fit) refl

-- The bytes after `state ` of the line of a state, and of no other.
pub state_bytes_told : (bytes : List ℕ) (state : NamedState) → state_in (parts_of bytes) ≡ Some state
    → IsState state × (bytes ≡ state.name ++ spaced_words state.words)
state_bytes_told bytes state is =
    let told = state_told (parts_of bytes) state is in
    (told.is_state, words_of_parts bytes state.name state.words told.are)

pub state_bytes_asked : (state : NamedState) → IsState state → state_in (parts_of (state.name ++ spaced_words state.words)) ≡ Some state
state_bytes_asked state is_state =
    ap state_in (parts_of_words state.name state.words (name_inside state.name is_state.name_is) is_state.words_fit) ∙ state_asked state is_state

-- ---- Points

-- The parts around the first space.
cut_at_space : (part others : List ℕ) → list_all is_inside part ≡ true
    → (first_part (part ++ 32 ∷ others) ≡ part) × (other_parts (part ++ 32 ∷ others) ≡ Some others)
cut_at_space part others inside =
    let count : prefix_len is_inside (part ++ 32 ∷ others) ≡ length part = prefix_len-front is_inside part (32 ∷ others) inside refl in (
      ap (λ n. take n (part ++ 32 ∷ others)) count ∙ take_at part (32 ∷ others) (length part) refl,
      ap (λ n. behind_space (drop n (part ++ 32 ∷ others))) count ∙ ap behind_space (drop_front part (32 ∷ others)),
    )
  where
    drop_front : (front rest : List ℕ) → drop (length front) (front ++ rest) ≡ rest
    drop_front [] rest = refl
    drop_front (byte ∷ front) rest = drop_front front rest

pub space_between : (bytes others : List ℕ) → other_parts bytes ≡ Some others → bytes ≡ first_part bytes ++ 32 ∷ others
space_between bytes others is =
    sym (join_with_byte-slice_split 32 bytes)
    ∙ ap (join_with_byte 32) (parts_cut bytes ∙ ap (λ rest. first_part bytes ∷ parts_in rest) is ∙ ap (λ rest. first_part bytes ∷ rest) (parts_cut others))
    ∙ ap (λ rest. first_part bytes ++ 32 ∷ rest) (ap (join_with_byte 32) (sym (parts_cut others)) ∙ join_with_byte-slice_split 32 others)

-- The parts of the text of a point.
record AreOfPoint (bytes : List ℕ) (point : Point) : Type 0 where
  ticks : first_part bytes ≡ decimal point.t
  steps : other_parts bytes ≡ Some (decimal point.n)

of_point : (bytes : List ℕ) (point : Point) → IsPointText bytes point → AreOfPoint bytes point
of_point bytes point is =
    let cut = cut_at_space (decimal point.t) (decimal point.n) (number_inside point.t (omega (arith, is.0.ticks))) in
    record { ticks = ap first_part is.1 ∙ cut.0; steps = ap other_parts is.1 ∙ cut.1 }

pub no_ticks : (bytes : List ℕ) → ((t : ℕ) → IsNumberText (first_part bytes) t → ⊥) → (point : Point) → IsPointText bytes point → ⊥
no_ticks bytes none point is = none point.t (is.0.ticks, (of_point bytes point is).ticks)

pub no_space : (bytes : List ℕ) → other_parts bytes ≡ None → (point : Point) → IsPointText bytes point → ⊥
no_space bytes none point is = none-some (decimal point.n) (sym none ∙ (of_point bytes point is).steps)

pub no_steps : (bytes others : List ℕ) → other_parts bytes ≡ Some others → ((n : ℕ) → IsNumberText others n → ⊥) → (point : Point)
    → IsPointText bytes point → ⊥
no_steps bytes others there none point is =
    none point.n (is.0.steps, same_Some others (decimal point.n) (sym there ∙ (of_point bytes point is).steps))

pub point_is : (bytes others : List ℕ) (t n : ℕ) → other_parts bytes ≡ Some others → IsNumberText (first_part bytes) t → IsNumberText others n
    → IsPointText bytes (record { t = t; n = n })
point_is bytes others t n there ticks steps = (
  record { ticks = ticks.0; steps = steps.0 },
  space_between bytes others there ∙ ap₂ (λ first second. first ++ 32 ∷ second) ticks.1 steps.1,
)

pub points_told : (bytes : List ℕ) → (told : Option Point) × Tells told (IsPointText bytes)
points_told bytes = by (number_told (first_part bytes)).0 (number_told (first_part bytes)).1 (other_parts bytes) refl
  where
    steps_by : (t : ℕ) (others : List ℕ) (n : Option ℕ) → IsNumberText (first_part bytes) t → other_parts bytes ≡ Some others
        → Tells n (IsNumberText others) → (told : Option Point) × Tells told (IsPointText bytes)
    steps_by t others None ticks there none = (None, no_steps bytes others there none)
    steps_by t others (Some n) ticks there steps = (Some (record { t = t; n = n }), point_is bytes others t n there ticks steps)

    by : (t : Option ℕ) → Tells t (IsNumberText (first_part bytes)) → (others : Option (List ℕ)) → other_parts bytes ≡ others
        → (told : Option Point) × Tells told (IsPointText bytes)
    by None none others there = (None, no_ticks bytes none)
    by (Some t) ticks None there = (None, no_space bytes there)
    by (Some t) ticks (Some others) there = steps_by t others (number_told others).0 ticks there (number_told others).1

-- A text is that of at most one point.
pub point_once : (bytes : List ℕ) (one other : Point) → IsPointText bytes one → IsPointText bytes other → one ≡ other
point_once bytes one other is also =
    let first = of_point bytes one is in
    let second = of_point bytes other also in
    let ticks = number_once (first_part bytes) one.t other.t (is.0.ticks, first.ticks) (also.0.ticks, second.ticks) in
    let steps =
    number_once (decimal one.n) one.n other.n (is.0.steps, refl)
    (also.0.steps, same_Some (decimal one.n) (decimal other.n) (sym first.steps ∙ second.steps)) in
    λ i. record { t = ticks i; n = steps i }
