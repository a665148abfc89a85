use Rattle.std.proofs.Common.{◌≡◌, ℕ, suc, ◌^◌, ◌<◌, ◌≤◌, ℤ, pos, negsuc, List, [], ◌∷◌, length, map, true, inl, inr, refl, ap, sym, subst, arith}
use Rattle.std.specs.Prelude.{codes, unsigned_abs}
use Rattle.std.specs.Fmt.{decimal, digits, signed_decimal}
use Rattle.std.specs.List.{AllByRecursion}
use Rattle.std.specs.Str.{bytes_eq}
use Rattle.std.proofs.lemmas.Fmt.{decimal_injective}
use Rattle.list_laws.proofs.Lists.{same_first, same_rest}
use Rattle.list_laws.proofs.Truths.{true_is_false}
use Rattle.stimulus_tables.specs.Tables.{AreNames, Fields, IsHead, IsTaken, LeavesBehind, MayFollow}
use Rattle.stimulus_tables.specs.declared.moment.Moment.{Moment}
use Rattle.text_tokens.specs.Scanning.{keyword_of}
use Rattle.text_tokens.proofs.TableLemmas.{keyword_of_none}
use Rattle.unit_tree.specs.Tokens.{IsName}
use Rattle.worked_answers.specs.WorkedTables.{moment, pair}
use Rattle.worked_answers.proofs.NeedlessZeros.{no_needless_zero}
use Rattle.worked_answers.proofs.answers.table_forms_are_worked.Goals as goal

-- ---- Heads

not_time : (names : List (List ℕ)) → IsHead (pair (codes "Time") (codes "v")) names → ⊥
not_time names is =
    let same = same_first (codes "Time") (codes "time") (codes "v" ∷ []) names is.0 in
    true_is_false true refl (ap (λ field. bytes_eq field (codes "Time")) same)

no_names : (names : List (List ℕ)) → IsHead (codes "time" ∷ []) names → ⊥
no_names names is =
    let none : [] ≡ names = same_rest (codes "time") (codes "time") [] names is.0 in
    let some : 1 ≤ 0 = subst (λ all. 1 ≤ length all) (sym none) is.1.some in
    omega (arith, some)

state_is_taken : IsTaken (codes "s15")
unfolding digits
state_is_taken = (15, omega arith, refl)

taken_name : (names : List (List ℕ)) → IsHead (pair (codes "time") (codes "s15")) names → ⊥
taken_name names is =
    let only : codes "s15" ∷ [] ≡ names = same_rest (codes "time") (codes "time") (codes "s15" ∷ []) names is.0 in
    let names_are : AreNames (codes "s15" ∷ []) = subst AreNames (sym only) is.1 in
    names_are.not_taken.0 state_is_taken

not_taken : IsTaken (codes "v") → ⊥
not_taken is = omega (arith, same_first 118 115 [] (decimal is.0) is.2)

v_is_name : IsName (codes "v")
unfolding keyword_of
v_is_name = ((refl, refl, omega arith), keyword_of_none (codes "v") refl)

head_is : IsHead (pair (codes "time") (codes "v")) (codes "v" ∷ [])
head_is = (
  refl,
  record { some = omega arith; few = omega arith; are_names = (v_is_name, _); not_taken = (not_taken, _); differ = (_, _) },
)

-- ---- Moments

-- After the head and these moments, the next record is none of a moment that may follow.
abbrev NoMoment : List Moment → Fields → Type 0
NoMoment before fields = (next : Moment) → MayFollow (codes "v" ∷ []) before fields next → ⊥

no_word_follows : NoMoment [] (codes "0" ∷ [])
no_word_follows next may =
    let none : [] ≡ map signed_decimal next.words = same_rest (codes "0") (decimal next.time) [] (map signed_decimal next.words) may.written in
    without next.words none may.is_moment.one_each
  where
    without : (words : List ℤ) → [] ≡ map signed_decimal words → length words ≡ 1 → ⊥
    without [] none many = omega (arith, many)
    without (word ∷ words) none many = absurd (cc none)

-- No word is written with a needless zero.
not_written : (word : ℤ) (bound : ℕ) → bound < 2 ^ 64 → unsigned_abs word ≤ bound → codes "05" ≡ signed_decimal word → ⊥
not_written (pos number) bound fits within is = no_needless_zero number 53 (omega (arith, fits, within)) is
not_written (negsuc number) bound fits within is = omega (arith, same_first 48 45 (codes "5") (decimal (suc number)) is)

-- No words are written so, where each of them is at most the bound.
none_written : (words : List ℤ) (bound : ℕ) → bound < 2 ^ 64 → codes "05" ∷ [] ≡ map signed_decimal words
    → AllByRecursion (λ word. unsigned_abs word ≤ bound) words → ⊥
none_written [] bound fits same within = absurd (cc same)
none_written (word ∷ words) bound fits same within =
    not_written word bound fits within.0 (same_first (codes "05") (signed_decimal word) [] (map signed_decimal words) same)

needless_zero_follows : NoMoment [] (pair (codes "0") (codes "05"))
needless_zero_follows next may =
    none_written next.words (10 ^ 15) (omega arith)
    (same_rest (codes "0") (decimal next.time) (codes "05" ∷ []) (map signed_decimal next.words) may.written) may.is_moment.writable.words

zero_is : (time : ℕ) → time ≤ 10 ^ 9 → codes "0" ≡ decimal time → time ≡ 0
unfolding digits
zero_is time within is = sym (decimal_injective 0 time (omega arith) (omega (arith, within)) is)

same_time_follows : NoMoment (moment 0 (pos 5 ∷ []) ∷ []) (pair (codes "0") (codes "6"))
same_time_follows next may =
    let first = same_first (codes "0") (decimal next.time) (codes "6" ∷ []) (map signed_decimal next.words) may.written in
    omega (arith, zero_is next.time may.is_moment.writable.time first, may.next_time)

at_0_follows : MayFollow (codes "v" ∷ []) [] (pair (codes "0") (codes "5")) (moment 0 (pos 5 ∷ []))
unfolding digits
at_0_follows = record {
  few = omega arith;
  written = refl;
  is_moment = record { one_each = refl; writable = record { time = omega arith; words = (omega arith, _) } };
  next_time = refl;
}

-- ---- Where the records leave the form

-- The record after the head is none of a moment.
second_leaves : (fields : Fields) → NoMoment [] fields → LeavesBehind (pair (codes "time") (codes "v") ∷ fields ∷ []) 2
second_leaves fields none = record {
  names = codes "v" ∷ [];
  moments = [];
  left = fields ∷ [];
  begins = record { head = pair (codes "time") (codes "v"); front = []; cut = refl; is_head = head_is; follow = _ };
  lacks = none;
  number_is = refl;
}

no_second : LeavesBehind (pair (codes "time") (codes "v") ∷ []) 2
no_second = record {
  names = codes "v" ∷ [];
  moments = [];
  left = [];
  begins = record { head = pair (codes "time") (codes "v"); front = []; cut = refl; is_head = head_is; follow = _ };
  lacks = _;
  number_is = refl;
}

third_leaves : LeavesBehind (pair (codes "time") (codes "v") ∷ pair (codes "0") (codes "5") ∷ pair (codes "0") (codes "6") ∷ []) 3
third_leaves = record {
  names = codes "v" ∷ [];
  moments = moment 0 (pos 5 ∷ []) ∷ [];
  left = pair (codes "0") (codes "6") ∷ [];
  begins = record {
    head = pair (codes "time") (codes "v");
    front = pair (codes "0") (codes "5") ∷ [];
    cut = refl;
    is_head = head_is;
    follow = (at_0_follows, _);
  };
  lacks = same_time_follows;
  number_is = refl;
}

pub returns : goal.returns
returns c = record {
  empty = inl (_, refl);
  other_word = inl (not_time, refl);
  no_column = inl (no_names, refl);
  reserved = inl (taken_name, refl);
  no_moment = inr no_second;
  no_word = inr (second_leaves (codes "0" ∷ []) no_word_follows);
  needless_zero = inr (second_leaves (pair (codes "0") (codes "05")) needless_zero_follows);
  same_time = inr third_leaves;
}
