-- Records are a table, or leave the form at some number.
use Rattle.std.proofs.Common.{◌≡◌, ℕ, ◌+◌, ◌<◌, ◌≤◌, true, List, [], ◌∷◌, ◌++◌, map, length, Option, Some, None, decimal, inl, inr, refl, ap, sym, subst, ◌∙◌}
use Rattle.std.specs.Prelude.{◌⊎◌, codes}
use Rattle.std.specs.Fmt.{signed_decimal}
use Rattle.std.specs.List.{AllByRecursion, list_all}
use Rattle.std.proofs.lemmas.Bool.{cases_eq}
use Rattle.list_laws.proofs.Lists.{same_first, same_rest}
use Rattle.text_tokens.specs.Scanning.{keyword_of}
use Rattle.text_tokens.proofs.TableLemmas.{keyword_of_is, keyword_of_none}
use Rattle.unit_tree.specs.Tokens.{IsName, IsReserved, IsWord, is_letter, is_word_byte}
use Rattle.unit_tree.specs.declared.token.Keyword.{Keyword}
use Rattle.stimulus_tables.specs.Tables.{AllDiffer, AreNames, BeginsTable, Fields, IsHead, IsNextTime, IsTable, IsTaken, IsWritable, LeavesForm, MayFollow, fields_of_moment, state_name}
use Rattle.stimulus_tables.specs.declared.moment.Moment.{Moment}
use Rattle.stimulus_tables.proofs.Deciding.{Decided, Found, at_most_decided, below_decided, both_decided, each_decided, is_decided, less_decided, not_decided, same_decided}
use Rattle.stimulus_tables.proofs.OneMoment.{same_moment}
use Rattle.stimulus_tables.proofs.TableFronts.{table_more}
use Rattle.stimulus_tables.proofs.TextsOfNumbers.{AreEntries, IsTime, entries_found, time_found}

-- ---- Names

word_decided : (text : List ℕ) → Decided (IsWord text)
word_decided [] = inr (λ is. is)
word_decided (first ∷ others) = by (is_decided (is_letter first)) (is_decided (list_all is_word_byte others)) (less_decided (length others) 32)
  where
    by : Decided (is_letter first ≡ true) → Decided (list_all is_word_byte others ≡ true) → Decided (length others < 32) → Decided (IsWord (first ∷ others))
    by (inl letter) (inl bytes) (inl short) = inl (letter, bytes, short)
    by (inr never) bytes short = inr (λ is. never is.0)
    by (inl letter) (inr never) short = inr (λ is. never is.1)
    by (inl letter) (inl bytes) (inr never) = inr (λ is. never is.2)

reserved_decided : (text : List ℕ) → Decided (IsReserved text)
reserved_decided text = by (keyword_of text) refl
  where
    by : (found : Option Keyword) → keyword_of text ≡ found → Decided (IsReserved text)
    by (Some keyword) is = inl (keyword, keyword_of_is text keyword is)
    by None is = inr (keyword_of_none text is)

name_decided : (text : List ℕ) → Decided (IsName text)
name_decided text = both_decided (word_decided text) (not_decided (reserved_decided text))

taken_decided : (name : List ℕ) → Decided (IsTaken name)
taken_decided name = below_decided (λ number. name ≡ state_name number) (λ number. same_decided name (state_name number)) 16

differ_decided : (names : List (List ℕ)) → Decided (AllDiffer names)
differ_decided [] = inl tt
differ_decided (name ∷ names) =
    both_decided (each_decided (λ other. name ≡ other → ⊥) (λ other. not_decided (same_decided name other)) names) (differ_decided names)

names_decided : (names : List (List ℕ)) → Decided (AreNames names)
names_decided names =
    by (both_decided (at_most_decided 1 (length names)) (at_most_decided (length names) 16)) (each_decided IsName name_decided names)
    (both_decided (each_decided (λ name. IsTaken name → ⊥) (λ name. not_decided (taken_decided name)) names) (differ_decided names))
  where
    by : Decided ((1 ≤ length names) × (length names ≤ 16)) → Decided (AllByRecursion IsName names)
        → Decided (AllByRecursion (λ name. IsTaken name → ⊥) names × AllDiffer names) → Decided (AreNames names)
    by (inl count) (inl are) (inl other) =
        inl (record { some = count.0; few = count.1; are_names = are; not_taken = other.0; differ = other.1 })
    by (inr never) are other = inr (λ is. never (is.some, is.few))
    by (inl count) (inr never) other = inr (λ is. never is.are_names)
    by (inl count) (inl are) (inr never) = inr (λ is. never (is.not_taken, is.differ))

head_found : (fields : Fields) → Found (IsHead fields)
head_found [] = inr (λ names is. never names is.0)
  where
    never : (names : List (List ℕ)) → [] ≡ codes "time" ∷ names → ⊥
    never names is = cc
head_found (first ∷ names) = by (same_decided first (codes "time")) (names_decided names)
  where
    by : Decided (first ≡ codes "time") → Decided (AreNames names) → Found (IsHead (first ∷ names))
    by (inl is) (inl are) = inl (names, (ap (λ field. field ∷ names) is, are))
    by (inr never) are = inr (λ others is. never (same_first first (codes "time") names others is.0))
    by (inl is) (inr never) = inr (λ others head. never (subst AreNames (sym (same_rest first (codes "time") names others head.0)) head.1))

-- ---- Moments

-- The fields are those of the moment, whose numbers are not too large.
abbrev IsWritten : Fields → Moment → Type 0
IsWritten fields moment = IsWritable moment × (fields ≡ fields_of_moment moment)

written_found : (fields : Fields) → Found (IsWritten fields)
written_found [] = inr (λ moment is. never moment is.1)
  where
    never : (moment : Moment) → [] ≡ fields_of_moment moment → ⊥
    never moment is = cc
written_found (first ∷ fields) = by (time_found first) (entries_found fields)
  where
    by : Found (IsTime first) → Found (AreEntries fields) → Found (IsWritten (first ∷ fields))
    by (inl (time, is)) (inl (words, are)) = inl (
      record { time = time; words = words },
      (record { time = is.0; words = are.0 }, ap (λ field. field ∷ fields) is.1 ∙ ap (λ others. decimal time ∷ others) are.1),
    )
    by (inr none) entries = inr (λ moment is. none moment.time
        (is.0.time, same_first first (decimal moment.time) fields (map signed_decimal moment.words) is.1))
    by (inl time) (inr none) = inr (λ moment is. none moment.words
        (is.0.words, same_rest first (decimal moment.time) fields (map signed_decimal moment.words) is.1))

next_decided : (before : List Moment) (time : ℕ) → Decided (IsNextTime before time)
next_decided [] time = cases_eq time 0
next_decided (last ∷ []) time = less_decided last.time time
next_decided (moment ∷ next ∷ later) time = next_decided (next ∷ later) time

moment_found : (names : List (List ℕ)) (before : List Moment) (fields : Fields) → Found (MayFollow names before fields)
moment_found names before fields = by (less_decided (length before) 20) (written_found fields)
  where
    at : (moment : Moment) → length before < 20 → IsWritten fields moment → Decided (length moment.words ≡ length names) → Decided (IsNextTime before moment.time)
        → Found (MayFollow names before fields)
    at moment few is (inl many) (inl next) =
        inl (moment, record { few = few; written = is.1; is_moment = record { one_each = many; writable = is.0 }; next_time = next })
    at moment few is (inr never) next =
        inr (λ other may. never (subst (λ (m : Moment). length m.words ≡ length names) (same_moment other moment may.is_moment.writable is.0 (sym may.written ∙ is.1))
        may.is_moment.one_each))
    at moment few is (inl many) (inr never) =
        inr (λ other may. never (subst (λ (m : Moment). IsNextTime before m.time) (same_moment other moment may.is_moment.writable is.0 (sym may.written ∙ is.1)) may.next_time))

    by : Decided (length before < 20) → Found (IsWritten fields) → Found (MayFollow names before fields)
    by (inr never) found = inr (λ moment may. never may.few)
    by (inl few) (inr none) = inr (λ moment may. none moment (may.is_moment.writable, may.written))
    by (inl few) (inl (moment, is)) = at moment few is (cases_eq (length moment.words) (length names)) (next_decided before moment.time)

-- ---- Records

abbrev Judged : List Fields → Type 0
Judged records = ((names : List (List ℕ)) × (first : Moment) × (later : List Moment) × IsTable records names first later) ⊎ ((number : ℕ) × LeavesForm records number)

-- By the next record, and the records after it.
next_judged : (records : List Fields) (names : List (List ℕ)) (fields : Fields) (left : List Fields) (moments : List Moment)
    → BeginsTable records names moments (fields ∷ left) → Found (MayFollow names moments fields)
    → ((more : List Moment) → BeginsTable records names more left → Judged records) → Judged records
next_judged records names fields left moments begins (inl (moment, may)) later =
    later (moments ++ (moment ∷ [])) (table_more records names moments fields left moment begins may)
next_judged records names fields left moments begins (inr none) later =
    inr (2 + length moments, inr (record { names = names; moments = moments; left = fields ∷ left; begins = begins; lacks = none; number_is = refl }))

moments_judged : (records : List Fields) (names : List (List ℕ)) (left : List Fields) (moments : List Moment) → BeginsTable records names moments left → Judged records
moments_judged records names [] [] begins =
    inr (2, inr (record { names = names; moments = []; left = []; begins = begins; lacks = tt; number_is = refl }))
moments_judged records names [] (first ∷ later) begins = inl (names, first, later, begins)
moments_judged records names (fields ∷ left) moments begins =
    next_judged records names fields left moments begins (moment_found names moments fields)
    (λ more next. moments_judged records names left more next)

pub judged : (records : List Fields) → Judged records
judged [] = inr (1, inl (tt, refl))
judged (head ∷ left) = by (head_found head)
  where
    by : Found (IsHead head) → Judged (head ∷ left)
    by (inl (names, is)) =
        moments_judged (head ∷ left) names left [] (record { head = head; front = []; cut = refl; is_head = is; follow = tt })
    by (inr none) = inr (1, inl (none, refl))
