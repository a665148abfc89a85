-- Moments of a table, by the fields of their records.
use Rattle.std.proofs.Common.{◌≡◌, ℕ, zero, suc, ◌+◌, ◌-◌, ◌<◌, ◌≤◌, ◌^◌, Bool, true, false, ℤ, List, [], ◌∷◌, ◌++◌, drop, length, map, get_or, Some, None, refl, ap, sym, subst, ◌∙◌, arith, append_assoc, append-nil}
use Rattle.std.specs.Prelude.{nat_lt, unsigned_abs, decimal}
use Rattle.std.specs.Fmt.{signed_decimal}
use Rattle.std.specs.List.{AllByRecursion}
use Rattle.std.proofs.lemmas.Fmt.{decimal_injective}
use Rattle.std.proofs.lemmas.List.{map-append}
use Rattle.csv.specs.Records.{field_at}
use Rattle.list_laws.proofs.Lists.{each_more, same_first, same_rest}
use Rattle.list_laws.proofs.Truths.{lt_asked, lt_told, true_is_false}
use Rattle.stimulus_tables.specs.Tables.{IsNextTime, MayFollow, fields_of_moment}
use Rattle.stimulus_tables.specs.declared.moment.Moment.{Moment}
use Rattle.stimulus_tables.specs.TableFields.{AreEntries, IsEntryText, IsMomentOf, IsTimeText}
use Rattle.stimulus_tables.specs.Records.{Fields}
use Rattle.text_tokens.specs.Results.{Decides}

-- ---- Times

pub decides_less : (one other : ℕ) (told : Bool) → nat_lt one other ≡ told → Decides told (one < other)
decides_less one other true is = lt_told one other is
decides_less one other false is = λ less. true_is_false (nat_lt one other) (lt_asked one other less) is

pub last_next : (before : List Moment) (last : Moment) (time : ℕ) → 1 ≤ length before → last ≡ get_or before (length before - 1) last
    → Decides (nat_lt last.time time) (IsNextTime before time)
last_next [] last time some is = absurd (omega arith)
last_next (moment ∷ []) last time some is = subst (λ (m : Moment). Decides (nat_lt m.time time) (moment.time < time)) (sym is) (decides_less moment.time time (nat_lt moment.time time) refl)
last_next (moment ∷ next ∷ later) last time some is =
    let place : length (moment ∷ next ∷ later) - 1 ≡ suc (length (next ∷ later) - 1) = omega arith in
    last_next (next ∷ later) last time (omega arith) (is ∙ ap (λ n. get_or (moment ∷ next ∷ later) n last) place)

-- ---- Fields in their places

pub field_there : (fields : Fields) (place : ℕ) (field : List ℕ) → field_at fields place ≡ Some field → drop place fields ≡ field ∷ drop (place + 1) fields
unfolding field_at
field_there [] place field is = absurd (cc is)
field_there (one ∷ fields) zero field is = ap (λ f. f ∷ fields) (inside is)
  where
    inside : Some one ≡ Some field → one ≡ field
    inside same = cc same
field_there (one ∷ fields) (suc place) field is =
    let next : suc (place + 1) ≡ suc place + 1 = omega arith in
    field_there fields place field is ∙ ap (λ n. field ∷ drop n (one ∷ fields)) next

pub field_within : (fields : Fields) (place : ℕ) (field : List ℕ) → field_at fields place ≡ Some field → place < length fields
unfolding field_at
field_within [] place field is = absurd (cc is)
field_within (one ∷ fields) zero field is = omega arith
field_within (one ∷ fields) (suc place) field is = omega (arith, field_within fields place field is)

pub no_field : (fields : Fields) (place : ℕ) → field_at fields place ≡ None → drop place fields ≡ []
unfolding field_at
no_field [] zero is = refl
no_field [] (suc place) is = refl
no_field (one ∷ fields) zero is = absurd (cc is)
no_field (one ∷ fields) (suc place) is = no_field fields place is

-- ---- Entries

pub not_entries : (done : List ℤ) (field : List ℕ) (rest : Fields) (words : List ℤ) → ((word : ℤ) → IsEntryText field word → ⊥)
    → map signed_decimal done ++ (field ∷ rest) ≡ map signed_decimal words → AllByRecursion (λ word. unsigned_abs word ≤ 10 ^ 15) words → ⊥
not_entries [] field rest [] none is small = cc is
not_entries [] field rest (word ∷ words) none is small = none word (small.0, same_first field (signed_decimal word) rest (map signed_decimal words) is)
not_entries (one ∷ done) field rest [] none is small = cc is
not_entries (one ∷ done) field rest (word ∷ words) none is small =
    not_entries done field rest words none
    (same_rest (signed_decimal one) (signed_decimal word) (map signed_decimal done ++ (field ∷ rest)) (map signed_decimal words) is) small.1

-- ---- Moments

pub nothing_there : (count : ℕ) (fields : Fields) → field_at fields 0 ≡ None → (moment : Moment) → IsMomentOf count fields moment → ⊥
unfolding field_at
nothing_there count [] none moment is = cc is.written
nothing_there count (first ∷ fields) none moment is = cc none

pub no_time : (count : ℕ) (fields : Fields) (first : List ℕ) → field_at fields 0 ≡ Some first → ((time : ℕ) → IsTimeText first time → ⊥)
    → (moment : Moment) → IsMomentOf count fields moment → ⊥
no_time count fields first there none moment is =
    none moment.time
    (is.writable.time, same_first first (decimal moment.time) (drop 1 fields) (map signed_decimal moment.words) (sym (field_there fields 0 first there) ∙ is.written))

pub moment_there : (count : ℕ) (fields : Fields) (first : List ℕ) (time : ℕ) (words : List ℤ) → field_at fields 0 ≡ Some first → IsTimeText first time
    → AreEntries (drop 1 fields) words → length words ≡ count → IsMomentOf count fields (record { time = time; words = words })
moment_there count fields first time words there is_time are many = record {
  written = field_there fields 0 first there ∙ ap (λ f. f ∷ drop 1 fields) is_time.1 ∙ ap (λ others. decimal time ∷ others) are.0;
  many = many;
  writable = record { time = is_time.0; words = are.1 };
}

time_once : (fields : Fields) (one other : Moment) → fields ≡ fields_of_moment one → fields ≡ fields_of_moment other → one.time ≤ 10 ^ 9 → other.time ≤ 10 ^ 9
    → one.time ≡ other.time
time_once fields one other is also small few =
    decimal_injective one.time other.time (omega (arith, small)) (omega (arith, few))
    (same_first (decimal one.time) (decimal other.time) (map signed_decimal one.words) (map signed_decimal other.words) (sym is ∙ also))

pub not_next : (names : List (List ℕ)) (before : List Moment) (fields : Fields) (moment : Moment) → IsMomentOf (length names) fields moment
    → (IsNextTime before moment.time → ⊥) → (other : Moment) → MayFollow names before fields other → ⊥
not_next names before fields moment is none other follows =
    none (subst (IsNextTime before)
    (time_once fields other moment follows.written is.written follows.is_moment.writable.time is.writable.time) follows.next_time)

-- ---- The words of a record, one after the other

-- The fields after the first are the words that were read, and then the fields from this place on.
pub record ReadTo (fields : Fields) (place : ℕ) (words : List ℤ) : Type 0 where
  pub front : drop 1 fields ≡ map signed_decimal words ++ drop place fields
  pub small : AllByRecursion (λ word. unsigned_abs word ≤ 10 ^ 15) words

pub read_more : (fields : Fields) (place : ℕ) (words more : List ℤ) (field : List ℕ) (word : ℤ) → ReadTo fields place words → field_at fields place ≡ Some field
    → IsEntryText field word → more ≡ words ++ (word ∷ []) → ReadTo fields (place + 1) more
read_more fields place words more field word read there entry is =
    let whole = ReadTo fields (place + 1) in
    subst whole (sym is) (record {
      front =
          read.front ∙ ap (λ rest. map signed_decimal words ++ rest) (field_there fields place field there)
          ∙ ap (λ one. map signed_decimal words ++ (one ∷ drop (place + 1) fields)) entry.1
          ∙ sym (append_assoc (map signed_decimal words) (signed_decimal word ∷ []) (drop (place + 1) fields))
          ∙ ap (λ front. front ++ drop (place + 1) fields) (sym (map-append signed_decimal words (word ∷ [])));
      small = each_more (λ one. unsigned_abs one ≤ 10 ^ 15) words word read.small entry.0;
    })

pub read_other : (fields : Fields) (place : ℕ) (words : List ℤ) (field : List ℕ) → ReadTo fields place words → field_at fields place ≡ Some field
    → ((word : ℤ) → IsEntryText field word → ⊥) → (all : List ℤ) → AreEntries (drop 1 fields) all → ⊥
read_other fields place words field read there none all are =
    not_entries words field (drop (place + 1) fields) all none
    (sym (read.front ∙ ap (λ rest. map signed_decimal words ++ rest) (field_there fields place field there)) ∙ are.0) are.1

pub read_all : (fields : Fields) (place : ℕ) (words : List ℤ) → ReadTo fields place words → field_at fields place ≡ None → AreEntries (drop 1 fields) words
read_all fields place words read none =
    (read.front ∙ ap (λ rest. map signed_decimal words ++ rest) (no_field fields place none) ∙ append-nil (map signed_decimal words), read.small)
