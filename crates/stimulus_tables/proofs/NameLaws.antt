-- Names of columns, one after the other.
use Rattle.std.proofs.Common.{◌≡◌, ◌≢◌, ℕ, ◌+◌, ◌<◌, ◌≤◌, Bool, true, false, List, [], ◌∷◌, ◌++◌, drop, length, Some, None, refl, ap, ap₂, sym, subst, ◌∙◌, arith, append_assoc, append-nil}
use Rattle.std.specs.Prelude.{nat_lt, decimal, codes, ◌||◌, ◌==◌, if◌then◌else◌, not, IfOk, Result, Ok, Err}
use Rattle.std.specs.List.{AllByRecursion, list_any}
use Rattle.std.specs.Str.{bytes_eq}
use Rattle.std.proofs.lemmas.Bool.{or_parts}
use Rattle.std.proofs.lemmas.Bool.Decides.{nat_tests}
use Rattle.language_laws.proofs.NameLaws.{bytes_of, same_bytes}
use Rattle.list_laws.proofs.Truths.{not_true, true_is_false}
use Rattle.unit_tree.specs.Names.{is_among}
use Rattle.std.proofs.lemmas.Fmt.{decimal_injective}
use Rattle.std.proofs.lemmas.List.{length-append}
use Rattle.list_laws.proofs.Options.{inside}
use Rattle.csv.specs.Records.{field_at}
use Rattle.list_laws.proofs.Lists.{each_more, each_part, same_first, same_rest}
use Rattle.stimulus_tables.specs.Tables.{AllDiffer, IsHead, IsTaken}
use Rattle.text_tokens.proofs.TokenLemmas.{spells_one}
use Rattle.stimulus_tables.specs.TableFields.{IsNextName, IsTimeText, behind_s}
use Rattle.stimulus_tables.specs.Records.{Fields}
use Rattle.stimulus_tables.proofs.MomentLaws.{decides_less, field_there, no_field}
use Rattle.unit_tree.specs.Tokens.{IsName, Spells}
use Rattle.unit_tree.specs.declared.token.Token.{Token}
use Rattle.unit_tree.specs.declared.token.Token.TheVariants as token
use Rattle.text_tokens.specs.Results.{Decides}

-- ---- Names that are reserved

cut_s : (name digits : List ℕ) → behind_s name ≡ Some digits → name ≡ 115 ∷ digits
cut_s [] digits is = cc is
cut_s (first ∷ rest) digits is = by (first == 115) refl is
  where
    by : (told : Bool) → (first == 115) ≡ told → (if told then Some rest else None) ≡ Some digits → first ∷ rest ≡ 115 ∷ digits
    by true same some = let is_s : first ≡ 115 = grind (arith, nat_tests) in ap₂ (λ b bytes. b ∷ bytes) is_s (inside some)
    by false other some = cc some

pub taken_told : (name digits : List ℕ) (number : ℕ) → behind_s name ≡ Some digits → IsTimeText digits number → Decides (nat_lt number 16) (IsTaken name)
taken_told name digits number cut text =
    subst (λ whole. Decides (nat_lt number 16) (IsTaken whole)) (sym (cut_s name digits cut)) (by (nat_lt number 16) (decides_less number 16 (nat_lt number 16) refl))
  where
    by : (b : Bool) → Decides b (number < 16) → Decides b (IsTaken (115 ∷ digits))
    by true small = (number, small, ap (λ d. 115 ∷ d) text.1)
    by false large = λ taken. large (subst (λ n. n < 16)
        (decimal_injective taken.0 number (omega (arith, taken.1)) (omega (arith, text.0)) (sym (same_rest 115 115 digits (decimal taken.0) taken.2) ∙ text.1)) taken.1)

pub no_number_taken : (name digits : List ℕ) → behind_s name ≡ Some digits → ((number : ℕ) → IsTimeText digits number → ⊥) → IsTaken name → ⊥
no_number_taken name digits cut none taken =
    none taken.0 (omega (arith, taken.1), same_rest 115 115 digits (decimal taken.0) (sym (cut_s name digits cut) ∙ taken.2))

pub no_s_taken : (name : List ℕ) → behind_s name ≡ None → IsTaken name → ⊥
no_s_taken name none taken = apart (sym none ∙ ap behind_s taken.2)
  where
    apart : None ≡ Some (decimal taken.0) → ⊥
    apart is = cc is

-- ---- Names of the language

spells_name : (name : List ℕ) → IsName name → Spells (token.Name name ∷ []) name
spells_name name is = (
  [],
  record { blanks = []; text = name; cut = sym (append-nil name); are_blank = refl; spelling = (refl, is); ends = refl },
  refl,
)

pub name_told : (tokens : List Token) (bytes : List ℕ) (told : Bool) → Spells tokens bytes → Decides told (tokens ≡ token.Name bytes ∷ []) → Decides told (IsName bytes)
name_told tokens bytes true spelled is = (subst (λ all. Spells all bytes) is spelled).1.spelling.1
name_told tokens bytes false spelled none = λ is. none (spells_one tokens (token.Name bytes ∷ []) bytes spelled (spells_name bytes is))

pub nothing_spelled : (bytes : List ℕ) → ((tokens : List Token) → Spells tokens bytes → ⊥) → IsName bytes → ⊥
nothing_spelled bytes none is = none (token.Name bytes ∷ []) (spells_name bytes is)

pub only_name : (tokens : List Token) (first : Token) (name : List ℕ) (told : Bool) → tokens ≡ first ∷ [] → Decides told (first ≡ token.Name name)
    → Decides told (tokens ≡ token.Name name ∷ [])
only_name tokens first name true only is = only ∙ ap (λ t. t ∷ []) is
only_name tokens first name false only none = λ is. none (same_first first (token.Name name) [] [] (sym only ∙ is))

-- ---- Names that differ

differ_more : (names : List (List ℕ)) (name : List ℕ) → AllDiffer names → AllByRecursion (λ other. other ≢ name) names → AllDiffer (names ++ (name ∷ []))
differ_more [] name all fresh = (tt, tt)
differ_more (one ∷ names) name all fresh = (each_more (λ other. one ≢ other) names name all.0 fresh.0, differ_more names name all.1 fresh.1)

differ_before : (names : List (List ℕ)) (name : List ℕ) (rest : List (List ℕ)) → AllDiffer (names ++ (name ∷ rest)) → AllByRecursion (λ other. other ≢ name) names
differ_before [] name rest all = tt
differ_before (one ∷ names) name rest all =
    ((each_part (λ other. one ≢ other) names (name ∷ rest) all.0).1.0, differ_before names name rest all.1)

among_by : (one other : Bool) → (one || other) ≡ true → (one ≡ true → ⊥) → (other ≡ true → ⊥) → ⊥
among_by true other is first second = first refl
among_by false other is first second = second is

pub among_told : (names : List (List ℕ)) (name : List ℕ) → is_among names name ≡ true → AllByRecursion (λ other. other ≢ name) names → ⊥
among_told [] name is fresh = cc is
among_told (one ∷ names) name is fresh = among_by (bytes_eq name one) (list_any (bytes_eq name) names) is (λ same. fresh.0 (sym (same_bytes name one same))) (λ later. among_told names name later fresh.1)

pub none_among : (names : List (List ℕ)) (name : List ℕ) → is_among names name ≡ false → AllByRecursion (λ other. other ≢ name) names
none_among [] name is = tt
none_among (one ∷ names) name is =
    let parts = or_parts (bytes_eq name one) (list_any (bytes_eq name) names) is in
    (λ same. true_is_false (bytes_eq name one) (bytes_of name one (sym same)) parts.0, none_among names name parts.1)

-- ---- The names of a head

-- The fields after the first are the names that were read, which a head may have, and then the fields from this place on.
pub record NamesTo (fields : Fields) (place : ℕ) (names : List (List ℕ)) : Type 0 where
  pub first : field_at fields 0 ≡ Some (codes "time")
  pub front : drop 1 fields ≡ names ++ drop place fields
  pub few : length names ≤ 16
  pub are_names : AllByRecursion IsName names
  pub not_taken : AllByRecursion (λ name. IsTaken name → ⊥) names
  pub differ : AllDiffer names

pub names_begin : (fields : Fields) → field_at fields 0 ≡ Some (codes "time") → NamesTo fields 1 []
names_begin fields first = record { first = first; front = refl; few = omega arith; are_names = tt; not_taken = tt; differ = tt }

pub names_more : (fields : Fields) (place : ℕ) (names more : List (List ℕ)) (name : List ℕ) → NamesTo fields place names → field_at fields place ≡ Some name
    → IsNextName names name → more ≡ names ++ (name ∷ []) → NamesTo fields (place + 1) more
names_more fields place names more name read there next is = subst (NamesTo fields (place + 1)) (sym is) (record {
  first = read.first;
  front = read.front ∙ ap (λ rest. names ++ rest) (field_there fields place name there) ∙ sym (append_assoc names (name ∷ []) (drop (place + 1) fields));
  few = omega (arith, next.few, length-append names (name ∷ []));
  are_names = each_more IsName names name read.are_names next.is_name;
  not_taken = each_more (λ one. IsTaken one → ⊥) names name read.not_taken next.not_taken;
  differ = differ_more names name read.differ next.fresh;
})

head_names : (fields : Fields) (names : List (List ℕ)) → IsHead fields names → drop 1 fields ≡ names
head_names fields names is = ap (drop 1) is.0

pub names_other : (fields : Fields) (place : ℕ) (names : List (List ℕ)) (name : List ℕ) → NamesTo fields place names → field_at fields place ≡ Some name
    → (IsNextName names name → ⊥) → (all : List (List ℕ)) → IsHead fields all → ⊥
names_other fields place names name read there none all is =
    let rest = drop (place + 1) fields in
    let whole : all ≡ names ++ (name ∷ rest) =
    sym (head_names fields all is) ∙ read.front ∙ ap (λ left. names ++ left) (field_there fields place name there) in
    let long = is.1.few in
    let count = ap length whole in
    none (record {
      few = omega (arith, long, count, length-append names (name ∷ rest));
      is_name = (each_part IsName names (name ∷ rest) (subst (AllByRecursion IsName) whole is.1.are_names)).1.0;
      not_taken = (each_part (λ one. IsTaken one → ⊥) names (name ∷ rest) (subst (AllByRecursion (λ one. IsTaken one → ⊥)) whole is.1.not_taken)).1.0;
      fresh = differ_before names name rest (subst AllDiffer whole is.1.differ);
    })

pub names_all : (fields : Fields) (place : ℕ) (names : List (List ℕ)) → NamesTo fields place names → field_at fields place ≡ None → 1 ≤ length names
    → IsHead fields names
names_all fields place names read none some = (
  field_there fields 0 (codes "time") read.first
      ∙ ap (λ rest. codes "time" ∷ rest) (read.front ∙ ap (λ rest. names ++ rest) (no_field fields place none) ∙ append-nil names),
  record { some = some; few = read.few; are_names = read.are_names; not_taken = read.not_taken; differ = read.differ },
)

pub no_names : (fields : Fields) (place : ℕ) → NamesTo fields place [] → field_at fields place ≡ None → (all : List (List ℕ)) → IsHead fields all → ⊥
no_names fields place read none all is =
    let empty : all ≡ [] = sym (head_names fields all is) ∙ read.front ∙ no_field fields place none in
    omega (arith, is.1.some, ap length empty)

pub other_first : (fields : Fields) (first : List ℕ) → field_at fields 0 ≡ Some first → (first ≡ codes "time" → ⊥) → (all : List (List ℕ)) → IsHead fields all → ⊥
other_first fields first there none all is =
    none (same_first first (codes "time") (drop 1 fields) all (sym (field_there fields 0 first there) ∙ is.0))

pub no_first : (fields : Fields) → field_at fields 0 ≡ None → (all : List (List ℕ)) → IsHead fields all → ⊥
unfolding field_at
no_first [] none all is = cc is.0
no_first (first ∷ fields) none all is = cc none

pub next_told : (before : List (List ℕ)) (name : List ℕ) (told : Bool) → length before < 16 → (IsTaken name → ⊥) → is_among before name ≡ false → Decides told (IsName name)
    → Decides told (IsNextName before name)
next_told before name true few not_taken fresh is = record { few = few; is_name = is; not_taken = not_taken; fresh = none_among before name fresh }
next_told before name false few not_taken fresh none = λ next. none next.is_name

pub some_names : (names : List (List ℕ)) → (names ≡ [] → ⊥) → 1 ≤ length names
some_names [] none = absurd (none refl)
some_names (name ∷ names) none = omega arith

pub apart_told : (one other : List ℕ) (told : Bool) → told ≡ not (bytes_eq one other) → told ≡ true → one ≡ other → ⊥
apart_told one other told is so same = true_is_false (bytes_eq one other) (bytes_of one other same) (not_true (bytes_eq one other) (sym is ∙ so))

pub on_ok : {T E : Type 0} (result : Result T E) (P Q : T → Type 0) → ((x : T) → P x → Q x) → IfOk result P → IfOk result Q
on_ok (Ok x) P Q so is = so x is
on_ok (Err e) P Q so is = tt
