-- Lists of places by names, place by place.
use Rattle.std.proofs.Common.{◌≡◌, ℕ, zero, suc, ◌<◌, Bool, true, false, List, [], ◌∷◌, ◌++◌, length, Option, Some, None, Result, Ok, Err, refl, sym, ap, ◌∙◌, arith, get_or, append-nil, bytes_eq}
use Rattle.std.specs.Prelude.{◌||◌, ◌==◌, if◌then◌else◌, slice_get}
use Rattle.std.specs.List.{cons_option, filter, filter_map, list_any}
use Rattle.std.specs.Option.{option_map, option_or, unwrap_or}
use Rattle.std.specs.Cmp.Lexicographic.{bytes_decides, nat_list_eq_equiv}
use Rattle.std.specs.Result.{OnOk}
use Rattle.std.proofs.Math.ListN.{set}
use Rattle.std.proofs.lemmas.Bool.Decides.{nat_tests}
use Rattle.std.proofs.lemmas.List.Elements.{filter-append, filter_map-append}
use Rattle.list_laws.proofs.Members.{read_at, set_elsewhere, set_there}
use Rattle.nest_names.specs.Tables.{inside_of}

-- ---- Lists by numbers

pub inside_front : (lists : List (List ℕ)) (one : List ℕ) (place : ℕ) → place < length lists → inside_of (lists ++ one ∷ []) place ≡ inside_of lists place
inside_front [] one place within = absurd (omega (arith, within))
inside_front (first ∷ lists) one zero within = refl
inside_front (first ∷ lists) one (suc place) within = inside_front lists one place (omega (arith, within))

pub inside_last : (lists : List (List ℕ)) (one : List ℕ) → inside_of (lists ++ one ∷ []) (length lists) ≡ one
inside_last [] one = refl
inside_last (first ∷ lists) one = inside_last lists one

-- The list for the number of a name.
abbrev pub told : List (List ℕ) → Option ℕ → List ℕ
told lists number = unwrap_or (option_map (inside_of lists) number) []

abbrev pub one_if : Bool → ℕ → List ℕ
one_if same place = if same then place ∷ [] else []

pub put_lists : (lists lists' : List (List ℕ)) (number place : ℕ) (one : List ℕ) → number < length lists → lists' ≡ set lists number one
    → one ≡ inside_of lists number ++ place ∷ [] → (k : ℕ) → inside_of lists' k ≡ inside_of lists k ++ one_if (k == number) place
put_lists lists lists' number place one within is grown k = ap (λ all. inside_of all k) is ∙ by (k == number) refl
  where
    by : (same : Bool) → (k == number) ≡ same → inside_of (set lists number one) k ≡ inside_of lists k ++ one_if same place
    by true same =
        let equal : k ≡ number = grind (arith, nat_tests, same) in
        ap (inside_of (set lists number one)) equal ∙ ap (λ found. unwrap_or found []) (set_there lists number one within) ∙ grown
        ∙ ap (λ n. inside_of lists n ++ place ∷ []) (sym equal)
    by false same =
        let apart : k ≡ number → ⊥ = λ equal. let test : (k == number) ≡ true = grind (arith, nat_tests, equal) in absurd (cc) in
        ap (λ found. unwrap_or found []) (set_elsewhere lists number k one apart) ∙ sym (append-nil (inside_of lists k))

module _ (find : List ℕ → Option ℕ) (apart : (q r : List ℕ) (k : ℕ) → find q ≡ Some k → find r ≡ Some k → bytes_eq q r ≡ true) where
  pub added_at : (lists lists' : List (List ℕ)) (name : List ℕ) (number place : ℕ) → find name ≡ Some number
      → ((k : ℕ) → inside_of lists' k ≡ inside_of lists k ++ one_if (k == number) place) → (q : List ℕ)
      → told lists' (find q) ≡ told lists (find q) ++ one_if (bytes_eq q name) place
  added_at lists lists' name number place there grown q = by (find q) (bytes_eq q name) refl refl
    where
      is_name : bytes_eq q name ≡ true → find q ≡ Some number
      is_name same = ap find ((bytes_decides q name).0 same) ∙ there

      by : (found : Option ℕ) (same : Bool) → find q ≡ found → bytes_eq q name ≡ same → told lists' found ≡ told lists found ++ one_if same place
      by None true is same = let never : None ≡ Some number = sym is ∙ is_name same in absurd (cc)
      by None false is same = refl
      by (Some k) true is same =
          let both : Some k ≡ Some number = sym is ∙ is_name same in
          let equal : k ≡ number = cc in
          let test : (k == number) ≡ true = grind (arith, nat_tests, equal) in
          grown k ∙ ap (λ told. inside_of lists k ++ one_if told place) test
      by (Some k) false is same =
          grown k ∙ ap (λ told. inside_of lists k ++ one_if told place) (other (k == number) refl)
        where
          other : (test : Bool) → (k == number) ≡ test → (k == number) ≡ false
          other false equal = equal
          other true equal =
              let one : k ≡ number = grind (arith, nat_tests, equal) in
              let again = apart q name k is (there ∙ ap (λ n. Some n) (sym one)) in absurd (cc)

-- A name that is new.
module _ (find find' : List ℕ → Option ℕ) (name : List ℕ) (lists : List (List ℕ)) (new : find name ≡ None)
    (found : (q : List ℕ) → find' q ≡ option_or (find q) (if bytes_eq q name then Some (length lists) else None)) where
  old_apart : (q : List ℕ) (k : ℕ) → find q ≡ Some k → bytes_eq q name ≡ true → ⊥
  old_apart q k is same = let never : Some k ≡ None = sym is ∙ ap find ((bytes_decides q name).0 same) ∙ new in cc

  pub added_new : (place : ℕ) → ((q : List ℕ) (k : ℕ) → find q ≡ Some k → k < length lists) → (q : List ℕ)
      → told (lists ++ (place ∷ []) ∷ []) (find' q) ≡ told lists (find q) ++ one_if (bytes_eq q name) place
  added_new place within q = ap (told (lists ++ (place ∷ []) ∷ [])) (found q) ∙ by (find q) (bytes_eq q name) refl refl
    where
      by : (old : Option ℕ) (same : Bool) → find q ≡ old → bytes_eq q name ≡ same
          → told (lists ++ (place ∷ []) ∷ []) (option_or old (if same then Some (length lists) else None)) ≡ told lists old ++ one_if same place
      by None true was same = inside_last lists (place ∷ [])
      by None false was same = refl
      by (Some n) true was same = absurd (old_apart q n was same)
      by (Some n) false was same = inside_front lists (place ∷ []) n (within q n was) ∙ sym (append-nil (inside_of lists n))

-- ---- What is listed

-- One item more, at a place of its own.
pub listed_more : {A : Type 0} (name : A → List ℕ) (items kept : List A) (told told' : List ℕ → List ℕ) (place : ℕ) (item : A)
    → slice_get items place ≡ Some item → ((q : List ℕ) → filter_map (slice_get items) (told q) ≡ filter (λ one. bytes_eq (name one) q) kept)
    → ((q : List ℕ) → told' q ≡ told q ++ one_if (bytes_eq q (name item)) place) → (q : List ℕ)
    → filter_map (slice_get items) (told' q) ≡ filter (λ one. bytes_eq (name one) q) (kept ++ item ∷ [])
listed_more {A} name items kept told told' place item there so_far more q =
    ap (filter_map (slice_get items)) (more q)
    ∙ filter_map-append (slice_get items) (told q) (one_if (bytes_eq q (name item)) place)
    ∙ ap (λ front. front ++ filter_map (slice_get items) (one_if (bytes_eq q (name item)) place)) (so_far q)
    ∙ ap (λ last. filter (λ one. bytes_eq (name one) q) kept ++ last) (by (bytes_eq q (name item)) (nat_list_eq_equiv.symm (name item) q))
    ∙ sym (filter-append (λ one. bytes_eq (name one) q) kept (item ∷ []))
  where
    by : (same : Bool) → bytes_eq (name item) q ≡ same
        → filter_map (slice_get items) (one_if same place) ≡ filter (λ one. bytes_eq (name one) q) (item ∷ [])
    by true is = ap (λ found. cons_option found []) there ∙ ap (λ told. if told then item ∷ [] else []) (sym is)
    by false is = ap (λ told. if told then item ∷ [] else []) (sym is)

-- Which of the items at places pass a test.
pub any_at : {A : Type 0} (test : A → Bool) (items : List A) (places : List ℕ)
    → list_any (λ place. unwrap_or (option_map test (slice_get items place)) false) places ≡ list_any test (filter_map (slice_get items) places)
any_at test items [] = refl
any_at test items (place ∷ places) = by (slice_get items place) (any_at test items places)
  where
    by : (found : Option _) → list_any (λ place. unwrap_or (option_map test (slice_get items place)) false) places
        ≡ list_any test (filter_map (slice_get items) places)
        → (unwrap_or (option_map test found) false || list_any (λ place. unwrap_or (option_map test (slice_get items place)) false) places)
        ≡ list_any test (cons_option found (filter_map (slice_get items) places))
    by None rest = rest
    by (Some item) rest = ap (λ more. test item || more) rest

-- A test gives the same on the items with a name, if an item without the name can't pass it.
pub any_named : {A : Type 0} (test named : A → Bool) → ((item : A) → named item ≡ false → test item ≡ false) → (items : List A)
    → list_any test (filter named items) ≡ list_any test items
any_named test named apart [] = refl
any_named test named apart (item ∷ items) = by (named item) refl (any_named test named apart items)
  where
    by : (has : Bool) → named item ≡ has → list_any test (filter named items) ≡ list_any test items
        → list_any test (if has then item ∷ filter named items else filter named items) ≡ (test item || list_any test items)
    by true is rest = ap (λ more. test item || more) rest
    by false is rest = rest ∙ ap (λ told. told || list_any test items) (sym (apart item is))

pub on_ok : {A E P Q : Type 0} (result : Result A E) → (P → Q) → OnOk result P → OnOk result Q
on_ok (Ok done) leads is = leads is
on_ok (Err why) leads is = tt

-- The list with a number, as it is among the lists.
pub list_there : (lists : List (List ℕ)) (number : ℕ) (one : List ℕ) → number < length lists → one ≡ get_or lists number one → one ≡ inside_of lists number
list_there lists number one within is = sym (ap (λ found. unwrap_or found []) (read_at lists number one within is))
