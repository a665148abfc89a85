-- Tables of names, filled name by name.
use Rattle.std.proofs.Common.{◌≡◌, ℕ, zero, suc, ◌+◌, ◌<◌, ◌≤◌, Bool, true, false, List, [], ◌∷◌, length, map, take, drop, Option, Some, None, refl, sym, ap, ◌∙◌, arith, get_or, bytes_eq}
use Rattle.std.specs.Prelude.{◌||◌, ◌&&◌, nat_lt, cond, if◌then◌else◌, is_some, slice_get}
use Rattle.std.specs.List.{count_by, find, position_from}
use Rattle.std.specs.Option.{option_and_then, option_or}
use Rattle.std.proofs.lemmas.Bool.Decides.{nat_tests}
use Rattle.std.specs.Borrow.{Bor}
use Rattle.std.proofs.lemmas.List.{at_drop_more, drop_all, get_or-map, length-map, take_all}
use Rattle.std.proofs.lemmas.List.Sums.{count_by_more_no, count_by_more_yes}
use Rattle.list_laws.proofs.Options.{or_none}
use Rattle.list_laws.proofs.Truths.{or_nothing}
use Rattle.unit_names.specs.Found.{found_in, first_place}
use Rattle.unit_names.proofs.FirstPlaces.{at_first}
use Rattle.unit_tree.specs.Names.{is_among}
use Rattle.unit_tree.specs.declared.unit.Unit.{Unit}
use Rattle.nest_text.specs.declared.nest.Bind.{Bind}
use Rattle.nest_names.specs.Tables.{FindsNames}
use Rattle.nest_names.specs.declared.tables.Names.{Names}

-- The tables of the names up to a place.
pub record ToldSoFar (names : List (List ℕ)) (tables : Names) (place : ℕ) : Type 0 where
  pub first : (q : List ℕ) → option_or (found_in tables.first q) (position_from (bytes_eq q) place (drop place names)) ≡ first_place names q
  pub some : (q : List ℕ) → is_some (found_in tables.first q) ≡ nat_lt 0 (count_by (bytes_eq q) (take place names))
  pub again : (q : List ℕ) → is_some (found_in tables.again q) ≡ nat_lt 1 (count_by (bytes_eq q) (take place names))

or_true : (told : Bool) → (told || true) ≡ true
or_true true = refl
or_true false = refl

counts_on : (some again same : Bool) (count count' : ℕ) → some ≡ nat_lt 0 count → again ≡ nat_lt 1 count → count' ≡ cond same (count + 1) count
    → ((some || same) ≡ nat_lt 0 count') × ((again || (same && some)) ≡ nat_lt 1 count')
counts_on some again false count count' one two more = (sym (or_nothing some) ∙ one ∙ ap (nat_lt 0) (sym more), sym (or_nothing again) ∙ two ∙ ap (nat_lt 1) (sym more))
counts_on some again true zero count' one two more =
    (or_true some ∙ sym (ap (nat_lt 0) more), ap (λ told. again || told) one ∙ sym (or_nothing again) ∙ two ∙ sym (ap (nat_lt 1) more))
counts_on some again true (suc count) count' one two more = (
  or_true some ∙ sym (ap (nat_lt 0) more ∙ first),
  ap (λ told. again || told) (one ∙ some_there) ∙ or_true again ∙ sym (ap (nat_lt 1) more ∙ second),
)
  where
    some_there : nat_lt 0 (suc count) ≡ true
    some_there = grind (arith, nat_tests)

    first : nat_lt 0 (suc count + 1) ≡ true
    first = grind (arith, nat_tests)

    second : nat_lt 1 (suc count + 1) ≡ true
    second = grind (arith, nat_tests)

found_more : (found later : Option ℕ) (same : Bool) (place : ℕ)
    → option_or (option_or found (if same then Some place else None)) later ≡ option_or found (cond same (Some place) later)
found_more None later true place = refl
found_more None later false place = refl
found_more (Some at) later same place = refl

some_more : (found : Option ℕ) (same : Bool) (place : ℕ) → is_some (option_or found (if same then Some place else None)) ≡ (is_some found || same)
some_more None true place = refl
some_more None false place = refl
some_more (Some at) same place = refl

count_more : (names : List (List ℕ)) (place : ℕ) (name q : List ℕ) → place < length names → name ≡ get_or names place []
    → count_by (bytes_eq q) (take (place + 1) names) ≡ cond (bytes_eq q name) (count_by (bytes_eq q) (take place names) + 1) (count_by (bytes_eq q) (take place names))
count_more names place name q within is = by (bytes_eq q name) refl
  where
    by : (same : Bool) → bytes_eq q name ≡ same
        → count_by (bytes_eq q) (take (place + 1) names) ≡ cond same (count_by (bytes_eq q) (take place names) + 1) (count_by (bytes_eq q) (take place names))
    by true same = count_by_more_yes (bytes_eq q) names place [] within (ap (bytes_eq q) (sym is) ∙ same)
    by false same = count_by_more_no (bytes_eq q) names place [] within (ap (bytes_eq q) (sym is) ∙ same)

pub told_begin : (names : List (List ℕ)) (tables : Names) → ((q : List ℕ) → found_in tables.first q ≡ None) → ((q : List ℕ) → found_in tables.again q ≡ None)
    → ToldSoFar names tables 0
told_begin names tables first again = record {
  first = λ q. ap (λ found. option_or found (position_from (bytes_eq q) 0 names)) (first q);
  some = λ q. ap is_some (first q);
  again = λ q. ap is_some (again q);
}

pub told_next : (names : List (List ℕ)) (tables tables' : Names) (place : ℕ) (name : List ℕ) → place < length names → name ≡ get_or names place []
    → ToldSoFar names tables place
    → ((q : List ℕ) → found_in tables'.first q ≡ option_or (found_in tables.first q) (if bytes_eq q name then Some place else None))
    → ((q : List ℕ) → is_some (found_in tables'.again q) ≡ (is_some (found_in tables.again q) || (bytes_eq q name && is_some (found_in tables.first q))))
    → ToldSoFar names tables' (place + 1)
told_next names tables tables' place name within is so_far first again = record {
  first = λ q.
      ap (λ found. option_or found (position_from (bytes_eq q) (place + 1) (drop (place + 1) names))) (first q)
      ∙ found_more (found_in tables.first q) (position_from (bytes_eq q) (place + 1) (drop (place + 1) names)) (bytes_eq q name) place
      ∙ ap (λ one. option_or (found_in tables.first q) (cond (bytes_eq q one) (Some place) (position_from (bytes_eq q) (place + 1) (drop (place + 1) names)))) is
      ∙ sym (at_drop_more (λ rest. option_or (found_in tables.first q) (position_from (bytes_eq q) place rest)) names place [] within)
      ∙ so_far.first q;
  some = λ q.
      ap is_some (first q) ∙ some_more (found_in tables.first q) (bytes_eq q name) place ∙ (counts q).0;
  again = λ q. again q ∙ (counts q).1;
}
  where
    counts : (q : List ℕ)
        → ((is_some (found_in tables.first q) || bytes_eq q name) ≡ nat_lt 0 (count_by (bytes_eq q) (take (place + 1) names)))
        × ((is_some (found_in tables.again q) || (bytes_eq q name && is_some (found_in tables.first q))) ≡ nat_lt 1 (count_by (bytes_eq q) (take (place + 1) names)))
    counts q =
        counts_on (is_some (found_in tables.first q)) (is_some (found_in tables.again q)) (bytes_eq q name) (count_by (bytes_eq q) (take place names))
        (count_by (bytes_eq q) (take (place + 1) names)) (so_far.some q) (so_far.again q) (count_more names place name q within is)

pub told_next_at : (names : List (Bor (List ℕ))) (outside : Bor (List ℕ)) (tables tables' : Names) (place : ℕ) → place < length names
    → ToldSoFar (map (λ name. name.now) names) tables place
    → ((q : List ℕ) → found_in tables'.first q
    ≡ option_or (found_in tables.first q) (if bytes_eq q (get_or names place outside).now then Some place else None))
    → ((q : List ℕ) → is_some (found_in tables'.again q)
    ≡ (is_some (found_in tables.again q) || (bytes_eq q (get_or names place outside).now && is_some (found_in tables.first q))))
    → ToldSoFar (map (λ name. name.now) names) tables' (place + 1)
told_next_at names outside tables tables' place within so_far first again =
    let long = length-map names (λ (name : Bor (List ℕ)). name.now) in
    told_next (map (λ name. name.now) names) tables tables' place (get_or names place outside).now (omega (arith, long, within))
    (sym (get_or-map (λ (name : Bor (List ℕ)). name.now) names place outside [] within)) so_far first again

pub told_all : (names : List (List ℕ)) (tables : Names) (place : ℕ) → length names ≤ place → ToldSoFar names tables place → FindsNames names tables
told_all names tables place past so_far = record {
  first = λ q.
      sym (or_none (found_in tables.first q))
      ∙ ap (λ rest. option_or (found_in tables.first q) (position_from (bytes_eq q) place rest)) (sym (drop_all place names past))
      ∙ so_far.first q;
  again = λ q. so_far.again q ∙ ap (λ all. nat_lt 1 (count_by (bytes_eq q) all)) (take_all place names past);
}

-- ---- What is found

pub some_among : (names : List (List ℕ)) (q : List ℕ) (place : ℕ) → is_some (position_from (bytes_eq q) place names) ≡ is_among names q
some_among [] q place = refl
some_among (name ∷ names) q place = by (bytes_eq q name) (some_among names q (place + 1))
  where
    by : (same : Bool) → is_some (position_from (bytes_eq q) (place + 1) names) ≡ is_among names q
        → is_some (cond same (Some place) (position_from (bytes_eq q) (place + 1) names)) ≡ (same || is_among names q)
    by true rest = refl
    by false rest = rest

-- The element at the first place of a name is the first one that has it.
pub found_none : {D : Type 0} (name : D → List ℕ) (all all' : List D) (q : List ℕ) (found : Option ℕ) → all ≡ all' → found ≡ first_place (map name all) q
    → found ≡ None → None ≡ find (λ one. bytes_eq (name one) q) all'
found_none name all all' q found same is none =
    ap (option_and_then (slice_get all)) (sym none ∙ is) ∙ at_first name all q ∙ ap (find (λ one. bytes_eq (name one) q)) same

pub found_some : {D : Type 0} (name : D → List ℕ) (all all' : List D) (q : List ℕ) (found : Option ℕ) (place : ℕ) → all ≡ all'
    → found ≡ first_place (map name all) q → found ≡ Some place → slice_get all place ≡ find (λ one. bytes_eq (name one) q) all'
found_some name all all' q found place same is some =
    ap (option_and_then (slice_get all)) (sym some ∙ is) ∙ at_first name all q ∙ ap (find (λ one. bytes_eq (name one) q)) same

pub bind_is_there : (binds : List Bind) (q : List ℕ) → is_some (first_place (map (λ bind. bind.port) binds) q) ≡ is_among (map (λ bind. bind.port) binds) q
bind_is_there binds q = some_among (map (λ (bind : Bind). bind.port) binds) q 0

pub unit_is_there : (units : List Unit) (q : List ℕ) → is_some (first_place (map (λ unit. unit.name) units) q) ≡ is_among (map (λ unit. unit.name) units) q
unit_is_there units q = some_among (map (λ (unit : Unit). unit.name) units) q 0
