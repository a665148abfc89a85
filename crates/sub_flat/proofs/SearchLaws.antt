-- Searching for a group that contains itself.
use Rattle.std.proofs.Common.{◌≡◌, ℕ, zero, suc, ◌+◌, ◌<◌, Bool, true, false, List, [], ◌∷◌, ◌++◌, length, map, inl, inr, Some, refl, sym, ap, subst, ◌∙◌, arith, length-append, append_assoc, append-nil, get_or, drop, take}
use Rattle.std.specs.List.{count_by}
use Rattle.std.proofs.Math.ListN.{set}
use Rattle.std.proofs.lemmas.List.{drop_all, take_all, get_or-set_other, get_or-set_same, length-map, length-set}
use Rattle.std.proofs.lemmas.List.Sums.{sum_by-cons}
use Rattle.std.specs.Prelude.{◌⊎◌, not, cond}
use Rattle.std.specs.List.{position_from}
use Rattle.std.specs.Str.{bytes_eq}
use Rattle.nest_text.specs.declared.nest.Group.{Group}
use Rattle.nest_text.specs.declared.nest.Nest.{Nest}
use Rattle.unit_tree.specs.Ports.{IsAmong}
use Rattle.sub_flat.specs.Cycles.{Leads, LeadsBack}
use Rattle.nest_names.specs.Flattening.{group_place}
use Rattle.sub_flat.specs.Searching.{Finds, IsSeen, Spreads}

-- ---- Members

pub among_left : (xs ys : List ℕ) (x : ℕ) → IsAmong xs x → IsAmong (xs ++ ys) x
among_left [] ys x is = absurd is
among_left (y ∷ xs) ys x (inl is) = inl is
among_left (y ∷ xs) ys x (inr is) = inr (among_left xs ys x is)

pub among_right : (xs ys : List ℕ) (x : ℕ) → IsAmong ys x → IsAmong (xs ++ ys) x
among_right [] ys x is = is
among_right (y ∷ xs) ys x is = inr (among_right xs ys x is)

pub among_either : (xs ys : List ℕ) (x : ℕ) → IsAmong (xs ++ ys) x → IsAmong xs x ⊎ IsAmong ys x
among_either [] ys x is = inr is
among_either (y ∷ xs) ys x (inl is) = inl (inl is)
among_either (y ∷ xs) ys x (inr is) = shift (among_either xs ys x is)
  where
    shift : IsAmong xs x ⊎ IsAmong ys x → IsAmong (y ∷ xs) x ⊎ IsAmong ys x
    shift (inl e) = inl (inr e)
    shift (inr e) = inr e

pub among_at : (xs : List ℕ) (place : ℕ) → place < length xs → IsAmong xs (get_or xs place 0)
among_at [] place within = absurd (omega (arith, within))
among_at (x ∷ xs) zero within = inl refl
among_at (x ∷ xs) (suc place) within = inr (among_at xs place (omega (arith, within)))

-- ---- Paths

leads_on : (inner : ℕ → List ℕ) (count from between to : ℕ) → Leads inner count from between → IsAmong (inner between) to → Leads inner (suc count) from to
leads_on inner zero from between to first last = (between, first, last)
leads_on inner (suc count) from between to (next, first, rest) last = (next, first, leads_on inner count next between to rest last)

-- The group is the searched one, or is contained in it.
abbrev pub IsReached : (ℕ → List ℕ) → ℕ → ℕ → Type 0
IsReached inner start place = (place ≡ start) ⊎ ((count : ℕ) × Leads inner count start place)

pub reached_on : (inner : ℕ → List ℕ) (start from to : ℕ) → IsReached inner start from → IsAmong (inner from) to → (count : ℕ) × Leads inner count start to
reached_on inner start from to (inl is) last = (0, subst (λ place. IsAmong (inner place) to) is last)
reached_on inner start from to (inr (count, leads)) last = (suc count, leads_on inner count start from to leads last)

-- ---- The search

-- A group doesn't contain the searched one, and all groups inside it were found.
abbrev pub IsClosed : (ℕ → List ℕ) → ℕ → List Bool → ℕ → Type 0
IsClosed inner start seen place = (other : ℕ) → IsAmong (inner place) other → (other ≡ start → ⊥) × IsSeen seen other

pub record SearchedSoFar (inner : ℕ → List ℕ) (start : ℕ) (count : ℕ) (seen : List Bool) (pending : List ℕ) : Type 0 where
  pub long : length seen ≡ count
  pub sound : (place : ℕ) → IsAmong pending place → IsReached inner start place
  pub closed : (place : ℕ) → (place ≡ start) ⊎ IsSeen seen place → IsAmong pending place ⊎ IsClosed inner start seen place

pub search_begin : (inner : ℕ → List ℕ) (start count : ℕ) (seen : List Bool) → length seen ≡ count → ((place : ℕ) → IsSeen seen place → ⊥)
    → SearchedSoFar inner start count seen (start ∷ [])
search_begin inner start count seen long none = record {
  long = long;
  sound = λ place is. sound_by place is;
  closed = λ place is. inl (closed_by place is);
}
  where
    sound_by : (place : ℕ) → IsAmong (start ∷ []) place → IsReached inner start place
    sound_by place (inl is) = inl (sym is)
    sound_by place (inr is) = absurd is

    closed_by : (place : ℕ) → (place ≡ start) ⊎ IsSeen seen place → IsAmong (start ∷ []) place
    closed_by place (inl is) = inl (sym is)
    closed_by place (inr is) = absurd (none place is)

pub search_next : (inner : ℕ → List ℕ) (start count from : ℕ) (seen seen' : List Bool) (pending front pending' : List ℕ)
    → SearchedSoFar inner start count seen pending → pending ≡ front ++ (from ∷ []) → (IsAmong (inner from) start → ⊥)
    → Finds (inner from) seen seen' front pending' → SearchedSoFar inner start count seen' pending'
search_next inner start count from seen seen' pending front pending' so_far popped not finds = record {
  long = finds.long ∙ so_far.long;
  sound = λ place is. sound_by place (finds.from place is);
  closed = λ place is. closed_by place is;
}
  where
    here : IsReached inner start from
    here = so_far.sound from (subst (λ all. IsAmong all from) (sym popped) (among_right front (from ∷ []) from (inl refl)))

    sound_by : (place : ℕ) → IsAmong front place ⊎ IsAmong (inner from) place → IsReached inner start place
    sound_by place (inl is) = so_far.sound place (subst (λ all. IsAmong all place) (sym popped) (among_left front (from ∷ []) place is))
    sound_by place (inr is) = inr (reached_on inner start from place here is)

    from_closed : IsClosed inner start seen' from
    from_closed other is = (λ same. not (subst (IsAmong (inner from)) same is), finds.all other is)

    kept_closed : (place : ℕ) → IsClosed inner start seen place → IsClosed inner start seen' place
    kept_closed place closed other is = let both = closed other is in (both.0, finds.kept other both.1)

    part : (place : ℕ) → IsAmong front place ⊎ IsAmong (from ∷ []) place → IsAmong pending' place ⊎ IsClosed inner start seen' place
    part place (inl is) = inl (finds.still place is)
    part place (inr (inl is)) = inr (subst (IsClosed inner start seen') is from_closed)
    part place (inr (inr is)) = absurd is

    again : (place : ℕ) → IsAmong pending place ⊎ IsClosed inner start seen place → IsAmong pending' place ⊎ IsClosed inner start seen' place
    again place (inl is) = part place (among_either front (from ∷ []) place (subst (λ all. IsAmong all place) popped is))
    again place (inr closed) = inr (kept_closed place closed)

    new_or_old : (place : ℕ) → IsSeen seen place ⊎ IsAmong pending' place → IsAmong pending' place ⊎ IsClosed inner start seen' place
    new_or_old place (inl is) = again place (so_far.closed place (inr is))
    new_or_old place (inr is) = inl is

    closed_by : (place : ℕ) → (place ≡ start) ⊎ IsSeen seen' place → IsAmong pending' place ⊎ IsClosed inner start seen' place
    closed_by place (inl is) = again place (so_far.closed place (inl is))
    closed_by place (inr is) = new_or_old place (finds.new place is)

pub search_found : (inner : ℕ → List ℕ) (start count from : ℕ) (seen : List Bool) (pending front : List ℕ) → SearchedSoFar inner start count seen pending
    → pending ≡ front ++ (from ∷ []) → IsAmong (inner from) start → (length : ℕ) × Leads inner length start start
search_found inner start count from seen pending front so_far popped is =
    reached_on inner start from start
    (so_far.sound from (subst (λ all. IsAmong all from) (sym popped) (among_right front (from ∷ []) from (inl refl)))) is

no_way : (inner : ℕ → List ℕ) (start count : ℕ) (seen : List Bool) → SearchedSoFar inner start count seen [] → (length from : ℕ)
    → (from ≡ start) ⊎ IsSeen seen from → Leads inner length from start → ⊥
no_way inner start count seen so_far zero from is leads = by (so_far.closed from is)
  where
    by : IsAmong [] from ⊎ IsClosed inner start seen from → ⊥
    by (inl none) = none
    by (inr closed) = (closed start leads).0 refl
no_way inner start count seen so_far (suc length) from is (between, first, rest) =
    by (so_far.closed from is) (λ seen_it. no_way inner start count seen so_far length between (inr seen_it) rest)
  where
    by : IsAmong [] from ⊎ IsClosed inner start seen from → (IsSeen seen between → ⊥) → ⊥
    by (inl none) later = none
    by (inr closed) later = later (closed between first).1

pub search_none : (inner : ℕ → List ℕ) (start count : ℕ) (seen : List Bool) (pending : List ℕ) → SearchedSoFar inner start count seen pending → pending ≡ []
    → (length : ℕ) → Leads inner length start start → ⊥
search_none inner start count seen pending so_far none length leads =
    no_way inner start count seen (subst (SearchedSoFar inner start count seen) none so_far) length start (inl refl) leads

-- The result for the groups inside one is what the search needs.
pub search_told : (inner : ℕ → List ℕ) (start count from : ℕ) (seen seen' : List Bool) (pending front pending' here : List ℕ) (told : Bool)
    → SearchedSoFar inner start count seen pending → pending ≡ front ++ (from ∷ []) → here ≡ inner from → told ≡ true
    → Spreads here start seen seen' front pending' told → LeadsBack inner start
search_told inner start count from seen seen' pending front pending' here told so_far popped is true_told spreads =
    search_found inner start count from seen pending front so_far popped
    (subst (λ inside. IsAmong inside start) is (subst (Spreads here start seen seen' front pending') true_told spreads))

pub search_goes_on : (inner : ℕ → List ℕ) (start count from : ℕ) (seen seen' : List Bool) (pending front pending' here : List ℕ) (told : Bool)
    → SearchedSoFar inner start count seen pending → pending ≡ front ++ (from ∷ []) → here ≡ inner from → told ≡ false
    → Spreads here start seen seen' front pending' told → SearchedSoFar inner start count seen' pending'
search_goes_on inner start count from seen seen' pending front pending' here told so_far popped is false_told spreads =
    let both = subst (λ inside. Spreads inside start seen seen' front pending' false) is (subst (Spreads here start seen seen' front pending') false_told spreads) in
    search_next inner start count from seen seen' pending front pending' so_far popped both.0 both.1

-- A list that was filled as a slice is the slice.
pub filled : {A : Type 0} (old new : List A) (count : ℕ) → count ≡ length old → length new ≡ length old → take count (new ++ drop (length new) old) ≡ new
filled old new count long same =
    ap (λ rest. take count (new ++ rest)) (drop_all (length new) old (omega (arith, same))) ∙ ap (take count) (append-nil new)
    ∙ take_all count new (omega (arith, long, same))

pub none_left : (places : List ℕ) → length places ≡ 0 → places ≡ []
none_left [] none = refl
none_left (place ∷ places) none = absurd (omega (arith, none))

-- ---- Groups that are found in turn

pub finds_none : (seen : List Bool) (pending : List ℕ) → Finds [] seen seen pending pending
finds_none seen pending = record {
  long = refl;
  all = λ place is. absurd is;
  kept = λ place is. is;
  new = λ place is. inl is;
  still = λ place is. is;
  from = λ place is. inl is;
  work = omega arith;
}

pub finds_more : (done more : List ℕ) (seen middle seen' : List Bool) (pending between pending' : List ℕ) → Finds done seen middle pending between
    → Finds more middle seen' between pending' → Finds (done ++ more) seen seen' pending pending'
finds_more done more seen middle seen' pending between pending' was is = record {
  long = is.long ∙ was.long;
  all = λ other among. all_by other (among_either done more other among);
  kept = λ other seen_it. is.kept other (was.kept other seen_it);
  new = λ other seen_it. new_by other (is.new other seen_it);
  still = λ other among. is.still other (was.still other among);
  from = λ other among. from_by other (is.from other among);
  work = let first = was.work in let second = is.work in omega (arith, first, second);
}
  where
    all_by : (other : ℕ) → IsAmong done other ⊎ IsAmong more other → IsSeen seen' other
    all_by other (inl among) = is.kept other (was.all other among)
    all_by other (inr among) = is.all other among

    older : (other : ℕ) → IsSeen seen other ⊎ IsAmong between other → IsSeen seen other ⊎ IsAmong pending' other
    older other (inl seen_it) = inl seen_it
    older other (inr among) = inr (is.still other among)

    new_by : (other : ℕ) → IsSeen middle other ⊎ IsAmong pending' other → IsSeen seen other ⊎ IsAmong pending' other
    new_by other (inl seen_it) = older other (was.new other seen_it)
    new_by other (inr among) = inr among

    before : (other : ℕ) → IsAmong pending other ⊎ IsAmong done other → IsAmong pending other ⊎ IsAmong (done ++ more) other
    before other (inl among) = inl among
    before other (inr among) = inr (among_left done more other among)

    from_by : (other : ℕ) → IsAmong between other ⊎ IsAmong more other → IsAmong pending other ⊎ IsAmong (done ++ more) other
    from_by other (inl among) = before other (was.from other among)
    from_by other (inr among) = inr (among_right done more other among)

-- ---- A group that is found for the first time

pub same_or_not : (x y : ℕ) → (x ≡ y) ⊎ (x ≡ y → ⊥)
same_or_not zero zero = inl refl
same_or_not zero (suc y) = inr (λ same. omega (arith, same))
same_or_not (suc x) zero = inr (λ same. omega (arith, same))
same_or_not (suc x) (suc y) = more (same_or_not x y)
  where
    more : (x ≡ y) ⊎ (x ≡ y → ⊥) → (suc x ≡ suc y) ⊎ (suc x ≡ suc y → ⊥)
    more (inl same) = inl (ap suc same)
    more (inr apart) = inr (λ same. apart (omega (arith, same)))

-- How one more group changes the number of those that weren't found.
abbrev unseen_one : Bool → ℕ
unseen_one one = cond (not one) 1 0

fewer : (seen : List Bool) (place : ℕ) → place < length seen → get_or seen place false ≡ false → count_by not (set seen place true) + 1 ≡ count_by not seen
fewer [] place within unseen = absurd (omega (arith, within))
fewer (true ∷ seen) zero within unseen = absurd (cc)
fewer (false ∷ seen) zero within unseen =
    let now : count_by not (set (false ∷ seen) 0 true) ≡ 0 + count_by not seen = sum_by-cons unseen_one true seen in
    let was : count_by not (false ∷ seen) ≡ 1 + count_by not seen = sum_by-cons unseen_one false seen in
    omega (arith, now, was)
fewer (one ∷ seen) (suc place) within unseen =
    let now : count_by not (set (one ∷ seen) (suc place) true) ≡ unseen_one one + count_by not (set seen place true) =
    sum_by-cons unseen_one one (set seen place true) in
    let was : count_by not (one ∷ seen) ≡ unseen_one one + count_by not seen = sum_by-cons unseen_one one seen in
    let less = fewer seen place (omega (arith, within)) unseen in
    omega (arith, now, was, less)

pub note_old : (seen : List Bool) (place : ℕ) (pending : List ℕ) → IsSeen seen place → Finds (place ∷ []) seen seen pending pending
note_old seen place pending was = record {
  long = refl;
  all = λ other among. all_by other among;
  kept = λ other seen_it. seen_it;
  new = λ other seen_it. inl seen_it;
  still = λ other among. among;
  from = λ other among. inl among;
  work = omega arith;
}
  where
    all_by : (other : ℕ) → IsAmong (place ∷ []) other → IsSeen seen other
    all_by other (inl same) = subst (IsSeen seen) same was
    all_by other (inr none) = absurd none

pub note_new : (seen : List Bool) (place : ℕ) (pending pending' : List ℕ) → place < length seen → get_or seen place false ≡ false
    → pending' ≡ pending ++ (place ∷ []) → Finds (place ∷ []) seen (set seen place true) pending pending'
note_new seen place pending pending' within unseen is = record {
  long = length-set seen place true;
  all = λ other among. all_by other among;
  kept = λ other seen_it. kept_by other seen_it (same_or_not other place);
  new = λ other seen_it. new_by other seen_it (same_or_not other place);
  still = λ other among. subst (λ all. IsAmong all other) (sym is) (among_left pending (place ∷ []) other among);
  from = λ other among. among_either pending (place ∷ []) other (subst (λ all. IsAmong all other) is among);
  work = let less = fewer seen place within unseen in let long = ap length is in let parts = length-append pending (place ∷ []) in omega (arith, less, long, parts);
}
  where
    there : IsSeen (set seen place true) place
    there = get_or-set_same seen place true false within

    all_by : (other : ℕ) → IsAmong (place ∷ []) other → IsSeen (set seen place true) other
    all_by other (inl same) = subst (IsSeen (set seen place true)) same there
    all_by other (inr none) = absurd none

    kept_by : (other : ℕ) → IsSeen seen other → (other ≡ place) ⊎ (other ≡ place → ⊥) → IsSeen (set seen place true) other
    kept_by other seen_it (inl same) = subst (IsSeen (set seen place true)) (sym same) there
    kept_by other seen_it (inr apart) = get_or-set_other seen place other true false apart ∙ seen_it

    new_by : (other : ℕ) → IsSeen (set seen place true) other → (other ≡ place) ⊎ (other ≡ place → ⊥) → IsSeen seen other ⊎ IsAmong pending' other
    new_by other seen_it (inl same) = inr (subst (λ all. IsAmong all other) (sym is) (among_right pending (place ∷ []) other (inl (sym same))))
    new_by other seen_it (inr apart) = inl (sym (get_or-set_other seen place other true false apart) ∙ seen_it)

-- ---- The groups inside a group

-- So far none is the searched group, and all were found.
pub record SpreadSoFar (all left : List ℕ) (wanted : ℕ) (seen seen' : List Bool) (pending pending' : List ℕ) : Type 0 where
  pub done : List ℕ
  pub cut : all ≡ done ++ left
  pub not : IsAmong done wanted → ⊥
  pub finds : Finds done seen seen' pending pending'

pub spread_begin : (all : List ℕ) (wanted : ℕ) (seen : List Bool) (pending : List ℕ) → SpreadSoFar all all wanted seen seen pending pending
spread_begin all wanted seen pending = record { done = []; cut = refl; not = λ none. none; finds = finds_none seen pending }

pub spread_next : (all left left' : List ℕ) (wanted place : ℕ) (seen middle seen' : List Bool) (pending between pending' : List ℕ)
    → SpreadSoFar all left wanted seen middle pending between → left ≡ place ∷ left' → (place ≡ wanted → ⊥)
    → Finds (place ∷ []) middle seen' between pending' → SpreadSoFar all left' wanted seen seen' pending pending'
spread_next all left left' wanted place seen middle seen' pending between pending' so_far cut apart finds = record {
  done = so_far.done ++ (place ∷ []);
  cut = so_far.cut ∙ ap (λ more. so_far.done ++ more) cut ∙ sym (append_assoc so_far.done (place ∷ []) left');
  not = λ among. none (among_either so_far.done (place ∷ []) wanted among);
  finds = finds_more so_far.done (place ∷ []) seen middle seen' pending between pending' so_far.finds finds;
}
  where
    none : IsAmong so_far.done wanted ⊎ IsAmong (place ∷ []) wanted → ⊥
    none (inl among) = so_far.not among
    none (inr (inl same)) = apart same
    none (inr (inr nowhere)) = nowhere

pub spread_found : (all left left' : List ℕ) (wanted : ℕ) (seen middle : List Bool) (pending between : List ℕ)
    → SpreadSoFar all left wanted seen middle pending between → left ≡ wanted ∷ left' → IsAmong all wanted
spread_found all left left' wanted seen middle pending between so_far cut =
    subst (λ lines. IsAmong lines wanted) (sym (so_far.cut ∙ ap (λ more. so_far.done ++ more) cut))
    (among_right so_far.done (wanted ∷ left') wanted (inl refl))

pub spread_end : (all left : List ℕ) (wanted : ℕ) (seen seen' : List Bool) (pending pending' : List ℕ)
    → SpreadSoFar all left wanted seen seen' pending pending' → left ≡ [] → (IsAmong all wanted → ⊥) × Finds all seen seen' pending pending'
spread_end all left wanted seen seen' pending pending' so_far none =
    let is : all ≡ so_far.done = so_far.cut ∙ ap (λ more. so_far.done ++ more) none ∙ append-nil so_far.done in
    (λ among. so_far.not (subst (λ lines. IsAmong lines wanted) is among), subst (λ lines. Finds lines seen seen' pending pending') (sym is) so_far.finds)

-- ---- Places

within_from : (test : List ℕ → Bool) (first : ℕ) (names : List (List ℕ)) (place : ℕ) → position_from test first names ≡ Some place
    → place < first + length names
within_from test first [] place is = absurd (cc)
within_from test first (name ∷ names) place is = by (test name) is (λ later. within_from test (first + 1) names place later)
  where
    by : (found : Bool) → cond found (Some first) (position_from test (first + 1) names) ≡ Some place
        → (position_from test (first + 1) names ≡ Some place → place < (first + 1) + length names) → place < first + length (name ∷ names)
    by true here later = let same : first ≡ place = cc in omega (arith, same)
    by false there later = let less = later there in omega (arith, less)

-- a group that is found is one of the nest
pub place_within : (nest : Nest) (name : List ℕ) (place : ℕ) → group_place nest name ≡ Some place → place < length nest.groups
place_within nest name place is =
    let less = within_from (bytes_eq name) 0 (map (λ (group : Group). group.name) nest.groups) place is in
    let long = length-map nest.groups (λ (group : Group). group.name) in
    omega (arith, less, long)
