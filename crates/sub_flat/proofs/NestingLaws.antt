-- Groups inside groups by lists, and levels of groups.
use Rattle.std.proofs.Common.{◌≡◌, ℕ, zero, suc, ◌+◌, ◌≤◌, ◌<◌, Bool, true, false, List, [], ◌∷◌, ◌++◌, length, inl, inr, Option, Some, None, refl, sym, ap, subst, ◌∙◌, arith, get_or, length-append}
use Rattle.std.specs.Prelude.{◌⊎◌, ◌==◌, ◌||◌, ◌&&◌, nat_le}
use Rattle.std.specs.List.{cons_option, filter_map, list_all, list_any}
use Rattle.std.specs.Option.{option_map, unwrap_or}
use Rattle.std.proofs.lemmas.Bool.Decides.{nat_tests}
use Rattle.std.proofs.lemmas.Option.{slice_get_past}
use Rattle.unit_tree.specs.Ports.{IsAmong}
use Rattle.unit_tree.specs.declared.system.Instance.{Instance}
use Rattle.nest_text.specs.declared.nest.Group.{Group}
use Rattle.nest_text.specs.declared.nest.Nest.{Nest}
use Rattle.sub_flat.specs.Cycles.{Leads, LeadsBack, inner_places}
use Rattle.nest_names.proofs.NamedLists.{inside_front, inside_last}
use Rattle.nest_names.specs.Flattening.{group_place, instances_of}
use Rattle.nest_names.specs.Tables.{inside_of}
use Rattle.sub_flat.specs.Searching.{AreFalling, AreSure, AreWithin, level_at}
use Rattle.sub_flat.proofs.SearchLaws.{place_within}

-- ---- Lists by places

pub less_or_more : (m n : ℕ) → (m < n) ⊎ (n ≤ m)
less_or_more zero zero = inr (omega arith)
less_or_more zero (suc n) = inl (omega arith)
less_or_more (suc m) zero = inr (omega arith)
less_or_more (suc m) (suc n) = more (less_or_more m n)
  where
    more : (m < n) ⊎ (n ≤ m) → (suc m < suc n) ⊎ (suc n ≤ suc m)
    more (inl less) = inl (omega (arith, less))
    more (inr not) = inr (omega (arith, not))

-- The lists so far are those of the first places.
pub record ListedSoFar (told : ℕ → List ℕ) (lists : List (List ℕ)) (place : ℕ) : Type 0 where
  pub long : length lists ≡ place
  pub each : (k : ℕ) → k < place → inside_of lists k ≡ told k

pub listed_begin : (told : ℕ → List ℕ) → ListedSoFar told [] 0
listed_begin told = record { long = refl; each = λ k less. absurd (omega (arith, less)) }

pub listed_next : (told : ℕ → List ℕ) (lists lists' : List (List ℕ)) (one : List ℕ) (place : ℕ) → ListedSoFar told lists place → one ≡ told place
    → lists' ≡ lists ++ one ∷ [] → ListedSoFar told lists' (place + 1)
listed_next told lists lists' one place so_far is more = record {
  long = let parts = length-append lists (one ∷ []) in let long = so_far.long in let all = ap length more in omega (arith, parts, long, all);
  each = λ k less. ap (λ all. inside_of all k) more ∙ by k less (less_or_more k place);
}
  where
    by : (k : ℕ) → k < place + 1 → (k < place) ⊎ (place ≤ k) → inside_of (lists ++ one ∷ []) k ≡ told k
    by k less (inl before) = let long = so_far.long in inside_front lists one k (omega (arith, long, before)) ∙ so_far.each k before
    by k less (inr not) =
        let same : k ≡ place = omega (arith, less, not) in
        subst (λ n. inside_of (lists ++ one ∷ []) n ≡ told n) (so_far.long ∙ sym same)
        (inside_last lists one ∙ is ∙ ap told (sym so_far.long))

past_places : (nest : Nest) (place : ℕ) → length nest.groups ≤ place → inner_places nest place ≡ []
past_places nest place past =
    ap (λ (found : Option Group). filter_map (λ (instance : Instance). group_place nest instance.unit)
    (unwrap_or (option_map (λ (group : Group). group.instances) found) [])) (slice_get_past nest.groups place past)

pub listed_all : (nest : Nest) (lists : List (List ℕ)) → ListedSoFar (inner_places nest) lists (length nest.groups)
    → (place : ℕ) → inside_of lists place ≡ inner_places nest place
listed_all nest lists so_far place = by (less_or_more place (length nest.groups))
  where
    by : (place < length nest.groups) ⊎ (length nest.groups ≤ place) → inside_of lists place ≡ inner_places nest place
    by (inl less) = so_far.each place less
    by (inr past) =
        let long = so_far.long in
        ap (λ found. unwrap_or found []) (slice_get_past lists place (omega (arith, long, past))) ∙ sym (past_places nest place past)

among_found : {A : Type 0} (f : A → Option ℕ) (items : List A) (other : ℕ) → IsAmong (filter_map f items) other → (item : A) × (f item ≡ Some other)
among_found f [] other among = absurd among
among_found f (item ∷ items) other among = by (f item) refl among (λ behind. among_found f items other behind)
  where
    by : (found : Option ℕ) → f item ≡ found → IsAmong (cons_option found (filter_map f items)) other
        → (IsAmong (filter_map f items) other → (item : _) × (f item ≡ Some other)) → (item : _) × (f item ≡ Some other)
    by None is among rest = rest among
    by (Some place) is (inl same) rest = (item, is ∙ ap (λ one. Some one) same)
    by (Some place) is (inr among) rest = rest among

pub places_within : (nest : Nest) (place other : ℕ) → IsAmong (inner_places nest place) other → other < length nest.groups
places_within nest place other among =
    let found = among_found (λ (instance : Instance). group_place nest instance.unit) (instances_of nest (Some place)) other among in
    place_within nest found.0.unit other found.1

pub listed_within : (nest : Nest) (lists : List (List ℕ)) → ListedSoFar (inner_places nest) lists (length nest.groups) → AreWithin lists
listed_within nest lists so_far place other among =
    let less = places_within nest place other (subst (λ inner. IsAmong inner other) (listed_all nest lists so_far place) among) in
    let long = so_far.long in
    omega (arith, less, long)

-- ---- Levels

pub below_told : (f : ℕ → ℕ) (own : ℕ) (inner : List ℕ) → list_all (λ other. nat_le (f other) own) inner ≡ true → (other : ℕ) → IsAmong inner other → f other ≤ own
below_told f own [] all other among = absurd among
below_told f own (first ∷ inner) all other among = by (nat_le (f first) own) refl all among (λ all behind. below_told f own inner all other behind)
  where
    by : (told : Bool) → nat_le (f first) own ≡ told → (told && list_all (λ other. nat_le (f other) own) inner) ≡ true → IsAmong (first ∷ inner) other
        → (list_all (λ other. nat_le (f other) own) inner ≡ true → IsAmong inner other → f other ≤ own) → f other ≤ own
    by false is all among rest = absurd (cc)
    by true is all (inl same) rest = subst (λ one. f one ≤ own) same (grind (arith, nat_tests, is))
    by true is all (inr among) rest = rest all among

pub level_apart : (f : ℕ → ℕ) (own : ℕ) (inner : List ℕ) → list_any (λ other. f other == own) inner ≡ false → (other : ℕ) → IsAmong inner other → f other ≡ own → ⊥
level_apart f own [] none other among same = among
level_apart f own (first ∷ inner) none other among same = by (f first == own) refl none among (λ none behind. level_apart f own inner none other behind same)
  where
    by : (told : Bool) → (f first == own) ≡ told → (told || list_any (λ other. f other == own) inner) ≡ false → IsAmong (first ∷ inner) other
        → (list_any (λ other. f other == own) inner ≡ false → IsAmong inner other → ⊥) → ⊥
    by true is none among rest = absurd (cc)
    by false is none (inl one) rest =
        let here : f first ≡ own = ap f one ∙ same in
        let test : (f first == own) ≡ true = grind (arith, nat_tests, here) in
        absurd (cc)
    by false is none (inr among) rest = rest none among

falls_along : (lists : List (List ℕ)) (levels : List ℕ) → AreFalling lists levels → (count from to : ℕ) → Leads (inside_of lists) count from to
    → level_at levels to ≤ level_at levels from
falls_along lists levels falling zero from to leads = falling from to leads
falls_along lists levels falling (suc count) from to (between, first, rest) =
    let one = falling from between first in
    let more = falls_along lists levels falling count between to rest in
    omega (arith, one, more)

-- A group that has none on its own level inside doesn't contain itself.
pub no_way_back : (lists : List (List ℕ)) (levels : List ℕ) (place : ℕ) → AreFalling lists levels
    → list_any (λ other. level_at levels other == level_at levels place) (inside_of lists place) ≡ false → LeadsBack (inside_of lists) place → ⊥
no_way_back lists levels place falling none (count, leads) = by count leads
  where
    by : (count : ℕ) → Leads (inside_of lists) count place place → ⊥
    by zero leads = level_apart (level_at levels) (level_at levels place) (inside_of lists place) none place leads refl
    by (suc count) (between, first, rest) =
        let one = falling place between first in
        let more = falls_along lists levels falling count between place rest in
        level_apart (level_at levels) (level_at levels place) (inside_of lists place) none between first (omega (arith, one, more))

inside_within : (lists : List (List ℕ)) (place other : ℕ) → IsAmong (inside_of lists place) other → place < length lists
inside_within [] place other among = absurd among
inside_within (one ∷ lists) zero other among = omega arith
inside_within (one ∷ lists) (suc place) other among = let less = inside_within lists place other among in omega (arith, less)

-- So far no group is on a lower level than one inside it.
abbrev pub FallingSoFar : List (List ℕ) → List ℕ → ℕ → Type 0
FallingSoFar lists levels count =
    (place other : ℕ) → place < count → IsAmong (inside_of lists place) other → level_at levels other ≤ level_at levels place

pub falling_next : (lists : List (List ℕ)) (levels : List ℕ) (place own : ℕ) (inner : List ℕ) (told : Bool) → FallingSoFar lists levels place
    → inner ≡ inside_of lists place → own ≡ level_at levels place → told ≡ list_all (λ other. nat_le (level_at levels other) own) inner → told ≡ true
    → FallingSoFar lists levels (place + 1)
falling_next lists levels place own inner told so_far is level judged holds k other less among = by (less_or_more k place)
  where
    by : (k < place) ⊎ (place ≤ k) → level_at levels other ≤ level_at levels k
    by (inl before) = so_far k other before among
    by (inr not) =
        let same : k ≡ place = omega (arith, less, not) in
        subst (λ most. level_at levels other ≤ most) (level ∙ ap (level_at levels) (sym same))
        (below_told (level_at levels) own inner (sym judged ∙ holds) other
        (subst (λ inside. IsAmong inside other) (ap (inside_of lists) same ∙ sym is) among))

pub falling_end : (lists : List (List ℕ)) (levels : List ℕ) (count : ℕ) → length lists ≤ count → FallingSoFar lists levels count → AreFalling lists levels
falling_end lists levels count past so_far place other among =
    let less = inside_within lists place other among in so_far place other (omega (arith, less, past)) among

pub level_sure : (lists : List (List ℕ)) (levels : List ℕ) (place own : ℕ) (inner : List ℕ) (told : Bool) → AreFalling lists levels
    → inner ≡ inside_of lists place → own ≡ level_at levels place → told ≡ list_any (λ other. level_at levels other == own) inner → told ≡ false
    → LeadsBack (inside_of lists) place → ⊥
level_sure lists levels place own inner told falling is level judged never =
    no_way_back lists levels place falling
    (sym (ap (λ most. list_any (λ other. level_at levels other == most) inner) level ∙ ap (list_any (λ other. level_at levels other == level_at levels place)) is)
    ∙ sym judged ∙ never)

-- ---- Doubtful groups

pub sure_begin : (lists : List (List ℕ)) → AreSure lists []
sure_begin lists place sure back = absurd (cc)

pub sure_next : (lists : List (List ℕ)) (doubtful doubtful' : List Bool) (told : Bool) (place : ℕ) → AreSure lists doubtful → length doubtful ≡ place
    → (told ≡ false → LeadsBack (inside_of lists) place → ⊥) → doubtful' ≡ doubtful ++ told ∷ [] → AreSure lists doubtful'
sure_next lists doubtful doubtful' told place sure long here more k is =
    by k (less_or_more k (length doubtful)) (less_or_more (length doubtful) k) (sym (ap (λ all. get_or all k true) more) ∙ is)
  where
    front : (all : List Bool) (k : ℕ) → k < length all → get_or (all ++ told ∷ []) k true ≡ get_or all k true
    front [] k less = absurd (omega (arith, less))
    front (one ∷ all) zero less = refl
    front (one ∷ all) (suc k) less = front all k (omega (arith, less))

    last : (all : List Bool) → get_or (all ++ told ∷ []) (length all) true ≡ told
    last [] = refl
    last (one ∷ all) = last all

    behind : (all : List Bool) (k : ℕ) → length all < k → get_or (all ++ told ∷ []) k true ≡ true
    behind [] zero less = absurd (omega (arith, less))
    behind [] (suc k) less = refl
    behind (one ∷ all) zero less = absurd (omega (arith, less))
    behind (one ∷ all) (suc k) less = behind all k (omega (arith, less))

    by : (k : ℕ) → (k < length doubtful) ⊎ (length doubtful ≤ k) → (length doubtful < k) ⊎ (k ≤ length doubtful)
        → get_or (doubtful ++ told ∷ []) k true ≡ false → LeadsBack (inside_of lists) k → ⊥
    by k (inl less) other is = sure k (sym (front doubtful k less) ∙ is)
    by k (inr not) (inl more) is = let there = behind doubtful k more in absurd (cc)
    by k (inr not) (inr no_more) is =
        let same : length doubtful ≡ k = omega (arith, not, no_more) in
        subst (λ n. LeadsBack (inside_of lists) n → ⊥) (sym long ∙ same) (here (sym (last doubtful) ∙ (subst (λ n. get_or (doubtful ++ told ∷ []) n true ≡ false) (sym same) is)))
