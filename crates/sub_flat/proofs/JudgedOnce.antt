-- Every nest breaks no rule or is refused: each rule can be decided for each group, so that there is a least
-- line.
use Rattle.std.proofs.Common.{◌≡◌, ◌≤◌, ◌<◌, ℕ, zero, suc, ◌+◌, Bool, true, false, List, [], ◌∷◌, ◌++◌, length, map, inl, inr, Option, Some, None, refl, sym, ap, subst, arith, get_or, length-append}
use Rattle.std.specs.Prelude.{◌⊎◌, nat_le, slice_get}
use Rattle.std.specs.List.{list_all}
use Rattle.std.proofs.Math.ListN.{set}
use Rattle.std.proofs.lemmas.List.{length-map}
use Rattle.unit_print.specs.Fitting.{are_short, line_fits}
use Rattle.unit_print.proofs.PrintableLaws.{Passes, printable_passes, printable_told}
use Rattle.unit_tree.specs.Canonical.{canonical_forms, canonical_text}
use Rattle.unit_tree.specs.Ports.{IsAmong}
use Rattle.unit_tree.specs.Printable.{IsPrintable, step_depth}
use Rattle.unit_tree.specs.declared.system.System.{System}
use Rattle.nest_text.specs.declared.nest.Group.{Group}
use Rattle.nest_text.specs.declared.nest.Nest.{Nest}
use Rattle.sub_flat.specs.Cycles.{LeadsBack, inner_places}
use Rattle.nest_names.specs.Flattening.{flat_of}
use Rattle.sub_flat.specs.FlatReading.{IsLeast, MissesAt, is_less}
use Rattle.sub_flat.specs.GroupTests.{is_misnamed, main_misses_port, misses_port}
use Rattle.sub_flat.specs.Laws.{IsJudgedOnce}
use Rattle.sub_flat.specs.NestRules.{AtGroup, BreaksGroup, BreaksNest, IsRefusedNest, IsTooLarge}
use Rattle.sub_flat.specs.Searching.{Finds, IsSeen, work_left}
use Rattle.sub_flat.specs.declared.judge.GroupRule.{GroupRule}
use Rattle.sub_flat.specs.declared.judge.GroupRule.TheVariants as rules
use Rattle.sub_flat.proofs.JudgeLaws.{AtBefore, at_none, kept_rules, least_begin, least_broken, least_end, least_not_broken, least_not_less, main_least, main_misses_none, main_not_less, names_refused, nesting_refused, ports_refused, size_refused}
use Rattle.sub_flat.proofs.NestingLaws.{less_or_more, places_within}
use Rattle.sub_flat.proofs.SearchLaws.{SearchedSoFar, finds_more, finds_none, note_new, note_old, same_or_not, search_begin, search_found, search_next, search_none}

-- A proposition is true, or it isn't.
abbrev Told : Type 0 → Type 0
Told A = A ⊎ (A → ⊥)

told_true : (test : Bool) → Told (test ≡ true)
told_true true = inl refl
told_true false = inr (λ same. absurd (cc))

told_both : {A B : Type 0} → Told A → Told B → Told (A × B)
told_both (inl one) (inl other) = inl (one, other)
told_both (inr none) other = inr (λ both. none both.0)
told_both (inl one) (inr none) = inr (λ both. none both.1)

told_either : {A B : Type 0} → Told A → Told B → Told (A ⊎ B)
told_either (inl one) other = inl (inl one)
told_either (inr none) (inl other) = inl (inr other)
told_either {A} {B} (inr none) (inr none') = inr (λ either. by either)
  where
    by : A ⊎ B → ⊥
    by (inl one) = none one
    by (inr other) = none' other

told_not : {A : Type 0} → Told A → Told (A → ⊥)
told_not (inl one) = inr (λ none. none one)
told_not (inr none) = inl none

told_less : (m n : ℕ) → Told (m < n)
told_less m n = by (less_or_more m n)
  where
    by : (m < n) ⊎ (n ≤ m) → Told (m < n)
    by (inl less) = inl less
    by (inr not) = inr (λ less. omega (arith, less, not))

-- ---- A group that contains itself

told_among : (places : List ℕ) (place : ℕ) → Told (IsAmong places place)
told_among [] place = inr (λ among. among)
told_among (first ∷ places) place = told_either (same_or_not first place) (told_among places place)

-- The groups of a list are found.
pub record Found (places : List ℕ) (seen : List Bool) (pending : List ℕ) : Type 0 where
  pub seen' : List Bool
  pub pending' : List ℕ
  pub finds : Finds places seen seen' pending pending'

find_one : (place : ℕ) (seen : List Bool) (pending : List ℕ) → place < length seen → Found (place ∷ []) seen pending
find_one place seen pending within = by (get_or seen place false) refl
  where
    by : (was : Bool) → get_or seen place false ≡ was → Found (place ∷ []) seen pending
    by true is = record { seen' = seen; pending' = pending; finds = note_old seen place pending is }
    by false is = record {
      seen' = set seen place true;
      pending' = pending ++ (place ∷ []);
      finds = note_new seen place pending (pending ++ (place ∷ [])) within is refl;
    }

find_all : (places : List ℕ) (seen : List Bool) (pending : List ℕ) → ((place : ℕ) → IsAmong places place → place < length seen) → Found places seen pending
find_all [] seen pending within = record { seen' = seen; pending' = pending; finds = finds_none seen pending }
find_all (place ∷ places) seen pending within =
    let one = find_one place seen pending (within place (inl refl)) in
    let long = one.finds.long in
    let rest = find_all places one.seen' one.pending' (λ other among. let less = within other (inr among) in omega (arith, long, less)) in
    record {
      seen' = rest.seen';
      pending' = rest.pending';
      finds = finds_more (place ∷ []) places seen one.seen' rest.seen' pending one.pending' rest.pending' one.finds rest.finds;
    }

pub record Last (places : List ℕ) : Type 0 where
  pub front : List ℕ
  pub last : ℕ
  pub is : places ≡ front ++ (last ∷ [])

last_of : (places : List ℕ) → (places ≡ []) ⊎ Last places
last_of [] = inl refl
last_of (place ∷ places) = inr (by (last_of places))
  where
    by : (places ≡ []) ⊎ Last places → Last (place ∷ places)
    by (inl none) = record { front = []; last = place; is = ap (λ rest. place ∷ rest) none }
    by (inr some) = record { front = place ∷ some.front; last = some.last; is = ap (λ rest. place ∷ rest) some.is }

search_ends : (inner : ℕ → List ℕ) (start count : ℕ) (seen : List Bool) (pending : List ℕ) → SearchedSoFar inner start count seen pending → pending ≡ []
    → Told (LeadsBack inner start)
search_ends inner start count seen pending so_far is = inr (λ back. search_none inner start count seen pending so_far is back.0 back.1)

-- One group is visited, and then the rest.
search_on : (inner : ℕ → List ℕ) (start count : ℕ) → ((place other : ℕ) → IsAmong (inner place) other → other < count) → (fuel : ℕ)
    → ((seen : List Bool) (pending : List ℕ) → SearchedSoFar inner start count seen pending → work_left seen pending ≤ fuel → Told (LeadsBack inner start))
    → (seen : List Bool) (pending : List ℕ) → SearchedSoFar inner start count seen pending → work_left seen pending ≤ suc fuel → Last pending
    → Told (LeadsBack inner start)
search_on inner start count within fuel rest seen pending so_far enough some = on (told_among (inner some.last) start)
  where
    on : Told (IsAmong (inner some.last) start) → Told (LeadsBack inner start)
    on (inl among) = inl (search_found inner start count some.last seen pending some.front so_far some.is among)
    on (inr apart) =
        let long = so_far.long in
        let found = find_all (inner some.last) seen some.front (λ other among. let less = within some.last other among in omega (arith, long, less)) in
        let work = found.finds.work in
        let whole = ap length some.is in
        let parts = length-append some.front (some.last ∷ []) in
        rest found.seen' found.pending'
        (search_next inner start count some.last seen found.seen' pending some.front found.pending' so_far some.is apart found.finds)
        (omega (arith, work, whole, parts, enough))

searched : (inner : ℕ → List ℕ) (start count : ℕ) → ((place other : ℕ) → IsAmong (inner place) other → other < count) → (fuel : ℕ) (seen : List Bool)
    (pending : List ℕ) → SearchedSoFar inner start count seen pending → work_left seen pending ≤ fuel → Told (LeadsBack inner start)
searched inner start count within zero seen pending so_far enough = by (last_of pending)
  where
    by : (pending ≡ []) ⊎ Last pending → Told (LeadsBack inner start)
    by (inl is) = search_ends inner start count seen pending so_far is
    by (inr some) =
        let long = ap length some.is in let parts = length-append some.front (some.last ∷ []) in absurd (omega (arith, enough, long, parts))
searched inner start count within (suc fuel) seen pending so_far enough =
    by (λ seen pending so_far enough. searched inner start count within fuel seen pending so_far enough) (last_of pending)
  where
    by : ((seen : List Bool) (pending : List ℕ) → SearchedSoFar inner start count seen pending → work_left seen pending ≤ fuel → Told (LeadsBack inner start))
        → (pending ≡ []) ⊎ Last pending → Told (LeadsBack inner start)
    by rest (inl is) = search_ends inner start count seen pending so_far is
    by rest (inr some) = search_on inner start count within fuel rest seen pending so_far enough some

none_seen : {A : Type 0} (items : List A) (place : ℕ) → IsSeen (map (λ item. false) items) place → ⊥
none_seen [] place is = absurd (cc)
none_seen (item ∷ items) zero is = absurd (cc)
none_seen (item ∷ items) (suc place) is = none_seen items place is

told_back : (nest : Nest) (place : ℕ) → Told (LeadsBack (inner_places nest) place)
told_back nest place =
    let seen = map (λ (group : Group). false) nest.groups in
    searched (inner_places nest) place (length nest.groups) (places_within nest) (work_left seen (place ∷ [])) seen (place ∷ [])
    (search_begin (inner_places nest) place (length nest.groups) seen (length-map nest.groups (λ (group : Group). false)) (none_seen nest.groups)) (omega arith)

-- ---- Rules of groups

told_breaks : (nest : Nest) (broken : GroupRule) (place : ℕ) (group : Group) → Told (BreaksGroup broken nest place group)
told_breaks nest rules.Names place group = told_true (is_misnamed nest group)
told_breaks nest rules.Nesting place group = told_back nest place
told_breaks nest rules.Ports place group = told_true (misses_port nest group)

pub record Least (BreaksAt : ℕ → Type 0) : Type 0 where
  pub least : Option ℕ
  pub is : IsLeast BreaksAt least

least_before : (nest : Nest) (broken : GroupRule) (place : ℕ) → Least (AtBefore nest broken place)
least_before nest broken zero = record { least = None; is = least_begin nest broken }
least_before nest broken (suc place) = next (least_before nest broken place)
  where
    next : Least (AtBefore nest broken place) → Least (AtBefore nest broken (suc place))
    next so_far = by (slice_get nest.groups place) (slice_get nest.lines place) refl refl
      where
        one_more : suc place ≡ place + 1
        one_more = omega arith

        moved : (least : Option ℕ) → IsLeast (AtBefore nest broken (place + 1)) least → Least (AtBefore nest broken (suc place))
        moved least is = record { least = least; is = subst (λ n. IsLeast (AtBefore nest broken n) least) (sym one_more) is }

        on : (group : Group) (line : ℕ) → slice_get nest.groups place ≡ Some group → slice_get nest.lines place ≡ Some line → (less : Bool)
            → is_less line so_far.least ≡ less → Told (BreaksGroup broken nest place group) → Least (AtBefore nest broken (suc place))
        on group line there at false not told = moved so_far.least (least_not_less nest broken place line group so_far.least there at not so_far.is)
        on group line there at true less (inl breaks) = moved (Some line) (least_broken nest broken place line group so_far.least there at less breaks so_far.is)
        on group line there at true less (inr not) = moved so_far.least (least_not_broken nest broken place line group so_far.least there at not so_far.is)

        by : (group : Option Group) (line : Option ℕ) → slice_get nest.groups place ≡ group → slice_get nest.lines place ≡ line
            → Least (AtBefore nest broken (suc place))
        by None line there at = moved so_far.least (at_none nest broken place so_far.least (inl there) so_far.is)
        by (Some group) None there at = moved so_far.least (at_none nest broken place so_far.least (inr at) so_far.is)
        by (Some group) (Some line) there at = on group line there at (is_less line so_far.least) refl (told_breaks nest broken place group)

least_of : (nest : Nest) (broken : GroupRule) → Least (AtGroup nest broken)
least_of nest broken =
    let all = least_before nest broken (length nest.groups) in
    record { least = all.least; is = least_end nest broken (length nest.groups) all.least (omega arith) all.is }

least_miss : (nest : Nest) → Least (MissesAt nest)
least_miss nest = by (least_of nest rules.Ports)
  where
    by : Least (AtGroup nest rules.Ports) → Least (MissesAt nest)
    by ports = on (is_less nest.main_line ports.least) (main_misses_port nest) refl refl
      where
        on : (less misses : Bool) → is_less nest.main_line ports.least ≡ less → main_misses_port nest ≡ misses → Least (MissesAt nest)
        on false misses not is = record { least = ports.least; is = main_not_less nest ports.least ports.is not }
        on true false less is = record { least = ports.least; is = main_misses_none nest ports.least ports.is is }
        on true true less is = record { least = Some nest.main_line; is = main_least nest ports.least ports.is less is }

-- ---- Size

told_most : (m n : ℕ) → Told (m ≤ n)
told_most m n = by (less_or_more n m)
  where
    by : (n < m) ⊎ (m ≤ n) → Told (m ≤ n)
    by (inl less) = inr (λ most. omega (arith, less, most))
    by (inr most) = inl most

abbrev Tests : System → Type 0
Tests system =
    ((list_all (line_fits system.version) (canonical_forms system) ≡ true) × (list_all (λ unit. nat_le (step_depth unit.step) 16) system.units ≡ true))
    × ((length (canonical_text system) ≤ 1048576) × (are_short 0 (canonical_text system) ≡ true))

told_tests : (system : System) → Told (Tests system)
told_tests system = told_both (told_both (told_true _) (told_true _)) (told_both (told_most _ _) (told_true _))

told_passes : (system : System) → Told (Passes system)
told_passes system = by (told_tests system)
  where
    by : Told (Tests system) → Told (Passes system)
    by (inl tests) = inl (record { lines = tests.0.0; blocks = tests.0.1; text = tests.1.0; short = tests.1.1 })
    by (inr not) = inr (λ passes. not ((passes.lines, passes.blocks), (passes.text, passes.short)))

told_printable : (system : System) → Told (IsPrintable system)
told_printable system = by (told_passes system)
  where
    by : Told (Passes system) → Told (IsPrintable system)
    by (inl passes) = inl (printable_told system passes)
    by (inr not) = inr (λ printable. not (printable_passes system printable))

told_large : (nest : Nest) → Told (IsTooLarge nest)
told_large nest =
    told_either (told_less 64 (length (flat_of nest).instances))
    (told_either (told_less 2048 (length (flat_of nest).wires)) (told_not (told_printable (flat_of nest))))

-- ---- All rules

abbrev Judged : Nest → Type 0
Judged nest = ((line rule : ℕ) → BreaksNest nest line rule → ⊥) ⊎ ((line : ℕ) × (rule : ℕ) × IsRefusedNest nest line rule)

judged_size : (nest : Nest) → IsLeast (AtGroup nest rules.Names) None → IsLeast (AtGroup nest rules.Nesting) None → IsLeast (MissesAt nest) None
    → Told (IsTooLarge nest) → Judged nest
judged_size nest names nesting ports (inl large) = inr (nest.main_line, 30, size_refused nest (kept_rules nest names nesting ports) large)
judged_size nest names nesting ports (inr not) = inl (λ line rule broken. by line rule broken)
  where
    by : (line rule : ℕ) → BreaksNest nest line rule → ⊥
    by line rule (inl (same, at)) = names line at
    by line rule (inr (inl (same, at))) = nesting line at
    by line rule (inr (inr (inl (same, at)))) = ports line at
    by line rule (inr (inr (inr broken))) = not broken.1

judged : (nest : Nest) → Judged nest
judged nest = by (least_of nest rules.Names).least (least_of nest rules.Nesting).least (least_miss nest).least (least_of nest rules.Names).is
    (least_of nest rules.Nesting).is (least_miss nest).is
  where
    by : (names nesting ports : Option ℕ) → IsLeast (AtGroup nest rules.Names) names → IsLeast (AtGroup nest rules.Nesting) nesting
        → IsLeast (MissesAt nest) ports → Judged nest
    by (Some line) nesting ports is inside misses = inr (line, 27, names_refused nest line is)
    by None (Some line) ports is inside misses = inr (line, 28, nesting_refused nest line is inside)
    by None None (Some line) is inside misses = inr (line, 29, ports_refused nest line is inside misses)
    by None None None is inside misses = judged_size nest is inside misses (told_large nest)

one_refused : (nest : Nest) (line rule other by : ℕ) → IsRefusedNest nest line rule → IsRefusedNest nest other by → (line ≡ other) × (rule ≡ by)
one_refused nest line rule other by one second = told (one.least other by second.breaks) (second.least line rule one.breaks)
  where
    told : (rule < by) ⊎ ((rule ≡ by) × (line ≤ other)) → (by < rule) ⊎ ((by ≡ rule) × (other ≤ line)) → (line ≡ other) × (rule ≡ by)
    told (inl less) (inl more) = absurd (omega (arith, less, more))
    told (inl less) (inr (same, more)) = absurd (omega (arith, less, same))
    told (inr (same, less)) (inl more) = absurd (omega (arith, same, more))
    told (inr (same, less)) (inr (again, more)) = (omega (arith, less, more), same)

pub judged_once : (nest : Nest) → IsJudgedOnce nest
judged_once nest = record {
  judged = judged nest;
  one_refusal = one_refused nest;
  not_both = λ line rule none refused. none line rule refused.breaks;
}
