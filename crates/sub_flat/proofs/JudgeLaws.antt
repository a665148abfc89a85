-- The rules of groups, judged in turn.
use Rattle.std.proofs.Common.{◌≡◌, ◌≤◌, ◌<◌, ℕ, ◌+◌, Bool, true, false, List, length, inl, inr, Option, Some, None, Result, Ok, Err, IsTrue, refl, sym, ap, subst, ◌∙◌, arith, get_or}
use Rattle.std.specs.Prelude.{◌⊎◌, ◌↔◌, if◌then◌else◌, slice_get, ⊤}
use Rattle.std.proofs.lemmas.Bool.Decides.{nat_tests}
use Rattle.std.proofs.lemmas.Option.{slice_get-get_or, slice_get_within}
use Rattle.list_laws.proofs.Members.{read_at}
use Rattle.unit_tree.specs.declared.system.System.{System}
use Rattle.nest_text.specs.declared.fault.NestFault.{NestFault}
use Rattle.nest_text.specs.declared.fault.NestFault.TheVariants as fault
use Rattle.nest_text.specs.declared.nest.Group.{Group}
use Rattle.nest_text.specs.declared.nest.Nest.{Nest}
use Rattle.sub_flat.specs.FlatReading.{AnswersFlat, IsKeptPrintable, IsLeast, IsRefusedBy, JudgesLeast, JudgesNest, JudgesParts, MakesParts, MissesAt, Refuses, RefusesLeast, is_less, refusal_of, with_parts}
use Rattle.sub_flat.specs.declared.fault.Unflat.{Unflat}
use Rattle.sub_flat.specs.declared.fault.Unflat.TheVariants as unflat
use Rattle.sub_flat.specs.declared.flat.FlatParts.{FlatParts}
use Rattle.nest_names.specs.Flattening.{flat_of}
use Rattle.unit_tree.specs.Printable.{IsPrintable}
use Rattle.sub_flat.specs.GroupTests.{main_misses_port}
use Rattle.sub_flat.specs.NestRules.{AtGroup, BreaksGroup, BreaksNest, IsRefusedNest, IsTooLarge}
use Rattle.sub_flat.proofs.NestingLaws.{less_or_more}
use Rattle.sub_flat.specs.declared.judge.GroupRule.{GroupRule}
use Rattle.sub_flat.specs.declared.judge.GroupRule.TheVariants as rules

-- ---- The least line

-- A group before a place breaks the rule.
abbrev pub AtBefore : Nest → GroupRule → ℕ → ℕ → Type 0
AtBefore nest broken place line = (at : AtGroup nest broken line) × (at.place < place)

pub least_begin : (nest : Nest) (broken : GroupRule) → IsLeast (AtBefore nest broken 0) None
least_begin nest broken line (at, before) = omega (arith, before)

one_of : {A : Type 0} (xs : List A) (place : ℕ) (x y : A) → slice_get xs place ≡ Some x → slice_get xs place ≡ Some y → x ≡ y
one_of xs place x y one other = let same : Some x ≡ Some y = sym one ∙ other in cc

before_next : (nest : Nest) (broken : GroupRule) (place line : ℕ) → AtBefore nest broken place line → AtBefore nest broken (place + 1) line
before_next nest broken place line (at, before) = (at, omega (arith, before))

-- A group up to a place is one before it, or the one there.
at_last : (nest : Nest) (broken : GroupRule) (place line other : ℕ) (group : Group) → slice_get nest.groups place ≡ Some group
    → slice_get nest.lines place ≡ Some line → AtBefore nest broken (place + 1) other
    → AtBefore nest broken place other ⊎ ((other ≡ line) × BreaksGroup broken nest place group)
at_last nest broken place line other group there numbered (at, before) = by (less_or_more at.place place)
  where
    by : (at.place < place) ⊎ (place ≤ at.place) → AtBefore nest broken place other ⊎ ((other ≡ line) × BreaksGroup broken nest place group)
    by (inl less) = inl (at, less)
    by (inr not) =
        let same : at.place ≡ place = omega (arith, before, not) in
        let at_line = subst (λ n. slice_get nest.lines n ≡ Some other) same at.at in
        let at_group = subst (λ n. slice_get nest.groups n ≡ Some at.group) same at.there in
        let broken_there = subst (λ n. BreaksGroup broken nest n at.group) same at.breaks in
        inr (
          one_of nest.lines place other line at_line numbered,
          subst (BreaksGroup broken nest place) (one_of nest.groups place at.group group at_group there) broken_there,
        )

pub least_not_less : (nest : Nest) (broken : GroupRule) (place line : ℕ) (group : Group) (least : Option ℕ) → slice_get nest.groups place ≡ Some group
    → slice_get nest.lines place ≡ Some line → is_less line least ≡ false → IsLeast (AtBefore nest broken place) least
    → IsLeast (AtBefore nest broken (place + 1)) least
least_not_less nest broken place line group None there numbered not so_far = absurd (cc)
least_not_less nest broken place line group (Some least) there numbered not so_far =
    (before_next nest broken place least so_far.0, λ other at. by other (at_last nest broken place line other group there numbered at))
  where
    no_less : least ≤ line
    no_less = grind (arith, nat_tests, not)

    by : (other : ℕ) → AtBefore nest broken place other ⊎ ((other ≡ line) × BreaksGroup broken nest place group) → least ≤ other
    by other (inl at) = so_far.1 other at
    by other (inr (same, breaks)) = let less = no_less in omega (arith, less, same)

pub least_not_broken : (nest : Nest) (broken : GroupRule) (place line : ℕ) (group : Group) (least : Option ℕ) → slice_get nest.groups place ≡ Some group
    → slice_get nest.lines place ≡ Some line → (BreaksGroup broken nest place group → ⊥) → IsLeast (AtBefore nest broken place) least
    → IsLeast (AtBefore nest broken (place + 1)) least
least_not_broken nest broken place line group None there numbered not so_far = λ other at. by other (at_last nest broken place line other group there numbered at)
  where
    by : (other : ℕ) → AtBefore nest broken place other ⊎ ((other ≡ line) × BreaksGroup broken nest place group) → ⊥
    by other (inl at) = so_far other at
    by other (inr (same, breaks)) = not breaks
least_not_broken nest broken place line group (Some least) there numbered not so_far =
    (before_next nest broken place least so_far.0, λ other at. by other (at_last nest broken place line other group there numbered at))
  where
    by : (other : ℕ) → AtBefore nest broken place other ⊎ ((other ≡ line) × BreaksGroup broken nest place group) → least ≤ other
    by other (inl at) = so_far.1 other at
    by other (inr (same, breaks)) = absurd (not breaks)

pub least_broken : (nest : Nest) (broken : GroupRule) (place line : ℕ) (group : Group) (least : Option ℕ) → slice_get nest.groups place ≡ Some group
    → slice_get nest.lines place ≡ Some line → is_less line least ≡ true → BreaksGroup broken nest place group → IsLeast (AtBefore nest broken place) least
    → IsLeast (AtBefore nest broken (place + 1)) (Some line)
least_broken nest broken place line group least there numbered less breaks so_far = (
  (record { place = place; group = group; there = there; at = numbered; breaks = breaks }, omega arith),
  λ other at. by least other less so_far (at_last nest broken place line other group there numbered at),
)
  where
    by : (least : Option ℕ) (other : ℕ) → is_less line least ≡ true → IsLeast (AtBefore nest broken place) least
        → AtBefore nest broken place other ⊎ ((other ≡ line) × BreaksGroup broken nest place group) → line ≤ other
    by None other less so_far (inl at) = absurd (so_far other at)
    by (Some first) other less so_far (inl at) =
        let before : line < first = grind (arith, nat_tests, less) in
        let more = so_far.1 other at in
        omega (arith, before, more)
    by least other less so_far (inr (same, breaks)) = omega (arith, same)

pub least_asked : (nest : Nest) (broken : GroupRule) (place line : ℕ) (group : Group) (least least' : Option ℕ) (told : Bool)
    → slice_get nest.groups place ≡ Some group → slice_get nest.lines place ≡ Some line → is_less line least ≡ true
    → IsTrue told ↔ BreaksGroup broken nest place group → least' ≡ (if told then Some line else least) → IsLeast (AtBefore nest broken place) least
    → IsLeast (AtBefore nest broken (place + 1)) least'
least_asked nest broken place line group least least' true there numbered less judged is so_far =
    subst (IsLeast (AtBefore nest broken (place + 1))) (sym is)
    (least_broken nest broken place line group least there numbered less (judged.0 refl) so_far)
least_asked nest broken place line group least least' false there numbered less judged is so_far =
    subst (IsLeast (AtBefore nest broken (place + 1))) (sym is)
    (least_not_broken nest broken place line group least there numbered (λ breaks. let holds = judged.1 breaks in cc) so_far)

pub group_there : (nest : Nest) (groups : List Group) (place : ℕ) (group : Group) → groups ≡ nest.groups → place < length groups
    → group ≡ get_or groups place group → slice_get nest.groups place ≡ Some group
group_there nest groups place group same within is = subst (λ all. slice_get all place ≡ Some group) same (read_at groups place group within is)

pub line_there : (nest : Nest) (groups : List Group) (lines : List ℕ) (place : ℕ) → groups ≡ nest.groups → lines ≡ nest.lines
    → length nest.lines ≡ length nest.groups → place < length groups → slice_get nest.lines place ≡ Some (get_or lines place 0)
line_there nest groups lines place same numbered one_each within =
    let long = ap length same in
    let count = ap length numbered in
    subst (λ all. slice_get all place ≡ Some (get_or lines place 0)) numbered (slice_get-get_or lines place 0 (omega (arith, long, count, one_each, within)))

pub least_end : (nest : Nest) (broken : GroupRule) (place : ℕ) (least : Option ℕ) → length nest.groups ≤ place → IsLeast (AtBefore nest broken place) least
    → IsLeast (AtGroup nest broken) least
least_end nest broken place None past so_far = λ line at. so_far line (at, inside at)
  where
    inside : {line : ℕ} → (at : AtGroup nest broken line) → at.place < place
    inside at = let less = slice_get_within nest.groups at.place at.group at.there in omega (arith, less, past)
least_end nest broken place (Some least) past so_far = (so_far.0.0, λ line at. so_far.1 line (at, inside at))
  where
    inside : {line : ℕ} → (at : AtGroup nest broken line) → at.place < place
    inside at = let less = slice_get_within nest.groups at.place at.group at.there in omega (arith, less, past)

-- A place that has no group, or no line, breaks nothing.
pub at_none : (nest : Nest) (broken : GroupRule) (place : ℕ) (least : Option ℕ) → (slice_get nest.groups place ≡ None) ⊎ (slice_get nest.lines place ≡ None)
    → IsLeast (AtBefore nest broken place) least → IsLeast (AtBefore nest broken (place + 1)) least
at_none nest broken place least none so_far = by least so_far
  where
    before : (other : ℕ) → AtBefore nest broken (place + 1) other → AtBefore nest broken place other
    before other (at, less) = on (less_or_more at.place place)
      where
        nothing : at.place ≡ place → (slice_get nest.groups place ≡ None) ⊎ (slice_get nest.lines place ≡ None) → ⊥
        nothing same (inl is) = let there = subst (λ n. slice_get nest.groups n ≡ Some at.group) same at.there in let never : Some at.group ≡ None = sym there ∙ is in cc
        nothing same (inr is) = let there = subst (λ n. slice_get nest.lines n ≡ Some other) same at.at in let never : Some other ≡ None = sym there ∙ is in cc

        on : (at.place < place) ⊎ (place ≤ at.place) → AtBefore nest broken place other
        on (inl is) = (at, is)
        on (inr not) = absurd (nothing (omega (arith, less, not)) none)

    by : (least : Option ℕ) → IsLeast (AtBefore nest broken place) least → IsLeast (AtBefore nest broken (place + 1)) least
    by None so_far = λ other at. so_far other (before other at)
    by (Some first) so_far = (before_next nest broken place first so_far.0, λ other at. so_far.1 other (before other at))

-- ---- Ports of `main`

pub main_least : (nest : Nest) (least : Option ℕ) → IsLeast (AtGroup nest rules.Ports) least → is_less nest.main_line least ≡ true
    → main_misses_port nest ≡ true → IsLeast (MissesAt nest) (Some nest.main_line)
main_least nest least so_far less misses = (inr (misses, refl), λ other at. by least other so_far less at)
  where
    by : (least : Option ℕ) (other : ℕ) → IsLeast (AtGroup nest rules.Ports) least → is_less nest.main_line least ≡ true → MissesAt nest other
        → nest.main_line ≤ other
    by None other so_far less (inl at) = absurd (so_far other at)
    by (Some first) other so_far less (inl at) =
        let before : nest.main_line < first = grind (arith, nat_tests, less) in
        let more = so_far.1 other at in
        omega (arith, before, more)
    by least other so_far less (inr (misses, same)) = omega (arith, same)

pub main_not_less : (nest : Nest) (least : Option ℕ) → IsLeast (AtGroup nest rules.Ports) least → is_less nest.main_line least ≡ false
    → IsLeast (MissesAt nest) least
main_not_less nest None so_far not = absurd (cc)
main_not_less nest (Some least) so_far not = (inl so_far.0, λ other at. by other at)
  where
    by : (other : ℕ) → MissesAt nest other → least ≤ other
    by other (inl at) = so_far.1 other at
    by other (inr (misses, same)) = let no_less : least ≤ nest.main_line = grind (arith, nat_tests, not) in omega (arith, no_less, same)

pub main_misses_none : (nest : Nest) (least : Option ℕ) → IsLeast (AtGroup nest rules.Ports) least → main_misses_port nest ≡ false
    → IsLeast (MissesAt nest) least
main_misses_none nest None so_far not = λ other at. by other at
  where
    by : (other : ℕ) → MissesAt nest other → ⊥
    by other (inl at) = so_far other at
    by other (inr (misses, same)) = absurd (cc)
main_misses_none nest (Some least) so_far not = (inl so_far.0, λ other at. by other at)
  where
    by : (other : ℕ) → MissesAt nest other → least ≤ other
    by other (inl at) = so_far.1 other at
    by other (inr (misses, same)) = absurd (cc)

pub refusal_judges : {X : Type 0} (BreaksAt : ℕ → Type 0) (number : ℕ) (least : Option ℕ) (result : Result X NestFault) → IsLeast BreaksAt least
    → Refuses number least result → JudgesLeast BreaksAt number result
refusal_judges BreaksAt number least (Ok kept) is refuses = subst (IsLeast BreaksAt) refuses is
refusal_judges BreaksAt number least (Err (fault.Line line rule)) is refuses = (refuses.0, subst (IsLeast BreaksAt) refuses.1 is)
refusal_judges BreaksAt number least (Err fault.NoMemory) is refuses = absurd refuses

pub main_asked : (nest : Nest) (line : ℕ) (least least' : Option ℕ) (told : Bool) → line ≡ nest.main_line → IsLeast (AtGroup nest rules.Ports) least
    → is_less line least ≡ true → told ≡ main_misses_port nest → least' ≡ (if told then Some line else least) → IsLeast (MissesAt nest) least'
main_asked nest line least least' true same so_far less judged is =
    subst (IsLeast (MissesAt nest)) (sym (is ∙ ap (λ one. Some one) same))
    (main_least nest least so_far (ap (λ one. is_less one least) (sym same) ∙ less) (sym judged))
main_asked nest line least least' false same so_far less judged is =
    subst (IsLeast (MissesAt nest)) (sym is) (main_misses_none nest least so_far (sym judged))

pub main_left : (nest : Nest) (line : ℕ) (least : Option ℕ) → line ≡ nest.main_line → IsLeast (AtGroup nest rules.Ports) least
    → is_less line least ≡ false → IsLeast (MissesAt nest) least
main_left nest line least same so_far not = main_not_less nest least so_far (ap (λ one. is_less one least) (sym same) ∙ not)

-- ---- All rules

pub names_refused : (nest : Nest) (line : ℕ) → IsLeast (AtGroup nest rules.Names) (Some line) → IsRefusedNest nest line 27
names_refused nest line is = record { breaks = inl (refl, is.0); least = λ other by broken. told other by broken }
  where
    told : (other by : ℕ) → BreaksNest nest other by → (27 < by) ⊎ ((27 ≡ by) × (line ≤ other))
    told other by (inl (same, at)) = inr (sym same, is.1 other at)
    told other by (inr (inl (same, at))) = inl (omega (arith, same))
    told other by (inr (inr (inl (same, at)))) = inl (omega (arith, same))
    told other by (inr (inr (inr broken))) = let same = broken.0 in inl (omega (arith, same))

pub nesting_refused : (nest : Nest) (line : ℕ) → IsLeast (AtGroup nest rules.Names) None → IsLeast (AtGroup nest rules.Nesting) (Some line)
    → IsRefusedNest nest line 28
nesting_refused nest line names is = record { breaks = inr (inl (refl, is.0)); least = λ other by broken. told other by broken }
  where
    told : (other by : ℕ) → BreaksNest nest other by → (28 < by) ⊎ ((28 ≡ by) × (line ≤ other))
    told other by (inl (same, at)) = absurd (names other at)
    told other by (inr (inl (same, at))) = inr (sym same, is.1 other at)
    told other by (inr (inr (inl (same, at)))) = inl (omega (arith, same))
    told other by (inr (inr (inr broken))) = let same = broken.0 in inl (omega (arith, same))

pub ports_refused : (nest : Nest) (line : ℕ) → IsLeast (AtGroup nest rules.Names) None → IsLeast (AtGroup nest rules.Nesting) None
    → IsLeast (MissesAt nest) (Some line) → IsRefusedNest nest line 29
ports_refused nest line names nesting is = record { breaks = inr (inr (inl (refl, is.0))); least = λ other by broken. told other by broken }
  where
    told : (other by : ℕ) → BreaksNest nest other by → (29 < by) ⊎ ((29 ≡ by) × (line ≤ other))
    told other by (inl (same, at)) = absurd (names other at)
    told other by (inr (inl (same, at))) = absurd (nesting other at)
    told other by (inr (inr (inl (same, at)))) = inr (sym same, is.1 other at)
    told other by (inr (inr (inr broken))) = let same = broken.0 in inl (omega (arith, same))

pub size_refused : (nest : Nest) → ((line rule : ℕ) → BreaksNest nest line rule → rule ≡ 30) → IsTooLarge nest → IsRefusedNest nest nest.main_line 30
size_refused nest kept large = record {
  breaks = inr (inr (inr (refl, large, refl)));
  least = λ other by broken. told other by broken (kept other by broken);
}
  where
    told : (other by : ℕ) → BreaksNest nest other by → by ≡ 30 → (30 < by) ⊎ ((30 ≡ by) × (nest.main_line ≤ other))
    told other by (inl (same, at)) is = absurd (omega (arith, same, is))
    told other by (inr (inl (same, at))) is = absurd (omega (arith, same, is))
    told other by (inr (inr (inl (same, at)))) is = absurd (omega (arith, same, is))
    told other by (inr (inr (inr broken))) is = let same = broken.2 in inr (sym is, omega (arith, same))

pub kept_rules : (nest : Nest) → IsLeast (AtGroup nest rules.Names) None → IsLeast (AtGroup nest rules.Nesting) None → IsLeast (MissesAt nest) None
    → (line rule : ℕ) → BreaksNest nest line rule → rule ≡ 30
kept_rules nest names nesting ports line rule (inl (same, at)) = absurd (names line at)
kept_rules nest names nesting ports line rule (inr (inl (same, at))) = absurd (nesting line at)
kept_rules nest names nesting ports line rule (inr (inr (inl (same, at)))) = absurd (ports line at)
kept_rules nest names nesting ports line rule (inr (inr (inr broken))) = broken.0

pub names_failed : (nest : Nest) (why : NestFault) → RefusesLeast (AtGroup nest rules.Names) 27 why → IsRefusedBy nest why
names_failed nest (fault.Line line rule) is = subst (IsRefusedNest nest line) (sym is.0) (names_refused nest line is.1)
names_failed nest fault.NoMemory is = tt

pub nesting_failed : (nest : Nest) (why : NestFault) → IsLeast (AtGroup nest rules.Names) None → RefusesLeast (AtGroup nest rules.Nesting) 28 why
    → IsRefusedBy nest why
nesting_failed nest (fault.Line line rule) names is = subst (IsRefusedNest nest line) (sym is.0) (nesting_refused nest line names is.1)
nesting_failed nest fault.NoMemory names is = tt

pub ports_judged : {X : Type 0} (nest : Nest) (result : Result X NestFault) → IsLeast (AtGroup nest rules.Names) None
    → IsLeast (AtGroup nest rules.Nesting) None → JudgesLeast (MissesAt nest) 29 result → JudgesNest nest result
ports_judged nest (Err (fault.Line line rule)) names nesting is = subst (IsRefusedNest nest line) (sym is.0) (ports_refused nest line names nesting is.1)
ports_judged nest (Err fault.NoMemory) names nesting is = tt
ports_judged nest (Ok kept) names nesting is = kept_rules nest names nesting is

-- ---- Flattening

-- The flat system, or that it is too large.
abbrev FlatAnswers : Nest → Result System Unflat → Type 0
FlatAnswers nest (Ok flat) = (flat ≡ flat_of nest) × (IsTooLarge nest → ⊥)
FlatAnswers nest (Err unflat.TooLarge) = IsTooLarge nest
FlatAnswers nest (Err unflat.NoMemory) = ⊤

flat_answered : (nest : Nest) (flat : System) → ((line rule : ℕ) → BreaksNest nest line rule → rule ≡ 30) → FlatAnswers nest (Ok flat)
    → AnswersFlat nest (Ok flat)
flat_answered nest flat judged is = (is.0, λ line rule broken. told line rule broken (judged line rule broken))
  where
    told : (line rule : ℕ) → BreaksNest nest line rule → rule ≡ 30 → ⊥
    told line rule (inl (same, at)) thirty = omega (arith, same, thirty)
    told line rule (inr (inl (same, at))) thirty = omega (arith, same, thirty)
    told line rule (inr (inr (inl (same, at)))) thirty = omega (arith, same, thirty)
    told line rule (inr (inr (inr broken))) thirty = is.1 broken.1

-- A nest whose flat system, or one of its parts, is too large.
flat_refused : (nest : Nest) (why : Unflat) → ((line rule : ℕ) → BreaksNest nest line rule → rule ≡ 30) → FlatAnswers nest (Err why)
    → IsRefusedBy nest (refusal_of nest.main_line why)
flat_refused nest unflat.TooLarge judged large = size_refused nest judged large
flat_refused nest unflat.NoMemory judged is = tt

pub parts_judged : (nest named : Nest) (parts : FlatParts) → named ≡ nest → ((line rule : ℕ) → BreaksNest named line rule → rule ≡ 30)
    → MakesParts named (Ok parts) → JudgesParts nest (Ok parts)
parts_judged nest named parts same judged made = subst (λ one. JudgesParts one (Ok parts)) same (made, judged)

pub parts_refused : (nest named : Nest) (why : Unflat) → named ≡ nest → ((line rule : ℕ) → BreaksNest named line rule → rule ≡ 30)
    → MakesParts named (Err why) → IsRefusedBy nest (refusal_of nest.main_line why)
parts_refused nest named unflat.TooLarge same judged large =
    subst (λ one. IsRefusedNest one one.main_line 30) same (size_refused named judged large)
parts_refused nest named unflat.NoMemory same judged made = tt

-- A system whose parts are within their limits is too large where it isn't printable.
large_parts : (nest : Nest) (parts : FlatParts) (kept : Result System Unflat) → MakesParts nest (Ok parts)
    → IsKeptPrintable (with_parts nest.main parts) kept → FlatAnswers nest kept
large_parts nest parts (Ok flat) made is = (is.0 ∙ made.0, λ large. by large)
  where
    few : (64 < length (flat_of nest).instances) → ⊥
    few large = let low = subst (λ (all : System). length all.instances ≤ 64) made.0 made.1 in omega (arith, large, low)

    narrow : (2048 < length (flat_of nest).wires) → ⊥
    narrow large = let low = subst (λ (all : System). length all.wires ≤ 2048) made.0 made.2 in omega (arith, large, low)

    by : IsTooLarge nest → ⊥
    by (inl large) = few large
    by (inr (inl large)) = narrow large
    by (inr (inr unprintable)) = unprintable (subst IsPrintable made.0 is.1)
large_parts nest parts (Err unflat.TooLarge) made unprintable =
    inr (inr (λ printable. unprintable (subst IsPrintable (sym made.0) printable)))
large_parts nest parts (Err unflat.NoMemory) made is = tt

pub whole_answered : (nest : Nest) (main flat : System) (parts : FlatParts) → nest.main ≡ main → JudgesParts nest (Ok parts)
    → IsKeptPrintable (with_parts main parts) (Ok flat) → AnswersFlat nest (Ok flat)
whole_answered nest main flat parts same judged is =
    flat_answered nest flat judged.1
    (large_parts nest parts (Ok flat) judged.0 (subst (λ one. IsKeptPrintable (with_parts one parts) (Ok flat)) (sym same) is))

pub whole_refused : (nest : Nest) (main : System) (main_line : ℕ) (parts : FlatParts) (why : Unflat) → nest.main ≡ main → nest.main_line ≡ main_line
    → JudgesParts nest (Ok parts) → IsKeptPrintable (with_parts main parts) (Err why) → IsRefusedBy nest (refusal_of main_line why)
whole_refused nest main main_line parts why same line judged is =
    subst (λ number. IsRefusedBy nest (refusal_of number why)) line
    (flat_refused nest why judged.1
    (large_parts nest parts (Err why) judged.0 (subst (λ one. IsKeptPrintable (with_parts one parts) (Err why)) (sym same) is)))
