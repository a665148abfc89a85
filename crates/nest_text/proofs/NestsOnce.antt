-- A nested text has one nest, or is refused once.
use Rattle.std.proofs.Common.{◌≡◌, ℕ, ◌+◌, ◌-◌, ◌≤◌, ◌<◌, true, false, List, [], ◌∷◌, ◌++◌, map, length, inl, inr, refl, sym, ap, ap₂, subst, ◌∙◌, arith}
use Rattle.std.specs.Prelude.{◌||◌, ◌⊎◌, IsTrue, nat_le, slice_get}
use Rattle.std.specs.List.{AllByRecursion, AllZip, list_all, sum_by}
use Rattle.std.proofs.lemmas.Bool.{and_parts}
use Rattle.std.proofs.lemmas.Option.{same_Some}
use Rattle.list_laws.proofs.Lists.{any_behind, same_first, same_rest}
use Rattle.list_laws.proofs.Truths.{true_is_false}
use Rattle.language_laws.proofs.RefusalLaws.{refused_once}
use Rattle.unit_tree.specs.Lines.{lines_of, size_of, without_return}
use Rattle.unit_tree.specs.Parts.{text_forms}
use Rattle.model_rules.specs.Limits.{line_limit, text_limit}
use Rattle.unit_tree.specs.Texts.{HaveForms, IsFirstBroken, IsRefused, IsUnended, Reads}
use Rattle.unit_tree.specs.declared.system.System.{System}
use Rattle.unit_text.proofs.AnswerLaws.{answered_once}
use Rattle.unit_text.proofs.KnownForms.{known}
use Rattle.nest_text.specs.NestLines.{SourceLine, are_placed, may_stand, place_after, place_behind}
use Rattle.nest_text.specs.Nests.{BreaksParts, GroupLines, IsCut, IsGroupOf, IsNestOf, IsRead, RefusesGroup, RefusesGroups, RefusesMain, RefusesNest, RefusesPart}
use Rattle.nest_text.specs.Nests.{StraysAt, given, groups_of, has_main, is_main, numbers}
use Rattle.nest_text.specs.declared.kind.LineKind.{LineKind}
use Rattle.nest_text.specs.declared.kind.LineKind.TheVariants as kinds
use Rattle.nest_text.specs.declared.nest.Group.{Group}
use Rattle.nest_text.specs.declared.nest.Nest.{Nest}
use Rattle.nest_text.specs.declared.place.PartPlace.{PartPlace}
use Rattle.nest_text.specs.declared.place.PartPlace.TheVariants as places
use Rattle.nest_text.proofs.GroupWalks.{groups_read}
use Rattle.nest_text.proofs.LineWalks.{same_lines}

-- ---- Texts with the same lines

reads_same : (one other : List ℕ) (system : System) → lines_of one ≡ lines_of other → Reads one system → Reads other system
reads_same one other system same reads = record {
  parts = reads.parts;
  says = reads.says;
  lines = subst (λ all. HaveForms (map without_return all) (text_forms system.version reads.parts) (map without_return all)) same reads.lines;
  placed = reads.placed;
  short = subst (λ (all : List (List ℕ)). sum_by (λ line. length line + 1) all ≤ text_limit) same reads.short;
  lines_short = subst (λ all. IsTrue (list_all (λ line. nat_le (length line) line_limit) (map without_return all))) same reads.lines_short;
}

-- What is known of the lines of a text that is refused.
abbrev LinesRefused : ℕ → ℕ → List (List ℕ) → Type 0
LinesRefused number rule all =
    ((text_limit < sum_by (λ line. length line + 1) all) × (number ≡ 1) × (rule ≡ 2))
    ⊎ ((sum_by (λ line. length line + 1) all ≤ text_limit)
    × (IsFirstBroken (map without_return all) number rule ⊎ IsUnended (map without_return all) number rule))

refused_same : (one other : List ℕ) (number rule : ℕ) → lines_of one ≡ lines_of other → IsRefused one number rule → IsRefused other number rule
refused_same one other number rule same refused = subst (LinesRefused number rule) same refused

-- ---- One cut

stays : (kind : LineKind) → may_stand places.InMain kind ≡ true → is_main kind ≡ false
stays kinds.Main is = absurd (cc)
stays (kinds.Begins name) is = refl
stays (kinds.In bind) is = refl
stays (kinds.Out bind) is = refl
stays kinds.Opens is = refl
stays kinds.Ends is = refl
stays kinds.Connects is = refl
stays kinds.Blank is = refl
stays kinds.Other is = refl

no_second : (lines : List SourceLine) → are_placed places.InMain lines ≡ true → has_main lines ≡ false
no_second [] placed = refl
no_second (line ∷ lines) placed =
    let both = and_parts (may_stand places.InMain line.kind) (are_placed places.InMain lines) placed in
    ap (λ test. test || has_main lines) (stays line.kind both.0) ∙ no_second lines both.1

after_main : (place : PartPlace) → place_after place kinds.Main ≡ places.InMain
after_main places.BeforeParts = refl
after_main places.InGroup = refl
after_main places.InBlock = refl
after_main places.InMain = refl

main_among : (prefix : List SourceLine) (main : SourceLine) (later : List SourceLine) → main.kind ≡ kinds.Main → has_main (prefix ++ (main ∷ later)) ≡ true
main_among prefix main later is =
    any_behind (λ (line : SourceLine). is_main line.kind) prefix (main ∷ later) (ap (λ kind. is_main kind || has_main later) is)

-- after a line `main` that is allowed there is no other one
main_alone : (place : PartPlace) (main : SourceLine) (later prefix : List SourceLine) (second : SourceLine) (rest : List SourceLine)
    → are_placed place (main ∷ later) ≡ true → main.kind ≡ kinds.Main → second.kind ≡ kinds.Main → later ≡ prefix ++ (second ∷ rest) → ⊥
main_alone place main later prefix second rest placed is also cut =
    let both = and_parts (may_stand place main.kind) (are_placed (place_after place main.kind) later) placed in
    let inside = sym (ap (λ after. are_placed after later) (ap (place_after place) is ∙ after_main place)) ∙ both.1 in
    true_is_false (has_main later) (ap has_main cut ∙ main_among prefix second rest also) (no_second later inside)

record SameCut (prefix : List SourceLine) (main : SourceLine) (later front' : List SourceLine) (main' : SourceLine) (later' : List SourceLine) : Type 0 where
  fronts : prefix ≡ front'
  mains : main ≡ main'
  laters : later ≡ later'

cut_once : (place : PartPlace) (prefix : List SourceLine) (main : SourceLine) (later front' : List SourceLine) (main' : SourceLine) (later' : List SourceLine)
    → are_placed place (prefix ++ (main ∷ later)) ≡ true → main.kind ≡ kinds.Main → main'.kind ≡ kinds.Main
    → prefix ++ (main ∷ later) ≡ front' ++ (main' ∷ later') → SameCut prefix main later front' main' later'
cut_once place [] main later [] main' later' placed is also same =
    record { fronts = refl; mains = same_first main main' later later' same; laters = same_rest main main' later later' same }
cut_once place [] main later (line ∷ front') main' later' placed is also same =
    absurd (main_alone place main later front' main' later' placed is also (same_rest main line later (front' ++ (main' ∷ later')) same))
cut_once place (line ∷ prefix) main later [] main' later' placed is also same =
    absurd (main_alone place main' later' prefix main later (subst (λ all. are_placed place all ≡ true) same placed) also is
    (sym (same_rest line main' (prefix ++ (main ∷ later)) later' same)))
cut_once place (line ∷ prefix) main later (line' ∷ front') main' later' placed is also same =
    let both = and_parts (may_stand place line.kind) (are_placed (place_after place line.kind) (prefix ++ (main ∷ later))) placed in
    let rest = cut_once (place_after place line.kind) prefix main later front' main' later' both.1 is also
    (same_rest line line' (prefix ++ (main ∷ later)) (front' ++ (main' ∷ later')) same) in
    record {
      fronts = ap₂ (λ one all. one ∷ all) (same_first line line' (prefix ++ (main ∷ later)) (front' ++ (main' ∷ later')) same) rest.fronts;
      mains = rest.mains;
      laters = rest.laters;
    }

same_cut : (text : List ℕ) (one other : IsCut text) → SameCut one.prefix one.main one.later other.prefix other.main other.later
same_cut text one other =
    cut_once places.BeforeParts one.prefix one.main one.later other.prefix other.main other.later
    (subst (λ all. are_placed places.BeforeParts all ≡ true) one.cut one.placed) one.is_main other.is_main
    (sym one.cut ∙ same_lines 1 text one.lines other.lines one.are_lines other.are_lines ∙ other.cut)

same_rests : (text : List ℕ) (one other : IsCut text) → lines_of one.rest ≡ lines_of other.rest
same_rests text one other = one.rest_is ∙ ap (map (λ (line : SourceLine). line.bytes)) (same_cut text one other).laters ∙ sym other.rest_is

-- ---- One nest

group_once : (lines : GroupLines) (one other : Group) → IsGroupOf lines one → IsGroupOf lines other → one ≡ other
group_once lines one other first second =
    let same = (answered_once known (given lines)).one_system first.system second.system first.reads second.reads in
    let names = first.name ∙ sym second.name in
    let ins = first.ins ∙ sym second.ins in
    let outs = first.outs ∙ sym second.outs in
    let instances = first.instances ∙ ap (λ (s : System). s.instances) same ∙ sym second.instances in
    let wires = first.wires ∙ ap (λ (s : System). s.wires) same ∙ sym second.wires in
    λ i. record { name = names i; ins = ins i; outs = outs i; instances = instances i; wires = wires i }

groups_once : (lines : List GroupLines) (one other : List Group) → AllZip IsGroupOf lines one → AllZip IsGroupOf lines other → one ≡ other
groups_once [] [] [] a b = refl
groups_once [] [] (y ∷ ys) a b = absurd b
groups_once [] (x ∷ xs) ys a b = absurd a
groups_once (l ∷ ls) [] ys a b = absurd a
groups_once (l ∷ ls) (x ∷ xs) [] a b = absurd b
groups_once (l ∷ ls) (x ∷ xs) (y ∷ ys) a b = ap₂ (λ one all. one ∷ all) (group_once l x y a.0 b.0) (groups_once ls xs ys a.1 b.1)

pub one_nest : (text : List ℕ) (one other : Nest) → IsNestOf text one → IsNestOf text other → one ≡ other
one_nest text one other first second =
    let same = same_cut text first.cut second.cut in
    let groups =
    groups_once (groups_of first.cut.prefix) one.groups other.groups first.groups
    (subst (λ prefix. AllZip IsGroupOf (groups_of prefix) other.groups) (sym same.fronts) second.groups) in
    let lines = first.lines ∙ ap (λ prefix. map (λ (group : GroupLines). group.head) (groups_of prefix)) same.fronts ∙ sym second.lines in
    let mains =
    (answered_once known second.cut.rest).one_system one.main other.main
    (reads_same first.cut.rest second.cut.rest one.main (same_rests text first.cut second.cut) first.main) second.main in
    let main_lines = first.main_line ∙ ap (λ (line : SourceLine). line.number) same.mains ∙ sym second.main_line in
    λ i. record { main = mains i; groups = groups i; lines = lines i; main_line = main_lines i }

-- ---- One line that is not allowed

placed_at : (place : PartPlace) (before : List SourceLine) (line : SourceLine) (later : List SourceLine) → are_placed place (before ++ (line ∷ later)) ≡ true
    → may_stand (place_behind place before) line.kind ≡ true
placed_at place [] line later placed = (and_parts (may_stand place line.kind) (are_placed (place_after place line.kind) later) placed).0
placed_at place (one ∷ before) line later placed =
    placed_at (place_after place one.kind) before line later
    (and_parts (may_stand place one.kind) (are_placed (place_after place one.kind) (before ++ (line ∷ later))) placed).1

stray_once : (place : PartPlace) (before : List SourceLine) (line : SourceLine) (later before' : List SourceLine) (line' : SourceLine) (later' : List SourceLine)
    → are_placed place before ≡ true → may_stand (place_behind place before) line.kind ≡ false → are_placed place before' ≡ true
    → may_stand (place_behind place before') line'.kind ≡ false → before ++ (line ∷ later) ≡ before' ++ (line' ∷ later') → line ≡ line'
stray_once place [] line later [] line' later' placed strays also too same = same_first line line' later later' same
stray_once place [] line later (one ∷ before') line' later' placed strays also too same =
    let stands = (and_parts (may_stand place one.kind) (are_placed (place_after place one.kind) before') also).0 in
    true_is_false (may_stand place line.kind)
    (ap (λ (l : SourceLine). may_stand place l.kind) (same_first line one later (before' ++ (line' ∷ later')) same) ∙ stands) strays
stray_once place (one ∷ before) line later [] line' later' placed strays also too same =
    let stands = (and_parts (may_stand place one.kind) (are_placed (place_after place one.kind) before) placed).0 in
    true_is_false (may_stand place line'.kind)
    (sym (ap (λ (l : SourceLine). may_stand place l.kind) (same_first one line' (before ++ (line ∷ later)) later' same)) ∙ stands) too
stray_once place (one ∷ before) line later (other ∷ before') line' later' placed strays also too same =
    let first = same_first one other (before ++ (line ∷ later)) (before' ++ (line' ∷ later')) same in
    stray_once (place_after place one.kind) before line later before' line' later'
    (and_parts (may_stand place one.kind) (are_placed (place_after place one.kind) before) placed).1 strays
    (subst (λ (l : SourceLine). are_placed (place_after place l.kind) before' ≡ true) (sym first)
    (and_parts (may_stand place other.kind) (are_placed (place_after place other.kind) before') also).1)
    (subst (λ (l : SourceLine). may_stand (place_behind (place_after place l.kind) before') line'.kind ≡ false) (sym first) too)
    (same_rest one other (before ++ (line ∷ later)) (before' ++ (line' ∷ later')) same)

breaks_once : (text : List ℕ) (one other : ℕ) → BreaksParts text one → BreaksParts text other → one ≡ other
breaks_once text one other first second = by first.breaks second.breaks
  where
    same : first.lines ≡ second.lines
    same = same_lines 1 text first.lines second.lines first.are_lines second.are_lines

    by : ((has_main first.lines ≡ false) × (one ≡ 1)) ⊎ ((has_main first.lines ≡ true) × StraysAt first.lines one)
        → ((has_main second.lines ≡ false) × (other ≡ 1)) ⊎ ((has_main second.lines ≡ true) × StraysAt second.lines other) → one ≡ other
    by (inl (none, is)) (inl (nothing, also)) = is ∙ sym also
    by (inl (none, is)) (inr (some, strays)) = true_is_false (has_main second.lines) some (sym (ap has_main same) ∙ none)
    by (inr (some, strays)) (inl (none, is)) = true_is_false (has_main first.lines) some (ap has_main same ∙ none)
    by (inr (some, strays)) (inr (too, also)) =
        strays.is_number
        ∙ ap (λ (l : SourceLine). l.number)
        (stray_once places.BeforeParts strays.before strays.line strays.later also.before also.line also.later strays.before_placed strays.stray
        also.before_placed also.stray (sym strays.cut ∙ same ∙ also.cut))
        ∙ sym also.is_number

cut_breaks : (text : List ℕ) (number : ℕ) → IsCut text → BreaksParts text number → ⊥
cut_breaks text number cut breaks = by breaks.breaks
  where
    same : breaks.lines ≡ cut.lines
    same = same_lines 1 text breaks.lines cut.lines breaks.are_lines cut.are_lines

    by : ((has_main breaks.lines ≡ false) × (number ≡ 1)) ⊎ ((has_main breaks.lines ≡ true) × StraysAt breaks.lines number) → ⊥
    by (inl (none, is)) =
        true_is_false (has_main cut.lines) (ap has_main cut.cut ∙ main_among cut.prefix cut.main cut.later cut.is_main) (sym (ap has_main same) ∙ none)
    by (inr (some, strays)) =
        true_is_false (may_stand (place_behind places.BeforeParts strays.before) strays.line.kind)
        (placed_at places.BeforeParts strays.before strays.line strays.later
        (subst (λ all. are_placed places.BeforeParts all ≡ true) (sym same ∙ strays.cut) cut.placed))
        strays.stray

-- ---- One part that is refused

not_read : (lines : GroupLines) (number rule : ℕ) → IsRead lines → RefusesGroup lines number rule → ⊥
not_read lines number rule read refuses = (answered_once known (given lines)).not_both read.1.system refuses.line rule read.1.reads refuses.refused

group_refused_once : (lines : GroupLines) (number rule other by : ℕ) → RefusesGroup lines number rule → RefusesGroup lines other by
    → (number ≡ other) × (rule ≡ by)
group_refused_once lines number rule other by one second =
    let same = refused_once (given lines) one.line rule second.line by one.refused second.refused in (
      same_Some number other (sym one.comes_from ∙ ap (λ line. slice_get (numbers lines) (line - 1)) same.0 ∙ second.comes_from),
      same.1,
    )

among_read : (before : List GroupLines) (group : GroupLines) (later : List GroupLines) → AllByRecursion IsRead (before ++ (group ∷ later)) → IsRead group
among_read [] group later read = read.0
among_read (one ∷ before) group later read = among_read before group later read.1

first_refused : (before : List GroupLines) (group : GroupLines) (later before' : List GroupLines) (group' : GroupLines) (later' : List GroupLines)
    (number rule other by : ℕ) → AllByRecursion IsRead before → RefusesGroup group number rule → AllByRecursion IsRead before'
    → RefusesGroup group' other by → before ++ (group ∷ later) ≡ before' ++ (group' ∷ later') → (number ≡ other) × (rule ≡ by)
first_refused [] group later [] group' later' number rule other by read refuses also too same =
    group_refused_once group number rule other by refuses
    (subst (λ lines. RefusesGroup lines other by) (sym (same_first group group' later later' same)) too)
first_refused [] group later (one ∷ before') group' later' number rule other by read refuses also too same =
    absurd (not_read group number rule (subst IsRead (sym (same_first group one later (before' ++ (group' ∷ later')) same)) also.0) refuses)
first_refused (one ∷ before) group later [] group' later' number rule other by read refuses also too same =
    absurd (not_read group' other by (subst IsRead (same_first one group' (before ++ (group ∷ later)) later' same) read.0) too)
first_refused (one ∷ before) group later (two ∷ before') group' later' number rule other by read refuses also too same =
    first_refused before group later before' group' later' number rule other by read.1 refuses also.1 too
    (same_rest one two (before ++ (group ∷ later)) (before' ++ (group' ∷ later')) same)

groups_refused_once : (groups others : List GroupLines) (number rule other by : ℕ) → groups ≡ others → RefusesGroups groups number rule
    → RefusesGroups others other by → (number ≡ other) × (rule ≡ by)
groups_refused_once groups others number rule other by same one second =
    first_refused one.before one.group one.later second.before second.group second.later number rule other by one.read one.refuses second.read
    second.refuses (sym one.cut ∙ same ∙ second.cut)

some_unread : (groups others : List GroupLines) (number rule : ℕ) → groups ≡ others → RefusesGroups groups number rule → AllByRecursion IsRead others → ⊥
some_unread groups others number rule same refuses read =
    not_read refuses.group number rule
    (among_read refuses.before refuses.group refuses.later (subst (AllByRecursion IsRead) (sym same ∙ refuses.cut) read)) refuses.refuses

main_refused_once : (rest rest' : List ℕ) (main main' number rule other by : ℕ) → lines_of rest ≡ lines_of rest' → main ≡ main'
    → RefusesMain rest main number rule → RefusesMain rest' main' other by → (number ≡ other) × (rule ≡ by)
main_refused_once rest rest' main main' number rule other by same mains one second =
    let once = refused_once rest' one.line rule second.line by (refused_same rest rest' one.line rule same one.refused) second.refused in
    (one.counted ∙ ap₂ (λ a b. a + b) mains once.0 ∙ sym second.counted, once.1)

part_once : (text : List ℕ) (number rule other by : ℕ) → RefusesPart text number rule → RefusesPart text other by → (number ≡ other) × (rule ≡ by)
part_once text number rule other by first second = cases first.refused second.refused
  where
    same : SameCut first.cut.prefix first.cut.main first.cut.later second.cut.prefix second.cut.main second.cut.later
    same = same_cut text first.cut second.cut

    groups : groups_of first.cut.prefix ≡ groups_of second.cut.prefix
    groups = ap groups_of same.fronts

    cases : RefusesGroups (groups_of first.cut.prefix) number rule
        ⊎ (AllByRecursion IsRead (groups_of first.cut.prefix) × RefusesMain first.cut.rest first.cut.main.number number rule)
        → RefusesGroups (groups_of second.cut.prefix) other by
        ⊎ (AllByRecursion IsRead (groups_of second.cut.prefix) × RefusesMain second.cut.rest second.cut.main.number other by)
        → (number ≡ other) × (rule ≡ by)
    cases (inl one) (inl two) = groups_refused_once (groups_of first.cut.prefix) (groups_of second.cut.prefix) number rule other by groups one two
    cases (inl one) (inr two) = absurd (some_unread (groups_of first.cut.prefix) (groups_of second.cut.prefix) number rule groups one two.0)
    cases (inr one) (inl two) = absurd (some_unread (groups_of second.cut.prefix) (groups_of first.cut.prefix) other by (sym groups) two one.0)
    cases (inr one) (inr two) =
        main_refused_once first.cut.rest second.cut.rest first.cut.main.number second.cut.main.number number rule other by
        (same_rests text first.cut second.cut) (ap (λ (line : SourceLine). line.number) same.mains) one.1 two.1

-- ---- One refusal

too_long : (text : List ℕ) → text_limit < size_of text → size_of text ≤ text_limit → ⊥
too_long text long short = omega (arith, long, short)

pub one_refusal : (text : List ℕ) (line rule other by : ℕ) → RefusesNest text line rule → RefusesNest text other by → (line ≡ other) × (rule ≡ by)
one_refusal text line rule other by (inl one) (inl two) = (one.1 ∙ sym two.1, one.2 ∙ sym two.2)
one_refusal text line rule other by (inl one) (inr two) = absurd (too_long text one.0 two.0)
one_refusal text line rule other by (inr one) (inl two) = absurd (too_long text two.0 one.0)
one_refusal text line rule other by (inr (short, inl one)) (inr (also, inl two)) = (breaks_once text line other one.1 two.1, one.0 ∙ sym two.0)
one_refusal text line rule other by (inr (short, inl one)) (inr (also, inr two)) = absurd (cut_breaks text line two.cut one.1)
one_refusal text line rule other by (inr (short, inr one)) (inr (also, inl two)) = absurd (cut_breaks text other one.cut two.1)
one_refusal text line rule other by (inr (short, inr one)) (inr (also, inr two)) = part_once text line rule other by one two

part_read : (text : List ℕ) (nest : Nest) (number rule : ℕ) → IsNestOf text nest → RefusesPart text number rule → ⊥
part_read text nest number rule is refuses = cases refuses.refused
  where
    same : SameCut refuses.cut.prefix refuses.cut.main refuses.cut.later is.cut.prefix is.cut.main is.cut.later
    same = same_cut text refuses.cut is.cut

    cases : RefusesGroups (groups_of refuses.cut.prefix) number rule
        ⊎ (AllByRecursion IsRead (groups_of refuses.cut.prefix) × RefusesMain refuses.cut.rest refuses.cut.main.number number rule) → ⊥
    cases (inl one) =
        some_unread (groups_of refuses.cut.prefix) (groups_of is.cut.prefix) number rule (ap groups_of same.fronts) one
        (groups_read (groups_of is.cut.prefix) nest.groups is.groups)
    cases (inr one) =
        (answered_once known is.cut.rest).not_both nest.main one.1.line rule is.main
        (refused_same refuses.cut.rest is.cut.rest one.1.line rule (same_rests text refuses.cut is.cut) one.1.refused)

pub not_both : (text : List ℕ) (nest : Nest) (line rule : ℕ) → IsNestOf text nest → RefusesNest text line rule → ⊥
not_both text nest line rule is (inl refused) = too_long text refused.0 is.short
not_both text nest line rule is (inr (short, inl refused)) = cut_breaks text line is.cut refused.1
not_both text nest line rule is (inr (short, inr refused)) = part_read text nest line rule is refused
