-- Each nested text has a nest, or is refused.
use Rattle.std.proofs.Common.{◌≡◌, ℕ, ◌+◌, ◌-◌, ◌≤◌, ◌<◌, Bool, true, false, List, [], ◌∷◌, ◌++◌, map, length, get_or, inl, inr, Option, Some, None, refl, ap, subst, arith}
use Rattle.std.specs.Prelude.{◌||◌, ◌⊎◌, nat_lt}
use Rattle.std.specs.List.{AllByRecursion, AllZip, flat_map}
use Rattle.std.proofs.lemmas.Option.{slice_get-get_or}
use Rattle.list_laws.proofs.Lists.{back_of, front_of}
use Rattle.list_laws.proofs.Truths.{lt_not_told, lt_told}
use Rattle.unit_tree.specs.Lines.{size_of}
use Rattle.model_rules.specs.Limits.{text_limit}
use Rattle.unit_tree.specs.Texts.{IsRefused, Reads}
use Rattle.unit_tree.specs.declared.system.System.{System}
use Rattle.unit_text.proofs.AnswerLaws.{answered_once}
use Rattle.unit_text.proofs.KnownForms.{known}
use Rattle.nest_text.specs.Laws.{NestsAreReadOnce}
use Rattle.nest_text.specs.NestLines.{AreLines, SourceLine, are_placed}
use Rattle.nest_text.specs.Nests.{GroupLines, IsCut, IsGroupOf, IsNestOf, RefusesGroups, RefusesNest, given, groups_of, has_main, in_on, is_main, numbers, out_on}
use Rattle.nest_text.specs.Reading.{first_stray}
use Rattle.nest_text.specs.declared.kind.LineKind.TheVariants as kinds
use Rattle.nest_text.specs.declared.nest.Group.{Group}
use Rattle.nest_text.specs.declared.nest.Nest.{Nest}
use Rattle.nest_text.specs.declared.place.PartPlace.TheVariants.{BeforeParts}
use Rattle.nest_text.proofs.GroupWalks.{given_long, groups_keep, groups_read}
use Rattle.nest_text.proofs.LineWalks.{lines_there, none_strays, strays_at}
use Rattle.nest_text.proofs.NestsOnce.{not_both, one_nest, one_refusal}
use Rattle.nest_text.proofs.RefusedLines.{line_refused}
use Rattle.nest_text.proofs.TextCuts.{IsWhole, are_whole, ended, lines_ended, main_kind, whole_bytes}

-- ---- The cut

record FoundMain (lines : List SourceLine) : Type 0 where
  prefix : List SourceLine
  main : SourceLine
  later : List SourceLine
  cut : lines ≡ prefix ++ (main ∷ later)
  is : main.kind ≡ kinds.Main

found_by : (line : SourceLine) (lines : List SourceLine) (test : Bool) → is_main line.kind ≡ test → (has_main lines ≡ true → FoundMain lines)
    → (test || has_main lines) ≡ true → FoundMain (line ∷ lines)
found_by line lines true is later some = record { prefix = []; main = line; later = lines; cut = refl; is = main_kind line.kind is }
found_by line lines false is later some =
    let found = later some in
    record { prefix = line ∷ found.prefix; main = found.main; later = found.later; cut = ap (λ all. line ∷ all) found.cut; is = found.is }

found_main : (lines : List SourceLine) → has_main lines ≡ true → FoundMain lines
found_main [] some = absurd (cc)
found_main (line ∷ lines) some = found_by line lines (is_main line.kind) refl (λ later. found_main lines later) some

-- The parts of a text, with complete lines.
record CutThere (text : List ℕ) : Type 0 where
  cut : IsCut text
  whole : AllByRecursion (λ line. IsWhole line.bytes) cut.prefix

cut_there : (text : List ℕ) (lines : List SourceLine) → AreLines 1 text lines → has_main lines ≡ true → are_placed BeforeParts lines ≡ true → CutThere text
cut_there text lines are some placed =
    let found = found_main lines some in
    let whole = subst (AllByRecursion (λ (line : SourceLine). IsWhole line.bytes)) found.cut (are_whole 1 text lines are) in
    let behind = back_of (λ (line : SourceLine). IsWhole line.bytes) found.prefix (found.main ∷ found.later) whole in
    let bytes = map (λ (line : SourceLine). line.bytes) found.later in
    record {
      cut = record {
        lines = lines;
        are_lines = are;
        placed = placed;
        prefix = found.prefix;
        main = found.main;
        later = found.later;
        cut = found.cut;
        is_main = found.is;
        rest = ended bytes;
        rest_is = lines_ended bytes (whole_bytes found.later behind.1);
      };
      whole = front_of (λ (line : SourceLine). IsWhole line.bytes) found.prefix (found.main ∷ found.later) whole;
    }

-- ---- Groups

abbrev GroupsTold : List GroupLines → Type 0
GroupsTold groups = ((made : List Group) × AllZip IsGroupOf groups made) ⊎ ((number : ℕ) × (rule : ℕ) × RefusesGroups groups number rule)

-- The group of a group's text.
abbrev said : GroupLines → System → Group
said lines system = record {
  name = lines.name;
  ins = flat_map (λ line. in_on line.kind) lines.body;
  outs = flat_map (λ line. out_on line.kind) lines.body;
  instances = system.instances;
  wires = system.wires;
}

is_said : (lines : GroupLines) (system : System) → Reads (given lines) system → IsGroupOf lines (said lines system)
is_said lines system reads =
    record { name = refl; ins = refl; outs = refl; system = system; reads = reads; instances = refl; wires = refl }

group_more : (lines : GroupLines) (groups : List GroupLines) (system : System) → Reads (given lines) system → GroupsTold groups → GroupsTold (lines ∷ groups)
group_more lines groups system reads (inl (made, all)) = inl (said lines system ∷ made, (is_said lines system reads, all))
group_more lines groups system reads (inr (number, rule, refuses)) = inr (
  number,
  rule,
  record {
    before = lines ∷ refuses.before;
    group = refuses.group;
    later = refuses.later;
    cut = ap (λ all. lines ∷ all) refuses.cut;
    read = ((said lines system, is_said lines system reads), refuses.read);
    refuses = refuses.refuses;
  },
)

group_told : (lines : GroupLines) (groups : List GroupLines) → AllByRecursion (λ line. IsWhole line.bytes) lines.body → GroupsTold groups
    → ((system : System) × Reads (given lines) system) ⊎ ((line : ℕ) × (rule : ℕ) × IsRefused (given lines) line rule) → GroupsTold (lines ∷ groups)
group_told lines groups whole told (inl (system, reads)) = group_more lines groups system reads told
group_told lines groups whole told (inr (line, rule, refused)) =
    let long = given_long lines whole in
    let at = line_refused (given lines) line rule refused in
    let first = at.first in
    let within = at.within (omega (arith, long)) in
    let bound : line - 1 < length (numbers lines) = omega (arith, long, first, within) in
    inr (
      get_or (numbers lines) (line - 1) 0,
      rule,
      record {
        before = [];
        group = lines;
        later = groups;
        cut = refl;
        read = tt;
        refuses = record { line = line; refused = refused; comes_from = slice_get-get_or (numbers lines) (line - 1) 0 bound };
      },
    )

groups_told : (groups : List GroupLines) → AllByRecursion (λ group. AllByRecursion (λ line. IsWhole line.bytes) group.body) groups → GroupsTold groups
groups_told [] whole = inl ([], tt)
groups_told (lines ∷ groups) whole = group_told lines groups whole.0 (groups_told groups whole.1) (answered_once known (given lines)).answered

-- ---- Texts

abbrev Told : List ℕ → Type 0
Told text = ((nest : Nest) × IsNestOf text nest) ⊎ ((line : ℕ) × (rule : ℕ) × RefusesNest text line rule)

main_told : (text : List ℕ) (cut : IsCut text) (made : List Group) → size_of text ≤ text_limit → AllZip IsGroupOf (groups_of cut.prefix) made
    → ((system : System) × Reads cut.rest system) ⊎ ((line : ℕ) × (rule : ℕ) × IsRefused cut.rest line rule) → Told text
main_told text cut made short all (inl (system, reads)) = inl (
  record { main = system; groups = made; lines = map (λ (group : GroupLines). group.head) (groups_of cut.prefix); main_line = cut.main.number },
  record { short = short; cut = cut; groups = all; lines = refl; main = reads; main_line = refl },
)
main_told text cut made short all (inr (line, rule, refused)) = inr (
  cut.main.number + line,
  rule,
  inr (
    short,
    inr (record {
      cut = cut;
      refused = inr (groups_read (groups_of cut.prefix) made all, record { line = line; refused = refused; counted = refl });
    }),
  ),
)

parts_told : (text : List ℕ) (cut : IsCut text) → size_of text ≤ text_limit → GroupsTold (groups_of cut.prefix) → Told text
parts_told text cut short (inl (made, all)) = main_told text cut made short all (answered_once known cut.rest).answered
parts_told text cut short (inr (number, rule, refuses)) = inr (number, rule, inr (short, inr (record { cut = cut; refused = inl refuses })))

stray_told : (text : List ℕ) (lines : List SourceLine) → size_of text ≤ text_limit → AreLines 1 text lines → has_main lines ≡ true
    → (stray : Option ℕ) → first_stray BeforeParts lines ≡ stray → Told text
stray_told text lines short are some None none =
    let there = cut_there text lines are some (none_strays BeforeParts lines none) in
    parts_told text there.cut short (groups_told (groups_of there.cut.prefix) (groups_keep (λ line. IsWhole line.bytes) there.cut.prefix there.whole))
stray_told text lines short are some (Some number) is =
    let found = strays_at BeforeParts lines number is in
    inr (
      number,
      26,
      inr (
        short,
        inl (
          refl,
          record {
            lines = lines;
            are_lines = are;
            breaks = inr (
              some,
              record {
                before = found.before;
                line = found.line;
                later = found.later;
                cut = found.cut;
                before_placed = found.before_placed;
                stray = found.stray;
                is_number = found.is_number;
              },
            );
          },
        ),
      ),
    )

lines_told : (text : List ℕ) (lines : List SourceLine) → size_of text ≤ text_limit → AreLines 1 text lines → (test : Bool) → has_main lines ≡ test → Told text
lines_told text lines short are true some = stray_told text lines short are some (first_stray BeforeParts lines) refl
lines_told text lines short are false none =
    inr (1, 26, inr (short, inl (refl, record { lines = lines; are_lines = are; breaks = inl (none, refl) })))

size_told : (text : List ℕ) (test : Bool) → nat_lt text_limit (size_of text) ≡ test → Told text
size_told text true long = inr (1, 2, inl (lt_told text_limit (size_of text) long, refl, refl))
size_told text false short =
    let all = lines_there 1 text in
    lines_told text all.0 (lt_not_told text_limit (size_of text) short) all.1 (has_main all.0) refl

pub nested_once : NestsAreReadOnce
nested_once text = record {
  answered = size_told text (nat_lt text_limit (size_of text)) refl;
  one_nest = one_nest text;
  one_refusal = one_refusal text;
  not_both = not_both text;
}
