-- Where the lines of a text are where they are allowed, what may occur once occurs once.
use Rattle.std.proofs.Common.{◌≡◌, ℕ, ◌≤◌, Bool, true, false, cond, List, [], ◌∷◌, ◌++◌, append_assoc, length, refl, ap, sym}
use Rattle.std.proofs.Common.{subst, ◌∙◌, arith}
use Rattle.std.specs.Prelude.{IsTrue, ⊤, ◌==◌, not, ◌&&◌}
use Rattle.std.specs.List.{flat_map, filter, list_all, list_any}
use Rattle.std.proofs.lemmas.Bool.{and_parts}
use Rattle.std.proofs.lemmas.List.{append-nil}
use Rattle.fixed_words.specs.declared.types.Literal.TheVariants as literal
use Rattle.unit_tree.specs.Blocks.{Before, no_lines, and_line, and_lines, opens_unit, has_rival, has_room, holds_form, may_stand, are_placed}
use Rattle.unit_tree.specs.LineForms.{are_alike}
use Rattle.unit_tree.specs.Parts as parts
use Rattle.unit_tree.specs.Parts.{Part, UnitPart, line_forms, unit_part_forms, part_forms, text_forms}
use Rattle.unit_tree.specs.Sites.{is_step_line}
use Rattle.unit_tree.specs.SourceLines.{unit_part_rank, part_rank}
use Rattle.unit_tree.specs.declared.expr.Expr as expr
use Rattle.unit_tree.specs.declared.line_form.LineForm.{LineForm}
use Rattle.unit_tree.specs.declared.line_form.LineForm.TheVariants as form
use Rattle.unit_tree.specs.declared.unit.Unit.{Unit}
use Rattle.language_laws.proofs.BlockLaws.{all_step_lines}
use Rattle.language_laws.proofs.OpenBlocks.{all_in_text}
use Rattle.list_laws.proofs.Lists.{all_of_two, any_front, any_behind}
use Rattle.list_laws.proofs.Truths.{not_true}

-- ---- What occurs once

-- What a unit has at most once.
pub record UnitSaysOnce (all : List UnitPart) : Type 0 where
  pub resolution : length (filter (λ part. unit_part_rank part == 0) all) ≤ 1
  pub max : length (filter (λ part. unit_part_rank part == 8) all) ≤ 1
  pub step : length (filter (λ part. unit_part_rank part == 9) all) ≤ 1

-- The same for each unit.
abbrev pub UnitsSayOnce : List Part → Type 0
UnitsSayOnce [] = ⊤
UnitsSayOnce (parts.HasUnit name inside ∷ all) = UnitSaysOnce inside × UnitsSayOnce all
UnitsSayOnce (parts.HasInstance instance ∷ all) = UnitsSayOnce all
UnitsSayOnce (parts.Connects wire ∷ all) = UnitsSayOnce all
UnitsSayOnce (parts.Stop seconds ∷ all) = UnitsSayOnce all
UnitsSayOnce (parts.Longest seconds ∷ all) = UnitsSayOnce all
UnitsSayOnce (parts.Zero count ∷ all) = UnitsSayOnce all
UnitsSayOnce (parts.Rows count ∷ all) = UnitsSayOnce all
UnitsSayOnce (parts.Samples port ∷ all) = UnitsSayOnce all

-- What a text has at most once.
pub record TextSaysOnce (all : List Part) : Type 0 where
  pub stop : length (filter (λ part. part_rank part == 3) all) ≤ 1
  pub longest : length (filter (λ part. part_rank part == 4) all) ≤ 1
  pub zero : length (filter (λ part. part_rank part == 5) all) ≤ 1
  pub rows : length (filter (λ part. part_rank part == 6) all) ≤ 1
  pub units : UnitsSayOnce all

-- ---- Lines where they are allowed

placed_behind : (before : Before) (xs ys : List LineForm) → are_placed before (xs ++ ys) ≡ true → are_placed (and_lines before xs) ys ≡ true
placed_behind before [] ys placed = placed
placed_behind before (x ∷ xs) ys placed =
    let both = and_parts (may_stand before x) (are_placed (and_line before x) (xs ++ ys)) placed in
    placed_behind (and_line before x) xs ys both.1

inside_unit_by : (test : Bool) (before : Before) (x : LineForm) → opens_unit x ≡ test → not test ≡ true
    → (and_line before x).in_unit ≡ before.in_unit ++ (x ∷ [])
inside_unit_by true before x is told = absurd (cc told)
inside_unit_by false before x is told = rw is refl

in_unit_is : (before : Before) (lines : List LineForm) → list_all (λ line. not (opens_unit line)) lines ≡ true
    → (and_lines before lines).in_unit ≡ before.in_unit ++ lines
in_unit_is before [] none = sym (append-nil before.in_unit)
in_unit_is before (x ∷ lines) none =
    let both = and_parts (not (opens_unit x)) (list_all (λ line. not (opens_unit line)) lines) none in
    in_unit_is (and_line before x) lines both.1
    ∙ ap (λ seen. seen ++ lines) (inside_unit_by (opens_unit x) before x refl both.0)
    ∙ append_assoc before.in_unit (x ∷ []) lines

opens_none : (some : LineForm) → is_step_line some ≡ true → not (opens_unit some) ≡ true
opens_none (form.Header version) told = refl
opens_none (form.Unit name) told = absurd (cc told)
opens_none (form.Resolution decimals) told = refl
opens_none (form.Param param) told = refl
opens_none (form.State state) told = refl
opens_none (form.Local local) told = refl
opens_none (form.Input input) told = refl
opens_none (form.EventInput event) told = refl
opens_none (form.Output output) told = refl
opens_none (form.EventOutput event) told = refl
opens_none (form.Max value) told = refl
opens_none form.Step told = refl
opens_none form.End told = refl
opens_none (form.Assign target value) told = refl
opens_none (form.If cond) told = refl
opens_none form.Else told = refl
opens_none (form.Repeat count) told = refl
opens_none (form.Accept value) told = refl
opens_none (form.Instance name unit) told = refl
opens_none (form.Setting setting) told = refl
opens_none (form.Connect wire) told = refl
opens_none (form.Stop seconds) told = refl
opens_none (form.Longest seconds) told = refl
opens_none (form.Zero count) told = refl
opens_none (form.Rows count) told = refl
opens_none (form.Sample port) told = refl

steps_open_none : (lines : List LineForm) → list_all is_step_line lines ≡ true → list_all (λ line. not (opens_unit line)) lines ≡ true
steps_open_none [] told = refl
steps_open_none (x ∷ lines) told =
    let both = and_parts (is_step_line x) (list_all is_step_line lines) told in
    rw (opens_none x both.0) (steps_open_none lines both.1)

part_opens_none : (part : UnitPart) → list_all (λ line. not (opens_unit line)) (unit_part_forms part) ≡ true
part_opens_none (parts.Resolution decimals) = refl
part_opens_none (parts.HasParam param) = refl
part_opens_none (parts.HasState state) = refl
part_opens_none (parts.HasLocal local) = refl
part_opens_none (parts.HasInput input) = refl
part_opens_none (parts.HasEventIn event) = refl
part_opens_none (parts.HasOutput output) = refl
part_opens_none (parts.HasEventOut event) = refl
part_opens_none (parts.Max value) = refl
part_opens_none (parts.Step lines) =
    all_of_two (λ line. not (opens_unit line)) (flat_map line_forms lines) (form.End ∷ [])
    (steps_open_none (flat_map line_forms lines) (all_step_lines lines)) refl

-- A kind of part that may occur at most once: the lines before a line include all lines of the parts before. A part of
-- the kind has its key there, and is not allowed after another with this key.
record StandsOnce {P : Type 0} (rank : P → ℕ) (forms : P → List LineForm) (kind : ℕ) (key : LineForm → Bool) (seen : Before → List LineForm) : Type 0 where
  keeps : (before : Before) (part : P) → seen (and_lines before (forms part)) ≡ seen before ++ forms part
  shows : (part : P) → (rank part == kind) ≡ true → list_any key (forms part) ≡ true
  blocked : (before : Before) (part : P) (rest : List LineForm) → (rank part == kind) ≡ true → are_placed before (forms part ++ rest) ≡ true
      → list_any key (seen before) ≡ false

-- The lines of the parts after the first one, among the lines that are there.
behind_first : {P : Type 0} (forms : P → List LineForm) (before : Before) (part : P) (all : List P) (extra : List LineForm)
    → are_placed before (flat_map forms (part ∷ all) ++ extra) ≡ true → are_placed before (forms part ++ (flat_map forms all ++ extra)) ≡ true
behind_first forms before part all extra placed = subst (λ lines. are_placed before lines ≡ true) (append_assoc (forms part) (flat_map forms all) extra) placed

no_more_by : {P : Type 0} {rank : P → ℕ} {forms : P → List LineForm} {kind : ℕ} {key : LineForm → Bool} {seen : Before → List LineForm}
    (rule : StandsOnce rank forms kind key seen) (test : Bool) (before : Before) (part : P) (all : List P) (extra : List LineForm)
    → (rank part == kind) ≡ test → are_placed before (forms part ++ (flat_map forms all ++ extra)) ≡ true → list_any key (seen before) ≡ true
    → filter (λ p. rank p == kind) all ≡ [] → filter (λ p. rank p == kind) (part ∷ all) ≡ []
no_more_by {forms = forms} rule true before part all extra is placed told rest = let blocked =
    rule.blocked before part (flat_map forms all ++ extra) is placed in
    absurd (cc (told, blocked))
no_more_by rule false before part all extra is placed told rest = rw is rest

no_more : {P : Type 0} {rank : P → ℕ} {forms : P → List LineForm} {kind : ℕ} {key : LineForm → Bool} {seen : Before → List LineForm}
    (rule : StandsOnce rank forms kind key seen) (before : Before) (all : List P) (extra : List LineForm)
    → are_placed before (flat_map forms all ++ extra) ≡ true → list_any key (seen before) ≡ true → filter (λ p. rank p == kind) all ≡ []
no_more rule before [] extra placed told = refl
no_more {rank = rank} {forms = forms} {kind = kind} {key = key} {seen = seen} rule before (part ∷ all) extra placed told =
    let here = behind_first forms before part all extra placed in
    no_more_by rule (rank part == kind) before part all extra refl here told
    (no_more rule (and_lines before (forms part)) all extra (placed_behind before (forms part) (flat_map forms all ++ extra) here)
    (subst (λ all_seen. list_any key all_seen ≡ true) (sym (rule.keeps before part)) (any_front key (seen before) (forms part) told)))

one_at_most_by : {P : Type 0} (test : Bool) (rank : P → ℕ) (kind : ℕ) (part : P) (all : List P) → (rank part == kind) ≡ test
    → ((rank part == kind) ≡ true → filter (λ p. rank p == kind) all ≡ []) → length (filter (λ p. rank p == kind) all) ≤ 1
    → length (filter (λ p. rank p == kind) (part ∷ all)) ≤ 1
one_at_most_by true rank kind part all is none few = let empty = none is in rw (is, empty) (omega arith)
one_at_most_by false rank kind part all is none few = rw is few

one_at_most : {P : Type 0} {rank : P → ℕ} {forms : P → List LineForm} {kind : ℕ} {key : LineForm → Bool} {seen : Before → List LineForm}
    (rule : StandsOnce rank forms kind key seen) (before : Before) (all : List P) (extra : List LineForm)
    → are_placed before (flat_map forms all ++ extra) ≡ true → length (filter (λ p. rank p == kind) all) ≤ 1
one_at_most rule before [] extra placed = omega arith
one_at_most {rank = rank} {forms = forms} {kind = kind} {key = key} {seen = seen} rule before (part ∷ all) extra placed =
    let here = behind_first forms before part all extra placed in
    let later = placed_behind before (forms part) (flat_map forms all ++ extra) here in
    one_at_most_by (rank part == kind) rank kind part all refl
    (λ is. no_more rule (and_lines before (forms part)) all extra later
    (subst (λ all_seen. list_any key all_seen ≡ true) (sym (rule.keeps before part)) (any_behind key (seen before) (forms part) (rule.shows part is))))
    (one_at_most rule (and_lines before (forms part)) all extra later)

-- A line that is allowed has no rival.
no_rival : (before : Before) (line : LineForm) (rest : List LineForm) → are_placed before (line ∷ rest) ≡ true → has_rival before line ≡ false
no_rival before line rest placed =
    let stands = and_parts (may_stand before line) (are_placed (and_line before line) rest) placed in
    let parts = and_parts (holds_form before.open_blocks line) (not (has_rival before line) && has_room before.open_blocks line) stands.0 in
    not_true (has_rival before line) ((and_parts (not (has_rival before line)) (has_room before.open_blocks line) parts.1).0)

resolution_shows : (part : UnitPart) → (unit_part_rank part == 0) ≡ true → list_any (are_alike (form.Resolution 0)) (unit_part_forms part) ≡ true
resolution_shows (parts.Resolution decimals) is = refl
resolution_shows (parts.HasParam param) is = absurd (cc is)
resolution_shows (parts.HasState state) is = absurd (cc is)
resolution_shows (parts.HasLocal local) is = absurd (cc is)
resolution_shows (parts.HasInput input) is = absurd (cc is)
resolution_shows (parts.HasEventIn event) is = absurd (cc is)
resolution_shows (parts.HasOutput output) is = absurd (cc is)
resolution_shows (parts.HasEventOut event) is = absurd (cc is)
resolution_shows (parts.Max value) is = absurd (cc is)
resolution_shows (parts.Step lines) is = absurd (cc is)

resolution_blocked : (before : Before) (part : UnitPart) (rest : List LineForm) → (unit_part_rank part == 0) ≡ true
    → are_placed before (unit_part_forms part ++ rest) ≡ true → list_any (are_alike (form.Resolution 0)) before.in_unit ≡ false
resolution_blocked before (parts.Resolution decimals) rest is placed = no_rival before (form.Resolution decimals) _ placed
resolution_blocked before (parts.HasParam param) rest is placed = absurd (cc is)
resolution_blocked before (parts.HasState state) rest is placed = absurd (cc is)
resolution_blocked before (parts.HasLocal local) rest is placed = absurd (cc is)
resolution_blocked before (parts.HasInput input) rest is placed = absurd (cc is)
resolution_blocked before (parts.HasEventIn event) rest is placed = absurd (cc is)
resolution_blocked before (parts.HasOutput output) rest is placed = absurd (cc is)
resolution_blocked before (parts.HasEventOut event) rest is placed = absurd (cc is)
resolution_blocked before (parts.Max value) rest is placed = absurd (cc is)
resolution_blocked before (parts.Step lines) rest is placed = absurd (cc is)

resolution_once : StandsOnce unit_part_rank unit_part_forms 0 (are_alike (form.Resolution 0)) (λ before. before.in_unit)
resolution_once =
    record { keeps = λ before part. in_unit_is before (unit_part_forms part) (part_opens_none part); shows = resolution_shows; blocked = resolution_blocked }

max_shows : (part : UnitPart) → (unit_part_rank part == 8) ≡ true → list_any (are_alike (form.Max expr.Time)) (unit_part_forms part) ≡ true
max_shows (parts.Resolution decimals) is = absurd (cc is)
max_shows (parts.HasParam param) is = absurd (cc is)
max_shows (parts.HasState state) is = absurd (cc is)
max_shows (parts.HasLocal local) is = absurd (cc is)
max_shows (parts.HasInput input) is = absurd (cc is)
max_shows (parts.HasEventIn event) is = absurd (cc is)
max_shows (parts.HasOutput output) is = absurd (cc is)
max_shows (parts.HasEventOut event) is = absurd (cc is)
max_shows (parts.Max value) is = refl
max_shows (parts.Step lines) is = absurd (cc is)

max_blocked : (before : Before) (part : UnitPart) (rest : List LineForm) → (unit_part_rank part == 8) ≡ true
    → are_placed before (unit_part_forms part ++ rest) ≡ true → list_any (are_alike (form.Max expr.Time)) before.in_unit ≡ false
max_blocked before (parts.Resolution decimals) rest is placed = absurd (cc is)
max_blocked before (parts.HasParam param) rest is placed = absurd (cc is)
max_blocked before (parts.HasState state) rest is placed = absurd (cc is)
max_blocked before (parts.HasLocal local) rest is placed = absurd (cc is)
max_blocked before (parts.HasInput input) rest is placed = absurd (cc is)
max_blocked before (parts.HasEventIn event) rest is placed = absurd (cc is)
max_blocked before (parts.HasOutput output) rest is placed = absurd (cc is)
max_blocked before (parts.HasEventOut event) rest is placed = absurd (cc is)
max_blocked before (parts.Max value) rest is placed = no_rival before (form.Max value) _ placed
max_blocked before (parts.Step lines) rest is placed = absurd (cc is)

max_once : StandsOnce unit_part_rank unit_part_forms 8 (are_alike (form.Max expr.Time)) (λ before. before.in_unit)
max_once = record { keeps = λ before part. in_unit_is before (unit_part_forms part) (part_opens_none part); shows = max_shows; blocked = max_blocked }

step_shows : (part : UnitPart) → (unit_part_rank part == 9) ≡ true → list_any (are_alike form.Step) (unit_part_forms part) ≡ true
step_shows (parts.Resolution decimals) is = absurd (cc is)
step_shows (parts.HasParam param) is = absurd (cc is)
step_shows (parts.HasState state) is = absurd (cc is)
step_shows (parts.HasLocal local) is = absurd (cc is)
step_shows (parts.HasInput input) is = absurd (cc is)
step_shows (parts.HasEventIn event) is = absurd (cc is)
step_shows (parts.HasOutput output) is = absurd (cc is)
step_shows (parts.HasEventOut event) is = absurd (cc is)
step_shows (parts.Max value) is = absurd (cc is)
step_shows (parts.Step lines) is = refl

step_blocked : (before : Before) (part : UnitPart) (rest : List LineForm) → (unit_part_rank part == 9) ≡ true
    → are_placed before (unit_part_forms part ++ rest) ≡ true → list_any (are_alike form.Step) before.in_unit ≡ false
step_blocked before (parts.Resolution decimals) rest is placed = absurd (cc is)
step_blocked before (parts.HasParam param) rest is placed = absurd (cc is)
step_blocked before (parts.HasState state) rest is placed = absurd (cc is)
step_blocked before (parts.HasLocal local) rest is placed = absurd (cc is)
step_blocked before (parts.HasInput input) rest is placed = absurd (cc is)
step_blocked before (parts.HasEventIn event) rest is placed = absurd (cc is)
step_blocked before (parts.HasOutput output) rest is placed = absurd (cc is)
step_blocked before (parts.HasEventOut event) rest is placed = absurd (cc is)
step_blocked before (parts.Max value) rest is placed = absurd (cc is)
step_blocked before (parts.Step lines) rest is placed = no_rival before form.Step ((flat_map line_forms lines ++ (form.End ∷ [])) ++ rest) placed

step_once : StandsOnce unit_part_rank unit_part_forms 9 (are_alike form.Step) (λ before. before.in_unit)
step_once = record { keeps = λ before part. in_unit_is before (unit_part_forms part) (part_opens_none part); shows = step_shows; blocked = step_blocked }

stop_shows : (part : Part) → (part_rank part == 3) ≡ true → list_any (are_alike (form.Stop (literal.Truth true))) (part_forms part) ≡ true
stop_shows (parts.HasUnit name inside) is = absurd (cc is)
stop_shows (parts.HasInstance instance) is = absurd (cc is)
stop_shows (parts.Connects wire) is = absurd (cc is)
stop_shows (parts.Stop seconds) is = refl
stop_shows (parts.Longest seconds) is = absurd (cc is)
stop_shows (parts.Zero count) is = absurd (cc is)
stop_shows (parts.Rows count) is = absurd (cc is)
stop_shows (parts.Samples port) is = absurd (cc is)

stop_blocked : (before : Before) (part : Part) (rest : List LineForm) → (part_rank part == 3) ≡ true → are_placed before (part_forms part ++ rest) ≡ true
    → list_any (are_alike (form.Stop (literal.Truth true))) before.in_text ≡ false
stop_blocked before (parts.HasUnit name inside) rest is placed = absurd (cc is)
stop_blocked before (parts.HasInstance instance) rest is placed = absurd (cc is)
stop_blocked before (parts.Connects wire) rest is placed = absurd (cc is)
stop_blocked before (parts.Stop seconds) rest is placed = no_rival before (form.Stop seconds) _ placed
stop_blocked before (parts.Longest seconds) rest is placed = absurd (cc is)
stop_blocked before (parts.Zero count) rest is placed = absurd (cc is)
stop_blocked before (parts.Rows count) rest is placed = absurd (cc is)
stop_blocked before (parts.Samples port) rest is placed = absurd (cc is)

stop_once : StandsOnce part_rank part_forms 3 (are_alike (form.Stop (literal.Truth true))) (λ before. before.in_text)
stop_once = record { keeps = λ before part. all_in_text (part_forms part) before; shows = stop_shows; blocked = stop_blocked }

longest_shows : (part : Part) → (part_rank part == 4) ≡ true → list_any (are_alike (form.Longest (literal.Truth true))) (part_forms part) ≡ true
longest_shows (parts.HasUnit name inside) is = absurd (cc is)
longest_shows (parts.HasInstance instance) is = absurd (cc is)
longest_shows (parts.Connects wire) is = absurd (cc is)
longest_shows (parts.Stop seconds) is = absurd (cc is)
longest_shows (parts.Longest seconds) is = refl
longest_shows (parts.Zero count) is = absurd (cc is)
longest_shows (parts.Rows count) is = absurd (cc is)
longest_shows (parts.Samples port) is = absurd (cc is)

longest_blocked : (before : Before) (part : Part) (rest : List LineForm) → (part_rank part == 4) ≡ true → are_placed before (part_forms part ++ rest) ≡ true
    → list_any (are_alike (form.Longest (literal.Truth true))) before.in_text ≡ false
longest_blocked before (parts.HasUnit name inside) rest is placed = absurd (cc is)
longest_blocked before (parts.HasInstance instance) rest is placed = absurd (cc is)
longest_blocked before (parts.Connects wire) rest is placed = absurd (cc is)
longest_blocked before (parts.Stop seconds) rest is placed = absurd (cc is)
longest_blocked before (parts.Longest seconds) rest is placed = no_rival before (form.Longest seconds) _ placed
longest_blocked before (parts.Zero count) rest is placed = absurd (cc is)
longest_blocked before (parts.Rows count) rest is placed = absurd (cc is)
longest_blocked before (parts.Samples port) rest is placed = absurd (cc is)

longest_once : StandsOnce part_rank part_forms 4 (are_alike (form.Longest (literal.Truth true))) (λ before. before.in_text)
longest_once = record { keeps = λ before part. all_in_text (part_forms part) before; shows = longest_shows; blocked = longest_blocked }

zero_shows : (part : Part) → (part_rank part == 5) ≡ true → list_any (are_alike (form.Zero 0)) (part_forms part) ≡ true
zero_shows (parts.HasUnit name inside) is = absurd (cc is)
zero_shows (parts.HasInstance instance) is = absurd (cc is)
zero_shows (parts.Connects wire) is = absurd (cc is)
zero_shows (parts.Stop seconds) is = absurd (cc is)
zero_shows (parts.Longest seconds) is = absurd (cc is)
zero_shows (parts.Zero count) is = refl
zero_shows (parts.Rows count) is = absurd (cc is)
zero_shows (parts.Samples port) is = absurd (cc is)

zero_blocked : (before : Before) (part : Part) (rest : List LineForm) → (part_rank part == 5) ≡ true → are_placed before (part_forms part ++ rest) ≡ true
    → list_any (are_alike (form.Zero 0)) before.in_text ≡ false
zero_blocked before (parts.HasUnit name inside) rest is placed = absurd (cc is)
zero_blocked before (parts.HasInstance instance) rest is placed = absurd (cc is)
zero_blocked before (parts.Connects wire) rest is placed = absurd (cc is)
zero_blocked before (parts.Stop seconds) rest is placed = absurd (cc is)
zero_blocked before (parts.Longest seconds) rest is placed = absurd (cc is)
zero_blocked before (parts.Zero count) rest is placed = no_rival before (form.Zero count) _ placed
zero_blocked before (parts.Rows count) rest is placed = absurd (cc is)
zero_blocked before (parts.Samples port) rest is placed = absurd (cc is)

zero_once : StandsOnce part_rank part_forms 5 (are_alike (form.Zero 0)) (λ before. before.in_text)
zero_once = record { keeps = λ before part. all_in_text (part_forms part) before; shows = zero_shows; blocked = zero_blocked }

rows_shows : (part : Part) → (part_rank part == 6) ≡ true → list_any (are_alike (form.Rows 0)) (part_forms part) ≡ true
rows_shows (parts.HasUnit name inside) is = absurd (cc is)
rows_shows (parts.HasInstance instance) is = absurd (cc is)
rows_shows (parts.Connects wire) is = absurd (cc is)
rows_shows (parts.Stop seconds) is = absurd (cc is)
rows_shows (parts.Longest seconds) is = absurd (cc is)
rows_shows (parts.Zero count) is = absurd (cc is)
rows_shows (parts.Rows count) is = refl
rows_shows (parts.Samples port) is = absurd (cc is)

rows_blocked : (before : Before) (part : Part) (rest : List LineForm) → (part_rank part == 6) ≡ true → are_placed before (part_forms part ++ rest) ≡ true
    → list_any (are_alike (form.Rows 0)) before.in_text ≡ false
rows_blocked before (parts.HasUnit name inside) rest is placed = absurd (cc is)
rows_blocked before (parts.HasInstance instance) rest is placed = absurd (cc is)
rows_blocked before (parts.Connects wire) rest is placed = absurd (cc is)
rows_blocked before (parts.Stop seconds) rest is placed = absurd (cc is)
rows_blocked before (parts.Longest seconds) rest is placed = absurd (cc is)
rows_blocked before (parts.Zero count) rest is placed = absurd (cc is)
rows_blocked before (parts.Rows count) rest is placed = no_rival before (form.Rows count) _ placed
rows_blocked before (parts.Samples port) rest is placed = absurd (cc is)

rows_once : StandsOnce part_rank part_forms 6 (are_alike (form.Rows 0)) (λ before. before.in_text)
rows_once = record { keeps = λ before part. all_in_text (part_forms part) before; shows = rows_shows; blocked = rows_blocked }

unit_says_once : (before : Before) (name : List ℕ) (inside : List UnitPart) (rest : List LineForm)
    → are_placed before (part_forms (parts.HasUnit name inside) ++ rest) ≡ true → UnitSaysOnce inside
unit_says_once before name inside rest placed =
    let behind_name =
    (and_parts (may_stand before (form.Unit name))
    (are_placed (and_line before (form.Unit name)) ((flat_map unit_part_forms inside ++ (form.End ∷ [])) ++ rest)) placed).1 in
    let here =
    subst (λ lines. are_placed (and_line before (form.Unit name)) lines ≡ true)
    (append_assoc (flat_map unit_part_forms inside) (form.End ∷ []) rest) behind_name in
    record {
      resolution = one_at_most resolution_once (and_line before (form.Unit name)) inside (form.End ∷ rest) here;
      max = one_at_most max_once (and_line before (form.Unit name)) inside (form.End ∷ rest) here;
      step = one_at_most step_once (and_line before (form.Unit name)) inside (form.End ∷ rest) here;
    }

units_say_once : (before : Before) (all : List Part) (extra : List LineForm) → are_placed before (flat_map part_forms all ++ extra) ≡ true → UnitsSayOnce all
units_say_once before [] extra placed = _
units_say_once before (parts.HasUnit name inside ∷ all) extra placed =
    let here = behind_first part_forms before (parts.HasUnit name inside) all extra placed in (
      unit_says_once before name inside (flat_map part_forms all ++ extra) here,
      units_say_once (and_lines before (part_forms (parts.HasUnit name inside))) all extra
          (placed_behind before (part_forms (parts.HasUnit name inside)) (flat_map part_forms all ++ extra) here),
    )
units_say_once before (parts.HasInstance instance ∷ all) extra placed =
    units_say_once (and_lines before (part_forms (parts.HasInstance instance))) all extra
    (placed_behind before (part_forms (parts.HasInstance instance)) (flat_map part_forms all ++ extra)
    (behind_first part_forms before (parts.HasInstance instance) all extra placed))
units_say_once before (parts.Connects wire ∷ all) extra placed =
    units_say_once (and_lines before (part_forms (parts.Connects wire))) all extra
    (placed_behind before (part_forms (parts.Connects wire)) (flat_map part_forms all ++ extra)
    (behind_first part_forms before (parts.Connects wire) all extra placed))
units_say_once before (parts.Stop seconds ∷ all) extra placed =
    units_say_once (and_lines before (part_forms (parts.Stop seconds))) all extra
    (placed_behind before (part_forms (parts.Stop seconds)) (flat_map part_forms all ++ extra)
    (behind_first part_forms before (parts.Stop seconds) all extra placed))
units_say_once before (parts.Longest seconds ∷ all) extra placed =
    units_say_once (and_lines before (part_forms (parts.Longest seconds))) all extra
    (placed_behind before (part_forms (parts.Longest seconds)) (flat_map part_forms all ++ extra)
    (behind_first part_forms before (parts.Longest seconds) all extra placed))
units_say_once before (parts.Zero count ∷ all) extra placed =
    units_say_once (and_lines before (part_forms (parts.Zero count))) all extra
    (placed_behind before (part_forms (parts.Zero count)) (flat_map part_forms all ++ extra)
    (behind_first part_forms before (parts.Zero count) all extra placed))
units_say_once before (parts.Rows count ∷ all) extra placed =
    units_say_once (and_lines before (part_forms (parts.Rows count))) all extra
    (placed_behind before (part_forms (parts.Rows count)) (flat_map part_forms all ++ extra)
    (behind_first part_forms before (parts.Rows count) all extra placed))
units_say_once before (parts.Samples port ∷ all) extra placed =
    units_say_once (and_lines before (part_forms (parts.Samples port))) all extra
    (placed_behind before (part_forms (parts.Samples port)) (flat_map part_forms all ++ extra)
    (behind_first part_forms before (parts.Samples port) all extra placed))

pub text_says_once : (version : ℕ) (all : List Part) → IsTrue (are_placed no_lines (text_forms version all)) → TextSaysOnce all
text_says_once version all placed =
    let before = and_line no_lines (form.Header version) in
    let behind_header = (and_parts (may_stand no_lines (form.Header version)) (are_placed before (flat_map part_forms all)) placed).1 in
    let here : are_placed before (flat_map part_forms all ++ []) ≡ true =
    subst (λ lines. are_placed before lines ≡ true) (sym (append-nil (flat_map part_forms all))) behind_header in
    record {
      stop = one_at_most stop_once before all [] here;
      longest = one_at_most longest_once before all [] here;
      zero = one_at_most zero_once before all [] here;
      rows = one_at_most rows_once before all [] here;
      units = units_say_once before all [] here;
    }
