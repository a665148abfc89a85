-- The numbers of the lines of a text, collected line by line, are those of what the lines nest to. For a whole text
-- they are in canonical order.
use Rattle.std.proofs.Common.{◌≡◌, ℕ, ◌+◌, ◌≤◌, ◌==◌, Bool, true, false, List, [], ◌∷◌, ◌++◌, append_assoc, length, take, drop, map, Option, Some, None, refl}
use Rattle.std.proofs.Common.{ap, sym, ◌∙◌, arith}
use Rattle.std.specs.Prelude.{if◌then◌else◌}
use Rattle.std.specs.List.{fold, flat_map}
use Rattle.std.proofs.lemmas.Grind.{fold-append, flat_map-append}
use Rattle.std.proofs.lemmas.List.{append-nil, length-append, length-drop, drop-drop, take_all, take-append-le, drop-append-le, nil_from_length}
use Rattle.unit_tree.specs.Parts as parts
use Rattle.unit_tree.specs.Parts.{Part, UnitPart, joined, line_forms, unit_part_forms, part_forms, text_forms}
use Rattle.unit_tree.specs.SourceLines.{unit_part_rank, part_rank, of_rank, by_rank, each_ranked, unit_lines_in_order, part_lines_in_order, in_canonical_order}
use Rattle.unit_tree.specs.declared.line_form.LineForm.{LineForm}
use Rattle.unit_tree.specs.declared.line_form.LineForm.TheVariants as form
use Rattle.unit_tree.specs.declared.system.Instance.{Instance}
use Rattle.unit_text.specs.Nesting as nesting
use Rattle.unit_text.specs.Nesting.{Inner, Open, AtTop, InUnit, InStep, InInstance, Nested, headed_by, and_form, and_step_form, around_forms}
use Rattle.unit_text.specs.Nesting.{open_forms, nested_forms}
use Rattle.unit_text.specs.Numbering.{place_of, no_unit_numbers, bare_numbers, unit_in_order, unit_end, instance_line, with_group, with_line, marks_of}
use Rattle.unit_text.specs.Numbering.{with_mark, with_marks, in_order}
use Rattle.unit_text.specs.declared.numbers.Group.{Group}
use Rattle.unit_text.specs.declared.numbers.Mark.{Mark}
use Rattle.unit_text.specs.declared.numbers.Numbers.{Numbers}
use Rattle.unit_text.specs.declared.numbers.UnitNumbers.{UnitNumbers}
use Rattle.unit_text.proofs.NestingLaws.{IsHeld, adds}

-- ---- Numbers by rank

-- Numbers of one kind, with those of a part after them if it is of that kind.
abbrev with_ranked : ℕ → ℕ → List ℕ → List ℕ → List ℕ
with_ranked asked rank so_far own = if rank == asked then so_far ++ own else so_far

-- The numbers of a unit, with those of one more part.
abbrev pub with_unit_piece : UnitNumbers → ℕ × List ℕ → UnitNumbers
with_unit_piece unit piece = record {
  head = unit.head;
  resolution = with_ranked 0 piece.0 unit.resolution piece.1;
  params = with_ranked 1 piece.0 unit.params piece.1;
  states = with_ranked 2 piece.0 unit.states piece.1;
  locals = with_ranked 3 piece.0 unit.locals piece.1;
  inputs = with_ranked 4 piece.0 unit.inputs piece.1;
  events_in = with_ranked 5 piece.0 unit.events_in piece.1;
  outputs = with_ranked 6 piece.0 unit.outputs piece.1;
  events_out = with_ranked 7 piece.0 unit.events_out piece.1;
  max = with_ranked 8 piece.0 unit.max piece.1;
  step = with_ranked 9 piece.0 unit.step piece.1;
}

-- The numbers of a text, with those of one more part.
abbrev pub with_piece : Numbers → ℕ × List ℕ → Numbers
with_piece numbers piece = record {
  header = numbers.header;
  units = with_ranked 0 piece.0 numbers.units piece.1;
  instances = with_ranked 1 piece.0 numbers.instances piece.1;
  wires = with_ranked 2 piece.0 numbers.wires piece.1;
  stop = with_ranked 3 piece.0 numbers.stop piece.1;
  longest = with_ranked 4 piece.0 numbers.longest piece.1;
  zero = with_ranked 5 piece.0 numbers.zero piece.1;
  rows = with_ranked 6 piece.0 numbers.rows piece.1;
  samples = with_ranked 7 piece.0 numbers.samples piece.1;
  unit = numbers.unit;
}

-- ---- Lists of numbers, one for each line of parts

-- The numbers of each part of a unit, with its rank.
abbrev pub unit_pieces : List UnitPart → List ℕ → List (ℕ × List ℕ)
unit_pieces inside lines = each_ranked unit_part_rank (λ part. length (unit_part_forms part)) (λ part own. own) inside lines

-- The numbers of each part of a text, in the order that they have inside the part, with its rank.
abbrev pub text_pieces : List Part → List ℕ → List (ℕ × List ℕ)
text_pieces all lines = each_ranked part_rank (λ part. length (part_forms part)) part_lines_in_order all lines

-- The numbers of the parts of a unit, after that of its first line.
abbrev pub unit_numbers : List ℕ → List UnitPart → List ℕ → UnitNumbers
unit_numbers head inside lines = fold with_unit_piece (record no_unit_numbers { head = head }) (unit_pieces inside lines)

-- The number of the header, and no others.
abbrev pub header_numbers : List ℕ → Numbers
header_numbers header = record {
  header = header;
  units = [];
  instances = [];
  wires = [];
  stop = [];
  longest = [];
  zero = [];
  rows = [];
  samples = [];
  unit = no_unit_numbers;
}

-- The numbers of the complete parts of a text, after that of the header.
abbrev pub part_numbers : List ℕ → List Part → List ℕ → Numbers
part_numbers header all lines = fold with_piece (header_numbers header) (text_pieces all lines)

-- The numbers of a unit with more lines of its step.
abbrev with_step_lines : UnitNumbers → List ℕ → UnitNumbers
with_step_lines unit lines = record unit { step = unit.step ++ lines }

-- How many lines the parts have.
abbrev unit_size : List UnitPart → ℕ
unit_size inside = length (flat_map unit_part_forms inside)

-- The same for the parts of a text.
abbrev text_size : List Part → ℕ
text_size all = length (flat_map part_forms all)

-- With the numbers of the lines of the open block.
abbrev pub with_open : Numbers → Open → List ℕ → Numbers
with_open numbers AtTop lines = numbers
with_open numbers (InUnit name inside) lines = record numbers { unit = unit_numbers (take 1 lines) inside (drop 1 lines) }
with_open numbers (InStep name inside inner) lines =
    record numbers { unit = with_step_lines (unit_numbers (take 1 lines) inside (drop 1 lines)) (drop (unit_size inside) (drop 1 lines)) }
with_open numbers (InInstance instance) lines = record numbers { instances = numbers.instances ++ lines }

-- The numbers of lines, one for each line of what is nested, kind by kind.
abbrev pub numbers_of : Nested → List ℕ → Numbers
numbers_of nested numbers =
    with_open (part_numbers (take 1 numbers) nested.parts (drop 1 numbers)) nested.block (drop (text_size nested.parts) (drop 1 numbers))

-- ---- Numbers along parts

-- More parts use what follows the lines of the others.
each_more : {P : Type 0} (rank : P → ℕ) (forms : P → List LineForm) (own : P → List ℕ → List ℕ) (all more : List P) (lines : List ℕ)
    → each_ranked rank (λ part. length (forms part)) own (all ++ more) lines
    ≡ each_ranked rank (λ part. length (forms part)) own all lines
    ++ each_ranked rank (λ part. length (forms part)) own more (drop (length (flat_map forms all)) lines)
each_more rank forms own [] more lines = refl
each_more rank forms own (part ∷ all) more lines =
    let size = length (forms part) in
    let behind : drop (length (flat_map forms all)) (drop size lines) ≡ drop (length (flat_map forms (part ∷ all))) lines =
    drop-drop (length (flat_map forms all)) size lines
    ∙ ap (λ n. drop n lines) (omega (arith, length-append (forms part) (flat_map forms all))) in
    ap (λ pieces. (rank part, own part (take size lines)) ∷ pieces) (
    each_more rank forms own all more (drop size lines)
    ∙ ap (λ rest. each_ranked rank (λ p. length (forms p)) own all (drop size lines) ++ each_ranked rank (λ p. length (forms p)) own more rest) behind
    )

-- What follows the lines of the parts changes nothing.
each_extra : {P : Type 0} (rank : P → ℕ) (forms : P → List LineForm) (own : P → List ℕ → List ℕ) (all : List P) (lines extra : List ℕ)
    → length (flat_map forms all) ≤ length lines
    → each_ranked rank (λ part. length (forms part)) own all (lines ++ extra) ≡ each_ranked rank (λ part. length (forms part)) own all lines
each_extra rank forms own [] lines extra enough = refl
each_extra rank forms own (part ∷ all) lines extra enough =
    let size = length (forms part) in
    let long : size ≤ length lines = omega (arith, enough, length-append (forms part) (flat_map forms all)) in
    let rest : length (flat_map forms all) ≤ length (drop size lines) =
    omega (arith, enough, length-append (forms part) (flat_map forms all), length-drop size lines) in
    ap (λ taken. (rank part, own part taken) ∷ each_ranked rank (λ p. length (forms p)) own all (drop size (lines ++ extra)))
    (take-append-le size lines extra long)
    ∙ ap (λ dropped. (rank part, own part (take size lines)) ∷ each_ranked rank (λ p. length (forms p)) own all dropped) (drop-append-le size lines extra long)
    ∙ ap (λ pieces. (rank part, own part (take size lines)) ∷ pieces) (each_extra rank forms own all (drop size lines) extra rest)

-- One more part, whose lines are all that follows those of the others.
each_one : {P : Type 0} (rank : P → ℕ) (forms : P → List LineForm) (own : P → List ℕ → List ℕ) (all : List P) (part : P) (lines extra : List ℕ)
    → length (flat_map forms all) ≤ length lines → length (drop (length (flat_map forms all)) lines ++ extra) ≡ length (forms part)
    → each_ranked rank (λ part. length (forms part)) own (all ++ (part ∷ [])) (lines ++ extra)
    ≡ each_ranked rank (λ part. length (forms part)) own all lines ++ ((rank part, own part (drop (length (flat_map forms all)) lines ++ extra)) ∷ [])
each_one rank forms own all part lines extra enough same =
    let before = length (flat_map forms all) in
    let behind = drop before lines ++ extra in
    each_more rank forms own all (part ∷ []) (lines ++ extra)
    ∙ ap (λ pieces. pieces ++ each_ranked rank (λ p. length (forms p)) own (part ∷ []) (drop before (lines ++ extra)))
    (each_extra rank forms own all lines extra enough)
    ∙ ap (λ rest. each_ranked rank (λ p. length (forms p)) own all lines ++ each_ranked rank (λ p. length (forms p)) own (part ∷ []) rest)
    (drop-append-le before lines extra enough)
    ∙ ap (λ taken. each_ranked rank (λ p. length (forms p)) own all lines ++ ((rank part, own part taken) ∷ []))
    (take_all (length (forms part)) behind (omega (arith, same)))

-- ---- Of each kind

-- The numbers of a part are before those of the later parts of the kind.
ranked_behind : (asked : ℕ) (piece : ℕ × List ℕ) (test : Bool) (so_far : List ℕ) (pieces : List (ℕ × List ℕ)) → (piece.0 == asked) ≡ test
    → with_ranked asked piece.0 so_far piece.1 ++ of_rank pieces asked ≡ so_far ++ of_rank (piece ∷ pieces) asked
ranked_behind asked piece true so_far pieces is = rw is (append_assoc so_far piece.1 (of_rank pieces asked))
ranked_behind asked piece false so_far pieces is = rw is refl

-- The numbers of one kind are those of its rank.
kind_is : {A : Type 0} (more : A → ℕ × List ℕ → A) (kind : A → List ℕ) (asked : ℕ)
    → ((so_far : A) (piece : ℕ × List ℕ) → kind (more so_far piece) ≡ with_ranked asked piece.0 (kind so_far) piece.1)
    → (pieces : List (ℕ × List ℕ)) (so_far : A) → kind (fold more so_far pieces) ≡ kind so_far ++ of_rank pieces asked
kind_is more kind asked law [] so_far = sym (append-nil (kind so_far))
kind_is more kind asked law (piece ∷ pieces) so_far =
    kind_is more kind asked law pieces (more so_far piece)
    ∙ ap (λ numbers. numbers ++ of_rank pieces asked) (law so_far piece)
    ∙ ranked_behind asked piece (piece.0 == asked) (kind so_far) pieces refl

-- Numbers that parts don't change are unchanged.
stays : {A B : Type 0} (more : A → ℕ × List ℕ → A) (kind : A → B) → ((so_far : A) (piece : ℕ × List ℕ) → kind (more so_far piece) ≡ kind so_far)
    → (pieces : List (ℕ × List ℕ)) (so_far : A) → kind (fold more so_far pieces) ≡ kind so_far
stays more kind law [] so_far = refl
stays more kind law (piece ∷ pieces) so_far = stays more kind law pieces (more so_far piece) ∙ law so_far piece

-- Joined lists are equal where their pieces are.
eleven_lists : {a b c d e f g h i j k a' b' c' d' e' f' g' h' i' j' k' : List ℕ} → a ≡ a' → b ≡ b' → c ≡ c' → d ≡ d' → e ≡ e' → f ≡ f' → g ≡ g' → h ≡ h'
    → i ≡ i' → j ≡ j' → k ≡ k' → joined (a ∷ b ∷ c ∷ d ∷ e ∷ f ∷ g ∷ h ∷ i ∷ j ∷ k ∷ []) ≡ joined (a' ∷ b' ∷ c' ∷ d' ∷ e' ∷ f' ∷ g' ∷ h' ∷ i' ∷ j' ∷ k' ∷ [])
eleven_lists pa pb pc pd pe pf pg ph pi pj pk = rw (pa, pb, pc, pd, pe, pf, pg, ph, pi, pj, pk) refl

-- The same for nine lists.
nine_lists : {a b c d e f g h i a' b' c' d' e' f' g' h' i' : List ℕ} → a ≡ a' → b ≡ b' → c ≡ c' → d ≡ d' → e ≡ e' → f ≡ f' → g ≡ g' → h ≡ h' → i ≡ i'
    → joined (a ∷ b ∷ c ∷ d ∷ e ∷ f ∷ g ∷ h ∷ i ∷ []) ≡ joined (a' ∷ b' ∷ c' ∷ d' ∷ e' ∷ f' ∷ g' ∷ h' ∷ i' ∷ [])
nine_lists pa pb pc pd pe pf pg ph pi = rw (pa, pb, pc, pd, pe, pf, pg, ph, pi) refl

-- The numbers of a unit, sorted into canonical order.
unit_order : (head : List ℕ) (inside : List UnitPart) (lines : List ℕ)
    → unit_in_order (unit_numbers head inside lines) ≡ head ++ unit_lines_in_order inside lines
unit_order head inside lines =
    let pieces = unit_pieces inside lines in
    let none : UnitNumbers = record no_unit_numbers { head = head } in
    eleven_lists
    (stays with_unit_piece (λ unit. unit.head) (λ unit piece. refl) pieces none)
    (kind_is with_unit_piece (λ unit. unit.resolution) 0 (λ unit piece. refl) pieces none)
    (kind_is with_unit_piece (λ unit. unit.params) 1 (λ unit piece. refl) pieces none)
    (kind_is with_unit_piece (λ unit. unit.states) 2 (λ unit piece. refl) pieces none)
    (kind_is with_unit_piece (λ unit. unit.locals) 3 (λ unit piece. refl) pieces none)
    (kind_is with_unit_piece (λ unit. unit.inputs) 4 (λ unit piece. refl) pieces none)
    (kind_is with_unit_piece (λ unit. unit.events_in) 5 (λ unit piece. refl) pieces none)
    (kind_is with_unit_piece (λ unit. unit.outputs) 6 (λ unit piece. refl) pieces none)
    (kind_is with_unit_piece (λ unit. unit.events_out) 7 (λ unit piece. refl) pieces none)
    (kind_is with_unit_piece (λ unit. unit.max) 8 (λ unit piece. refl) pieces none)
    (kind_is with_unit_piece (λ unit. unit.step) 9 (λ unit piece. refl) pieces none)

-- ---- A whole text

-- If no block is open, the numbers are in canonical order.
pub numbers_end : (nested : Nested) (numbers : List ℕ) → nested.block ≡ AtTop → in_order (numbers_of nested numbers) ≡ in_canonical_order nested.parts numbers
numbers_end nested numbers is =
    let pieces = text_pieces nested.parts (drop 1 numbers) in
    let none = header_numbers (take 1 numbers) in
    ap (λ block. in_order (with_open (part_numbers (take 1 numbers) nested.parts (drop 1 numbers)) block (drop (text_size nested.parts) (drop 1 numbers)))) is
    ∙ nine_lists
    (stays with_piece (λ all. all.header) (λ all piece. refl) pieces none)
    (kind_is with_piece (λ all. all.units) 0 (λ all piece. refl) pieces none)
    (kind_is with_piece (λ all. all.instances) 1 (λ all piece. refl) pieces none)
    (kind_is with_piece (λ all. all.wires) 2 (λ all piece. refl) pieces none)
    (kind_is with_piece (λ all. all.stop) 3 (λ all piece. refl) pieces none)
    (kind_is with_piece (λ all. all.longest) 4 (λ all piece. refl) pieces none)
    (kind_is with_piece (λ all. all.zero) 5 (λ all piece. refl) pieces none)
    (kind_is with_piece (λ all. all.rows) 6 (λ all piece. refl) pieces none)
    (kind_is with_piece (λ all. all.samples) 7 (λ all piece. refl) pieces none)

-- ---- The header

-- The number of the header alone.
pub numbers_begin : (version number : ℕ) → numbers_of (headed_by version) (number ∷ []) ≡ bare_numbers number
numbers_begin version number = refl

-- ---- One line more: what stays open

-- One part more of the open unit.
unit_part_more : (inside : List UnitPart) (part : UnitPart) (head lines extra : List ℕ) → unit_size inside ≤ length lines
    → length (drop (unit_size inside) lines ++ extra) ≡ length (unit_part_forms part)
    → unit_numbers head (inside ++ (part ∷ [])) (lines ++ extra)
    ≡ with_unit_piece (unit_numbers head inside lines) (unit_part_rank part, drop (unit_size inside) lines ++ extra)
unit_part_more inside part head lines extra enough same =
    let none : UnitNumbers = record no_unit_numbers { head = head } in
    ap (fold with_unit_piece none) (each_one unit_part_rank unit_part_forms (λ part own. own) inside part lines extra enough same)
    ∙ fold-append with_unit_piece none (unit_pieces inside lines) ((unit_part_rank part, drop (unit_size inside) lines ++ extra) ∷ [])

-- Lines after the parts of the open unit don't change the numbers of these parts.
unit_extra : (inside : List UnitPart) (head lines extra : List ℕ) → unit_size inside ≤ length lines
    → unit_numbers head inside (lines ++ extra) ≡ unit_numbers head inside lines
unit_extra inside head lines extra enough =
    ap (fold with_unit_piece (record no_unit_numbers { head = head })) (each_extra unit_part_rank unit_part_forms (λ part own. own) inside lines extra enough)

-- A list of numbers, one for each line of what is nested: that of the header, and the others.
record GoesAlong (nested : Nested) (rest : List ℕ) : Type 0 where
  enough : text_size nested.parts ≤ length rest
  behind : length (drop (text_size nested.parts) rest) ≡ length (open_forms nested.block)

-- A list with this many numbers has one for each line of the parts and the open block.
goes_along : (nested : Nested) (header : ℕ) (rest : List ℕ) → length (header ∷ rest) ≡ length (nested_forms nested) → GoesAlong nested rest
goes_along nested header rest same =
    let long = length-append (flat_map part_forms nested.parts) (open_forms nested.block) in
    record {
      enough = omega (arith, same, long);
      behind = omega (arith, same, long, length-drop (text_size nested.parts) rest);
    }

-- The complete parts of a text, and the block after them.
abbrev holding : ℕ → List Part → Open → Nested
holding version all block = record { version = version; parts = all; block = block }

-- The complete parts, with the numbers of their lines.
abbrev whole_numbers : ℕ → List Part → List ℕ → Numbers
whole_numbers header all rest = part_numbers (header ∷ []) all rest

-- Another block is open after the same parts.
block_more : (version : ℕ) (all : List Part) (block : Open) (header number : ℕ) (rest : List ℕ) → text_size all ≤ length rest
    → numbers_of (holding version all block) (header ∷ rest ++ (number ∷ []))
    ≡ with_open (whole_numbers header all rest) block (drop (text_size all) rest ++ (number ∷ []))
block_more version all block header number rest enough =
    ap (λ pieces. with_open (fold with_piece (header_numbers (header ∷ [])) pieces) block (drop (text_size all) (rest ++ (number ∷ []))))
    (each_extra part_rank part_forms part_lines_in_order all rest (number ∷ []) enough)
    ∙ ap (with_open (whole_numbers header all rest) block) (drop-append-le (text_size all) rest (number ∷ []) enough)

-- The open block becomes a part.
part_more : (version : ℕ) (all : List Part) (part : Part) (header number : ℕ) (rest : List ℕ) → text_size all ≤ length rest
    → length (drop (text_size all) rest ++ (number ∷ [])) ≡ length (part_forms part)
    → numbers_of (holding version (all ++ (part ∷ [])) AtTop) (header ∷ rest ++ (number ∷ []))
    ≡ with_piece (whole_numbers header all rest) (part_rank part, part_lines_in_order part (drop (text_size all) rest ++ (number ∷ [])))
part_more version all part header number rest enough same =
    ap (fold with_piece (header_numbers (header ∷ []))) (each_one part_rank part_forms part_lines_in_order all part rest (number ∷ []) enough same)
    ∙ fold-append with_piece (header_numbers (header ∷ [])) (text_pieces all rest)
    ((part_rank part, part_lines_in_order part (drop (text_size all) rest ++ (number ∷ []))) ∷ [])

-- No unit is open after parts.
no_unit : (header : ℕ) (all : List Part) (rest : List ℕ) → (whole_numbers header all rest).unit ≡ no_unit_numbers
no_unit header all rest = stays with_piece (λ numbers. numbers.unit) (λ numbers piece. refl) (text_pieces all rest) (header_numbers (header ∷ []))

-- ---- One line more: outside blocks

-- The number of a line is added, given the numbers of the other lines.
abbrev IsCollected : Nested → LineForm → Type 0
IsCollected nested some =
    (header number : ℕ) (rest : List ℕ) → GoesAlong nested rest
    → with_line (numbers_of nested (header ∷ rest)) (place_of nested.block) some number ≡ numbers_of (and_form nested some) (header ∷ rest ++ (number ∷ []))

-- A part of one line.
one_line : (version : ℕ) (all : List Part) (part : Part) (header number : ℕ) (rest : List ℕ) → GoesAlong (holding version all AtTop) rest
    → length (part_forms part) ≡ 1
    → numbers_of (holding version (all ++ (part ∷ [])) AtTop) (header ∷ rest ++ (number ∷ []))
    ≡ with_piece (whole_numbers header all rest) (part_rank part, part_lines_in_order part (number ∷ []))
one_line version all part header number rest along one =
    let none = nil_from_length (drop (text_size all) rest) along.behind in
    part_more version all part header number rest along.enough (ap (λ behind. length (behind ++ (number ∷ []))) none ∙ sym one)
    ∙ ap (λ behind. with_piece (whole_numbers header all rest) (part_rank part, part_lines_in_order part (behind ++ (number ∷ [])))) none

-- A block that begins.
block_begins : (version : ℕ) (all : List Part) (block : Open) (header number : ℕ) (rest : List ℕ) → GoesAlong (holding version all AtTop) rest
    → numbers_of (holding version all block) (header ∷ rest ++ (number ∷ [])) ≡ with_open (whole_numbers header all rest) block (number ∷ [])
block_begins version all block header number rest along =
    block_more version all block header number rest along.enough
    ∙ ap (λ behind. with_open (whole_numbers header all rest) block (behind ++ (number ∷ []))) (nil_from_length (drop (text_size all) rest) along.behind)

-- The number of a line outside blocks is added.
top_more : (version : ℕ) (all : List Part) (some : LineForm) → IsHeld (holding version all AtTop) some → IsCollected (holding version all AtTop) some
top_more version all (form.Header other) is header number rest along = absurd (is.no_header other refl)
top_more version all (form.Unit name) is header number rest along =
    ap (λ unit. record (whole_numbers header all rest) { unit = record unit { head = unit.head ++ (number ∷ []) } }) (no_unit header all rest)
    ∙ sym (block_begins version all (InUnit name []) header number rest along)
top_more version all (form.Resolution decimals) is header number rest along = let held = is.held in absurd (cc)
top_more version all (form.Param param) is header number rest along = let held = is.held in absurd (cc)
top_more version all (form.State state) is header number rest along = let held = is.held in absurd (cc)
top_more version all (form.Local local) is header number rest along = let held = is.held in absurd (cc)
top_more version all (form.Input input) is header number rest along = let held = is.held in absurd (cc)
top_more version all (form.EventInput event) is header number rest along = let held = is.held in absurd (cc)
top_more version all (form.Output output) is header number rest along = let held = is.held in absurd (cc)
top_more version all (form.EventOutput event) is header number rest along = let held = is.held in absurd (cc)
top_more version all (form.Max value) is header number rest along = let held = is.held in absurd (cc)
top_more version all form.Step is header number rest along = let held = is.held in absurd (cc)
top_more version all form.End is header number rest along = let held = is.held in absurd (cc)
top_more version all (form.Assign target value) is header number rest along = let held = is.held in absurd (cc)
top_more version all (form.If condition) is header number rest along = let held = is.held in absurd (cc)
top_more version all form.Else is header number rest along = let held = is.held in absurd (cc)
top_more version all (form.Repeat count) is header number rest along = let held = is.held in absurd (cc)
top_more version all (form.Accept value) is header number rest along = let held = is.held in absurd (cc)
top_more version all (form.Instance name unit) is header number rest along =
    sym (block_begins version all (InInstance (record { name = name; unit = unit; settings = [] })) header number rest along)
top_more version all (form.Setting setting) is header number rest along = let held = is.held in absurd (cc)
top_more version all (form.Connect wire) is header number rest along = sym (one_line version all (parts.Connects wire) header number rest along refl)
top_more version all (form.Stop seconds) is header number rest along = sym (one_line version all (parts.Stop seconds) header number rest along refl)
top_more version all (form.Longest seconds) is header number rest along = sym (one_line version all (parts.Longest seconds) header number rest along refl)
top_more version all (form.Zero count) is header number rest along = sym (one_line version all (parts.Zero count) header number rest along refl)
top_more version all (form.Rows count) is header number rest along = sym (one_line version all (parts.Rows count) header number rest along refl)
top_more version all (form.Sample port) is header number rest along = sym (one_line version all (parts.Samples port) header number rest along refl)

-- ---- One line more: in a unit

-- The first number stays the first.
first_stays : {A : Type 0} (of : List ℕ → List ℕ → A) (lines extra : List ℕ) → 1 ≤ length lines
    → of (take 1 (lines ++ extra)) (drop 1 (lines ++ extra)) ≡ of (take 1 lines) (drop 1 lines ++ extra)
first_stays of [] extra long = absurd (omega arith)
first_stays of (first ∷ lines) extra long = refl

-- The numbers after the complete parts are that of a unit's first line, those of its parts, and others.
record HoldUnit (inside : List UnitPart) (behind : List ℕ) : Type 0 where
  long : 1 ≤ length behind
  enough : unit_size inside ≤ length (drop 1 behind)

-- The numbers of the open unit, by its parts so far.
abbrev open_unit : List UnitPart → List ℕ → UnitNumbers
open_unit inside behind = unit_numbers (take 1 behind) inside (drop 1 behind)

-- The numbers after its parts.
abbrev behind_parts : List UnitPart → List ℕ → List ℕ
behind_parts inside behind = drop (unit_size inside) (drop 1 behind)

-- The same numbers, with others of the unit that is open.
abbrev with_unit : Numbers → UnitNumbers → Numbers
with_unit numbers unit = record numbers { unit = unit }

-- One part more of the unit.
unit_part_ends : (version : ℕ) (all : List Part) (name : List ℕ) (inside : List UnitPart) (part : UnitPart) (header number : ℕ) (rest : List ℕ)
    → text_size all ≤ length rest → HoldUnit inside (drop (text_size all) rest)
    → length (behind_parts inside (drop (text_size all) rest) ++ (number ∷ [])) ≡ length (unit_part_forms part)
    → numbers_of (holding version all (InUnit name (inside ++ (part ∷ [])))) (header ∷ rest ++ (number ∷ []))
    ≡ with_unit (whole_numbers header all rest)
    (with_unit_piece (open_unit inside (drop (text_size all) rest)) (unit_part_rank part, behind_parts inside (drop (text_size all) rest) ++ (number ∷ [])))
unit_part_ends version all name inside part header number rest enough hold same =
    let behind = drop (text_size all) rest in
    block_more version all (InUnit name (inside ++ (part ∷ []))) header number rest enough
    ∙ first_stays (λ head lines. with_unit (whole_numbers header all rest) (unit_numbers head (inside ++ (part ∷ [])) lines)) behind (number ∷ []) hold.long
    ∙ ap (with_unit (whole_numbers header all rest)) (unit_part_more inside part (take 1 behind) (drop 1 behind) (number ∷ []) hold.enough same)

-- A line of the step of the unit that does not end it.
step_goes_on : (version : ℕ) (all : List Part) (name : List ℕ) (inside : List UnitPart) (inner : Inner) (header number : ℕ) (rest : List ℕ)
    → text_size all ≤ length rest → HoldUnit inside (drop (text_size all) rest)
    → numbers_of (holding version all (InStep name inside inner)) (header ∷ rest ++ (number ∷ []))
    ≡ with_unit (whole_numbers header all rest)
    (with_step_lines (open_unit inside (drop (text_size all) rest)) (behind_parts inside (drop (text_size all) rest) ++ (number ∷ [])))
step_goes_on version all name inside inner header number rest enough hold =
    let behind = drop (text_size all) rest in
    let base = whole_numbers header all rest in
    block_more version all (InStep name inside inner) header number rest enough
    ∙ first_stays (λ head lines. with_unit base (with_step_lines (unit_numbers head inside lines) (drop (unit_size inside) lines))) behind
    (number ∷ []) hold.long
    ∙ ap (λ unit. with_unit base (with_step_lines unit (drop (unit_size inside) (drop 1 behind ++ (number ∷ [])))))
    (unit_extra inside (take 1 behind) (drop 1 behind) (number ∷ []) hold.enough)
    ∙ ap (λ lines. with_unit base (with_step_lines (open_unit inside behind) lines))
    (drop-append-le (unit_size inside) (drop 1 behind) (number ∷ []) hold.enough)

-- Where a unit is open, its lines are there.
unit_holds : (version : ℕ) (all : List Part) (name : List ℕ) (inside : List UnitPart) (rest : List ℕ)
    → GoesAlong (holding version all (InUnit name inside)) rest → HoldUnit inside (drop (text_size all) rest)
unit_holds version all name inside rest along =
    let same = along.behind in
    record { long = omega (arith, same); enough = omega (arith, same, length-drop 1 (drop (text_size all) rest)) }

-- Between the parts of an open unit there is no other line.
nothing_behind : (version : ℕ) (all : List Part) (name : List ℕ) (inside : List UnitPart) (rest : List ℕ)
    → GoesAlong (holding version all (InUnit name inside)) rest → behind_parts inside (drop (text_size all) rest) ≡ []
nothing_behind version all name inside rest along =
    let behind = drop (text_size all) rest in
    let same = along.behind in
    nil_from_length (behind_parts inside behind) (omega (arith, same, length-drop 1 behind, length-drop (unit_size inside) (drop 1 behind)))

-- A declaration.
one_in_unit : (version : ℕ) (all : List Part) (name : List ℕ) (inside : List UnitPart) (part : UnitPart) (header number : ℕ) (rest : List ℕ)
    → GoesAlong (holding version all (InUnit name inside)) rest → length (unit_part_forms part) ≡ 1
    → numbers_of (holding version all (InUnit name (inside ++ (part ∷ [])))) (header ∷ rest ++ (number ∷ []))
    ≡ with_unit (whole_numbers header all rest) (with_unit_piece (open_unit inside (drop (text_size all) rest)) (unit_part_rank part, number ∷ []))
one_in_unit version all name inside part header number rest along one =
    let none = nothing_behind version all name inside rest along in
    unit_part_ends version all name inside part header number rest along.enough (unit_holds version all name inside rest along)
    (ap (λ lines. length (lines ++ (number ∷ []))) none ∙ sym one)
    ∙ ap (λ lines. with_unit (whole_numbers header all rest)
    (with_unit_piece (open_unit inside (drop (text_size all) rest)) (unit_part_rank part, lines ++ (number ∷ [])))) none

-- The step of the unit begins.
step_begins : (version : ℕ) (all : List Part) (name : List ℕ) (inside : List UnitPart) (inner : Inner) (header number : ℕ) (rest : List ℕ)
    → GoesAlong (holding version all (InUnit name inside)) rest
    → numbers_of (holding version all (InStep name inside inner)) (header ∷ rest ++ (number ∷ []))
    ≡ with_unit (whole_numbers header all rest) (with_step_lines (open_unit inside (drop (text_size all) rest)) (number ∷ []))
step_begins version all name inside inner header number rest along =
    step_goes_on version all name inside inner header number rest along.enough (unit_holds version all name inside rest along)
    ∙ ap (λ lines. with_unit (whole_numbers header all rest) (with_step_lines (open_unit inside (drop (text_size all) rest)) (lines ++ (number ∷ []))))
    (nothing_behind version all name inside rest along)

-- The unit ends: its lines in canonical order, and its `end`.
ended_order : (name : List ℕ) (inside : List UnitPart) (number : ℕ) (behind : List ℕ) → HoldUnit inside behind → behind_parts inside behind ≡ []
    → part_lines_in_order (parts.HasUnit name inside) (behind ++ (number ∷ [])) ≡ unit_in_order (open_unit inside behind) ++ (number ∷ [])
ended_order name inside number behind hold none =
    let head = take 1 behind in
    let lines = drop 1 behind in
    first_stays (λ first others. first ++ unit_lines_in_order inside others ++ drop (unit_size inside) others) behind (number ∷ []) hold.long
    ∙ ap (λ pieces. head ++ by_rank (0 ∷ 1 ∷ 2 ∷ 3 ∷ 4 ∷ 5 ∷ 6 ∷ 7 ∷ 8 ∷ 9 ∷ []) pieces ++ drop (unit_size inside) (lines ++ (number ∷ [])))
    (each_extra unit_part_rank unit_part_forms (λ part own. own) inside lines (number ∷ []) hold.enough)
    ∙ ap (λ end. head ++ unit_lines_in_order inside lines ++ end)
    (drop-append-le (unit_size inside) lines (number ∷ []) hold.enough ∙ ap (λ end. end ++ (number ∷ [])) none)
    ∙ ap (λ all. all ++ (number ∷ [])) (sym (unit_order head inside lines))

-- A unit that ends has the lines after the complete parts, and its `end`.
ended_length : (name : List ℕ) (inside : List UnitPart) (number : ℕ) (behind : List ℕ) → length behind ≡ length (open_forms (InUnit name inside))
    → length (behind ++ (number ∷ [])) ≡ length (part_forms (parts.HasUnit name inside))
ended_length name inside number behind same =
    omega (arith, same, length-append behind (number ∷ []), length-append (flat_map unit_part_forms inside) (form.End ∷ []))

-- The number of the `end` of a unit is added.
unit_ends : (version : ℕ) (all : List Part) (name : List ℕ) (inside : List UnitPart) (header number : ℕ) (rest : List ℕ)
    → GoesAlong (holding version all (InUnit name inside)) rest
    → unit_end (with_unit (whole_numbers header all rest) (open_unit inside (drop (text_size all) rest))) number
    ≡ numbers_of (holding version (all ++ (parts.HasUnit name inside ∷ [])) AtTop) (header ∷ rest ++ (number ∷ []))
unit_ends version all name inside header number rest along =
    let base = whole_numbers header all rest in
    let behind = drop (text_size all) rest in
    let order = ended_order name inside number behind (unit_holds version all name inside rest along) (nothing_behind version all name inside rest along) in
    ap (λ units. record base { units = units; unit = no_unit_numbers })
    (append_assoc base.units (unit_in_order (open_unit inside behind)) (number ∷ []) ∙ ap (λ own. base.units ++ own) (sym order))
    ∙ ap (λ unit. record base { units = base.units ++ part_lines_in_order (parts.HasUnit name inside) (behind ++ (number ∷ [])); unit = unit })
    (sym (no_unit header all rest))
    ∙ sym (part_more version all (parts.HasUnit name inside) header number rest along.enough (ended_length name inside number behind along.behind))

-- The number of a line in a unit is added.
unit_more : (version : ℕ) (all : List Part) (name : List ℕ) (inside : List UnitPart) (some : LineForm)
    → IsHeld (holding version all (InUnit name inside)) some → IsCollected (holding version all (InUnit name inside)) some
unit_more version all name inside (form.Header other) is header number rest along = absurd (is.no_header other refl)
unit_more version all name inside (form.Unit other) is header number rest along = let held = is.held in absurd (cc)
unit_more version all name inside (form.Resolution decimals) is header number rest along =
    sym (one_in_unit version all name inside (parts.Resolution decimals) header number rest along refl)
unit_more version all name inside (form.Param param) is header number rest along =
    sym (one_in_unit version all name inside (parts.HasParam param) header number rest along refl)
unit_more version all name inside (form.State state) is header number rest along =
    sym (one_in_unit version all name inside (parts.HasState state) header number rest along refl)
unit_more version all name inside (form.Local local) is header number rest along =
    sym (one_in_unit version all name inside (parts.HasLocal local) header number rest along refl)
unit_more version all name inside (form.Input input) is header number rest along =
    sym (one_in_unit version all name inside (parts.HasInput input) header number rest along refl)
unit_more version all name inside (form.EventInput event) is header number rest along =
    sym (one_in_unit version all name inside (parts.HasEventIn event) header number rest along refl)
unit_more version all name inside (form.Output output) is header number rest along =
    sym (one_in_unit version all name inside (parts.HasOutput output) header number rest along refl)
unit_more version all name inside (form.EventOutput event) is header number rest along =
    sym (one_in_unit version all name inside (parts.HasEventOut event) header number rest along refl)
unit_more version all name inside (form.Max value) is header number rest along =
    sym (one_in_unit version all name inside (parts.Max value) header number rest along refl)
unit_more version all name inside form.Step is header number rest along =
    sym (step_begins version all name inside (record { lines = []; around = [] }) header number rest along)
unit_more version all name inside form.End is header number rest along = unit_ends version all name inside header number rest along
unit_more version all name inside (form.Assign target value) is header number rest along = let held = is.held in absurd (cc)
unit_more version all name inside (form.If condition) is header number rest along = let held = is.held in absurd (cc)
unit_more version all name inside form.Else is header number rest along = let held = is.held in absurd (cc)
unit_more version all name inside (form.Repeat count) is header number rest along = let held = is.held in absurd (cc)
unit_more version all name inside (form.Accept value) is header number rest along = let held = is.held in absurd (cc)
unit_more version all name inside (form.Instance other of) is header number rest along = let held = is.held in absurd (cc)
unit_more version all name inside (form.Setting setting) is header number rest along = let held = is.held in absurd (cc)
unit_more version all name inside (form.Connect wire) is header number rest along = let held = is.held in absurd (cc)
unit_more version all name inside (form.Stop seconds) is header number rest along = let held = is.held in absurd (cc)
unit_more version all name inside (form.Longest seconds) is header number rest along = let held = is.held in absurd (cc)
unit_more version all name inside (form.Zero count) is header number rest along = let held = is.held in absurd (cc)
unit_more version all name inside (form.Rows count) is header number rest along = let held = is.held in absurd (cc)
unit_more version all name inside (form.Sample port) is header number rest along = let held = is.held in absurd (cc)

-- ---- One line more: in a step

-- Where a step is open, the lines of its unit are there.
step_holds : (version : ℕ) (all : List Part) (name : List ℕ) (inside : List UnitPart) (inner : Inner) (rest : List ℕ)
    → GoesAlong (holding version all (InStep name inside inner)) rest → HoldUnit inside (drop (text_size all) rest)
step_holds version all name inside inner rest along =
    let same = along.behind in
    let long = length-append (flat_map unit_part_forms inside) (form.Step ∷ around_forms inner.around ++ flat_map line_forms inner.lines) in
    record { long = omega (arith, same, long); enough = omega (arith, same, long, length-drop 1 (drop (text_size all) rest)) }

-- The lines of a step that ends are those after the parts, and this one.
step_lines_count : (version : ℕ) (all : List Part) (name : List ℕ) (inside : List UnitPart) (inner : Inner) (some : LineForm) (number : ℕ) (rest : List ℕ)
    → GoesAlong (holding version all (InStep name inside inner)) rest
    → nested_forms (holding version all (InUnit name (inside ++ (parts.Step inner.lines ∷ []))))
    ≡ nested_forms (holding version all (InStep name inside inner)) ++ (some ∷ [])
    → length (behind_parts inside (drop (text_size all) rest) ++ (number ∷ [])) ≡ length (unit_part_forms (parts.Step inner.lines))
step_lines_count version all name inside inner some number rest along grows =
    let part = parts.Step inner.lines in
    let behind = drop (text_size all) rest in
    let before = text_forms version all in
    let blocks : length (open_forms (InUnit name (inside ++ (part ∷ [])))) ≡ length (open_forms (InStep name inside inner)) + 1 =
    omega (
      arith,
      ap length grows,
      length-append before (open_forms (InUnit name (inside ++ (part ∷ [])))),
      length-append before (open_forms (InStep name inside inner)),
      length-append (nested_forms (holding version all (InStep name inside inner))) (some ∷ []),
    ) in
    let size : unit_size (inside ++ (part ∷ [])) ≡ unit_size inside + length (unit_part_forms part) =
    ap length (flat_map-append unit_part_forms inside (part ∷ [])) ∙ length-append (flat_map unit_part_forms inside) (unit_part_forms part ++ [])
    ∙ ap (λ own. unit_size inside + length own) (append-nil (unit_part_forms part)) in
    let same = along.behind in
    let hold = (step_holds version all name inside inner rest along).enough in
    omega (
      arith,
      blocks,
      size,
      same,
      hold,
      length-append (behind_parts inside behind) (number ∷ []),
      length-drop 1 behind,
      length-drop (unit_size inside) (drop 1 behind),
    )

-- The number of a line in a step is added, one more of its lines or its `end`.
step_more_by : (version : ℕ) (all : List Part) (name : List ℕ) (inside : List UnitPart) (inner : Inner) (some : LineForm) (next : Option Inner)
    → nested_forms (nesting.in_step (holding version all (InStep name inside inner)) name inside inner.lines next)
    ≡ nested_forms (holding version all (InStep name inside inner)) ++ (some ∷ [])
    → (header number : ℕ) (rest : List ℕ) → GoesAlong (holding version all (InStep name inside inner)) rest
    → with_unit (whole_numbers header all rest)
    (with_step_lines (open_unit inside (drop (text_size all) rest)) (behind_parts inside (drop (text_size all) rest) ++ (number ∷ [])))
    ≡ numbers_of (nesting.in_step (holding version all (InStep name inside inner)) name inside inner.lines next) (header ∷ rest ++ (number ∷ []))
step_more_by version all name inside inner some (Some next) grows header number rest along =
    sym (step_goes_on version all name inside next header number rest along.enough (step_holds version all name inside inner rest along))
step_more_by version all name inside inner some None grows header number rest along =
    sym (unit_part_ends version all name inside (parts.Step inner.lines) header number rest along.enough (step_holds version all name inside inner rest along)
    (step_lines_count version all name inside inner some number rest along grows))

-- The number of a line in a step is added.
step_more : (version : ℕ) (all : List Part) (name : List ℕ) (inside : List UnitPart) (inner : Inner) (some : LineForm)
    → IsHeld (holding version all (InStep name inside inner)) some → IsCollected (holding version all (InStep name inside inner)) some
step_more version all name inside inner some is header number rest along =
    let behind = drop (text_size all) rest in
    let unit = open_unit inside behind in
    ap (λ lines. with_unit (whole_numbers header all rest) (record unit { step = lines })) (append_assoc unit.step (behind_parts inside behind) (number ∷ []))
    ∙ step_more_by version all name inside inner some (and_step_form inner some)
    (adds (holding version all (InStep name inside inner)) some is) header number rest along

-- ---- One line more: in an instance

-- The same numbers, with others of the instances.
abbrev with_instances : Numbers → List ℕ → Numbers
with_instances numbers lines = record numbers { instances = lines }

-- The number of a line of an instance that does not end it is added.
instance_goes_on : (version : ℕ) (all : List Part) (instance next : Instance) (header number : ℕ) (rest : List ℕ)
    → GoesAlong (holding version all (InInstance instance)) rest
    → instance_line (numbers_of (holding version all (InInstance instance)) (header ∷ rest)) number
    ≡ numbers_of (holding version all (InInstance next)) (header ∷ rest ++ (number ∷ []))
instance_goes_on version all instance next header number rest along =
    let base = whole_numbers header all rest in
    ap (with_instances base) (append_assoc base.instances (drop (text_size all) rest) (number ∷ []))
    ∙ sym (block_more version all (InInstance next) header number rest along.enough)

-- The number of the `end` of an instance is added.
instance_ends : (version : ℕ) (all : List Part) (instance : Instance) → IsCollected (holding version all (InInstance instance)) form.End
instance_ends version all instance header number rest along =
    let base = whole_numbers header all rest in
    let behind = drop (text_size all) rest in
    let same = along.behind in
    ap (with_instances base) (append_assoc base.instances behind (number ∷ []))
    ∙ sym (part_more version all (parts.HasInstance instance) header number rest along.enough
    (omega (arith, same, length-append behind (number ∷ []), length-append (map form.Setting instance.settings) (form.End ∷ []))))

-- The number of a line in an instance is added.
instance_more : (version : ℕ) (all : List Part) (instance : Instance) (some : LineForm) → IsHeld (holding version all (InInstance instance)) some
    → IsCollected (holding version all (InInstance instance)) some
instance_more version all instance (form.Header other) is header number rest along = absurd (is.no_header other refl)
instance_more version all instance (form.Unit other) is header number rest along = let held = is.held in absurd (cc)
instance_more version all instance (form.Resolution decimals) is header number rest along = let held = is.held in absurd (cc)
instance_more version all instance (form.Param param) is header number rest along = let held = is.held in absurd (cc)
instance_more version all instance (form.State state) is header number rest along = let held = is.held in absurd (cc)
instance_more version all instance (form.Local local) is header number rest along = let held = is.held in absurd (cc)
instance_more version all instance (form.Input input) is header number rest along = let held = is.held in absurd (cc)
instance_more version all instance (form.EventInput event) is header number rest along = let held = is.held in absurd (cc)
instance_more version all instance (form.Output output) is header number rest along = let held = is.held in absurd (cc)
instance_more version all instance (form.EventOutput event) is header number rest along = let held = is.held in absurd (cc)
instance_more version all instance (form.Max value) is header number rest along = let held = is.held in absurd (cc)
instance_more version all instance form.Step is header number rest along = let held = is.held in absurd (cc)
instance_more version all instance form.End is header number rest along = instance_ends version all instance header number rest along
instance_more version all instance (form.Assign target value) is header number rest along = let held = is.held in absurd (cc)
instance_more version all instance (form.If condition) is header number rest along = let held = is.held in absurd (cc)
instance_more version all instance form.Else is header number rest along = let held = is.held in absurd (cc)
instance_more version all instance (form.Repeat count) is header number rest along = let held = is.held in absurd (cc)
instance_more version all instance (form.Accept value) is header number rest along = let held = is.held in absurd (cc)
instance_more version all instance (form.Instance other of) is header number rest along = let held = is.held in absurd (cc)
instance_more version all instance (form.Setting setting) is header number rest along =
    instance_goes_on version all instance (record instance { settings = instance.settings ++ (setting ∷ []) }) header number rest along
instance_more version all instance (form.Connect wire) is header number rest along = let held = is.held in absurd (cc)
instance_more version all instance (form.Stop seconds) is header number rest along = let held = is.held in absurd (cc)
instance_more version all instance (form.Longest seconds) is header number rest along = let held = is.held in absurd (cc)
instance_more version all instance (form.Zero count) is header number rest along = let held = is.held in absurd (cc)
instance_more version all instance (form.Rows count) is header number rest along = let held = is.held in absurd (cc)
instance_more version all instance (form.Sample port) is header number rest along = let held = is.held in absurd (cc)

-- ---- One line more

-- The number of a line in any block is added.
more_in : (version : ℕ) (all : List Part) (block : Open) (some : LineForm) → IsHeld (holding version all block) some
    → IsCollected (holding version all block) some
more_in version all AtTop some is = top_more version all some is
more_in version all (InUnit name inside) some is = unit_more version all name inside some is
more_in version all (InStep name inside inner) some is = step_more version all name inside inner some is
more_in version all (InInstance instance) some is = instance_more version all instance some is

-- The number of a line that is allowed there is added as that of one more line of what is nested.
pub numbers_more : (nested : Nested) (some : LineForm) (numbers : List ℕ) (number : ℕ) → IsHeld nested some → length numbers ≡ length (nested_forms nested)
    → with_line (numbers_of nested numbers) (place_of nested.block) some number ≡ numbers_of (and_form nested some) (numbers ++ (number ∷ []))
numbers_more nested some [] number is same = absurd (omega (arith, same))
numbers_more nested some (header ∷ rest) number is same =
    more_in nested.version nested.parts nested.block some is header number rest (goes_along nested header rest same)

-- There is still one number for each line.
pub lengths_more : (nested : Nested) (some : LineForm) (numbers : List ℕ) (number : ℕ) → IsHeld nested some → length numbers ≡ length (nested_forms nested)
    → length (numbers ++ (number ∷ [])) ≡ length (nested_forms (and_form nested some))
lengths_more nested some numbers number is same =
    omega (arith, same, ap length (adds nested some is), length-append numbers (number ∷ []), length-append (nested_forms nested) (some ∷ []))

-- ---- Marks

-- One more mark is one more line of its group.
pub marks_more : (numbers : Numbers) (marks : List Mark) (group : Option Group) (number : ℕ)
    → with_marks numbers (marks ++ marks_of group number) ≡ with_group (with_marks numbers marks) group number
marks_more numbers marks None number = ap (with_marks numbers) (append-nil marks)
marks_more numbers marks (Some group) number = fold-append with_mark numbers marks (marks_of (Some group) number)
