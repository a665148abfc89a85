-- The system of a text has as many canonical lines as the text has lines that are not blank.
use Rattle.std.proofs.Common.{◌≡◌, ℕ, suc, ◌+◌, Bool, true, false, List, [], ◌∷◌, ◌++◌, length, take, drop, refl, ap, sym, ◌∙◌, arith}
use Rattle.std.specs.Prelude.{◌==◌, not, ⊤}
use Rattle.std.specs.List.{filter, flat_map, enumerate_from}
use Rattle.std.proofs.lemmas.List.{length-append, length-take, length-drop, length-map}
use Rattle.std.proofs.lemmas.Slice.Zip.{AllZip-long}
use Rattle.unit_tree.specs.Canonical.{canonical_forms}
use Rattle.unit_tree.specs.Lines.{source_lines, is_blank_line}
use Rattle.unit_tree.specs.Parts as parts
use Rattle.unit_tree.specs.Parts.{Part, UnitPart, unit_part_forms, part_forms, text_forms}
use Rattle.unit_tree.specs.SourceLines.{unit_part_rank, part_rank, of_rank, by_rank, each_ranked, unit_lines_in_order, part_lines_in_order, in_canonical_order}
use Rattle.unit_tree.specs.SourceLines.{numbers_of}
use Rattle.unit_tree.specs.Texts.{HasFormIn}
use Rattle.language_laws.proofs.SourceLaws.{forms_are}
use Rattle.text_laws.specs.Laws.{SourceLinesAreOneForOne}

-- ---- Two lists with an element for each line of the same parts

-- The same ranks, with lists of the same lengths.
abbrev AreLevel : {A B : Type 0} → List (ℕ × List A) → List (ℕ × List B) → Type 0
AreLevel [] [] = ⊤
AreLevel (one ∷ ones) (other ∷ others) = (one.0 ≡ other.0) × (length one.1 ≡ length other.1) × AreLevel ones others
AreLevel _ _ = ⊥

of_one_rank : {A B : Type 0} (rank first : ℕ) (xs : List A) (ys : List B) (ones : List (ℕ × List A)) (others : List (ℕ × List B)) (told : Bool)
    → (first == rank) ≡ told → length xs ≡ length ys → length (of_rank ones rank) ≡ length (of_rank others rank)
    → length (of_rank ((first, xs) ∷ ones) rank) ≡ length (of_rank ((first, ys) ∷ others) rank)
of_one_rank rank first xs ys ones others true told same rest =
    rw told (length-append xs (of_rank ones rank) ∙ ap (λ n. n + length (of_rank ones rank)) same ∙ ap (λ n. length ys + n) rest
    ∙ sym (length-append ys (of_rank others rank)))
of_one_rank rank first xs ys ones others false told same rest = rw told rest

of_rank_level : {A B : Type 0} (rank : ℕ) (ones : List (ℕ × List A)) (others : List (ℕ × List B)) → AreLevel ones others
    → length (of_rank ones rank) ≡ length (of_rank others rank)
of_rank_level rank [] [] level = refl
of_rank_level rank [] (other ∷ others) level = absurd level
of_rank_level rank (one ∷ ones) [] level = absurd level
of_rank_level rank ((first, xs) ∷ ones) ((second, ys) ∷ others) level =
    of_one_rank rank first xs ys ones others (first == rank) refl level.1 (of_rank_level rank ones others level.2)
    ∙ ap (λ r. length (of_rank ((r, ys) ∷ others) rank)) level.0

by_rank_level : {A B : Type 0} (ranks : List ℕ) (ones : List (ℕ × List A)) (others : List (ℕ × List B)) → AreLevel ones others
    → length (by_rank ranks ones) ≡ length (by_rank ranks others)
by_rank_level [] ones others level = refl
by_rank_level (rank ∷ ranks) ones others level =
    length-append (of_rank ones rank) (by_rank ranks ones)
    ∙ ap (λ n. n + length (by_rank ranks ones)) (of_rank_level rank ones others level)
    ∙ ap (λ n. length (of_rank others rank) + n) (by_rank_level ranks ones others level)
    ∙ sym (length-append (of_rank others rank) (by_rank ranks others))

taken : {A B : Type 0} (n : ℕ) (xs : List A) (ys : List B) → length xs ≡ length ys → length (take n xs) ≡ length (take n ys)
taken n xs ys same = omega (arith, same, length-take n xs, length-take n ys)

dropped : {A B : Type 0} (n : ℕ) (xs : List A) (ys : List B) → length xs ≡ length ys → length (drop n xs) ≡ length (drop n ys)
dropped n xs ys same = omega (arith, same, length-drop n xs, length-drop n ys)

ranked_level : {A B P : Type 0} (rank size : P → ℕ) (inside : P → List A → List A) (within : P → List B → List B)
    → ((part : P) (xs : List A) (ys : List B) → length xs ≡ length ys → length (inside part xs) ≡ length (within part ys))
    → (all : List P) (xs : List A) (ys : List B) → length xs ≡ length ys
    → AreLevel (each_ranked rank size inside all xs) (each_ranked rank size within all ys)
ranked_level rank size inside within keeps [] xs ys same = tt
ranked_level rank size inside within keeps (part ∷ all) xs ys same = (
  refl,
  keeps part (take (size part) xs) (take (size part) ys) (taken (size part) xs ys same),
  ranked_level rank size inside within keeps all (drop (size part) xs) (drop (size part) ys) (dropped (size part) xs ys same),
)

unit_level : {A B : Type 0} (all : List UnitPart) (xs : List A) (ys : List B) → length xs ≡ length ys
    → length (unit_lines_in_order all xs) ≡ length (unit_lines_in_order all ys)
unit_level all xs ys same =
    by_rank_level (0 ∷ 1 ∷ 2 ∷ 3 ∷ 4 ∷ 5 ∷ 6 ∷ 7 ∷ 8 ∷ 9 ∷ [])
    (each_ranked unit_part_rank (λ part. length (unit_part_forms part)) (λ part inside. inside) all xs)
    (each_ranked unit_part_rank (λ part. length (unit_part_forms part)) (λ part inside. inside) all ys)
    (ranked_level unit_part_rank (λ part. length (unit_part_forms part)) (λ part inside. inside) (λ part inside. inside)
    (λ part one other level. level) all xs ys same)

three_level : {A B : Type 0} (a b c : List A) (x y z : List B) → length a ≡ length x → length b ≡ length y → length c ≡ length z
    → length (a ++ b ++ c) ≡ length (x ++ y ++ z)
three_level a b c x y z one two three =
    omega (arith, one, two, three, length-append (a ++ b) c, length-append a b, length-append (x ++ y) z, length-append x y)

part_level : {A B : Type 0} (part : Part) (xs : List A) (ys : List B) → length xs ≡ length ys
    → length (part_lines_in_order part xs) ≡ length (part_lines_in_order part ys)
part_level (parts.HasUnit name inside) xs ys same =
    let behind = dropped 1 xs ys same in
    three_level (take 1 xs) (unit_lines_in_order inside (drop 1 xs)) (drop (length (flat_map unit_part_forms inside)) (drop 1 xs)) (take 1 ys)
    (unit_lines_in_order inside (drop 1 ys)) (drop (length (flat_map unit_part_forms inside)) (drop 1 ys))
    (taken 1 xs ys same) (unit_level inside (drop 1 xs) (drop 1 ys) behind) (dropped (length (flat_map unit_part_forms inside)) (drop 1 xs) (drop 1 ys) behind)
part_level (parts.HasInstance instance) xs ys same = same
part_level (parts.Connects wire) xs ys same = same
part_level (parts.Stop seconds) xs ys same = same
part_level (parts.Longest seconds) xs ys same = same
part_level (parts.Zero count) xs ys same = same
part_level (parts.Rows count) xs ys same = same
part_level (parts.Samples port) xs ys same = same

order_level : {A B : Type 0} (all : List Part) (xs : List A) (ys : List B) → length xs ≡ length ys
    → length (in_canonical_order all xs) ≡ length (in_canonical_order all ys)
order_level all xs ys same =
    let ranks = 0 ∷ 1 ∷ 2 ∷ 3 ∷ 4 ∷ 5 ∷ 6 ∷ 7 ∷ [] in
    let ones = each_ranked part_rank (λ part. length (part_forms part)) part_lines_in_order all (drop 1 xs) in
    let others = each_ranked part_rank (λ part. length (part_forms part)) part_lines_in_order all (drop 1 ys) in
    length-append (take 1 xs) (by_rank ranks ones)
    ∙ ap (λ n. n + length (by_rank ranks ones)) (taken 1 xs ys same)
    ∙ ap (λ n. length (take 1 ys) + n)
    (by_rank_level ranks ones others
    (ranked_level part_rank (λ part. length (part_forms part)) part_lines_in_order part_lines_in_order part_level all (drop 1 xs) (drop 1 ys)
    (dropped 1 xs ys same)))
    ∙ sym (length-append (take 1 ys) (by_rank ranks others))

-- ---- Lines that are not blank

written_by : (line : List ℕ) (lines : List (List ℕ)) (from : ℕ) (told : Bool) → is_blank_line line ≡ told
    → length (filter (λ numbered. not (is_blank_line numbered.1)) (enumerate_from (from + 1) lines)) ≡ length (filter (λ one. not (is_blank_line one)) lines)
    → length (filter (λ numbered. not (is_blank_line numbered.1)) (enumerate_from from (line ∷ lines)))
    ≡ length (filter (λ one. not (is_blank_line one)) (line ∷ lines))
written_by line lines from true told rest = rw told rest
written_by line lines from false told rest = rw told (ap suc rest)

written_count : (lines : List (List ℕ)) (from : ℕ)
    → length (filter (λ numbered. not (is_blank_line numbered.1)) (enumerate_from from lines)) ≡ length (filter (λ one. not (is_blank_line one)) lines)
written_count [] from = refl
written_count (line ∷ lines) from = written_by line lines from (is_blank_line line) refl (written_count lines (from + 1))

numbered_count : (lines : List (List ℕ)) → length (numbers_of lines) ≡ length (filter (λ one. not (is_blank_line one)) lines)
numbered_count lines = length-map (filter (λ numbered. not (is_blank_line numbered.1)) (enumerate_from 1 lines)) (λ numbered. numbered.0)
    ∙ written_count lines 1

pub one_for_one : SourceLinesAreOneForOne
one_for_one text system lines from =
    let read = from.reads in
    let forms = text_forms system.version read.parts in
    let as_many : length (numbers_of (source_lines text)) ≡ length forms =
    numbered_count (source_lines text)
    ∙ AllZip-long (HasFormIn (source_lines text)) forms (filter (λ line. not (is_blank_line line)) (source_lines text)) read.lines in
    ap length from.are_lines
    ∙ order_level read.parts (numbers_of (source_lines text)) forms as_many
    ∙ ap length (forms_are system.version read.parts read.placed)
    ∙ ap (λ s. length (canonical_forms s)) read.says
