-- The canonical lines of the system of some parts are the lines of the parts, each once.
use Rattle.std.proofs.Common.{◌≡◌, ℕ, Bool, true, false, cond, List, [], ◌∷◌, ◌++◌, map, length, take, drop, get_or, IsTrue, refl, ap, sym, subst, ◌∙◌}
use Rattle.std.specs.Prelude.{◌==◌}
use Rattle.std.specs.List.{AllByRecursion, filter, flat_map, range_with_len}
use Rattle.std.specs.List.Sorted.{IsPermutation}
use Rattle.std.proofs.lemmas.List.{take-map, drop-map, map-append}
use Rattle.std.proofs.lemmas.List.Elements.{All-from_recursion, recursion_from_All}
use Rattle.std.proofs.lemmas.List.FromFn.{length-range_with_len, fill_by_all}
use Rattle.std.proofs.lemmas.List.Sorted.{IsPermutation-map, IsPermutation-sym, All-permutation}
use Rattle.unit_tree.specs.Blocks.{no_lines, are_placed}
use Rattle.unit_tree.specs.Canonical.{canonical_forms}
use Rattle.unit_tree.specs.Parts as parts
use Rattle.unit_tree.specs.Parts.{Part, UnitPart, unit_part_forms, part_forms, text_forms, system_of}
use Rattle.unit_tree.specs.SourceLines.{unit_part_rank, part_rank, of_rank, by_rank, each_ranked, unit_lines_in_order, part_lines_in_order, in_canonical_order}
use Rattle.unit_tree.specs.declared.line_form.LineForm.{LineForm}
use Rattle.unit_tree.specs.declared.line_form.LineForm.TheVariants as form
use Rattle.language_laws.proofs.RankLaws.{each_once}
use Rattle.language_laws.proofs.SourceLaws.{forms_are}

-- ---- A list with an element for each line is sorted as the lines are

-- Ranked lists, with their entries changed.
abbrev relisted : {A B : Type 0} → (A → B) → List (ℕ × List A) → List (ℕ × List B)
relisted f lists = map (λ one. (one.0, map f one.1)) lists

-- By whether the first list has the rank.
of_rank_by : {A B : Type 0} (f : A → B) (told : Bool) (rank : ℕ) (list : List A) (ours : List (ℕ × List B)) (others : List (ℕ × List A))
    → flat_map (λ one. one.1) ours ≡ map f (flat_map (λ one. one.1) others)
    → flat_map (λ one. one.1) (cond told ((rank, map f list) ∷ ours) ours) ≡ map f (flat_map (λ one. one.1) (cond told ((rank, list) ∷ others) others))
of_rank_by f true rank list ours others same = ap (λ rest. map f list ++ rest) same ∙ sym (map-append f list (flat_map (λ one. one.1) others))
of_rank_by f false rank list ours others same = same

-- The entries of a rank.
of_rank_map : {A B : Type 0} (f : A → B) (lists : List (ℕ × List A)) (rank : ℕ) → of_rank (relisted f lists) rank ≡ map f (of_rank lists rank)
of_rank_map f [] rank = refl
of_rank_map f (first ∷ lists) rank =
    of_rank_by f (first.0 == rank) first.0 first.1 (filter (λ one. one.0 == rank) (relisted f lists)) (filter (λ one. one.0 == rank) lists)
    (of_rank_map f lists rank)

-- The entries of all ranks.
by_rank_map : {A B : Type 0} (f : A → B) (ranks : List ℕ) (lists : List (ℕ × List A)) → by_rank ranks (relisted f lists) ≡ map f (by_rank ranks lists)
by_rank_map f [] lists = refl
by_rank_map f (rank ∷ ranks) lists =
    ap (λ first. first ++ by_rank ranks (relisted f lists)) (of_rank_map f lists rank)
    ∙ ap (λ rest. map f (of_rank lists rank) ++ rest) (by_rank_map f ranks lists)
    ∙ sym (map-append f (of_rank lists rank) (by_rank ranks lists))

-- The lists with their ranks, where each part keeps its own entries in order.
each_ranked_map : {A B P : Type 0} (f : A → B) (rank size : P → ℕ) (inside : P → List A → List A) (ours : P → List B → List B)
    → ((part : P) (lines : List A) → ours part (map f lines) ≡ map f (inside part lines)) → (all : List P) (lines : List A)
    → each_ranked rank size ours all (map f lines) ≡ relisted f (each_ranked rank size inside all lines)
each_ranked_map f rank size inside ours same [] lines = refl
each_ranked_map f rank size inside ours same (part ∷ all) lines =
    let here = take (size part) lines in
    let rest = drop (size part) lines in
    ap (λ first. (rank part, ours part first) ∷ each_ranked rank size ours all (drop (size part) (map f lines))) (take-map f (size part) lines)
    ∙ ap (λ first. (rank part, first) ∷ each_ranked rank size ours all (drop (size part) (map f lines))) (same part here)
    ∙ ap (λ later. (rank part, map f (inside part here)) ∷ each_ranked rank size ours all later) (drop-map f (size part) lines)
    ∙ ap (λ later. (rank part, map f (inside part here)) ∷ later) (each_ranked_map f rank size inside ours same all rest)

-- The entries of a unit.
unit_order_map : {A B : Type 0} (f : A → B) (inside : List UnitPart) (lines : List A)
    → unit_lines_in_order inside (map f lines) ≡ map f (unit_lines_in_order inside lines)
unit_order_map f inside lines =
    let ranks = 0 ∷ 1 ∷ 2 ∷ 3 ∷ 4 ∷ 5 ∷ 6 ∷ 7 ∷ 8 ∷ 9 ∷ [] in
    ap (by_rank ranks)
    (each_ranked_map f unit_part_rank (λ part. length (unit_part_forms part)) (λ part all. all) (λ part all. all) (λ part all. refl) inside lines)
    ∙ by_rank_map f ranks (each_ranked unit_part_rank (λ part. length (unit_part_forms part)) (λ part all. all) inside lines)

-- Three lists in a row.
three_map : {A B : Type 0} (f : A → B) (one two three : List A) → map f one ++ map f two ++ map f three ≡ map f (one ++ two ++ three)
three_map f one two three = ap (λ front. front ++ map f three) (sym (map-append f one two)) ∙ sym (map-append f (one ++ two) three)

-- The entries of a part.
part_order_map : {A B : Type 0} (f : A → B) (part : Part) (lines : List A) → part_lines_in_order part (map f lines) ≡ map f (part_lines_in_order part lines)
part_order_map f (parts.HasUnit name inside) lines =
    let rest = drop 1 lines in
    let size = length (flat_map unit_part_forms inside) in
    ap (λ first. first ++ unit_lines_in_order inside (drop 1 (map f lines)) ++ drop size (drop 1 (map f lines))) (take-map f 1 lines)
    ∙ ap (λ later. map f (take 1 lines) ++ unit_lines_in_order inside later ++ drop size later) (drop-map f 1 lines)
    ∙ ap (λ middle. map f (take 1 lines) ++ middle ++ drop size (map f rest)) (unit_order_map f inside rest)
    ∙ ap (λ last. map f (take 1 lines) ++ map f (unit_lines_in_order inside rest) ++ last) (drop-map f size rest)
    ∙ three_map f (take 1 lines) (unit_lines_in_order inside rest) (drop size rest)
part_order_map f _ lines = refl

-- The entries of a text.
order_map : {A B : Type 0} (f : A → B) (all : List Part) (lines : List A) → in_canonical_order all (map f lines) ≡ map f (in_canonical_order all lines)
order_map f all lines =
    let ranks = 0 ∷ 1 ∷ 2 ∷ 3 ∷ 4 ∷ 5 ∷ 6 ∷ 7 ∷ [] in
    let ranked = each_ranked part_rank (λ part. length (part_forms part)) part_lines_in_order all (drop 1 lines) in
    ap (λ first. first ++ by_rank ranks (each_ranked part_rank (λ part. length (part_forms part)) part_lines_in_order all (drop 1 (map f lines))))
    (take-map f 1 lines)
    ∙ ap (λ later. map f (take 1 lines) ++ by_rank ranks (each_ranked part_rank (λ part. length (part_forms part)) part_lines_in_order all later))
    (drop-map f 1 lines)
    ∙ ap (λ lists. map f (take 1 lines) ++ by_rank ranks lists)
    (each_ranked_map f part_rank (λ part. length (part_forms part)) part_lines_in_order part_lines_in_order (part_order_map f) all (drop 1 lines))
    ∙ ap (λ rest. map f (take 1 lines) ++ rest) (by_rank_map f ranks ranked)
    ∙ sym (map-append f (take 1 lines) (by_rank ranks ranked))

-- ---- Forms

-- Lines of parts that are where they are allowed are the canonical lines in another order.
pub forms_in_order : (version : ℕ) (all : List Part) → IsTrue (are_placed no_lines (text_forms version all))
    → IsPermutation (canonical_forms (system_of version all)) (text_forms version all)
forms_in_order version all placed =
    let forms = text_forms version all in
    let numbers = range_with_len 0 (length forms) in
    let at : ℕ → LineForm = λ number. get_or forms number form.End in
    let each : forms ≡ map at numbers = fill_by_all at forms (length forms) form.End refl (λ number within. refl) in
    let ordered : canonical_forms (system_of version all) ≡ map at (in_canonical_order all numbers) =
    sym (forms_are version all placed) ∙ ap (in_canonical_order all) each ∙ order_map at all numbers in
    subst (λ some. IsPermutation some forms) (sym ordered)
    (subst (IsPermutation (map at (in_canonical_order all numbers))) (sym each)
    (IsPermutation-map at (in_canonical_order all numbers) numbers (each_once version all numbers (length-range_with_len 0 (length forms)))))

-- A property of each line of the parts is one of each canonical line.
pub each_in_order : (P : LineForm → Type 0) (version : ℕ) (all : List Part) → IsTrue (are_placed no_lines (text_forms version all))
    → AllByRecursion P (text_forms version all) → AllByRecursion P (canonical_forms (system_of version all))
each_in_order P version all placed holds =
    let forms = text_forms version all in
    let canonical = canonical_forms (system_of version all) in
    recursion_from_All P canonical
    (All-permutation P forms canonical (IsPermutation-sym canonical forms (forms_in_order version all placed)) (All-from_recursion P forms holds))
