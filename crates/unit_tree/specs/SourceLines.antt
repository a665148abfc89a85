-- Source lines: for each canonical line of a text's system, the line of the text that it came from. The lines of a text
-- are in the order of its parts. Canonical lines are in the order of their kinds, and each kind keeps its own order.
use Rattle.std.specs.Prelude.{◌≡◌, ℕ, ◌==◌, not, List, [], ◌∷◌, ◌++◌, map, length, take, drop}
use Rattle.std.specs.List.{filter, flat_map, enumerate_from}
use Rattle.unit_tree.specs.Lines.{source_lines, is_blank_line}
use Rattle.unit_tree.specs.Parts.{Part, HasUnit, HasInstance, Connects, Stop, Longest, Zero, Rows, Samples, UnitPart, Resolution, HasParam, HasState, HasLocal}
use Rattle.unit_tree.specs.Parts.{HasInput, HasEventIn, HasOutput, HasEventOut, Max, Step, part_forms, unit_part_forms}
use Rattle.unit_tree.specs.Texts.{Reads}
use Rattle.unit_tree.specs.declared.system.System.{System}

-- ---- The canonical order of kinds

abbrev pub unit_part_rank : UnitPart → ℕ
unit_part_rank (Resolution decimals) = 0
unit_part_rank (HasParam param) = 1
unit_part_rank (HasState state) = 2
unit_part_rank (HasLocal local) = 3
unit_part_rank (HasInput input) = 4
unit_part_rank (HasEventIn event) = 5
unit_part_rank (HasOutput output) = 6
unit_part_rank (HasEventOut event) = 7
unit_part_rank (Max value) = 8
unit_part_rank (Step lines) = 9

abbrev pub part_rank : Part → ℕ
part_rank (HasUnit name parts) = 0
part_rank (HasInstance instance) = 1
part_rank (Connects wire) = 2
part_rank (Stop seconds) = 3
part_rank (Longest seconds) = 4
part_rank (Zero count) = 5
part_rank (Rows count) = 6
part_rank (Samples port) = 7

-- Of lists with a rank each, those of one rank, joined in their order.
abbrev pub of_rank : {A : Type 0} → List (ℕ × List A) → ℕ → List A
of_rank lists rank = flat_map (λ one. one.1) (filter (λ one. one.0 == rank) lists)

abbrev pub by_rank : {A : Type 0} → List ℕ → List (ℕ × List A) → List A
by_rank ranks lists = flat_map (of_rank lists) ranks

-- ---- Lists with an element for each line

-- A list with an element for each line of the parts is cut into one piece for each part, as long as the part has lines.
-- Each piece is given with its part's rank, and is sorted into the order inside the part.
abbrev pub each_ranked : {A P : Type 0} → (P → ℕ) → (P → ℕ) → (P → List A → List A) → List P → List A → List (ℕ × List A)
each_ranked rank size inside [] lines = []
each_ranked rank size inside (part ∷ parts) lines =
    (rank part, inside part (take (size part) lines)) ∷ each_ranked rank size inside parts (drop (size part) lines)

abbrev pub unit_lines_in_order : {A : Type 0} → List UnitPart → List A → List A
unit_lines_in_order parts lines =
    by_rank (0 ∷ 1 ∷ 2 ∷ 3 ∷ 4 ∷ 5 ∷ 6 ∷ 7 ∷ 8 ∷ 9 ∷ [])
    (each_ranked unit_part_rank (λ part. length (unit_part_forms part)) (λ part inside. inside) parts lines)

-- The pieces of a part in canonical order: of a unit its own line comes first, then those of its parts in canonical
-- order, then its `end`.
abbrev pub part_lines_in_order : {A : Type 0} → Part → List A → List A
part_lines_in_order (HasUnit name parts) lines =
    take 1 lines ++ unit_lines_in_order parts (drop 1 lines) ++ drop (length (flat_map unit_part_forms parts)) (drop 1 lines)
part_lines_in_order part lines = lines

-- A list with an element for each line of a text, in canonical order: that of the header, then those of the parts.
abbrev pub in_canonical_order : {A : Type 0} → List Part → List A → List A
in_canonical_order parts lines =
    take 1 lines
    ++ by_rank (0 ∷ 1 ∷ 2 ∷ 3 ∷ 4 ∷ 5 ∷ 6 ∷ 7 ∷ []) (each_ranked part_rank (λ part. length (part_forms part)) part_lines_in_order parts (drop 1 lines))

-- ---- Numbers of lines

-- The numbers, from 1, of the lines that are not blank.
abbrev pub numbers_of : List (List ℕ) → List ℕ
numbers_of lines = map (λ numbered. numbered.0) (filter (λ numbered. not (is_blank_line numbered.1)) (enumerate_from 1 lines))

-- The text has the system, and its canonical lines came from the lines with these numbers, one for one.
pub record ReadsFrom (text : List ℕ) (system : System) (lines : List ℕ) : Type 0 where
  pub reads : Reads text system
  pub are_lines : lines ≡ in_canonical_order reads.parts (numbers_of (source_lines text))
