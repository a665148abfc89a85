-- The line of a refusal is within the longest text that is read: it has at most so many lines.
use Rattle.std.proofs.Common.{◌≡◌, ℕ, zero, suc, ◌+◌, ◌-◌, ◌≤◌, Bool, true, false, cond, List, [], ◌∷◌, ◌++◌, map, length, take, drop, length-append, Some}
use Rattle.std.proofs.Common.{inl, inr, sym, ap, subst, arith}
use Rattle.std.proofs.lemmas.List.{length-map}
use Rattle.std.specs.Prelude.{slice_get, ◌==◌}
use Rattle.std.specs.List.{AllByRecursion, enumerate_from, filter, flat_map, fold}
use Rattle.list_laws.proofs.Lists.{each_append}
use Rattle.list_laws.proofs.Members.{each_has, has_at}
use Rattle.model_rules.specs.Limits.{text_limit}
use Rattle.text_accept.specs.Accepting.{IsRefusedAt, IsSystemRefusedAt}
use Rattle.unit_tree.specs.Lines.{lines_of, size_of, source_lines, without_return}
use Rattle.unit_tree.specs.Parts.{Part, HasInstance, HasUnit, Connects, Stop, Longest, Zero, Rows, Samples, part_forms, unit_part_forms}
use Rattle.unit_tree.specs.SourceLines.{ReadsFrom, by_rank, each_ranked, in_canonical_order, numbers_of, of_rank, part_lines_in_order, part_rank, unit_lines_in_order, unit_part_rank}
use Rattle.unit_tree.specs.Texts.{Breaks, IsRefused}
use Rattle.unit_tree.specs.declared.system.System.{System}

-- ---- Lists whose elements are all within a bound

abbrev Within : ℕ → List ℕ → Type 0
Within most numbers = AllByRecursion (λ number. number ≤ most) numbers

within_take : (most count : ℕ) (xs : List ℕ) → Within most xs → Within most (take count xs)
within_take most zero xs all = tt
within_take most (suc count) [] all = tt
within_take most (suc count) (x ∷ xs) all = (all.0, within_take most count xs all.1)

within_drop : (most count : ℕ) (xs : List ℕ) → Within most xs → Within most (drop count xs)
within_drop most zero xs all = all
within_drop most (suc count) [] all = tt
within_drop most (suc count) (x ∷ xs) all = within_drop most count xs all.1

within_append : (most : ℕ) (xs ys : List ℕ) → Within most xs → Within most ys → Within most (xs ++ ys)
within_append most xs ys = each_append (λ number. number ≤ most) xs ys

-- Lists with a rank each.
abbrev Ranked : Type 0
Ranked = List (ℕ × List ℕ)

abbrev AllWithin : ℕ → Ranked → Type 0
AllWithin most lists = AllByRecursion (λ one. Within most one.1) lists

kept_within : (most rank : ℕ) (kept : Bool) (one : ℕ × List ℕ) (rest : Ranked) → Within most one.1 → Within most (flat_map (λ o. o.1) rest)
    → Within most (flat_map (λ o. o.1) (cond kept (one ∷ rest) rest))
kept_within most rank true one rest here others = within_append most one.1 (flat_map (λ o. o.1) rest) here others
kept_within most rank false one rest here others = others

within_rank : (most rank : ℕ) (lists : Ranked) → AllWithin most lists → Within most (of_rank lists rank)
within_rank most rank [] all = tt
within_rank most rank (one ∷ lists) all =
    kept_within most rank (one.0 == rank) one (filter (λ o. o.0 == rank) lists) all.0 (within_rank most rank lists all.1)

within_ranks : (most : ℕ) (ranks : List ℕ) (lists : Ranked) → AllWithin most lists → Within most (by_rank ranks lists)
within_ranks most [] lists all = tt
within_ranks most (rank ∷ ranks) lists all =
    within_append most (of_rank lists rank) (by_rank ranks lists) (within_rank most rank lists all) (within_ranks most ranks lists all)

within_each : {P : Type 0} (most : ℕ) (rank size : P → ℕ) (inside : P → List ℕ → List ℕ)
    → ((part : P) (lines : List ℕ) → Within most lines → Within most (inside part lines)) → (parts : List P) (lines : List ℕ) → Within most lines
    → AllWithin most (each_ranked rank size inside parts lines)
within_each most rank size inside keeps [] lines all = tt
within_each most rank size inside keeps (part ∷ parts) lines all = (
  keeps part (take (size part) lines) (within_take most (size part) lines all),
  within_each most rank size inside keeps parts (drop (size part) lines) (within_drop most (size part) lines all),
)

-- ---- The lines of a text

numbers_within : (from : ℕ) (lines : List (List ℕ)) (most : ℕ) → from + length lines ≤ suc most
    → AllByRecursion (λ numbered. numbered.0 ≤ most) (enumerate_from from lines)
numbers_within from [] most room = tt
numbers_within from (line ∷ lines) most room = (omega (arith, room), numbers_within (from + 1) lines most (omega (arith, room)))

kept_number : (kept : Bool) (one : ℕ × List ℕ) (rest : List (ℕ × List ℕ)) (most : ℕ) → one.0 ≤ most → Within most (map (λ o. o.0) rest)
    → Within most (map (λ o. o.0) (cond kept (one ∷ rest) rest))
kept_number true one rest most here others = (here, others)
kept_number false one rest most here others = others

filtered_within : (test : ℕ × List ℕ → Bool) (numbered : List (ℕ × List ℕ)) (most : ℕ) → AllByRecursion (λ one. one.0 ≤ most) numbered
    → Within most (map (λ one. one.0) (filter test numbered))
filtered_within test [] most all = tt
filtered_within test (one ∷ numbered) most all = kept_number (test one) one (filter test numbered) most all.0 (filtered_within test numbered most all.1)

numbers_low : (lines : List (List ℕ)) → Within (length lines) (numbers_of lines)
numbers_low lines = filtered_within _ (enumerate_from 1 lines) (length lines) (numbers_within 1 lines (length lines) (omega arith))

part_within : (most : ℕ) (part : Part) (lines : List ℕ) → Within most lines → Within most (part_lines_in_order part lines)
part_within most (HasUnit name parts) lines all =
    within_append most (take 1 lines ++ unit_lines_in_order parts (drop 1 lines)) (drop (length (flat_map unit_part_forms parts)) (drop 1 lines))
    (within_append most (take 1 lines) (unit_lines_in_order parts (drop 1 lines)) (within_take most 1 lines all)
    (within_ranks most (0 ∷ 1 ∷ 2 ∷ 3 ∷ 4 ∷ 5 ∷ 6 ∷ 7 ∷ 8 ∷ 9 ∷ [])
    (each_ranked unit_part_rank (λ part. length (unit_part_forms part)) (λ part inside. inside) parts (drop 1 lines))
    (within_each most unit_part_rank (λ part. length (unit_part_forms part)) (λ part inside. inside) (λ part inside kept. kept) parts (drop 1 lines)
    (within_drop most 1 lines all))))
    (within_drop most (length (flat_map unit_part_forms parts)) (drop 1 lines) (within_drop most 1 lines all))
part_within most (HasInstance instance) lines all = all
part_within most (Connects wire) lines all = all
part_within most (Stop seconds) lines all = all
part_within most (Longest seconds) lines all = all
part_within most (Zero count) lines all = all
part_within most (Rows count) lines all = all
part_within most (Samples port) lines all = all

canonical_within : (most : ℕ) (parts : List Part) (lines : List ℕ) → Within most lines → Within most (in_canonical_order parts lines)
canonical_within most parts lines all =
    let ranked = each_ranked part_rank (λ part. length (part_forms part)) part_lines_in_order parts (drop 1 lines) in
    within_append most (take 1 lines) (by_rank (0 ∷ 1 ∷ 2 ∷ 3 ∷ 4 ∷ 5 ∷ 6 ∷ 7 ∷ []) ranked) (within_take most 1 lines all)
    (within_ranks most (0 ∷ 1 ∷ 2 ∷ 3 ∷ 4 ∷ 5 ∷ 6 ∷ 7 ∷ []) ranked
    (within_each most part_rank (λ part. length (part_forms part)) part_lines_in_order (part_within most) parts (drop 1 lines) (within_drop most 1 lines all)))

-- A text has no more lines than its size.
counted_from : (sum : ℕ) (lines : List (List ℕ)) → sum + length lines ≤ fold (λ a (line : List ℕ). a + (length line + 1)) sum lines
counted_from sum [] = omega arith
counted_from sum (line ∷ lines) = let rest = counted_from (sum + (length line + 1)) lines in omega (arith, rest)

lines_few : (text : List ℕ) → length (source_lines text) ≤ size_of text
lines_few text = let all = counted_from 0 (lines_of text) in let long = length-map (lines_of text) without_return in omega (arith, all, long)

-- ---- Refusals

broken_low : (lines : List (List ℕ)) (number rule most : ℕ) → length lines ≤ most → 1 ≤ most → Breaks lines number rule → number ≤ most
broken_low lines number rule most few some (inl at) =
    let cut = ap length at.cut in
    let long = length-append at.before (at.line ∷ at.later) in
    omega (arith, cut, long, at.is_number, few)
broken_low lines number rule most few some (inr (blank, number_is, by)) = omega (arith, number_is, some)

by_lines : (text : List ℕ) (line rule : ℕ) → IsRefused text line rule → line ≤ text_limit
by_lines text line rule (inl (long, is, by)) = omega (arith, is)
by_lines text line rule (inr (short, inl first)) =
    let few = lines_few text in broken_low (source_lines text) line rule text_limit (omega (arith, few, short)) (omega arith) first.breaks
by_lines text line rule (inr (short, inr unended)) = let few = lines_few text in omega (arith, few, short, unended.is_last)

source_low : (text : List ℕ) (system : System) (lines : List ℕ) (reads : ReadsFrom text system lines) (item line : ℕ) → slice_get lines item ≡ Some line
    → line ≤ text_limit
source_low text system lines reads item line is =
    let few = lines_few text in
    let short = reads.reads.short in
    let low : Within (length (source_lines text)) lines =
    subst (Within (length (source_lines text))) (sym reads.are_lines)
    (canonical_within (length (source_lines text)) reads.reads.parts (numbers_of (source_lines text)) (numbers_low (source_lines text))) in
    let here = each_has (λ number. number ≤ length (source_lines text)) lines line low (has_at lines item line is) in
    omega (arith, few, short, here)

by_system : (text : List ℕ) (system : System) (lines : List ℕ) (line rule : ℕ) → ReadsFrom text system lines → IsSystemRefusedAt system lines line rule
    → line ≤ text_limit
by_system text system lines line rule reads (inl breaks) = source_low text system lines reads (breaks.refusal.at - 1) line breaks.at
by_system text system lines line rule reads (inr cycle) = source_low text system lines reads (cycle.item - 1) line cycle.at

pub refused_low : (text : List ℕ) (line rule : ℕ) → IsRefusedAt text line rule → line ≤ text_limit
refused_low text line rule (inl refused) = by_lines text line rule refused
refused_low text line rule (inr says) = by_system text says.system says.lines line rule says.reads says.refused
