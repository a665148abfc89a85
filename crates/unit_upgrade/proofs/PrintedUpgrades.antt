-- The upgrade of a printable system is printable, where its text is short enough.
use Rattle.std.proofs.Common.{◌≡◌, ℕ, ◌≤◌, ◌==◌, Bool, true, false, cond, List, [], ◌∷◌, ◌++◌, length, refl, sym, subst, arith, nat_le, unwrap_or}
use Rattle.std.specs.Fmt.{digits}
use Rattle.std.specs.List.{AllByRecursion, list_all}
use Rattle.std.proofs.lemmas.Bool.{and_from, and_parts}
use Rattle.std.proofs.lemmas.Fmt.{length-decimal-le}
use Rattle.list_laws.proofs.Lists.{back_of, each_append, front_of}
use Rattle.list_laws.proofs.Truths.{le_asked}
use Rattle.unit_tree.specs.Canonical.{canonical_forms, canonical_text, line_text}
use Rattle.model_rules.specs.Limits.{default_zeros}
use Rattle.unit_tree.specs.Compositions.{default_rows}
use Rattle.unit_tree.specs.LineForms.{tail_of}
use Rattle.unit_tree.specs.Printable.{IsInRange, IsPrintable, IsRanged, is_writable, names_on}
use Rattle.model_rules.specs.Limits.{line_limit, text_limit}
use Rattle.unit_tree.specs.Tokens.{IsName, IsWord}
use Rattle.unit_tree.specs.declared.line_form.LineForm.{LineForm}
use Rattle.unit_tree.specs.declared.line_form.LineForm.TheVariants as form
use Rattle.unit_tree.specs.declared.system.System.{System}
use Rattle.unit_upgrade.specs.Laws.{UpgradesArePrintable}
use Rattle.unit_upgrade.specs.Upgrades.{in_version_2}
use Rattle.unit_upgrade.proofs.AddedLengths.{rows_text, zero_text}
use Rattle.unit_upgrade.proofs.BudgetBounds.{rows_between, zeros_low}
use Rattle.unit_upgrade.proofs.Parted.{front_lines, lines_are, row_lines, sample_lines, zero_lines}

each_passes : (test : LineForm → Bool) (lines : List LineForm) → list_all test lines ≡ true → AllByRecursion (λ line. test line ≡ true) lines
each_passes test [] told = tt
each_passes test (line ∷ lines) told = let both = and_parts (test line) (list_all test lines) told in (both.0, each_passes test lines both.1)

all_pass : (test : LineForm → Bool) (lines : List LineForm) → AllByRecursion (λ line. test line ≡ true) lines → list_all test lines ≡ true
all_pass test [] each = refl
all_pass test (line ∷ lines) each = and_from (test line) (list_all test lines) each.0 (all_pass test lines each.1)

header_short : nat_le (length (line_text (form.Header 2))) line_limit ≡ true
unfolding digits
header_short = refl

-- A line with a count is far shorter than the limit of a line.
zero_short : (count : ℕ) → count ≤ 10000 → nat_le (length (line_text (form.Zero count))) line_limit ≡ true
zero_short count low =
    le_asked (length (line_text (form.Zero count))) line_limit
    (omega (arith, zero_text count (omega arith), length-decimal-le 5 count (omega arith) (omega arith) (omega arith)))

rows_short : (count : ℕ) → count ≤ 100000 → nat_le (length (line_text (form.Rows count))) line_limit ≡ true
rows_short count low =
    le_asked (length (line_text (form.Rows count))) line_limit
    (omega (arith, rows_text count (omega arith), length-decimal-le 6 count (omega arith) (omega arith) (omega arith)))

module _ (system : System) where
  abbrev zeros : ℕ
  zeros = unwrap_or system.zero (default_zeros 1)

  abbrev rows : ℕ
  rows = unwrap_or system.rows (default_rows 1 (length system.instances))

  -- What holds of all lines of the system, and of the three that change, holds of all lines of its upgrade.
  carried : (P : LineForm → Type 0) → P (form.Header 2) → P (form.Zero zeros) → P (form.Rows rows) → AllByRecursion P (canonical_forms system)
      → AllByRecursion P (canonical_forms (in_version_2 system))
  carried P header zero row all =
      let given : List LineForm = zero_lines system.zero ++ (row_lines system.rows ++ sample_lines system) in
      let behind = (subst (AllByRecursion P) (lines_are system) all).1 in
      let samples =
      back_of P (row_lines system.rows) (sample_lines system)
      (back_of P (zero_lines system.zero) (row_lines system.rows ++ sample_lines system) (back_of P (front_lines system) given behind)) in
      subst (AllByRecursion P) (sym (lines_are (in_version_2 system))) (
        header,
        each_append P (front_lines system) (form.Zero zeros ∷ form.Rows rows ∷ sample_lines system) (front_of P (front_lines system) given behind)
            (zero, (row, samples)),
      )

  tested : (test : LineForm → Bool) → test (form.Header 2) ≡ true → test (form.Zero zeros) ≡ true → test (form.Rows rows) ≡ true
      → list_all test (canonical_forms system) ≡ true → list_all test (canonical_forms (in_version_2 system)) ≡ true
  tested test header zero row all =
      all_pass test (canonical_forms (in_version_2 system))
      (carried (λ line. test line ≡ true) header zero row (each_passes test (canonical_forms system) all))

  in_version_2_prints : IsPrintable system → zeros ≤ 10000 → 1 ≤ rows → rows ≤ 100000 → length (canonical_text (in_version_2 system)) ≤ text_limit
      → IsPrintable (in_version_2 system)
  in_version_2_prints is low some few short = record {
    ranged = record {
      version = (omega arith, omega arith);
      events = λ first. absurd (omega (arith, first));
      names = carried (λ line. AllByRecursion IsWord (names_on line)) tt tt tt is.ranged.names;
      numbers = carried IsInRange ((omega arith, omega arith), tt) (low, tt) ((some, few), tt) is.ranged.numbers;
    };
    of_version = λ first. absurd (omega (arith, first));
    names = carried (λ line. AllByRecursion IsName (names_on line)) tt tt tt is.names;
    tails = tested (λ line. is_writable (tail_of line)) refl refl refl is.tails;
    blocks = is.blocks;
    lines = tested (λ line. nat_le (length (line_text line)) line_limit) header_short (zero_short zeros low) (rows_short rows few) is.lines;
    text = short;
  }

pub prints_in_range : (system : System) → IsPrintable system → IsRanged system
prints_in_range system is = is.ranged

pub upgrades_are_printable : UpgradesArePrintable
upgrades_are_printable system is kept short = by (system.version == 1) short
  where
    by : (first : Bool) → length (canonical_text (cond first (in_version_2 system) system)) ≤ text_limit
        → IsPrintable (cond first (in_version_2 system) system)
    by true fits =
        let between = rows_between system is.ranged kept in
        in_version_2_prints system is (zeros_low system is.ranged) between.0 between.1 fits
    by false fits = is
