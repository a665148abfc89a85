-- The lines at which the reader refuses a text are lines of the text, or the first.
use Rattle.std.proofs.Common.{◌≡◌, ℕ, ◌+◌, ◌≤◌, ◌<◌, Bool, List, [], ◌∷◌, length, inl, inr, refl, ap, subst, arith, length-append}
use Rattle.std.specs.List.{onto_first}
use Rattle.std.specs.Prelude.{true, false, ◌==◌, if◌then◌else◌}
use Rattle.std.proofs.lemmas.List.{length-map}
use Rattle.unit_tree.specs.Lines.{lines_of, source_lines, without_return}
use Rattle.unit_tree.specs.Blocks.{open_blocks}
use Rattle.unit_tree.specs.Texts.{Breaks, HaveForms, IsRefused, IsUnended}
use Rattle.unit_tree.specs.declared.line_form.LineForm.{LineForm}

-- A number of a line, or the first where there are no lines.
pub record IsLineOf (count number : ℕ) : Type 0 where
  pub first : 1 ≤ number
  pub last : number ≤ count + 1
  pub within : 0 < count → number ≤ count

first_line : (count number : ℕ) → number ≡ 1 → IsLineOf count number
first_line count number is = record { first = omega (arith, is); last = omega (arith, is); within = λ some. omega (arith, is, some) }

broken_line : (lines : List (List ℕ)) (number rule : ℕ) → Breaks lines number rule → IsLineOf (length lines) number
broken_line lines number rule (inl at) =
    let is = at.is_number in
    let long = ap length at.cut in
    let parts = length-append at.before (at.line ∷ at.later) in
    record { first = omega (arith, is); last = omega (arith, is, long, parts); within = λ some. omega (arith, is, long, parts) }
broken_line lines number rule (inr (blank, is, by)) = first_line (length lines) number is

no_forms : (text : List (List ℕ)) (forms : List LineForm) → HaveForms text forms [] → forms ≡ []
no_forms text [] have = refl
no_forms text (some ∷ forms) have = absurd have

none_open : (lines : List (List ℕ)) (number rule : ℕ) → IsUnended lines number rule → lines ≡ [] → ⊥
none_open lines number rule unended none =
    unended.is_open (ap open_blocks (no_forms lines unended.forms (subst (HaveForms lines unended.forms) none unended.have_forms)))

some_lines : (lines : List (List ℕ)) → (lines ≡ [] → ⊥) → 1 ≤ length lines
some_lines [] some = absurd (some refl)
some_lines (line ∷ lines) some = omega arith

unended_line : (lines : List (List ℕ)) (number rule : ℕ) → IsUnended lines number rule → IsLineOf (length lines) number
unended_line lines number rule unended =
    let is = unended.is_last in
    let some = some_lines lines (none_open lines number rule unended) in
    record { first = omega (arith, is, some); last = omega (arith, is); within = λ there. omega (arith, is) }

refused_line : (text : List ℕ) (number rule : ℕ) → IsRefused text number rule → IsLineOf (length (source_lines text)) number
refused_line text number rule (inl (long, is, by)) = first_line (length (source_lines text)) number is
refused_line text number rule (inr (short, inl broken)) = broken_line (source_lines text) number rule broken.breaks
refused_line text number rule (inr (short, inr unended)) = unended_line (source_lines text) number rule unended

pub line_refused : (text : List ℕ) (number rule : ℕ) → IsRefused text number rule → IsLineOf (length (lines_of text)) number
line_refused text number rule refused =
    subst (λ count. IsLineOf count number) (length-map (lines_of text) without_return) (refused_line text number rule refused)

fit_by : (byte : ℕ) (text : List ℕ) (test : Bool) → length (lines_of text) ≤ length text
    → length (if test then [] ∷ lines_of text else onto_first byte (lines_of text)) ≤ length text + 1
fit_by byte text true less = omega (arith, less)
fit_by byte text false less = by (lines_of text) less
  where
    by : (lines : List (List ℕ)) → length lines ≤ length text → length (onto_first byte lines) ≤ length text + 1
    by [] less = omega arith
    by (line ∷ lines) less = omega (arith, less)

-- a text has no more lines than bytes
pub lines_fit : (text : List ℕ) → length (lines_of text) ≤ length text
lines_fit [] = omega arith
lines_fit (byte ∷ text) =
    let less = fit_by byte text (byte == 10) (lines_fit text) in
    omega (arith, less)
