-- The canonical text of a printable system is read as this system.
use Rattle.std.proofs.Common.{◌≡◌, ℕ, nat_le, List, [], ◌∷◌, map, length, inl, inr, IsTrue, IsFalse, refl, ap, sym, subst, ◌∙◌, arith}
use Rattle.std.specs.List.{AllByRecursion, AllZip, list_all, list_any}
use Rattle.std.proofs.lemmas.Bool.{and_parts, or_parts, true≢false}
use Rattle.std.proofs.lemmas.List.Folds.{list_all-map}
use Rattle.unit_tree.specs.Canonical.{canonical_parts, canonical_forms, canonical_text, form_tokens, line_text}
use Rattle.unit_tree.specs.LineForms.{HasForm, is_of_version_2, tail_of}
use Rattle.unit_tree.specs.Lines.{code_of, source_lines}
use Rattle.unit_tree.specs.Printable.{IsInRange, IsPrintable, is_writable}
use Rattle.model_rules.specs.Limits.{line_limit}
use Rattle.unit_tree.specs.Texts.{BeginsVersion2, HasFormIn, HaveForms}
use Rattle.unit_tree.specs.Tokens.{Spells}
use Rattle.unit_tree.specs.declared.line_form.LineForm.{LineForm}
use Rattle.unit_tree.specs.declared.line_form.LineForm.TheVariants as form
use Rattle.unit_tree.specs.declared.system.System.{System}
use Rattle.language_laws.proofs.PartLaws.{system_is}
use Rattle.text_laws.specs.Laws.{CanonicalTextIsReadBack}
use Rattle.text_laws.proofs.CanonicalBytes.{canonical_lines, none_blank, canonical_codes, canonical_size}
use Rattle.text_laws.proofs.CanonicalForms.{canonical_is_written}
use Rattle.text_laws.proofs.CanonicalPlaces.{canonical_is_placed}
use Rattle.list_laws.proofs.Truths.{one_or_two}

-- Each canonical line has its form.
abbrev HasItsForm : LineForm → Type 0
HasItsForm some = HasForm some (line_text some)

-- Lines that are spelled have the forms that are in range.
all_have_forms : (forms : List LineForm) → AllByRecursion (λ some. Spells (form_tokens some) (code_of (line_text some))) forms
    → AllByRecursion IsInRange forms → IsTrue (list_all (λ some. is_writable (tail_of some)) forms) → AllByRecursion HasItsForm forms
all_have_forms [] spelled ranged writable = _
all_have_forms (some ∷ forms) spelled ranged writable =
    let both = and_parts (is_writable (tail_of some)) (list_all (λ one. is_writable (tail_of one)) forms) writable in (
      record { tokens = form_tokens some; spelled = spelled.0; written = canonical_is_written some ranged.0 both.0 },
      all_have_forms forms spelled.1 ranged.1 both.1,
    )

-- ---- Versions

-- A text of version 2 begins with its header.
of_version_2 : (text : List (List ℕ)) (forms : List LineForm) → AllByRecursion HasItsForm forms → BeginsVersion2 text
    → AllByRecursion (λ some. HasFormIn text some (line_text some)) forms
of_version_2 text [] have begins = _
of_version_2 text (some ∷ forms) have begins = (record { has_form = have.0; of_version = λ is. begins }, of_version_2 text forms have.1 begins)

-- In a text of version 1 there are no forms of version 2.
of_version_1 : (text : List (List ℕ)) (forms : List LineForm) → AllByRecursion HasItsForm forms → IsFalse (list_any is_of_version_2 forms)
    → AllByRecursion (λ some. HasFormIn text some (line_text some)) forms
of_version_1 text [] have none = _
of_version_1 text (some ∷ forms) have none =
    let both = or_parts (is_of_version_2 some) (list_any is_of_version_2 forms) none in
    (record { has_form = have.0; of_version = λ is. absurd (true≢false (sym is ∙ both.0)) }, of_version_1 text forms have.1 both.1)

-- Canonical lines of version 2 begin with its header.
begins_so : (system : System) → system.version ≡ 2 → AllByRecursion HasItsForm (canonical_forms system)
    → BeginsVersion2 (map line_text (canonical_forms system))
begins_so system is have = record {
  before = [];
  line = line_text (form.Header system.version);
  later = _;
  cut = refl;
  before_is_blank = refl;
  is_header = subst (λ version. HasForm (form.Header version) (line_text (form.Header system.version))) is have.0;
}

-- Each line has its form in the canonical text.
all_have_forms_in : (system : System) → IsPrintable system → AllByRecursion HasItsForm (canonical_forms system)
    → AllByRecursion (λ some. HasFormIn (map line_text (canonical_forms system)) some (line_text some)) (canonical_forms system)
all_have_forms_in system printable have =
    let lines = map line_text (canonical_forms system) in
    elim (one_or_two system.version printable.ranged.version.0 printable.ranged.version.1) [
      | inl is ↦ of_version_1 lines (canonical_forms system) have (printable.of_version is)
      | inr is ↦ of_version_2 lines (canonical_forms system) have (begins_so system is have)
    ]

-- ---- The text

-- The lines have the forms, one for one.
texts_have_forms : (text : List (List ℕ)) (forms : List LineForm) → AllByRecursion (λ some. HasFormIn text some (line_text some)) forms
    → AllZip (HasFormIn text) forms (map line_text forms)
texts_have_forms text [] have = _
texts_have_forms text (some ∷ forms) have = (have.0, texts_have_forms text forms have.1)

-- Its parts, its lines, their places and their lengths are those of a text that has the system.
pub read_back : CanonicalTextIsReadBack
read_back system printable =
    let forms = canonical_forms system in
    let have = all_have_forms forms (canonical_codes system printable) printable.ranged.numbers printable.tails in
    let lines : source_lines (canonical_text system) ≡ map line_text forms = canonical_lines system printable in
    record {
      parts = canonical_parts system;
      says = system_is system;
      lines = subst (λ all. HaveForms all forms all) (sym lines)
          (subst (AllZip (HasFormIn (map line_text forms)) forms) (sym (none_blank system printable))
          (texts_have_forms (map line_text forms) forms (all_have_forms_in system printable have)));
      placed = canonical_is_placed system printable.blocks;
      short = let size = canonical_size system printable in let within = printable.text in omega (arith, size, within);
      lines_short = ap (list_all (λ line. nat_le (length line) line_limit)) lines ∙ list_all-map (λ line. nat_le (length line) line_limit) line_text forms
          ∙ printable.lines;
    }
