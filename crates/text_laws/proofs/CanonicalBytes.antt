-- The bytes of canonical lines and texts.
use Rattle.std.proofs.Common.{◌≡◌, ℕ, ◌+◌, Bool, true, false, not, List, [], ◌∷◌, ◌++◌, map, length, IsTrue, refl, ap, sym, ◌∙◌, arith, append_assoc}
use Rattle.std.proofs.Common.{length-append}
use Rattle.std.specs.List.{AllByRecursion, list_all, filter, flat_map, onto_first, sum_by}
use Rattle.std.proofs.lemmas.Bool.{and_parts}
use Rattle.std.proofs.lemmas.List.Sums.{sum_by-cons}
use Rattle.unit_tree.specs.Canonical.{canonical_forms, canonical_text, form_tokens, line_text}
use Rattle.unit_tree.specs.LineForms.{tail_of}
use Rattle.unit_tree.specs.Lines.{lines_of, source_lines, size_of, without_return, code_of, is_blank_line, has_forbidden_byte}
use Rattle.unit_tree.specs.Printable.{IsPrintable, IsInRange, names_on, is_writable}
use Rattle.unit_tree.specs.Tokens.{is_blank, IsName, Spells}
use Rattle.unit_tree.specs.declared.line_form.LineForm.{LineForm}
use Rattle.unit_tree.specs.declared.line_form.LineForm.TheVariants as form
use Rattle.unit_tree.specs.declared.system.System.{System}
use Rattle.unit_tree.specs.declared.token.Token.{Token}
use Rattle.text_tokens.proofs.TokenLemmas.{spells_one}
use Rattle.text_laws.proofs.TokensApart.{starts_with}
use Rattle.text_laws.proofs.SpelledBytes.{is_spelled_byte, spelled_bytes, none_forbidden, spelled_is_code, spelled_no_return, spelled_no_end}
use Rattle.text_laws.proofs.TokenTexts.{line_is_spelled}

-- ---- Each line

-- Every line has a first token.
has_tokens : (some : LineForm) → starts_with (λ first. true) (form_tokens some) ≡ true
has_tokens (form.Header version) = refl
has_tokens (form.Unit name) = refl
has_tokens (form.Resolution decimals) = refl
has_tokens (form.Param param) = refl
has_tokens (form.State state) = refl
has_tokens (form.Local local) = refl
has_tokens (form.Input input) = refl
has_tokens (form.EventInput event) = refl
has_tokens (form.Output output) = refl
has_tokens (form.EventOutput event) = refl
has_tokens (form.Max value) = refl
has_tokens form.Step = refl
has_tokens form.End = refl
has_tokens (form.Assign target value) = refl
has_tokens (form.If condition) = refl
has_tokens form.Else = refl
has_tokens (form.Repeat count) = refl
has_tokens (form.Accept value) = refl
has_tokens (form.Instance name unit) = refl
has_tokens (form.Setting setting) = refl
has_tokens (form.Connect wire) = refl
has_tokens (form.Stop seconds) = refl
has_tokens (form.Longest seconds) = refl
has_tokens (form.Zero count) = refl
has_tokens (form.Rows count) = refl
has_tokens (form.Sample port) = refl

-- A line that spells tokens is not blank.
pub not_blank : (tokens : List Token) (line : List ℕ) (blank : Bool) → list_all is_blank line ≡ blank → starts_with (λ first. true) tokens ≡ true
    → Spells tokens line → blank ≡ false
not_blank tokens line false is some spelled = refl
not_blank tokens line true is some spelled =
    let none : tokens ≡ [] = spells_one tokens [] line spelled is in
    let never : false ≡ true = ap (starts_with (λ first. true)) (sym none) ∙ some in
    absurd (cc)

-- What is known of a line that its canonical text spells: it is all code, has no forbidden byte and no CR,
-- and is not blank.
pub record IsSpelled (some : LineForm) : Type 0 where
  pub spelled : Spells (form_tokens some) (line_text some)
  pub bytes : list_all is_spelled_byte (line_text some) ≡ true
  pub code : code_of (line_text some) ≡ line_text some
  pub spelled_code : Spells (form_tokens some) (code_of (line_text some))
  pub none_forbidden : has_forbidden_byte (line_text some) ≡ false
  pub no_return : without_return (line_text some) ≡ line_text some
  pub not_blank : is_blank_line (line_text some) ≡ false

-- All of this holds where the text spells the tokens.
pub is_spelled : (some : LineForm) → Spells (form_tokens some) (line_text some) → IsSpelled some
is_spelled some spelled =
    let bytes = spelled_bytes (form_tokens some) (line_text some) spelled in
    let code = spelled_is_code (line_text some) bytes in
    let of_code : Spells (form_tokens some) (code_of (line_text some)) = rw code spelled in
    record {
      spelled = spelled;
      bytes = bytes;
      code = code;
      spelled_code = of_code;
      none_forbidden = none_forbidden (form_tokens some) (line_text some) of_code;
      no_return = spelled_no_return (line_text some) bytes;
      not_blank = not_blank (form_tokens some) (code_of (line_text some)) (is_blank_line (line_text some)) refl (has_tokens some) of_code;
    }

-- ---- All lines

-- All lines are spelled where their names are names and their numbers are in range.
all_are_spelled : (lines : List LineForm) → AllByRecursion (λ line. AllByRecursion IsName (names_on line)) lines → AllByRecursion IsInRange lines
    → IsTrue (list_all (λ line. is_writable (tail_of line)) lines) → AllByRecursion IsSpelled lines
all_are_spelled [] names ranged writable = _
all_are_spelled (first ∷ others) names ranged writable =
    let parts = and_parts (is_writable (tail_of first)) (list_all (λ line. is_writable (tail_of line)) others) writable in
    (is_spelled first (line_is_spelled first names.0 ranged.0 parts.0), all_are_spelled others names.1 ranged.1 parts.1)

-- Each canonical line of a printable system is spelled by its text.
pub canonical_spelled : (system : System) → IsPrintable system → AllByRecursion IsSpelled (canonical_forms system)
canonical_spelled system printable = all_are_spelled (canonical_forms system) printable.names printable.ranged.numbers printable.tails

-- ---- The text

-- Lines, each ended by LF.
abbrev ended : List LineForm → List ℕ
ended lines = flat_map (λ some. line_text some ++ (10 ∷ [])) lines

-- The first line goes up to the first LF.
first_line_is : (line rest : List ℕ) → list_all is_spelled_byte line ≡ true → lines_of (line ++ (10 ∷ rest)) ≡ line ∷ lines_of rest
first_line_is [] rest spelled = refl
first_line_is (byte ∷ line) rest spelled =
    let parts = and_parts (is_spelled_byte byte) (list_all is_spelled_byte line) spelled in
    rw (spelled_no_end byte parts.0) (ap (onto_first byte) (first_line_is line rest parts.1))

-- The lines of such a text are the texts that were joined.
lines_are : (lines : List LineForm) → AllByRecursion IsSpelled lines → lines_of (ended lines) ≡ map line_text lines
lines_are [] spelled = refl
lines_are (first ∷ others) spelled =
    ap lines_of (append_assoc (line_text first) (10 ∷ []) (ended others))
    ∙ first_line_is (line_text first) (ended others) spelled.0.bytes
    ∙ ap (λ lines. line_text first ∷ lines) (lines_are others spelled.1)

-- None of them loses a CR.
no_returns : (lines : List LineForm) → AllByRecursion IsSpelled lines → map without_return (map line_text lines) ≡ map line_text lines
no_returns [] spelled = refl
no_returns (first ∷ others) spelled = rw (spelled.0.no_return, no_returns others spelled.1) refl

-- None of them is blank.
none_left_out : (lines : List LineForm) → AllByRecursion IsSpelled lines → filter (λ line. not (is_blank_line line)) (map line_text lines) ≡ map line_text lines
none_left_out [] spelled = refl
none_left_out (first ∷ others) spelled = rw (spelled.0.not_blank) (ap (λ lines. line_text first ∷ lines) (none_left_out others spelled.1))

-- Their size is the length of the text.
size_is : (lines : List LineForm) → sum_by (λ line. length line + 1) (map line_text lines) ≡ length (ended lines)
size_is [] = refl
size_is (first ∷ others) =
    let step = size_is others in
    omega (
      arith,
      step,
      sum_by-cons (λ (line : List ℕ). length line + 1) (line_text first) (map line_text others),
      length-append (line_text first ++ (10 ∷ [])) (ended others),
      length-append (line_text first) (10 ∷ []),
    )

-- The code of each spells its tokens.
spelled_codes : (lines : List LineForm) → AllByRecursion IsSpelled lines → AllByRecursion (λ some. Spells (form_tokens some) (code_of (line_text some))) lines
spelled_codes [] spelled = _
spelled_codes (first ∷ others) spelled = (spelled.0.spelled_code, spelled_codes others spelled.1)

-- ---- Printable systems

-- The source lines of the canonical text are the texts of the canonical lines.
pub canonical_lines : (system : System) → IsPrintable system → source_lines (canonical_text system) ≡ map line_text (canonical_forms system)
canonical_lines system printable =
    let spelled = canonical_spelled system printable in
    ap (map without_return) (lines_are (canonical_forms system) spelled) ∙ no_returns (canonical_forms system) spelled

-- None of them is blank.
pub none_blank : (system : System) → IsPrintable system
    → filter (λ line. not (is_blank_line line)) (map line_text (canonical_forms system)) ≡ map line_text (canonical_forms system)
none_blank system printable = none_left_out (canonical_forms system) (canonical_spelled system printable)

-- The code of each spells its tokens.
pub canonical_codes : (system : System) → IsPrintable system
    → AllByRecursion (λ some. Spells (form_tokens some) (code_of (line_text some))) (canonical_forms system)
canonical_codes system printable = spelled_codes (canonical_forms system) (canonical_spelled system printable)

-- Each line of the canonical text has its end, so that its size is its length.
pub canonical_size : (system : System) → IsPrintable system → size_of (canonical_text system) ≡ length (canonical_text system)
canonical_size system printable =
    ap (sum_by (λ line. length line + 1)) (lines_are (canonical_forms system) (canonical_spelled system printable)) ∙ size_is (canonical_forms system)
