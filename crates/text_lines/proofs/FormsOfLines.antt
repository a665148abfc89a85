-- The form of a line, from the tokens that its code spells.
use Rattle.std.proofs.Common.{◌≡◌, ℕ, List, Option, Some, None, Result, Ok, Err, refl, ap, sym, subst, ◌∙◌, ◌⊎◌, inl, inr}
use Rattle.unit_tree.specs.LineForms.{WritesForm, HasForm}
use Rattle.unit_tree.specs.Lines.{code_of}
use Rattle.unit_tree.specs.Tokens.{Spells}
use Rattle.unit_tree.specs.declared.line_form.LineForm.{LineForm}
use Rattle.unit_tree.specs.declared.token.Token.{Token}
use Rattle.text_tokens.specs.Scanning.{ReadsAs, TokensAre}
use Rattle.text_tokens.specs.declared.fault.Unread.{Unread}
use Rattle.text_tokens.specs.declared.fault.Unread.TheVariants as unread
use Rattle.text_tokens.proofs.TokenLemmas.{spells_one, tokens_decided}
use Rattle.text_lines.specs.Laws.{HasOneForm}
use Rattle.text_lines.specs.LineReading.{FormIs, LineHas, read_form}
use Rattle.text_lines.proofs.ReadLines.{form_written, form_said}

-- The form that the tokens of a line's code write is the form of the line.
pub line_said : (line : List ℕ) (tokens : List Token) (found : Option LineForm) → Spells tokens (code_of line) → FormIs tokens found → LineHas line found
line_said line tokens (Some some) spelled is = record { tokens = tokens; spelled = spelled; written = is }
line_said line tokens None spelled is = λ some has.
    is some (subst (WritesForm some) (spells_one has.tokens tokens (code_of line) has.spelled spelled) has.written)

-- A line whose code spells no tokens has no form.
pub line_unspelled : (line : List ℕ) → ((tokens : List Token) → Spells tokens (code_of line) → ⊥) → (some : LineForm) → HasForm some line → ⊥
line_unspelled line unspelled some has = unspelled has.tokens has.spelled

-- The result for the tokens of a line's code is one for the line.
pub line_reads : (line : List ℕ) (tokens : List Token) (result : Result LineForm Unread) → Spells tokens (code_of line) → ReadsAs result (FormIs tokens)
    → ReadsAs result (LineHas line)
line_reads line tokens (Ok some) spelled is = line_said line tokens (Some some) spelled is
line_reads line tokens (Err unread.NoForm) spelled is = line_said line tokens None spelled is
line_reads line tokens (Err unread.NoMemory) spelled is = tt

-- A line has at most one form.
pub one_form : HasOneForm
one_form line one other first second =
    let read : read_form second.tokens ≡ Some one = ap read_form (spells_one second.tokens first.tokens (code_of line) second.spelled first.spelled)
    ∙ form_written one first.tokens first.written in
    let same : ◌≡◌ {A = Option LineForm} (Some one) (Some other) = sym read ∙ form_written other second.tokens second.written in
    cc

-- It is decided whether a line has a form.
has_or_not : (line : List ℕ) (found : Option LineForm) → LineHas line found
    → ((some : LineForm) × HasForm some line) ⊎ (((some : LineForm) × HasForm some line) → ⊥)
has_or_not line (Some some) has = inl (some, has)
has_or_not line None has = inr (λ held. has held.0 held.1)

decided_by : (line : List ℕ) (found : Option (List Token)) → TokensAre (code_of line) found
    → ((some : LineForm) × HasForm some line) ⊎ (((some : LineForm) × HasForm some line) → ⊥)
decided_by line None are = has_or_not line None (line_unspelled line are)
decided_by line (Some tokens) are = has_or_not line (read_form tokens) (line_said line tokens (read_form tokens) are (form_said tokens (read_form tokens) refl))

pub form_of : (line : List ℕ) → ((some : LineForm) × HasForm some line) ⊎ (((some : LineForm) × HasForm some line) → ⊥)
form_of line = let tokens = tokens_decided (code_of line) in decided_by line tokens.0 tokens.1
