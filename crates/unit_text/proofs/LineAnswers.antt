-- The result for a line that has no form, and for a line that gets a mark.
use Rattle.std.proofs.Common.{ℕ, List, Err, inl, inr, refl}
use Rattle.unit_tree.specs.declared.line_form.LineForm.{LineForm}
use Rattle.text_tokens.specs.Scanning.{ReadsAs}
use Rattle.text_tokens.specs.declared.fault.Unread.{Unread}
use Rattle.text_tokens.specs.declared.fault.Unread.TheVariants as unread
use Rattle.unit_text.specs.Reading.{IsWritten, FormIn, LineGives, fault_at, AnswersAt}
use Rattle.unit_text.specs.declared.draft.Draft.{Draft}

pub formless_answer : (draft : Draft) (line : List ℕ) (number : ℕ) (why : Unread) → IsWritten line
    → ReadsAs {X = LineForm} (Err why) (FormIn draft.system.version line) → AnswersAt number (LineGives draft line) (Err (fault_at why number 4))
formless_answer draft line number unread.NoForm is none = (refl, inr (inl (refl, is, none)))
formless_answer draft line number unread.NoMemory is none = tt
