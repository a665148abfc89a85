-- Laws of reading: each text has one system or is refused, and lines nest as parts.
use Rattle.std.specs.Prelude.{◌≡◌, ◌⊎◌, ◌↔◌, ℕ, List, [], ◌∷◌, IsTrue}
use Rattle.unit_tree.specs.Blocks.{no_lines, open_blocks, are_placed}
use Rattle.unit_tree.specs.Lines.{source_lines}
use Rattle.unit_tree.specs.Parts.{Part, text_forms}
use Rattle.unit_tree.specs.Texts.{HaveForms, Reads, IsRefused}
use Rattle.unit_tree.specs.declared.line_form.LineForm.{LineForm}
use Rattle.unit_tree.specs.declared.line_form.LineForm.TheVariants as form
use Rattle.unit_tree.specs.declared.system.System.{System}

-- A text is written with at most one version and one list of parts, and so has at most one system.
abbrev pub HasOneReading : List ℕ → Type 0
HasOneReading text =
    (version by : ℕ) (one other : List Part) → HaveForms (source_lines text) (text_forms version one) (source_lines text)
    → HaveForms (source_lines text) (text_forms by other) (source_lines text) → (version ≡ by) × (one ≡ other)

abbrev pub SaysOneSystem : List ℕ → Type 0
SaysOneSystem text = (one other : System) → Reads text one → Reads text other → one ≡ other

-- The text has a system, or it is refused.
abbrev pub IsAnswered : List ℕ → Type 0
IsAnswered text = ((system : System) × Reads text system) ⊎ ((line : ℕ) × (rule : ℕ) × IsRefused text line rule)

-- Each text has one system, or is refused at one line by one rule, and not both.
pub record IsAnsweredOnce (text : List ℕ) : Type 0 where
  pub answered : IsAnswered text
  pub one_reading : HasOneReading text
  pub one_system : SaysOneSystem text
  pub not_both : (system : System) (line rule : ℕ) → Reads text system → IsRefused text line rule → ⊥
  pub one_refusal : (line by other rule : ℕ) → IsRefused text line by → IsRefused text other rule → (line ≡ other) × (by ≡ rule)

abbrev pub EveryTextIsAnsweredOnce : Type 0
EveryTextIsAnsweredOnce = (text : List ℕ) → IsAnsweredOnce text

-- Lines nest exactly where they are those of parts: the header and lines that are allowed after it, with no
-- block open at the end, are the lines of some parts.
abbrev pub NestingIsByParts : Type 0
NestingIsByParts =
    (version : ℕ) (forms : List LineForm) → IsTrue (are_placed no_lines (form.Header version ∷ forms))
    → (open_blocks (form.Header version ∷ forms) ≡ []) ↔ ((parts : List Part) × (form.Header version ∷ forms ≡ text_forms version parts))
