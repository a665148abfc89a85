-- Laws of nested texts.
use Rattle.std.specs.Prelude.{◌≡◌, ◌⊎◌, ℕ, List}
use Rattle.nest_text.specs.Nests.{IsNestOf, RefusesNest}
use Rattle.nest_text.specs.declared.nest.Nest.{Nest}

-- A nested text has one nest, or is refused at one line by one rule, and not both.
pub record IsNestedOnce (text : List ℕ) : Type 0 where
  pub answered : ((nest : Nest) × IsNestOf text nest) ⊎ ((line : ℕ) × (rule : ℕ) × RefusesNest text line rule)
  pub one_nest : (one other : Nest) → IsNestOf text one → IsNestOf text other → one ≡ other
  pub one_refusal : (line rule other by : ℕ) → RefusesNest text line rule → RefusesNest text other by → (line ≡ other) × (rule ≡ by)
  pub not_both : (nest : Nest) (line rule : ℕ) → IsNestOf text nest → RefusesNest text line rule → ⊥

abbrev pub NestsAreReadOnce : Type 0
NestsAreReadOnce = (text : List ℕ) → IsNestedOnce text
