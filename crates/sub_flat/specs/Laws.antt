-- Laws of nests.
use Rattle.std.specs.Prelude.{◌≡◌, ◌⊎◌, ℕ}
use Rattle.nest_text.specs.declared.nest.Nest.{Nest}
use Rattle.sub_flat.specs.NestRules.{BreaksNest, IsRefusedNest}

-- A nest breaks no rule, or is refused at one line by one rule, and not both.
pub record IsJudgedOnce (nest : Nest) : Type 0 where
  pub judged : ((line rule : ℕ) → BreaksNest nest line rule → ⊥) ⊎ ((line : ℕ) × (rule : ℕ) × IsRefusedNest nest line rule)
  pub one_refusal : (line rule other by : ℕ) → IsRefusedNest nest line rule → IsRefusedNest nest other by → (line ≡ other) × (rule ≡ by)
  pub not_both : (line rule : ℕ) → ((other by : ℕ) → BreaksNest nest other by → ⊥) → IsRefusedNest nest line rule → ⊥

abbrev pub NestsAreJudgedOnce : Type 0
NestsAreJudgedOnce = (nest : Nest) → IsJudgedOnce nest
