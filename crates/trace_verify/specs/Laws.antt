-- Laws of verdicts, and of the parts of an input.
use Rattle.std.specs.Prelude.{◌≡◌, ◌⊎◌, ℕ, List}
use Rattle.trace_verify.specs.Parting.{IsParted, LacksTrace}
use Rattle.trace_verify.specs.Verdicts.{IsRight, verdict_of}
use Rattle.stimulus_tables.specs.Records.{Fields}

-- The verdict on any records is right.
abbrev pub VerdictsAreRight : Type 0
VerdictsAreRight = (wanted given : List Fields) → IsRight wanted given (verdict_of wanted given)

-- An input has exactly one text and one table, or no line `trace`.
pub record IsPartedOnce (input : List ℕ) : Type 0 where
  pub some : ((model : List ℕ) × (table : List ℕ) × IsParted input model table) ⊎ LacksTrace input
  pub only : (model other table also : List ℕ) → IsParted input model table → IsParted input other also → (model ≡ other) × (table ≡ also)
  pub not_both : (model table : List ℕ) → IsParted input model table → LacksTrace input → ⊥

abbrev pub TextsArePartedOnce : Type 0
TextsArePartedOnce = (input : List ℕ) → IsPartedOnce input
