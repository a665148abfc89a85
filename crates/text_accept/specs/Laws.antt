-- Each text is accepted as one system, or refused at one line by one rule.
use Rattle.std.specs.Prelude.{◌≡◌, ◌⊎◌, ℕ, List}
use Rattle.unit_tree.specs.declared.system.System.{System}
use Rattle.text_accept.specs.Accepting.{IsAcceptedAs, IsRefusedAt}

-- The text is accepted, or refused.
abbrev pub IsAcceptedOrRefused : List ℕ → Type 0
IsAcceptedOrRefused text =
    ((system : System) × (lines : List ℕ) × IsAcceptedAs text system lines) ⊎ ((line : ℕ) × (rule : ℕ) × IsRefusedAt text line rule)

-- There is only one way in which it is accepted or refused.
pub record IsJudgedOnce (text : List ℕ) : Type 0 where
  pub judged : IsAcceptedOrRefused text
  pub one_system : (one other : System) (ones others : List ℕ) → IsAcceptedAs text one ones → IsAcceptedAs text other others → (one ≡ other) × (ones ≡ others)
  pub one_refusal : (line by other rule : ℕ) → IsRefusedAt text line by → IsRefusedAt text other rule → (line ≡ other) × (by ≡ rule)
  pub not_both : (system : System) (lines : List ℕ) (line rule : ℕ) → IsAcceptedAs text system lines → IsRefusedAt text line rule → ⊥

abbrev pub EveryTextIsJudgedOnce : Type 0
EveryTextIsJudgedOnce = (text : List ℕ) → IsJudgedOnce text
