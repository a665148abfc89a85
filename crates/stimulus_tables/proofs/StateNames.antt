-- The names of states differ.
use Rattle.std.proofs.Common.{◌≡◌, ℕ, ◌<◌, false, drop, ap, arith}
use Rattle.std.specs.Str.{bytes_eq}
use Rattle.std.proofs.lemmas.Fmt.{decimal_injective}
use Rattle.list_laws.proofs.Truths.{never_true}
use Rattle.language_laws.proofs.NameLaws.{same_bytes}
use Rattle.stimulus_tables.specs.Tables.{state_name}

one_name : (one other : ℕ) → one < 64 → other < 64 → state_name one ≡ state_name other → one ≡ other
one_name one other small few same = decimal_injective one other (omega arith) (omega arith) (ap (drop 1) same)

pub other_state : (one other : ℕ) → one < 64 → other < 64 → (one ≡ other → ⊥) → bytes_eq (state_name one) (state_name other) ≡ false
other_state one other small few apart =
    never_true (bytes_eq (state_name one) (state_name other)) (λ told. apart (one_name one other small few (same_bytes (state_name one) (state_name other) told)))
