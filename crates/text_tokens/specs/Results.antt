-- What an optional result says of a property, and what a test says of a statement.
use Rattle.std.specs.Prelude.{Bool, true, false, Option}
use Rattle.std.specs.Option.{MatchOption}

-- A result has the property; there is none only where nothing has it.
abbrev pub Tells : {A : Type 0} → Option A → (A → Type 0) → Type 0
Tells {A} told Is = MatchOption told ((a : A) → Is a → ⊥) Is

-- A test is true exactly where the statement holds.
abbrev pub Decides : Bool → Type 0 → Type 0
Decides true Is = Is
Decides false Is = Is → ⊥
