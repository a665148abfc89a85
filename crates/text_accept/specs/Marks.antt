-- Names of ports in the plain form: an event port becomes two ports, and the name of the one that is true where an
-- event occurs ends in `?`.
use Rattle.std.specs.Prelude.{◌≡◌, ℕ, List}
use Rattle.unit_tree.specs.Plain.{presence_name}

-- A name without the final `?`: the event port's name for the name of a `?` port, and for every other name itself.
pub record IsWithoutMark (name without : List ℕ) : Type 0 where
  pub marked : (event : List ℕ) → name ≡ presence_name event → without ≡ event
  pub plain : ((event : List ℕ) → name ≡ presence_name event → ⊥) → without ≡ name
