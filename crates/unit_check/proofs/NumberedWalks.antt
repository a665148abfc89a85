-- A walk over units or ports by their numbers.
use Rattle.std.proofs.Common.{◌≡◌, ℕ, zero, suc, ◌+◌, List, [], ◌∷◌, drop, Result, Ok, refl, ap, sym, ◌∙◌, add-one}
use Rattle.std.specs.List.{slice_get}
use Rattle.unit_check.specs.Walks.{Test, onward, units_walk, numbered_walk}
use Rattle.unit_check.specs.declared.walk.Stop.{Stop}
use Rattle.unit_tree.specs.declared.unit.Unit.{Unit}

pub unit_on : (test : Test) (start place number : ℕ) (units : List Unit)
    → units_walk test start (drop place units) number
    ≡ onward (numbered_walk test start (slice_get units place) number) (units_walk test (suc start) (drop (suc place) units))
unit_on test start zero number [] = refl
unit_on test start (suc place) number [] = refl
unit_on test start zero number (unit ∷ units) = refl
unit_on test start (suc place) number (unit ∷ units) = unit_on test start place number units

-- Over the unit at a place.
pub passed : (test : Test) (place number behind : ℕ) (units : List Unit) (met : Result ℕ Stop) → met ≡ numbered_walk test place (slice_get units place) number
    → met ≡ Ok behind → units_walk test place (drop place units) number ≡ units_walk test (place + 1) (drop (place + 1) units) behind
passed test place number behind units met is was =
    unit_on test place place number units
    ∙ ap (λ r. onward r (units_walk test (suc place) (drop (suc place) units))) (sym is ∙ was)
    ∙ ap (λ n. units_walk test n (drop n units) behind) (sym (add-one place))
