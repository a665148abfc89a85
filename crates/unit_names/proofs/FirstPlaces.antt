-- The element at the first place of a name is the first one that has it.
use Rattle.std.proofs.Common.{◌≡◌, ℕ, ◌+◌, Bool, true, false, List, [], ◌∷◌, map, Option, Some, None, bytes_eq, refl, ap, ◌∙◌, add-one}
use mathlib.Core.Bool.{cond}
use Rattle.std.specs.Prelude.{slice_get}
use Rattle.std.specs.List.{find, position_from}
use Rattle.std.specs.Option.{option_map, option_and_then}
use Rattle.std.specs.Cmp.Lexicographic.{nat_list_eq_equiv}
use Rattle.unit_tree.specs.Names.{unit_named, instance_named}
use Rattle.unit_tree.specs.declared.system.System.{System}
use Rattle.unit_tree.specs.declared.unit.Unit.{Unit}
use Rattle.unit_names.specs.Found.{first_place}
use Rattle.unit_names.specs.Systems.{unit_names, instance_names}

-- Where a list begins one place later, so does the place that is found.
pub later : (test : List ℕ → Bool) (place : ℕ) (names : List (List ℕ))
    → position_from test (place + 1) names ≡ option_map (λ found. found + 1) (position_from test place names)
later test place [] = refl
later test place (name ∷ names) = step (test name) (later test (place + 1) names)
  where
    step : (same : Bool) → position_from test ((place + 1) + 1) names ≡ option_map (λ found. found + 1) (position_from test (place + 1) names)
        → cond same (Some (place + 1)) (position_from test ((place + 1) + 1) names)
        ≡ option_map (λ found. found + 1) (cond same (Some place) (position_from test (place + 1) names))
    step true rest = refl
    step false rest = rest

behind : {D : Type 0} (first : D) (others : List D) (found : Option ℕ)
    → option_and_then (slice_get (first ∷ others)) (option_map (λ place. place + 1) found) ≡ option_and_then (slice_get others) found
behind first others None = refl
behind first others (Some place) = rw add-one refl

pub at_first : {D : Type 0} (name : D → List ℕ) (all : List D) (q : List ℕ)
    → option_and_then (slice_get all) (first_place (map name all) q) ≡ find (λ one. bytes_eq (name one) q) all
at_first name [] q = refl
at_first name (first ∷ others) q =
    step (bytes_eq q (name first)) (bytes_eq (name first) q) (nat_list_eq_equiv.symm q (name first))
    (ap (option_and_then (slice_get (first ∷ others))) (later (bytes_eq q) 0 (map name others)) ∙ behind first others (first_place (map name others) q)
    ∙ at_first name others q)
  where
    step : (asked stored : Bool) → asked ≡ stored
        → option_and_then (slice_get (first ∷ others)) (position_from (bytes_eq q) 1 (map name others)) ≡ find (λ one. bytes_eq (name one) q) others
        → option_and_then (slice_get (first ∷ others)) (cond asked (Some 0) (position_from (bytes_eq q) 1 (map name others)))
        ≡ cond stored (Some first) (find (λ one. bytes_eq (name one) q) others)
    step true true same rest = refl
    step false false same rest = rest
    step true false same rest = absurd (cc)
    step false true same rest = absurd (cc)

unit_is_found : (units : List Unit) (q : List ℕ) → find (λ unit. bytes_eq unit.name q) units ≡ unit_named units q
unit_is_found [] q = refl
unit_is_found (first ∷ others) q = step (bytes_eq first.name q) (unit_is_found others q)
  where
    step : (same : Bool) → find (λ unit. bytes_eq unit.name q) others ≡ unit_named others q
        → cond same (Some first) (find (λ unit. bytes_eq unit.name q) others) ≡ cond same (Some first) (unit_named others q)
    step true rest = refl
    step false rest = rest

pub unit_at_place : (system : System) (q : List ℕ) → option_and_then (slice_get system.units) (first_place (unit_names system) q) ≡ unit_named system.units q
unit_at_place system q = at_first (λ unit. unit.name) system.units q ∙ unit_is_found system.units q

pub instance_at_place : (system : System) (q : List ℕ)
    → option_and_then (slice_get system.instances) (first_place (instance_names system) q) ≡ instance_named system q
instance_at_place system q = at_first (λ instance. instance.name) system.instances q
