-- The outputs of a node's instances: owners and needs don't depend on states.
use Rattle.link_laws.specs.Making.{held, held_outlets}
use Rattle.std.proofs.Common.{ap, ap₂, arith, refl, sym, ◌+◌, ◌∙◌}
use Rattle.std.proofs.lemmas.List.{map-append}
use Rattle.std.specs.List.{enumerate_from, flat_map}
use Rattle.std.specs.Prelude.{List, [], length, map, zip, ℕ, ℤ, ◌++◌, ◌∷◌, ◌≡◌}
use Rattle.unit_tree.specs.Compositions.{Composition, Member}
use Rattle.unit_tree.specs.Ports.{Outlet, Standing, outlets, outlets_of}
use Rattle.unit_tree.specs.declared.unit.Output.{Output}

abbrev pub owner_in : ℕ × Outlet → ℕ
owner_in one = one.0

abbrev pub outlet_in : ℕ × Outlet → Outlet
outlet_in one = one.1

outlets_owned : (owner : ℕ) (outs : List Outlet) → map outlet_in (map (λ outlet. (owner, outlet)) outs) ≡ outs
outlets_owned owner [] = refl
outlets_owned owner (outlet ∷ outs) = ap (λ rest. outlet ∷ rest) (outlets_owned owner outs)

outlets_held : (from : ℕ) (owners : List ℕ) (members : List Member) (states : List (List ℤ)) → length owners ≡ length members
    → length states ≡ length members
    → map outlet_in (flat_map held_outlets (zip owners (enumerate_from from (zip members states)))) ≡ flat_map outlets_of (enumerate_from from (zip members states))
outlets_held from [] [] states owns long = refl
outlets_held from (owner ∷ owners) [] states owns long = absurd (omega arith)
outlets_held from [] (member ∷ members) states owns long = absurd (omega arith)
outlets_held from (owner ∷ owners) (member ∷ members) [] owns long = absurd (omega arith)
outlets_held from (owner ∷ owners) (member ∷ members) (state ∷ states) owns long =
    map-append outlet_in (held_outlets (owner, (from, (member, state)))) (flat_map held_outlets (zip owners (enumerate_from (from + 1) (zip members states))))
    ∙ ap₂ (λ front rest. front ++ rest) (outlets_owned owner (outlets_of (from, (member, state))))
    (outlets_held (from + 1) owners members states (omega arith) (omega arith))

pub held_are_outlets : (run : Composition) (owners : List ℕ) (states : List (List ℤ)) → length owners ≡ length run.members → length states ≡ length run.members
    → map outlet_in (held run owners states) ≡ outlets run states
held_are_outlets run owners states owns long = outlets_held 0 owners run.members states owns long

owners_counted : (owner : ℕ) (f g : ℕ × Output → Outlet) (counted : List (ℕ × Output))
    → map owner_in (map (λ outlet. (owner, outlet)) (map f counted)) ≡ map owner_in (map (λ outlet. (owner, outlet)) (map g counted))
owners_counted owner f g [] = refl
owners_counted owner f g (one ∷ counted) = ap (λ rest. owner ∷ rest) (owners_counted owner f g counted)

owners_same : (owner from : ℕ) (one other : Standing) (outputs : List Output)
    → map owner_in (map (λ outlet. (owner, outlet)) (map (λ counted. record { standing = one; instance = from; output = counted.1; number = counted.0 })
    (enumerate_from 0 outputs)))
    ≡ map owner_in (map (λ outlet. (owner, outlet)) (map (λ counted. record { standing = other; instance = from; output = counted.1; number = counted.0 })
    (enumerate_from 0 outputs)))
owners_same owner from one other outputs =
    owners_counted owner (λ counted. record { standing = one; instance = from; output = counted.1; number = counted.0 })
    (λ counted. record { standing = other; instance = from; output = counted.1; number = counted.0 }) (enumerate_from 0 outputs)

owners_held : (from : ℕ) (owners : List ℕ) (members : List Member) (states others : List (List ℤ)) → length owners ≡ length members
    → length states ≡ length members → length others ≡ length members
    → map owner_in (flat_map held_outlets (zip owners (enumerate_from from (zip members states))))
    ≡ map owner_in (flat_map held_outlets (zip owners (enumerate_from from (zip members others))))
owners_held from [] [] states others owns long as_long = refl
owners_held from (owner ∷ owners) [] states others owns long as_long = absurd (omega arith)
owners_held from [] (member ∷ members) states others owns long as_long = absurd (omega arith)
owners_held from (owner ∷ owners) (member ∷ members) [] others owns long as_long = absurd (omega arith)
owners_held from (owner ∷ owners) (member ∷ members) (state ∷ states) [] owns long as_long = absurd (omega arith)
owners_held from (owner ∷ owners) (member ∷ members) (state ∷ states) (other ∷ others) owns long as_long =
    map-append owner_in (held_outlets (owner, (from, (member, state)))) (flat_map held_outlets (zip owners (enumerate_from (from + 1) (zip members states))))
    ∙ ap₂ (λ front rest. front ++ rest) (owners_same owner from (member, state) (member, other) member.component.unit.outputs)
    (owners_held (from + 1) owners members states others (omega arith) (omega arith) (omega arith))
    ∙ sym (map-append owner_in (held_outlets (owner, (from, (member, other))))
    (flat_map held_outlets (zip owners (enumerate_from (from + 1) (zip members others)))))

-- Each output has the owner of its instance, whatever the states are.
pub owners_are : (run : Composition) (owners : List ℕ) (states others : List (List ℤ)) → length owners ≡ length run.members
    → length states ≡ length run.members → length others ≡ length run.members
    → map owner_in (held run owners states) ≡ map owner_in (held run owners others)
owners_are run owners states others owns long as_long = owners_held 0 owners run.members states others owns long as_long
