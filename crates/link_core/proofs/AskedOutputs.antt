-- The fact of an output that is computed from the known words.
use Rattle.std.proofs.Common.{◌≡◌, ◌∙◌, ℕ, Bool, true, false, ℤ, List, length, map, Option, Some, sym, ap, ap₂, subst}
use Rattle.std.proofs.lemmas.Option.{same_Some}
use Rattle.std.proofs.lemmas.Slice.Zip.{AllZip-long}
use Rattle.std.specs.Prelude.{slice_get, IfSome}
use Rattle.std.specs.List.{list_any}
use Rattle.std.specs.Option.{option_and_then}
use Rattle.fixed_words.specs.Operations.{Outcome}
use Rattle.link_laws.specs.Boards.{entry}
use Rattle.link_laws.specs.Making.{determined, is_undefined, ports_in}
use Rattle.link_core.specs.Noted.{IsWordSeen, is_defined}
use Rattle.link_laws.specs.declared.fact.Seen.{Seen}
use Rattle.link_laws.specs.declared.fact.Seen.TheVariants.{Undefined}
use Rattle.link_core.proofs.WordLaws.{as_many, asked_is, held_word, seen_fits, seen_given, told_is, undefined_is}
use Rattle.port_solve.specs.Solved.{HaveStates, HaveTheirWords, given_there, ports_told}
use Rattle.port_solve.proofs.OutputPlaces.{outlet_of}
use Rattle.unit_tree.specs.Compositions.{Composition}
use Rattle.unit_tree.specs.Ports.{Outlet, given_at, outlets, places_needed}
use Rattle.unit_tree.specs.Routes.{routes_of}
use Rattle.unit_tree.specs.declared.order.Route.{Route}

module _ (run : Composition) (states : List (List ℤ)) (have : HaveStates run states) (place : ℕ) (route : Route)
    (is_route : slice_get (routes_of run).outputs place ≡ Some route)
    (words found : List (Option Seen)) (found_is : found ≡ words) (needs : List ℕ) (needs_are : needs ≡ route.needs) (undefined : Bool)
    (undefined_so : undefined ≡ list_any (λ one. is_undefined (entry found one)) needs) where
  long : length states ≡ length run.members
  long = AllZip-long _ run.members states have

  abbrev test : Bool
  test = list_any (λ one. is_undefined (entry words one)) route.needs

  test_is : undefined ≡ test
  test_is = undefined_so ∙ ap₂ (λ all ones. list_any (λ one. is_undefined (entry all one)) ones) found_is needs_are

  needs_there : (outlet : Outlet) → slice_get (outlets run states) place ≡ Some outlet → route.needs ≡ places_needed outlet.standing.0 outlet.output
  needs_there outlet there =
      let at = outlet_of run states place route long is_route in
      let same : at.outlet ≡ outlet = same_Some at.outlet outlet (sym at.is ∙ there) in
      at.needs ∙ ap (λ (one : Outlet). places_needed one.standing.0 one.output) same

  pub undefined_there : undefined ≡ true → (outlet : Outlet) → slice_get (outlets run states) place ≡ Some outlet → Some Undefined ≡ determined words outlet
  undefined_there is outlet there = undefined_is words outlet route.needs (needs_there outlet there) (sym test_is ∙ is)

  module _ (inputs : List (List ℤ)) (checked_run : Composition) (same_run : run ≡ checked_run) (known defined : List Bool) (known_are : known ≡ defined)
      (defined_are : defined ≡ map is_defined words)
      (their : HaveTheirWords run (ports_in words) inputs) (given : Option Outcome) (told : Option Seen) (told_so : told ≡ seen_given given)
      (given_so : (held : List ℤ) → length held ≡ length known → HaveTheirWords checked_run (ports_told known held) inputs
      → given ≡ given_there checked_run states (ports_told known held) place) where
    ports_are : ports_told known (map held_word words) ≡ ports_in words
    ports_are = ap (λ all. ports_told all (map held_word words)) (known_are ∙ defined_are) ∙ told_is words

    given_is : given ≡ given_there run states (ports_in words) place
    given_is =
        given_so (map held_word words) (as_many words known (known_are ∙ defined_are))
        (subst (λ one. HaveTheirWords one (ports_told known (map held_word words)) inputs) same_run
        (subst (λ ports. HaveTheirWords run ports inputs) (sym ports_are) their))
        ∙ ap₂ (λ one ports. given_there one states ports place) (sym same_run) ports_are

    pub asked_there : undefined ≡ false → (outlet : Outlet) → slice_get (outlets run states) place ≡ Some outlet → told ≡ determined words outlet
    asked_there is outlet there = told_so ∙ asked_is words outlet route.needs (needs_there outlet there) run states place given there
        (sym test_is ∙ is) given_is

    pub word_fits : IfSome told (IsWordSeen run place)
    word_fits =
        let at = outlet_of run states place route long is_route in
        subst (λ one. IfSome one (IsWordSeen run place)) (sym told_so)
        (seen_fits run states place at.outlet (ports_in words) given long at.is (given_is ∙ ap (option_and_then (given_at (ports_in words))) at.is))
