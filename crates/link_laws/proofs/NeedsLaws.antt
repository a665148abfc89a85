-- An output whose needs are known has a fact, which they determine.
use Rattle.link_laws.specs.Boards.{entry, seen_of}
use Rattle.link_laws.specs.Making.{determined, is_undefined, port_in, ports_in}
use Rattle.link_laws.specs.Progress.{are_needs_known}
use Rattle.link_laws.specs.declared.fact.Seen.{Seen}
use Rattle.link_laws.specs.declared.fact.Seen.TheVariants.{Fault as Faulted, Is, Undefined}
use Rattle.run_laws.proofs.AssignmentLaws.{Defined, all_seen, needs_of}
use Rattle.std.proofs.Common.{ap, refl, ◌∙◌}
use Rattle.std.proofs.lemmas.Bool.{and_parts}
use Rattle.std.proofs.lemmas.Option.{slice_get-map}
use Rattle.list_laws.proofs.Truths.{either_false}
use Rattle.std.specs.List.{AllByRecursion, list_all, list_any}
use Rattle.std.specs.Option.{option_and_then, option_map}
use Rattle.std.specs.Prelude.{Bool, List, None, Option, Some, [], false, if◌then◌else◌, is_some, slice_get, true, zip, ℕ, ℤ, ◌||◌, ◌∷◌, ◌≡◌}
use Rattle.unit_tree.specs.Components.{get_of}
use Rattle.unit_tree.specs.Ports.{Outlet, given_at}

module _ (words : List (Option Seen)) where
  word_by : (found : Option (Option Seen)) → is_some (option_and_then (λ one. one) found) ≡ true
      → is_undefined (option_and_then (λ one. one) found) ≡ false → (word : ℤ) × (option_map port_in found ≡ Some (Some word))
  word_by None there none = absurd (cc)
  word_by (Some None) there none = absurd (cc)
  word_by (Some (Some (Is word))) there none = (word, refl)
  word_by (Some (Some Undefined)) there none = absurd (cc)
  word_by (Some (Some (Faulted fault))) there none = absurd (cc)

  defined_at : (place : ℕ) → is_some (entry words place) ≡ true → is_undefined (entry words place) ≡ false → Defined (ports_in words) place
  defined_at place there none =
      let found = word_by (slice_get words place) there none in
      (found.0, slice_get-map port_in words place ∙ found.1)

  defined_all : (needs : List ℕ) → list_all (λ place. is_some (entry words place)) needs ≡ true
      → list_any (λ place. is_undefined (entry words place)) needs ≡ false → AllByRecursion (Defined (ports_in words)) needs
  defined_all [] there none = tt
  defined_all (place ∷ needs) there none =
      let both = and_parts (is_some (entry words place)) (list_all (λ one. is_some (entry words one)) needs) there in
      let neither = either_false (is_undefined (entry words place)) (list_any (λ one. is_undefined (entry words one)) needs) none in
      (defined_at place both.0 neither.0, defined_all needs both.1 neither.1)

  only_first : (one other : Bool) → (one || other) ≡ true → other ≡ false → one ≡ true
  only_first true other is none = refl
  only_first false other is none = absurd (cc)

  pub needs_determine : (outlet : Outlet) → are_needs_known words (needs_of outlet) ≡ true → (seen : Seen) × (determined words outlet ≡ Some seen)
  needs_determine outlet known = by_test (list_any (λ place. is_undefined (entry words place)) (needs_of outlet)) refl
    where
      given_is : (given : List ℤ) → ((seen : Seen) × (option_map (λ one. seen_of (Some one))
          (option_map (λ inputs. get_of outlet.standing.0.component outlet.standing.1 inputs outlet.output) (Some given)) ≡ Some seen))
      given_is given = (seen_of (Some (get_of outlet.standing.0.component outlet.standing.1 given outlet.output)), refl)

      by_test : (undefined : Bool) → list_any (λ place. is_undefined (entry words place)) (needs_of outlet) ≡ undefined
          → (seen : Seen) × ((if undefined then Some Undefined else option_map (λ given. seen_of (Some given)) (given_at (ports_in words) outlet)) ≡ Some seen)
      by_test true there = (Undefined, refl)
      by_test false none =
          let all = only_first (list_all (λ place. is_some (entry words place)) (needs_of outlet))
          (list_any (λ place. is_undefined (entry words place)) (needs_of outlet)) known none in
          let inputs = all_seen (ports_in words) outlet.output (zip outlet.standing.0.component.unit.inputs outlet.standing.0.sources)
          (defined_all (needs_of outlet) all none) in
          let given = given_is inputs.0 in (
            given.0,
            ap (λ found. option_map (λ one. seen_of (Some one))
                (option_map (λ words. get_of outlet.standing.0.component outlet.standing.1 words outlet.output) found)) inputs.1 ∙ given.1,
          )
