-- Words that are computed and learnt.
use Rattle.std.proofs.Common.{◌≡◌, ◌∙◌, ℕ, zero, suc, ◌<◌, Bool, true, false, is_none, ℤ, pos, List, [], ◌∷◌, length, map, get_or, Option, Some, None, Ok, Err}
use Rattle.std.proofs.Common.{refl, sym, ap, subst, arith}
use Rattle.std.specs.Prelude.{if◌then◌else◌, slice_get, slice_set, IfSome}
use Rattle.std.specs.List.{list_any}
use Rattle.std.specs.Option.{option_map, option_and_then}
use Rattle.fixed_words.specs.Operations.{Outcome}
use Rattle.fixed_words.specs.Types.{is_word_of}
use Rattle.link_laws.specs.Boards.{entry, seen_of}
use Rattle.link_laws.specs.Making.{determined, is_undefined, no_states, port_in, ports_in}
use Rattle.link_core.specs.Noted.{IsWordSeen, is_defined, with_port}
use Rattle.link_laws.specs.declared.fact.Seen.{Seen}
use Rattle.link_laws.specs.declared.fact.Seen.TheVariants.{Is, Fault as Faulted, Undefined}
use Rattle.port_solve.specs.Solved.{HaveTheirWords, ports_told, given_there}
use Rattle.port_solve.specs.Sound.{IsWordOf}
use Rattle.port_solve.proofs.OutputPlaces.{outlet_of, type_is}
use Rattle.link_laws.proofs.RuleLaws.{no_states_long}
use Rattle.std.proofs.lemmas.Option.{slice_get_within, slice_get-get_or}
use Rattle.unit_tree.specs.Routes.{routes_of}
use Rattle.unit_tree.specs.declared.order.Route.{Route}
use Rattle.run_laws.proofs.SeenLaws.{get_fits}
use Rattle.unit_tree.specs.Components.{get_of}
use Rattle.unit_tree.specs.Compositions.{Composition}
use Rattle.unit_tree.specs.Ports.{Ports, Outlet, outlets, given_at, inputs_for, places_needed}

-- The words that are known, and 0 where there is none.
abbrev pub held_word : Option Seen → ℤ
held_word (Some (Is word)) = word
held_word _ = pos 0

pub told_is : (words : List (Option Seen)) → ports_told (map is_defined words) (map held_word words) ≡ ports_in words
told_is [] = refl
told_is (None ∷ words) = ap (λ rest. None ∷ rest) (told_is words)
told_is (Some (Is word) ∷ words) = ap (λ rest. Some word ∷ rest) (told_is words)
told_is (Some (Faulted fault) ∷ words) = ap (λ rest. None ∷ rest) (told_is words)
told_is (Some Undefined ∷ words) = ap (λ rest. None ∷ rest) (told_is words)

pub as_many : (words : List (Option Seen)) (known : List Bool) → known ≡ map is_defined words → length (map held_word words) ≡ length known
as_many words known is = count words ∙ ap length (sym is)
  where
    count : (words : List (Option Seen)) → length (map held_word words) ≡ length (map is_defined words)
    count [] = refl
    count (one ∷ words) = let rest = count words in omega (arith, rest)

-- ---- The outcome of an output

-- What a fact says of the outcome of an output.
abbrev pub seen_given : Option Outcome → Option Seen
seen_given given = option_map (λ one. seen_of (Some one)) given

module _ (words : List (Option Seen)) (outlet : Outlet) (needs : List ℕ) (are : needs ≡ places_needed outlet.standing.0 outlet.output) where
  abbrev test : Bool
  test = list_any (λ place. is_undefined (entry words place)) needs

  by_needs : determined words outlet ≡ (if test then Some Undefined else seen_given (given_at (ports_in words) outlet))
  by_needs = ap (λ places. if list_any (λ place. is_undefined (entry words place)) places then Some Undefined else seen_given
      (given_at (ports_in words) outlet)) (sym are)

  pub undefined_is : test ≡ true → Some Undefined ≡ determined words outlet
  undefined_is is = sym (by_needs ∙ ap (λ one. if one then Some Undefined else seen_given (given_at (ports_in words) outlet)) is)

  pub asked_is : (run : Composition) (states : List (List ℤ)) (place : ℕ) (given : Option Outcome) → slice_get (outlets run states) place ≡ Some outlet
      → test ≡ false
      → given ≡ given_there run states (ports_in words) place → seen_given given ≡ determined words outlet
  asked_is run states place given there is so =
      ap seen_given (so ∙ ap (option_and_then (given_at (ports_in words))) there)
      ∙ sym (by_needs ∙ ap (λ one. if one then Some Undefined else seen_given (given_at (ports_in words) outlet)) is)

-- ---- A word that is given is one of the type of its output

pub given_fits : (run : Composition) (states : List (List ℤ)) (place : ℕ) (outlet : Outlet) (ports : Ports) (word : ℤ) → length states ≡ length run.members
    → slice_get (outlets run states) place ≡ Some outlet → given_at ports outlet ≡ Some (Ok word) → IsWordOf run place word
given_fits run states place outlet ports word long there given =
    subst (λ found. IfSome found (λ ty. is_word_of ty word ≡ true)) (sym (type_is run states place outlet long there))
    (by_inputs (inputs_for ports outlet) given)
  where
    by_inputs : (found : Option (List ℤ)) → option_map (λ inputs. get_of outlet.standing.0.component outlet.standing.1 inputs outlet.output) found ≡ Some
        (Ok word) → is_word_of outlet.output.ty word ≡ true
    by_inputs None is = absurd (cc)
    by_inputs (Some inputs) is = get_fits outlet.standing.0.component outlet.standing.1 inputs outlet.output word (cc (is))

pub seen_fits : (run : Composition) (states : List (List ℤ)) (place : ℕ) (outlet : Outlet) (ports : Ports) (given : Option Outcome)
    → length states ≡ length run.members
    → slice_get (outlets run states) place ≡ Some outlet → given ≡ given_at ports outlet → IfSome (seen_given given) (IsWordSeen run place)
seen_fits run states place outlet ports None long there is = tt
seen_fits run states place outlet ports (Some (Err fault)) long there is = tt
seen_fits run states place outlet ports (Some (Ok word)) long there is = given_fits run states place outlet ports word long there (sym is)

-- ---- What is learnt

pub ports_set : (words : List (Option Seen)) (place : ℕ) (one : Option Seen)
    → ports_in (slice_set words place one) ≡ slice_set (ports_in words) place (port_in one)
ports_set [] place one = refl
ports_set (first ∷ words) zero one = refl
ports_set (first ∷ words) (suc place) one = ap (λ rest. port_in first ∷ rest) (ports_set words place one)

-- An output without a word leaves the ports as they are.
pub ports_same : (words : List (Option Seen)) (place : ℕ) (one : Option Seen) → is_none (entry words place) ≡ true → port_in one ≡ None
    → ports_in (slice_set words place one) ≡ ports_in words
ports_same [] place one none is = refl
ports_same (None ∷ words) zero one none is = ap (λ first. first ∷ ports_in words) is
ports_same (Some seen ∷ words) zero one none is = absurd (cc)
ports_same (first ∷ words) (suc place) one none is = ap (λ rest. port_in first ∷ rest) (ports_same words place one none is)

pub defined_set : (words : List (Option Seen)) (place : ℕ) (one : Option Seen)
    → map is_defined (slice_set words place one) ≡ slice_set (map is_defined words) place (is_defined one)
defined_set [] place one = refl
defined_set (first ∷ words) zero one = refl
defined_set (first ∷ words) (suc place) one = ap (λ rest. is_defined first ∷ rest) (defined_set words place one)

-- Inputs that were fed have the words that are then known.
pub ports_learnt : (run : Composition) (words : List (Option Seen)) (place : ℕ) (seen : Seen) (inputs : List (List ℤ)) → is_none (entry words place) ≡ true
    → HaveTheirWords run (with_port (ports_in words) place seen) inputs → HaveTheirWords run (ports_in (slice_set words place (Some seen))) inputs
ports_learnt run words place (Is word) inputs none have = subst (λ ports. HaveTheirWords run ports inputs) (sym (ports_set words place (Some (Is word)))) have
ports_learnt run words place (Faulted fault) inputs none have =
    subst (λ ports. HaveTheirWords run ports inputs) (sym (ports_same words place (Some (Faulted fault)) none refl)) have
ports_learnt run words place Undefined inputs none have =
    subst (λ ports. HaveTheirWords run ports inputs) (sym (ports_same words place (Some Undefined) none refl)) have

-- ---- The instance of a route

pub instance_within : (run : Composition) (place : ℕ) (route : Route) → slice_get (routes_of run).outputs place ≡ Some route
    → route.instance < length run.members
instance_within run place route is =
    let at = outlet_of run (no_states run) place route (no_states_long run.members) is in
    slice_get_within run.members route.instance at.outlet.standing.0 at.member

pub owner_is : (owners : List ℕ) (outputs routes : List Route) (place : ℕ) (route : Route) (d : ℕ) → slice_get outputs place ≡ Some route
    → route ≡ get_or routes place route → route.instance < length owners
    → IfSome (slice_get outputs place) (λ found. slice_get owners found.instance ≡ Some (get_or owners (get_or routes place route).instance d))
owner_is owners outputs routes place route d is read within =
    subst (λ found. IfSome found (λ (one : Route). slice_get owners one.instance ≡ Some (get_or owners (get_or routes place route).instance d))) (sym is)
    (slice_get-get_or owners route.instance d within ∙ ap (λ (one : Route). Some (get_or owners one.instance d)) read)
