-- The equations of ports depend only on the places that they need. Where no output has a fault of its own, all are
-- defined.
use Rattle.std.proofs.Common.{◌≡◌, ℕ, zero, suc, ◌+◌, ◌<◌, Bool, true, false, cond, ℤ, List, [], ◌∷◌, ◌++◌, map, length, Option, Some, None, Ok, Err, refl, ap}
use Rattle.std.proofs.Common.{sym, subst, ◌∙◌, arith}
use Rattle.std.proofs.lemmas.List.{length-map, map-append}
use Rattle.std.proofs.lemmas.Option.{slice_get-map, none-some}
use Rattle.std.specs.Prelude.{slice_get, zip, is_some, unwrap_or, ◌↔◌}
use Rattle.std.specs.List.{AllByRecursion, enumerate_from, flat_map, filter_map, list_all, cons_option}
use Rattle.std.specs.Option.{option_map, option_and_then}
use Rattle.std.specs.Result.{result_ok, result_err}
use Rattle.std.proofs.lemmas.Bool.{and_parts, false≢true}
use Rattle.fixed_words.specs.Operations.{Outcome}
use Rattle.unit_tree.specs.Components.{start_word, get_of}
use Rattle.unit_tree.specs.Compositions.{InputSource, Start, AtPlace, Member, Composition}
use Rattle.unit_tree.specs.Names.{is_among}
use Rattle.unit_tree.specs.Ports.{Ports, Standing, Outlet, IsOrderedAfter, IsPlaceOrder, IsAssignment, input_word, seen_by, in_front, all_there, given_at}
use Rattle.unit_tree.specs.Ports.{word_at, fault_at, port_fault, first_some, outlets, outlets_of, right_sides, place_in, place_needed, places_needed}
use Rattle.unit_tree.specs.Ports.{needs_of_places, needs_at}
use Rattle.list_laws.proofs.Lists.{each_more}
use Rattle.run_laws.specs.RunLaws.{HasOneAssignment}
use Rattle.unit_tree.specs.declared.ending.Ending.{Ending}
use Rattle.unit_tree.specs.declared.ending.Ending.TheVariants.{UnitFault}
use Rattle.unit_tree.specs.declared.ending.Place.TheVariants as place
use Rattle.unit_tree.specs.declared.unit.Input.{Input}
use Rattle.unit_tree.specs.declared.unit.Output.{Output}
use Rattle.run_laws.proofs.EquationLaws.{AreEquations, one_solution, has_solution, all_among, each_place}

-- ---- Outputs and their places

abbrev pub needs_of : Outlet → List ℕ
needs_of outlet = places_needed outlet.standing.0 outlet.output

pub needs_counted : (standing : Standing) (instance from : ℕ) (outputs : List Output)
    → map needs_of (map (λ counted. record { standing = standing; instance = instance; output = counted.1; number = counted.0 }) (enumerate_from from outputs))
    ≡ map (places_needed standing.0) outputs
needs_counted standing instance from [] = refl
needs_counted standing instance from (output ∷ outputs) =
    ap (λ rest. places_needed standing.0 output ∷ rest) (needs_counted standing instance (from + 1) outputs)

pub needs_from : (from : ℕ) (members : List Member) (states : List (List ℤ)) → length states ≡ length members
    → map needs_of (flat_map outlets_of (enumerate_from from (zip members states)))
    ≡ flat_map (λ member. map (places_needed member) member.component.unit.outputs) members
needs_from from [] states one_each = refl
needs_from from (member ∷ members) [] one_each = absurd (omega (arith, one_each))
needs_from from (member ∷ members) (state ∷ states) one_each =
    map-append needs_of (outlets_of (from, (member, state))) (flat_map outlets_of (enumerate_from (from + 1) (zip members states)))
    ∙ ap (λ front. front ++ map needs_of (flat_map outlets_of (enumerate_from (from + 1) (zip members states))))
    (needs_counted (member, state) from 0 member.component.unit.outputs)
    ∙ ap (λ rest. map (places_needed member) member.component.unit.outputs ++ rest) (needs_from (from + 1) members states (omega (arith, one_each)))

-- The needs of places are those of the outputs there.
pub needs_are : (run : Composition) (states : List (List ℤ)) → length states ≡ length run.members → map needs_of (outlets run states) ≡ needs_of_places run
needs_are run states one_each = needs_from 0 run.members states one_each

pub outlets_count : (run : Composition) (states : List (List ℤ)) → length states ≡ length run.members
    → length (outlets run states) ≡ length (needs_of_places run)
outlets_count run states one_each = sym (length-map (outlets run states) needs_of) ∙ ap length (needs_are run states one_each)

-- ---- What an output reads

abbrev pub Agree : Ports → Ports → ℕ → Type 0
Agree one other place = slice_get one place ≡ slice_get other place

-- With whether the input is needed, and its source.
pub seen_same : (one other : Ports) (needed : Bool) (source : InputSource) (start : ℤ) (rest : List ℕ)
    → AllByRecursion (Agree one other) (cons_option (cond needed (place_in source) None) rest)
    → (cond needed (input_word one source) (Some start) ≡ cond needed (input_word other source) (Some start)) × AllByRecursion (Agree one other) rest
seen_same one other true (Start word) start rest agree = (refl, agree)
seen_same one other true (AtPlace place) start rest agree = (ap (λ found. option_and_then (λ word. word) found) agree.0, agree.1)
seen_same one other false source start rest agree = (refl, agree)

pub sees_same : (one other : Ports) (output : Output) (pairs : List (Input × InputSource))
    → AllByRecursion (Agree one other) (filter_map (place_needed output) pairs) → map (seen_by one output) pairs ≡ map (seen_by other output) pairs
sees_same one other output [] agree = refl
sees_same one other output ((input, source) ∷ pairs) agree =
    let here = seen_same one other (is_among output.needs input.name) source (start_word input.ty input.start) (filter_map (place_needed output) pairs) agree in
    ap (λ seen. seen ∷ map (seen_by one output) pairs) here.0
    ∙ ap (λ rest. seen_by other output (input, source) ∷ rest) (sees_same one other output pairs here.1)

pub word_same : (one other : Ports) (outlet : Outlet) → AllByRecursion (Agree one other) (needs_of outlet) → word_at one outlet ≡ word_at other outlet
word_same one other outlet agree =
    ap (λ seen. option_and_then result_ok (option_map (λ inputs. get_of outlet.standing.0.component outlet.standing.1 inputs outlet.output) (all_there seen)))
    (sees_same one other outlet.output (zip outlet.standing.0.component.unit.inputs outlet.standing.0.sources) agree)

-- ---- The right sides are equations

-- The element at a place of a list that is mapped.
pub needs_here : (run : Composition) (states : List (List ℤ)) (place : ℕ) (outlet : Outlet) → length states ≡ length run.members
    → slice_get (outlets run states) place ≡ Some outlet → needs_at run place ≡ needs_of outlet
needs_here run states place outlet one_each is =
    ap (λ all. unwrap_or (slice_get all place) []) (sym (needs_are run states one_each))
    ∙ ap (λ found. unwrap_or found []) (slice_get-map needs_of (outlets run states) place ∙ ap (option_map needs_of) is)

-- The output at a place.
pub record AtPlaceOf (run : Composition) (states : List (List ℤ)) (place : ℕ) : Type 0 where
  pub outlet : Outlet
  pub is : slice_get (outlets run states) place ≡ Some outlet
  pub needs : needs_at run place ≡ needs_of outlet

pub found_by : (run : Composition) (states : List (List ℤ)) (place : ℕ) (found : Option Outlet) → length states ≡ length run.members
    → place < length (outlets run states) → slice_get (outlets run states) place ≡ found → AtPlaceOf run states place
found_by run states place (Some outlet) one_each within is = record { outlet = outlet; is = is; needs = needs_here run states place outlet one_each is }
found_by run states place None one_each within is = absurd (past (outlets run states) place within is)
  where
    past : (all : List Outlet) (place : ℕ) → place < length all → slice_get all place ≡ None → ⊥
    past [] place within is = omega (arith, within)
    past (outlet ∷ all) zero within is = cc
    past (outlet ∷ all) (suc place) within is = past all place (omega (arith, within)) is

pub outlet_at : (run : Composition) (states : List (List ℤ)) (place : ℕ) → length states ≡ length run.members → place < length (needs_of_places run)
    → AtPlaceOf run states place
outlet_at run states place one_each within =
    found_by run states place (slice_get (outlets run states) place) one_each (omega (arith, within, outlets_count run states one_each)) refl

-- The value of a solution at a place.
pub side_at : (run : Composition) (states : List (List ℤ)) (ports : Ports) (place : ℕ) (outlet : Outlet) → slice_get (outlets run states) place ≡ Some outlet
    → slice_get (right_sides run states ports) place ≡ Some (word_at ports outlet)
side_at run states ports place outlet is = slice_get-map (word_at ports) (outlets run states) place ∙ ap (option_map (word_at ports)) is

pub are_equations : (run : Composition) (states : List (List ℤ)) → length states ≡ length run.members → AreEquations run (right_sides run states)
are_equations run states one_each = record {
  count = λ ports. length-map (outlets run states) (word_at ports) ∙ outlets_count run states one_each;
  looks_at_needs = λ one other place within agree.
      let here = outlet_at run states place one_each within in
      side_at run states one place here.outlet here.is
      ∙ ap Some (word_same one other here.outlet (subst (AllByRecursion (Agree one other)) here.needs agree))
      ∙ sym (side_at run states other place here.outlet here.is);
}

-- ---- Undefined outputs

abbrev pub Defined : Ports → ℕ → Type 0
Defined ports place = (word : ℤ) × (slice_get ports place ≡ Some (Some word))

-- Of an input, with whether it is needed.
pub seen_there : (ports : Ports) (needed : Bool) (source : InputSource) (start : ℤ) (rest : List ℕ)
    → AllByRecursion (Defined ports) (cons_option (cond needed (place_in source) None) rest)
    → ((word : ℤ) × (cond needed (input_word ports source) (Some start) ≡ Some word)) × AllByRecursion (Defined ports) rest
seen_there ports true (Start word) start rest defined = ((word, refl), defined)
seen_there ports true (AtPlace place) start rest defined = ((defined.0.0, ap (λ found. option_and_then (λ word. word) found) defined.0.1), defined.1)
seen_there ports false source start rest defined = ((start, refl), defined)

pub all_seen : (ports : Ports) (output : Output) (pairs : List (Input × InputSource))
    → AllByRecursion (Defined ports) (filter_map (place_needed output) pairs) → (words : List ℤ) × (all_there (map (seen_by ports output) pairs) ≡ Some words)
all_seen ports output [] defined = ([], refl)
all_seen ports output ((input, source) ∷ pairs) defined =
    let here = seen_there ports (is_among output.needs input.name) source (start_word input.ty input.start) (filter_map (place_needed output) pairs) defined in
    let rest = all_seen ports output pairs here.1 in
    (here.0.0 ∷ rest.0, ap (λ seen. all_there (seen ∷ map (seen_by ports output) pairs)) here.0.1 ∙ ap (in_front here.0.0) rest.1)

-- With what get gives.
pub word_there : (ports : Ports) (outlet : Outlet) (given : Outcome) → given_at ports outlet ≡ Some given → fault_at ports outlet ≡ None
    → (word : ℤ) × (word_at ports outlet ≡ Some word)
word_there ports outlet (Ok word) is none = (word, ap (λ given. option_and_then result_ok given) is)
word_there ports outlet (Err fault) is none =
    absurd (none-some (UnitFault outlet.instance (place.Output outlet.number) fault)
    (sym none ∙ ap (λ given. option_map (UnitFault outlet.instance (place.Output outlet.number)) (option_and_then result_err given)) is))

pub outlet_is_there : (ports : Ports) (outlet : Outlet) → AllByRecursion (Defined ports) (needs_of outlet) → fault_at ports outlet ≡ None
    → (word : ℤ) × (word_at ports outlet ≡ Some word)
outlet_is_there ports outlet defined none =
    let inputs = all_seen ports outlet.output (zip outlet.standing.0.component.unit.inputs outlet.standing.0.sources) defined in
    word_there ports outlet (get_of outlet.standing.0.component outlet.standing.1 inputs.0 outlet.output)
    (ap (option_map (λ inputs. get_of outlet.standing.0.component outlet.standing.1 inputs outlet.output)) inputs.1) none

pub none_at : (all : List (Option Ending)) (place : ℕ) (found : Option Ending) → first_some all ≡ None → slice_get all place ≡ Some found → found ≡ None
none_at [] place found none is = absurd (cc)
none_at (None ∷ all) zero found none is = cc
none_at (None ∷ all) (suc place) found none is = none_at all place found none is
none_at (Some ending ∷ all) place found none is = absurd (cc)

pub defined_along : (run : Composition) (states : List (List ℤ)) (ports : Ports) → length states ≡ length run.members → IsAssignment run states ports
    → port_fault run states ports ≡ None → (before order : List ℕ) → IsOrderedAfter run before order → AllByRecursion (Defined ports) before
    → AllByRecursion (Defined ports) order
defined_along run states ports one_each is none before [] ordered defined = tt
defined_along run states ports one_each is none before (place ∷ later) ordered defined =
    let at_place = outlet_at run states place one_each ordered.0 in
    let needs : AllByRecursion (Defined ports) (needs_of at_place.outlet) =
    subst (AllByRecursion (Defined ports)) at_place.needs (all_among (Defined ports) before (needs_at run place) defined ordered.2) in
    let whole : fault_at ports at_place.outlet ≡ None =
    none_at (map (fault_at ports) (outlets run states)) place (fault_at ports at_place.outlet) none
    (slice_get-map (fault_at ports) (outlets run states) place ∙ ap (option_map (fault_at ports)) at_place.is) in
    let there = outlet_is_there ports at_place.outlet needs whole in
    let here : Defined ports place =
    (there.0, ap (λ all. slice_get all place) is ∙ side_at run states ports place at_place.outlet at_place.is ∙ ap Some there.1) in
    (here, defined_along run states ports one_each is none (before ++ (place ∷ [])) later ordered.3 (each_more (Defined ports) before place defined here))

pub all_defined : (ports : Ports) → ((place : ℕ) → place < length ports → Defined ports place) → list_all is_some ports ≡ true
all_defined [] each = refl
all_defined (None ∷ ports) each = let first = each 0 (omega arith) in absurd (nothing first.0 first.1)
  where
    nothing : (word : ℤ) → Some None ≡ Some (Some word) → ⊥
    nothing word is = cc
all_defined (Some word ∷ ports) each = all_defined ports (λ place within. each (suc place) (omega (arith, within)))

pub no_fault_by : (ports : Ports) (outlet : Outlet) (given : Option Outcome) → given_at ports outlet ≡ given → is_some (word_at ports outlet) ≡ true
    → fault_at ports outlet ≡ None
no_fault_by ports outlet None is there = ap (λ given. option_map (UnitFault outlet.instance (place.Output outlet.number)) (option_and_then result_err given)) is
no_fault_by ports outlet (Some (Ok word)) is there =
    ap (λ given. option_map (UnitFault outlet.instance (place.Output outlet.number)) (option_and_then result_err given)) is
no_fault_by ports outlet (Some (Err fault)) is there = absurd (false≢true (sym (ap (λ given. is_some (option_and_then result_ok given)) is) ∙ there))

pub no_faults : (ports : Ports) (all : List Outlet) → list_all is_some (map (word_at ports) all) ≡ true → first_some (map (fault_at ports) all) ≡ None
no_faults ports [] there = refl
no_faults ports (outlet ∷ all) there =
    let both = and_parts (is_some (word_at ports outlet)) (list_all is_some (map (word_at ports) all)) there in
    ap (λ first. first_some (first ∷ map (fault_at ports) all)) (no_fault_by ports outlet (given_at ports outlet) refl both.0) ∙ no_faults ports all both.1

pub undefined_faults : (run : Composition) (order : List ℕ) (states : List (List ℤ)) (ports : Ports) → IsPlaceOrder run order
    → length states ≡ length run.members → IsAssignment run states ports → (port_fault run states ports ≡ None) ↔ (list_all is_some ports ≡ true)
undefined_faults run order states ports is_order one_each is = (
  λ none.
      let defined = defined_along run states ports one_each is none [] order is_order.ordered tt in
      all_defined ports
      (λ place within.
      each_place (Defined ports) order place defined
      (is_order.all place (omega (arith, within, ap length is, (are_equations run states one_each).count ports)))),
  λ there. no_faults ports (outlets run states) (ap (list_all is_some) (sym is) ∙ there),
)

pub one_assignment : (run : Composition) (order : List ℕ) (states : List (List ℤ)) → IsPlaceOrder run order → length states ≡ length run.members
    → HasOneAssignment run states
one_assignment run order states is_order one_each =
    let equations = are_equations run states one_each in
    let solution = has_solution run (right_sides run states) equations order is_order in
    record {
      ports = solution.0;
      is_assignment = solution.1;
      is_only = λ other is. one_solution run (right_sides run states) equations order is_order other solution.0 is solution.1;
    }
