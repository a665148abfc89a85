-- Port assignment: the word of each output for given states, or that it has none. It is a set of equations, one for
-- each output, and doesn't state the order in which they are solved.
use Rattle.std.specs.Prelude.{◌≡◌, ℕ, ◌<◌, ℤ, List, [], ◌∷◌, ◌++◌, map, length, zip, if◌then◌else◌, slice_get, Option, Some, None, ⊤, ◌⊎◌, unwrap_or}
use Rattle.std.specs.List.{AllByRecursion, enumerate_from, flat_map, filter_map}
use Rattle.std.specs.Option.{option_map, option_and_then}
use Rattle.std.specs.Result.{result_ok, result_err}
use Rattle.fixed_words.specs.Operations.{Outcome}
use Rattle.unit_tree.specs.Components.{start_word, get_of}
use Rattle.unit_tree.specs.Compositions.{InputSource, Start, AtPlace, Member, Composition}
use Rattle.unit_tree.specs.Names.{is_among}
use Rattle.unit_tree.specs.declared.ending.Ending.{Ending}
use Rattle.unit_tree.specs.declared.ending.Ending.TheVariants.{UnitFault}
use Rattle.unit_tree.specs.declared.ending.Place.TheVariants as place
use Rattle.unit_tree.specs.declared.unit.Input.{Input}
use Rattle.unit_tree.specs.declared.unit.Output.{Output}

-- At each place a word, or nothing where the output is undefined.
abbrev pub Ports : Type 0
Ports = List (Option ℤ)

-- The word of an input by its source.
abbrev pub input_word : Ports → InputSource → Option ℤ
input_word ports (Start word) = Some word
input_word ports (AtPlace place) = option_and_then (λ word. word) (slice_get ports place)

-- A member with its state.
abbrev pub Standing : Type 0
Standing = Member × List ℤ

-- An output of a composition: its member with the member's state, the number of its instance, and its own number
-- there.
pub record Outlet : Type 0 where
  pub standing : Standing
  pub instance : ℕ
  pub output : Output
  pub number : ℕ

abbrev pub outlets_of : ℕ × Standing → List Outlet
outlets_of (instance, standing) =
    map (λ counted. record { standing = standing; instance = instance; output = counted.1; number = counted.0 })
    (enumerate_from 0 standing.0.component.unit.outputs)

-- The outputs of a composition in given states, each at its place.
abbrev pub outlets : Composition → List (List ℤ) → List Outlet
outlets run states = flat_map outlets_of (enumerate_from 0 (zip run.members states))

-- ---- The equation of an output

-- What an output reads of an input: its word where the input is in its needs. Any other input has its start word
-- here, whatever its word is; the rules on needs ensure that the output doesn't use it.
abbrev pub seen_by : Ports → Output → Input × InputSource → Option ℤ
seen_by ports output (input, source) =
    if is_among output.needs input.name then input_word ports source else Some (start_word input.ty input.start)

-- A list with one more element before it, where the list is there.
abbrev pub in_front : {A : Type 0} → A → Option (List A) → Option (List A)
in_front first None = None
in_front first (Some others) = Some (first ∷ others)

abbrev pub all_there : {A : Type 0} → List (Option A) → Option (List A)
all_there [] = Some []
all_there (None ∷ others) = None
all_there (Some first ∷ others) = in_front first (all_there others)

-- The words of the inputs for an output, where each input in its needs has one.
abbrev pub inputs_for : Ports → Outlet → Option (List ℤ)
inputs_for ports outlet =
    all_there (map (seen_by ports outlet.output) (zip outlet.standing.0.component.unit.inputs outlet.standing.0.sources))

-- The result of get for an output, where each input in its needs has a word.
abbrev pub given_at : Ports → Outlet → Option Outcome
given_at ports outlet =
    option_map (λ inputs. get_of outlet.standing.0.component outlet.standing.1 inputs outlet.output) (inputs_for ports outlet)

-- The word of an output. It is undefined where an input in its needs is, and where get gives a fault.
abbrev pub word_at : Ports → Outlet → Option ℤ
word_at ports outlet = option_and_then result_ok (given_at ports outlet)

-- The right sides of the equations.
abbrev pub right_sides : Composition → List (List ℤ) → Ports → Ports
right_sides run states ports = map (word_at ports) (outlets run states)

-- The port assignment for the states: each output has the word that its equation gives.
abbrev pub IsAssignment : Composition → List (List ℤ) → Ports → Type 0
IsAssignment run states ports = ports ≡ right_sides run states ports

-- ---- Port faults

-- The first element that is there.
abbrev pub first_some : {A : Type 0} → List (Option A) → Option A
first_some [] = None
first_some (None ∷ others) = first_some others
first_some (Some first ∷ others) = Some first

-- The fault of an output that is undefined while each input in its needs has a word.
abbrev pub fault_at : Ports → Outlet → Option Ending
fault_at ports outlet =
    option_map (UnitFault outlet.instance (place.Output outlet.number)) (option_and_then result_err (given_at ports outlet))

-- The port fault: that of the first such output, by instance and then by declaration.
abbrev pub port_fault : Composition → List (List ℤ) → Ports → Option Ending
port_fault run states ports = first_some (map (fault_at ports) (outlets run states))

-- ---- Orders of places

-- The place of the output that is connected to an input, where there is one.
abbrev pub place_in : InputSource → Option ℕ
place_in (Start word) = None
place_in (AtPlace place) = Some place

abbrev pub place_needed : Output → Input × InputSource → Option ℕ
place_needed output (input, source) = if is_among output.needs input.name then place_in source else None

-- The places of the outputs that a member's output depends on directly.
abbrev pub places_needed : Member → Output → List ℕ
places_needed member output = filter_map (place_needed output) (zip member.component.unit.inputs member.sources)

-- For each output of a composition, by its place, the places that it depends on directly.
abbrev pub needs_of_places : Composition → List (List ℕ)
needs_of_places run = flat_map (λ member. map (places_needed member) member.component.unit.outputs) run.members

abbrev pub IsAmong : List ℕ → ℕ → Type 0
IsAmong [] place = ⊥
IsAmong (first ∷ others) place = (first ≡ place) ⊎ IsAmong others place

abbrev pub needs_at : Composition → ℕ → List ℕ
needs_at run place = unwrap_or (slice_get (needs_of_places run) place) []

-- A list of places is ordered after some that came before: each is the place of an output, occurs once, and comes
-- after all places that its output depends on.
abbrev pub IsOrderedAfter : Composition → List ℕ → List ℕ → Type 0
IsOrderedAfter run before [] = ⊤
IsOrderedAfter run before (place ∷ later) =
    (place < length (needs_of_places run))
    × (IsAmong before place → ⊥)
    × AllByRecursion (IsAmong before) (needs_at run place)
    × IsOrderedAfter run (before ++ (place ∷ [])) later

-- An order of a composition: a list of all places, each after those that it depends on.
pub record IsPlaceOrder (run : Composition) (order : List ℕ) : Type 0 where
  pub ordered : IsOrderedAfter run [] order
  pub all : (place : ℕ) → place < length (needs_of_places run) → IsAmong order place
