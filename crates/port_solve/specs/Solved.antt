-- Solved ports: what the components must have, which of their inputs are set, and how a result is read.
use Rattle.std.specs.Prelude.{◌≡◌, ℕ, Bool, ℤ, pos, List, [], ◌∷◌, map, length, zip, slice_get, slice_index_or, if◌then◌else◌, Option, Some, None, IfSome}
use Rattle.std.specs.Prelude.{Result, Ok, Err}
use Rattle.std.specs.List.{AllByRecursion, AllZip}
use Rattle.std.specs.Option.{option_and_then}
use Rattle.fixed_words.specs.Operations.{Outcome}
use Rattle.port_solve.specs.declared.solving.PortFault.{PortFault}
use Rattle.unit_tree.specs.Compositions.{InputSource, Composition}
use Rattle.unit_tree.specs.Given.{with_input}
use Rattle.unit_tree.specs.Ports.{Ports, input_word, given_at, outlets}
use Rattle.unit_tree.specs.Routes.{inputs_of}
use Rattle.unit_tree.specs.declared.ending.Ending.{Ending}
use Rattle.unit_tree.specs.declared.ending.Ending.TheVariants.{UnitFault}
use Rattle.unit_tree.specs.declared.ending.Place.TheVariants as place
use Rattle.unit_tree.specs.declared.order.InputAt.{InputAt}
use Rattle.unit_tree.specs.declared.order.StartWord.{StartWord}

-- ---- The components

-- There is one list of states for each member, with one word for each of its states.
abbrev pub HaveStates : Composition → List (List ℤ) → Type 0
HaveStates run states = AllZip (λ member state. length state ≡ length member.component.unit.states) run.members states

-- There is one list of inputs for each member, with one word for each of its inputs.
abbrev pub HaveInputs : Composition → List (List ℤ) → Type 0
HaveInputs run inputs = AllZip (λ member words. length words ≡ length member.component.unit.inputs) run.members inputs

-- The word of an input.
abbrev pub word_in : List (List ℤ) → InputAt → ℤ
word_in inputs at = slice_index_or (slice_index_or inputs at.instance []) at.input (pos 0)

-- An input has its word, where the word is defined.
abbrev pub HasItsWord : Ports → List (List ℤ) → InputAt × InputSource → Type 0
HasItsWord ports inputs (at, source) = IfSome (input_word ports source) (λ word. word_in inputs at ≡ word)

-- Each input whose word is defined has it.
abbrev pub HaveTheirWords : Composition → Ports → List (List ℤ) → Type 0
HaveTheirWords run ports inputs = AllByRecursion (HasItsWord ports inputs) (inputs_of run)

-- ---- Inputs that are set

-- The words of inputs after some of them were set one after the other. The others stay.
abbrev pub with_words : List (List ℤ) → List StartWord → List (List ℤ)
with_words inputs [] = inputs
with_words inputs (first ∷ others) = with_words (with_input inputs first.at.instance first.at.input first.word) others

-- The same word for each of some inputs.
abbrev pub all_with : ℤ → List InputAt → List StartWord
all_with word feeds = map (λ at. record { at = at; word = word }) feeds

-- ---- The result

-- The word of a port, where it is known.
abbrev pub port_told : Bool × ℤ → Option ℤ
port_told (known, word) = if known then Some word else None

abbrev pub ports_told : List Bool → List ℤ → Ports
ports_told known words = map port_told (zip known words)

-- The outcome of the output at a place, where each input that it needs has a word.
abbrev pub given_there : Composition → List (List ℤ) → Ports → ℕ → Option Outcome
given_there run states ports place = option_and_then (given_at ports) (slice_get (outlets run states) place)

-- The end of a run that a result means.
abbrev pub ending_told : Result (Unit {0}) PortFault → Option Ending
ending_told (Ok done) = None
ending_told (Err fault) = Some (UnitFault fault.instance (place.Output fault.output) fault.fault)
