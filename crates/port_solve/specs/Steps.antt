-- How ports are solved, one output after the other: which outputs are computed, and which inputs are set from them.
use Rattle.std.specs.Prelude.{◌≡◌, ℕ, ◌<◌, nat_lt, Bool, false, ℤ, List, [], slice_index_or, if◌then◌else◌, Option, Some, None, IfSome}
use Rattle.std.specs.List.{AllByRecursion, list_all}
use Rattle.std.specs.Option.{option_and_then}
use Rattle.std.specs.Result.{result_ok, result_err}
use Rattle.fixed_words.specs.Operations.{Outcome}
use Rattle.fixed_words.specs.declared.types.Fault.{Fault}
use Rattle.port_solve.specs.Solved.{all_with, given_there}
use Rattle.port_solve.specs.declared.outputs.Faulted.{Faulted}
use Rattle.unit_tree.specs.Compositions.{Composition}
use Rattle.unit_tree.specs.Given.{given_by, IsInputWord}
use Rattle.unit_tree.specs.Ports.{Ports, IsAmong}
use Rattle.unit_tree.specs.declared.order.InputAt.{InputAt}
use Rattle.unit_tree.specs.declared.order.Route.{Route}
use Rattle.unit_tree.specs.declared.order.StartWord.{StartWord}

-- ---- Inputs

-- What an output sets: its word, where it has one, for each input that it feeds.
abbrev pub set_from : Option ℤ → List InputAt → List StartWord
set_from None feeds = []
set_from (Some word) feeds = all_with word feeds

-- ---- Outputs

-- The outcome of an output, where all outputs that it needs are known so far.
abbrev pub asked : Composition → List (List ℤ) → List (List ℤ) → List Bool → Route → Option Outcome
asked run states inputs known route =
    if list_all (λ need. slice_index_or known need false) route.needs then given_by run states inputs route.instance route.output else None

-- The word of that outcome, and its fault.
abbrev pub word_asked : Composition → List (List ℤ) → List (List ℤ) → List Bool → Route → Option ℤ
word_asked run states inputs known route = option_and_then result_ok (asked run states inputs known route)

abbrev pub fault_asked : Composition → List (List ℤ) → List (List ℤ) → List Bool → Route → Option Fault
fault_asked run states inputs known route = option_and_then result_err (asked run states inputs known route)

-- An output's word has the type of each input that it feeds.
abbrev pub FitsFeeds : Composition → List InputAt → Option ℤ → Type 0
FitsFeeds run feeds word = IfSome word (λ w. AllByRecursion (λ at. IsInputWord run at.instance at.input w) feeds)

-- ---- Faults

-- The fault of the output at a place, where all outputs that it needs are known.
abbrev pub fault_there : Composition → List (List ℤ) → Ports → ℕ → Option Fault
fault_there run states ports place = option_and_then result_err (given_there run states ports place)

-- The first fault by place, after one more fault where there is one.
abbrev pub noted : Option Faulted → ℕ → Option Fault → Option Faulted
noted first place None = first
noted None place (Some fault) = Some (record { place = place; fault = fault })
noted (Some first) place (Some fault) = if nat_lt first.place place then Some first else Some (record { place = place; fault = fault })

-- Of the faults of the outputs at some places, it is the first by place.
abbrev pub IsFirst : Composition → List (List ℤ) → Ports → List ℕ → Option Faulted → Type 0
IsFirst run states ports places None = AllByRecursion (λ place. fault_there run states ports place ≡ None) places
IsFirst run states ports places (Some first) =
    IsAmong places first.place
    × (fault_there run states ports first.place ≡ Some first.fault)
    × AllByRecursion (λ place. place < first.place → fault_there run states ports place ≡ None) places
