-- The outputs of components with given words for their inputs: the meaning of calls by numbers.
use Rattle.std.specs.Prelude.{◌≡◌, ℕ, true, ℤ, List, [], slice_get, slice_set, slice_index_or, Option, Some}
use Rattle.std.specs.Option.{option_map, option_and_then}
use Rattle.fixed_words.specs.Operations.{Outcome}
use Rattle.fixed_words.specs.Types.{is_word_of}
use Rattle.unit_tree.specs.Components.{get_of}
use Rattle.unit_tree.specs.Compositions.{Composition}
use Rattle.unit_tree.specs.declared.unit.Input.{Input}

-- The input of an instance with this number.
abbrev pub input_numbered : Composition → ℕ → ℕ → Option Input
input_numbered run instance number =
    option_and_then (λ member. slice_get member.component.unit.inputs number) (slice_get run.members instance)

-- The result of get for the output with this number, from the instance's state and the words of its inputs. It
-- is `None` where there is no such instance, state or output.
abbrev pub given_by : Composition → List (List ℤ) → List (List ℤ) → ℕ → ℕ → Option Outcome
given_by run states inputs instance number =
    option_and_then (λ member.
    option_and_then (λ state.
    option_and_then (λ words.
    option_map (get_of member.component state words) (slice_get member.component.unit.outputs number))
    (slice_get inputs instance))
    (slice_get states instance))
    (slice_get run.members instance)

-- There is such an input, and the word is one of its type.
pub record IsInputWord (run : Composition) (instance number : ℕ) (word : ℤ) : Type 0 where
  pub input : Input
  pub is_there : input_numbered run instance number ≡ Some input
  pub fits : is_word_of input.ty word ≡ true

-- The words of all inputs with one changed.
abbrev pub with_input : List (List ℤ) → ℕ → ℕ → ℤ → List (List ℤ)
with_input inputs instance number word = slice_set inputs instance (slice_set (slice_index_or inputs instance []) number word)
