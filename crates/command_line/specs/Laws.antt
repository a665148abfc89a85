-- Laws of options: they may come in any order.
use Rattle.std.specs.Prelude.{◌≡◌, ℕ, List, [], ◌∷◌, Some, None, IsPermutation}
use Rattle.std.specs.List.{All, flat_map}
use Rattle.command_line.specs.Commands.{command_of}
use Rattle.command_line.specs.Options.{given_by, options_of}
use Rattle.command_line.specs.declared.options.CommandOption.{CommandOption}

-- The words are one option: its flag, with its value in the next word where it has one.
abbrev pub IsOneOption : List (List ℕ) → Type 0
IsOneOption words = (option : CommandOption) × (options_of words ≡ Some (option ∷ []))

abbrev pub joined_parts : List (List (List ℕ)) → List (List ℕ)
joined_parts parts = flat_map (λ part. part) parts

-- Take words after a command's word, each part of which is one option. They are of the same command in any order of the parts, or have no
-- form in any.
abbrev pub PartsHaveNoOrder : Type 0
PartsHaveNoOrder =
    (word : List ℕ) (parts reordered : List (List (List ℕ))) → All IsOneOption parts → IsPermutation parts reordered
    → command_of (word ∷ joined_parts parts) ≡ command_of (word ∷ joined_parts reordered)

-- Words give the same as other words with the same options in another order.
abbrev pub OptionsHaveNoOrder : Type 0
OptionsHaveNoOrder =
    (words other : List (List ℕ)) (options reordered : List CommandOption) → options_of words ≡ Some options → options_of other ≡ Some reordered
    → IsPermutation options reordered → given_by words ≡ given_by other

-- Words that are not options have no form after any command's word.
abbrev pub OtherWordsHaveNoForm : Type 0
OtherWordsHaveNoForm = (word : List ℕ) (words : List (List ℕ)) → options_of words ≡ None → command_of (word ∷ words) ≡ None
