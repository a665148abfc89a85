-- How saved texts are read: numbers, words and single lines.
use Rattle.std.specs.Prelude.{◌≡◌, ℕ, ◌≤◌, ◌==◌, Bool, true, false, ◌&&◌, not, ℤ, List, [], ◌∷◌, ◌++◌, length, take, drop, decimal, if◌then◌else◌}
use Rattle.std.specs.Prelude.{Option, Some, None, Result, Ok, Err, ⊤}
use Rattle.std.specs.Fmt.{signed_decimal}
use Rattle.std.specs.List.{prefix_len, slice_split}
use Rattle.std.specs.Option.{option_and_then, option_map}
use Rattle.std.specs.Str.{bytes_eq}
use Rattle.std.specs.Str.Parse.{signed_digits_value}
use Rattle.unit_print.specs.Fitting.{is_word}
use Rattle.fixed_words.specs.Types.{is_word_of}
use Rattle.fixed_words.specs.declared.types.Ty.TheVariants.{Int64}
use Rattle.save_point.specs.SavedTexts.{BreaksAtLine, IsSaved, IsWithin, NamedState, number_limit}
use Rattle.save_point.specs.declared.fault.SavedFault.{SavedFault}
use Rattle.save_point.specs.declared.fault.SavedFault.TheVariants as faults
use Rattle.save_point.specs.declared.reading.Saved.{Saved}
use Rattle.super_time.specs.declared.point.Point.{Point}
use Rattle.text_tokens.specs.declared.fault.Unread.{Unread}
use Rattle.text_tokens.specs.declared.fault.Unread.TheVariants as unread
use Rattle.unit_tree.specs.declared.system.Instance.{Instance}

-- The bytes are the text of a number within the bound of saved texts; and the text of a word.
abbrev pub IsNumberText : List ℕ → ℕ → Type 0
IsNumberText bytes number = (number ≤ number_limit) × (bytes ≡ decimal number)

abbrev pub IsWordText : List ℕ → ℤ → Type 0
IsWordText bytes word = (is_word_of Int64 word ≡ true) × (bytes ≡ signed_decimal word)

-- The bytes are the texts of the numbers of a point, with a space between them.
abbrev pub IsPointText : List ℕ → Point → Type 0
IsPointText bytes point = IsWithin point × (bytes ≡ decimal point.t ++ 32 ∷ decimal point.n)

-- ---- Words of a line

-- Whether a byte belongs to a word: it is not a space.
abbrev pub is_inside : ℕ → Bool
is_inside byte = not (byte == 32)

-- The parts of bytes between spaces.
abbrev pub parts_of : List ℕ → List (List ℕ)
parts_of bytes = slice_split (λ byte. byte == 32) bytes

-- The bytes up to the first space.
abbrev pub first_part : List ℕ → List ℕ
first_part bytes = take (prefix_len is_inside bytes) bytes

-- The bytes after a space, where the first byte is one.
abbrev pub behind_space : List ℕ → Option (List ℕ)
behind_space [] = None
behind_space (space ∷ more) = Some more

-- The bytes after the first space, where there is one.
abbrev pub other_parts : List ℕ → Option (List ℕ)
other_parts bytes = behind_space (drop (prefix_len is_inside bytes) bytes)

-- The parts of optional bytes.
abbrev pub parts_in : Option (List ℕ) → List (List ℕ)
parts_in None = []
parts_in (Some bytes) = parts_of bytes

-- The word that bytes spell.
unfoldable pub word_in : List ℕ → Option ℤ
word_in bytes =
    let word = signed_digits_value 10 bytes in
    if bytes_eq bytes (signed_decimal word) && is_word_of Int64 word then Some word else None

-- A word before others, where there are others.
abbrev pub with_word : ℤ → Option (List ℤ) → Option (List ℤ)
with_word word words = option_map (λ all. word ∷ all) words

-- The words that parts spell.
abbrev pub words_in : List (List ℕ) → Option (List ℤ)
words_in [] = Some []
words_in (part ∷ parts) = option_and_then (λ word. with_word word (words_in parts)) (word_in part)

-- ---- States

-- A state of this name, where it is a word.
abbrev pub state_named : List ℕ → Option (List ℤ) → Option NamedState
state_named name words = if is_word name then option_map (λ all. record { name = name; words = all }) words else None

-- The state whose name and words the parts are.
abbrev pub state_in : List (List ℕ) → Option NamedState
state_in [] = None
state_in (name ∷ parts) = state_named name (words_in parts)

-- Where the parts are those of a state, its name, the number of its words and its words were appended to others.
pub record PutsState (parts : List (List ℕ)) (names : List (List ℕ)) (counts : List ℕ) (words : List ℤ) (names' : List (List ℕ)) (counts' : List ℕ)
    (words' : List ℤ) : Type 0 where
  pub state : NamedState
  pub told : state_in parts ≡ Some state
  pub names_are : names' ≡ names ++ (state.name ∷ [])
  pub counts_are : counts' ≡ counts ++ (length state.words ∷ [])
  pub words_are : words' ≡ words ++ state.words

-- The words that parts spell were appended to others, and are so many.
pub record PutsWords (parts : List (List ℕ)) (words words' : List ℤ) (count : ℕ) : Type 0 where
  pub more : List ℤ
  pub told : words_in parts ≡ Some more
  pub put : words' ≡ words ++ more
  pub many : count ≡ length more

-- Whether names are those of instances, one by one.
abbrev pub same_names : List (List ℕ) → List Instance → Bool
same_names [] instances = length instances == 0
same_names (name ∷ names) [] = false
same_names (name ∷ names) (instance ∷ instances) = bytes_eq name instance.name && same_names names instances

-- ---- The result

-- The fault for a line of this number that could not be read.
abbrev pub fault_at : Unread → ℕ → SavedFault
fault_at unread.NoForm line = faults.Line line
fault_at unread.NoMemory line = faults.NoMemory

-- The result of reading a text is right. Lack of memory says nothing of the text.
abbrev pub ReadsSaved : List ℕ → Result Saved SavedFault → Type 0
ReadsSaved text (Ok saved) = IsSaved text saved
ReadsSaved text (Err (faults.Line number)) = BreaksAtLine text number
ReadsSaved text (Err faults.NoMemory) = ⊤
