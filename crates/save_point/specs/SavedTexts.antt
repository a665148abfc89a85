-- Saved texts: lines with a position of a run, and then the text of the system.
use Rattle.std.specs.Prelude.{◌≡◌, ◌⊎◌, ℕ, ◌+◌, ◌≤◌, ◌^◌, true, ℤ, List, [], ◌∷◌, ◌++◌, map, zip, length, codes, decimal}
use Rattle.std.specs.Fmt.{signed_decimal}
use Rattle.std.specs.List.{AllByRecursion, flat_map}
use Rattle.fixed_words.specs.Types.{is_word_of}
use Rattle.fixed_words.specs.declared.types.Ty.TheVariants.{Int64}
use Rattle.save_point.specs.declared.reading.Saved.{Saved}
use Rattle.super_time.specs.declared.point.Point.{Point}
use Rattle.unit_tree.specs.Canonical.{canonical_text}
use Rattle.unit_tree.specs.Lines.{lines_of, without_return}
use Rattle.unit_tree.specs.Successor.{Position}
use Rattle.unit_tree.specs.Tokens.{IsWord}
use Rattle.unit_tree.specs.declared.system.Instance.{Instance}
use Rattle.unit_tree.specs.declared.system.System.{System}

-- ---- The lines

-- The state of an instance, with its name.
pub record NamedState : Type 0 where
  pub name : List ℕ
  pub words : List ℤ

-- The first line of every saved text.
abbrev pub title_line : List ℕ
title_line = codes "saved 1"

-- The line of a row: its number.
abbrev pub row_line : ℕ → List ℕ
row_line row = codes "row " ++ decimal row

-- The line of a point: its ticks, and its index.
abbrev pub point_line : Point → List ℕ
point_line point = codes "at " ++ (decimal point.t ++ 32 ∷ decimal point.n)

-- Words, each after a space.
abbrev pub spaced_words : List ℤ → List ℕ
spaced_words words = flat_map (λ word. 32 ∷ signed_decimal word) words

-- The line of a state: the instance's name, and the words.
abbrev pub state_line : NamedState → List ℕ
state_line state = codes "state " ++ (state.name ++ spaced_words state.words)

-- The lines of a position: of its row, its point and its states.
abbrev pub saved_lines : ℕ → Point → List NamedState → List (List ℕ)
saved_lines row point states = title_line ∷ row_line row ∷ point_line point ∷ map state_line states

-- ---- The saved text of a position

-- A name and words, as a state.
abbrev pub named : List ℕ × List ℤ → NamedState
named (name, words) = record { name = name; words = words }

-- States with the names of instances, one each.
abbrev pub states_of : List Instance → List (List ℤ) → List NamedState
states_of instances states = map named (zip (map (λ instance. instance.name) instances) states)

-- The states at a position of a system.
abbrev pub named_states : System → Position → List NamedState
named_states system at = states_of system.instances at.states

-- Lines, each with its end.
abbrev pub ended : List (List ℕ) → List ℕ
ended lines = flat_map (λ line. line ++ 10 ∷ []) lines

-- The saved text of a position of a system: the lines of the position, and then the canonical text of the system.
unfoldable pub saved_text : System → Position → List ℕ
saved_text system at = ended (saved_lines at.number at.point (named_states system at)) ++ canonical_text system

-- ---- What a text saves

-- A text has this first line, without its end, and then this rest.
pub record IsFirstLine (text line rest : List ℕ) : Type 0 where
  pub whole : List ℕ
  pub first : lines_of text ≡ whole ∷ lines_of rest
  pub cut : (text ≡ whole ++ 10 ∷ rest) ⊎ ((text ≡ whole) × (rest ≡ []))
  pub without_end : line ≡ without_return whole

-- A text begins with these lines, and then has this rest.
abbrev pub BeginsWithLines : List ℕ → List (List ℕ) → List ℕ → Type 0
BeginsWithLines text [] rest = text ≡ rest
BeginsWithLines text (line ∷ lines) rest = (behind : List ℕ) × IsFirstLine text line behind × BeginsWithLines behind lines rest

-- A text has no first line of this form: it has no line at all, or another one.
abbrev pub LacksLine : (List ℕ → Type 0) → List ℕ → Type 0
LacksLine IsForm text = (line rest : List ℕ) → IsFirstLine text line rest → IsForm line → ⊥

-- A line begins as that of a state does.
abbrev pub BeginsState : List ℕ → Type 0
BeginsState line = (more : List ℕ) × (line ≡ codes "state " ++ more)

-- The greatest number that a saved text may have, for a row, for ticks and for an index.
abbrev pub number_limit : ℕ
number_limit = 10 ^ 15

-- A point is within the bounds of a saved text, and so is a row.
pub record IsWithin (point : Point) : Type 0 where
  pub ticks : point.t ≤ number_limit
  pub steps : point.n ≤ number_limit

pub record AreNumbers (row : ℕ) (point : Point) : Type 0 where
  pub row_within : row ≤ number_limit
  pub point_within : IsWithin point

-- A saved text may have this state: its name is a word of the language, perhaps a reserved one, and its words have 64 bits.
pub record IsState (state : NamedState) : Type 0 where
  pub name_is : IsWord state.name
  pub words_fit : AllByRecursion (λ word. is_word_of Int64 word ≡ true) state.words

-- A text is a saved text, and saves this: it begins with the lines of the row, the point and as many states as possible. Of the
-- states it has the names, how many words each has, and all words one after the other. The rest is the place in the text after
-- the lines.
pub record IsSaved (text : List ℕ) (saved : Saved) : Type 0 where
  pub states : List NamedState
  pub behind : List ℕ
  pub begins : BeginsWithLines text (saved_lines saved.row saved.point states) behind
  pub numbers : AreNumbers saved.row saved.point
  pub are_states : AllByRecursion IsState states
  pub no_more : LacksLine BeginsState behind
  pub names_are : saved.names ≡ map (λ state. state.name) states
  pub counts_are : saved.counts ≡ map (λ state. length state.words) states
  pub words_are : saved.states ≡ flat_map (λ state. state.words) states
  pub rest_is : saved.rest + length behind ≡ length text

-- ---- Texts that are no saved texts

-- The line of a title; of some row; of some point; of some state.
abbrev pub IsTitleLine : List ℕ → Type 0
IsTitleLine line = line ≡ title_line

abbrev pub IsRowLine : List ℕ → ℕ → Type 0
IsRowLine line row = (row ≤ number_limit) × (line ≡ row_line row)

abbrev pub IsPointLine : List ℕ → Point → Type 0
IsPointLine line point = IsWithin point × (line ≡ point_line point)

abbrev pub IsStateLine : List ℕ → NamedState → Type 0
IsStateLine line state = IsState state × (line ≡ state_line state)

-- A text has a title, and no line of a row after it.
pub record LacksRow (text : List ℕ) : Type 0 where
  pub rest : List ℕ
  pub begins : BeginsWithLines text (title_line ∷ []) rest
  pub lacks : LacksLine (λ line. (row : ℕ) × IsRowLine line row) rest

-- A text has the line of a row, and no line of a point after it.
pub record LacksPoint (text : List ℕ) : Type 0 where
  pub row : ℕ
  pub rest : List ℕ
  pub begins : BeginsWithLines text (title_line ∷ row_line row ∷ []) rest
  pub row_within : row ≤ number_limit
  pub lacks : LacksLine (λ line. (point : Point) × IsPointLine line point) rest

-- A text has the lines of a row, of a point and of some states, and then one that begins as the line of a state and is none.
-- This line has this number.
pub record BreaksState (text : List ℕ) (number : ℕ) : Type 0 where
  pub row : ℕ
  pub point : Point
  pub states : List NamedState
  pub rest : List ℕ
  pub line : List ℕ
  pub behind : List ℕ
  pub begins : BeginsWithLines text (saved_lines row point states) rest
  pub numbers : AreNumbers row point
  pub are_states : AllByRecursion IsState states
  pub first : IsFirstLine rest line behind
  pub may_be : BeginsState line
  pub is_none : (state : NamedState) → IsStateLine line state → ⊥
  pub place : number ≡ length states + 4

-- The line of this number, counted from 1, is the first that is missing or doesn't have the form of its place.
abbrev pub BreaksAtLine : List ℕ → ℕ → Type 0
BreaksAtLine text number =
    ((number ≡ 1) × LacksLine IsTitleLine text) ⊎ ((number ≡ 2) × LacksRow text) ⊎ ((number ≡ 3) × LacksPoint text) ⊎ BreaksState text number
