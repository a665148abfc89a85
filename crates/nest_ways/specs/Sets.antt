-- Sets of numbers, and the numbers of inputs of components that are kept.
use Rattle.std.specs.Prelude.{◌≡◌, ◌↔◌, ◌⊎◌, ◌+◌, ◌-◌, ◌*◌, ◌^◌, ◌<◌, ◌≤◌, ℕ, List, [], Option, Some, slice_get}
use Rattle.std.specs.Int.{bit_at}
use Rattle.nest_ways.specs.declared.ends.End.{End}
use Rattle.nest_ways.specs.declared.numbers.KeptSets.{KeptSets}
use Rattle.nest_ways.specs.declared.sets.NumberSet.{NumberSet}
use Rattle.nest_ways.specs.declared.sets.SetWord.{SetWord}
use Rattle.nest_ways.specs.declared.steps.Known.{Known}

-- ---- Sets

-- The most inputs of components that get numbers for one group.
abbrev pub most_numbers : ℕ
most_numbers = 8 * 2048

-- The word has the number, which is below 64.
abbrev pub IsInWord : SetWord → ℕ → Type 0
IsInWord word number = (number < 64) × (bit_at word.bits number ≡ 1)

-- The word has no number.
abbrev pub IsEmpty : SetWord → Type 0
IsEmpty word = (number : ℕ) → IsInWord word number → ⊥

-- The word at the place has the number.
abbrev pub HasAt : List SetWord → ℕ → ℕ → Type 0
HasAt words place number = (word : SetWord) × (slice_get words place ≡ Some word) × IsInWord word number

-- No word has a number.
abbrev pub AreEmpty : List SetWord → Type 0
AreEmpty words = (place number : ℕ) → HasAt words place number → ⊥

-- A word of the set has the number. Each word is for 64 numbers, in turn, from 64 times the set's
-- start on.
pub record HasNumber (set : NumberSet) (number : ℕ) : Type 0 where
  pub place : ℕ
  pub bit : ℕ
  pub has : HasAt set.words.items place bit
  pub is : number ≡ (set.start + place) * 64 + bit

-- Both sets have the same numbers.
abbrev pub HasSame : NumberSet → NumberSet → Type 0
HasSame one other = (number : ℕ) → HasNumber one number ↔ HasNumber other number

-- The first word of the set has a number, unless the set begins where no later start can be written.
abbrev pub IsTrimmed : NumberSet → Type 0
IsTrimmed set = (word : SetWord) → slice_get set.words.items 0 ≡ Some word → set.start < 2 ^ 64 - 1 → IsEmpty word → ⊥

-- The number isn't below those of the set's first word.
abbrev pub HasRoomFor : NumberSet → ℕ → Type 0
HasRoomFor set number = set.start * 64 ≤ number

-- The set has no words yet, or its words begin no later than those of the other set.
abbrev pub HasRoomForWords : NumberSet → NumberSet → Type 0
HasRoomForWords set other = (set.words.items ≡ []) ⊎ (set.start ≤ other.start)

-- The set has room for all numbers of the group that the other set's numbers are of. None of them is more than
-- `most_numbers` below those of the other set's first word.
abbrev pub HasRoomForGroup : NumberSet → NumberSet → Type 0
HasRoomForGroup set other = (number : ℕ) → other.start * 64 ≤ number + most_numbers → HasRoomFor set number

-- There is a set at the place, with room for the words of the other set.
abbrev pub HasRoomAt : List NumberSet → ℕ → NumberSet → Type 0
HasRoomAt sets place other = (set : NumberSet) × (slice_get sets place ≡ Some set) × HasRoomForWords set other

-- The set at the place has the number.
abbrev pub HasNumberAt : List NumberSet → ℕ → ℕ → Type 0
HasNumberAt sets place number = (set : NumberSet) × (slice_get sets place ≡ Some set) × HasNumber set number

-- ---- Inputs by numbers

-- The input is in the list.
abbrev pub IsAmong : End → List End → Type 0
IsAmong end ends = (place : ℕ) × (slice_get ends place ≡ Some end)

-- Each of these inputs has a number of the set.
abbrev pub HasAll : List End → NumberSet → List End → Type 0
HasAll numbered set ends = (end : End) → IsAmong end ends → (number : ℕ) × HasNumber set number × (slice_get numbered number ≡ Some end)

-- Each number of the set is that of one of these inputs.
abbrev pub HasOnly : List End → NumberSet → List End → Type 0
HasOnly numbered set ends = (number : ℕ) → HasNumber set number → (end : End) × (slice_get numbered number ≡ Some end) × IsAmong end ends

-- The set has the numbers of the inputs that are kept for the input.
pub record IsKeptSet (numbered : List End) (all : List Known) (input : ℕ) (set : NumberSet) : Type 0 where
  pub known : Known
  pub there : slice_get all input ≡ Some known
  pub kept : List End
  pub keeps : known.ends ≡ Some kept
  pub has_all : HasAll numbered set kept
  pub has_only : HasOnly numbered set kept

-- The sets have, for each input that has one, the numbers of the inputs that are kept for it.
abbrev pub AreKeptSets : List End → List Known → List (Option NumberSet) → Type 0
AreKeptSets numbered all sets = (input : ℕ) (set : NumberSet) → slice_get sets input ≡ Some (Some set) → IsKeptSet numbered all input set

-- The sets of a table have the numbers of the inputs that are kept for the known inputs.
abbrev pub KeepsByNumbers : KeptSets → List Known → Type 0
KeepsByNumbers kept all = AreKeptSets kept.numbered all kept.sets.items
