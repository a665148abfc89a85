-- Sound runs: each connection gives words of the input's type, and each output uses only the inputs in its needs. The plain
-- form of a well-formed system is sound.
use Rattle.std.specs.Prelude.{◌≡◌, ℕ, true, false, ℤ, List, map, length, zip, slice_get, Some, IfSome}
use Rattle.std.specs.List.{AllByRecursion, flat_map}
use Rattle.fixed_words.specs.Types.{lowest, highest, is_word_of}
use Rattle.fixed_words.specs.declared.types.Ty.{Ty}
use Rattle.unit_tree.specs.Compositions.{InputSource, Start, AtPlace, Member, Composition, run_of}
use Rattle.unit_tree.specs.Printable.{IsRanged}
use Rattle.unit_tree.specs.WellFormed.{IsWellFormed, uses_other_input}
use Rattle.unit_tree.specs.declared.system.System.{System}
use Rattle.unit_tree.specs.declared.unit.Input.{Input}

-- The types of all outputs by their places.
abbrev pub types_of_places : Composition → List Ty
types_of_places run = flat_map (λ member. map (λ output. output.ty) member.component.unit.outputs) run.members

-- The word has the type of the output at a place.
abbrev pub IsWordOf : Composition → ℕ → ℤ → Type 0
IsWordOf run place word = IfSome (slice_get (types_of_places run) place) (λ ty. is_word_of ty word ≡ true)

-- Two types have the same words.
abbrev pub HaveSameWords : Ty → Ty → Type 0
HaveSameWords one other = (lowest one ≡ lowest other) × (highest one ≡ highest other)

-- The source of an input gives words of its type: the start word has that type, and so has each word of the output that it
-- is connected to.
abbrev pub Suits : List Ty → Input × InputSource → Type 0
Suits types (input, Start word) = is_word_of input.ty word ≡ true
Suits types (input, AtPlace place) = (ty : Ty) × (slice_get types place ≡ Some ty) × HaveSameWords ty input.ty

pub record IsSoundMember (types : List Ty) (member : Member) : Type 0 where
  pub params : length member.component.params ≡ length member.component.unit.params
  pub sources : length member.sources ≡ length member.component.unit.inputs
  pub suits : AllByRecursion (Suits types) (zip member.component.unit.inputs member.sources)
  pub needs : AllByRecursion (λ output. uses_other_input member.component.unit output.needs output.value ≡ false) member.component.unit.outputs

abbrev pub IsSound : Composition → Type 0
IsSound run = AllByRecursion (IsSoundMember (types_of_places run)) run.members

-- The plain form of a system that is in range and well-formed is sound.
abbrev pub RunsAreSound : Type 0
RunsAreSound = (system : System) → IsRanged system → IsWellFormed system → IsSound (run_of system)
