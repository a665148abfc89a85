-- Plans: what contracts see of one.
use Rattle.std.specs.Prelude.{◌≡◌, ◌≤◌, ◌^◌, ℕ, suc, Bool, ℤ, List, [], ◌∷◌, length, map, if◌then◌else◌, is_some, Some, slice_get}
use Rattle.model_rules.specs.Limits.{instance_limit, rows_limit, zero_limit}
use Rattle.fixed_words.specs.Types.{lowest, highest}
use Rattle.unit_exec.specs.Images.{Compiled, IsImageOf}
use Rattle.unit_tree.specs.Compositions.{Member, Composition}
use Rattle.unit_tree.specs.declared.system.System.{System}

-- A system, and the run of its plain form.
pub record Planned : Type 0 where
  pub system : System
  pub run : Composition

-- The bounds of the numbers of a run.
pub record IsBounded (run : Composition) : Type 0 where
  pub stop : run.stop ≤ 10 ^ 15
  pub longest : run.longest ≤ 10 ^ 15
  pub zeros : run.zero_budget ≤ zero_limit
  pub some_row : 1 ≤ run.row_budget
  pub rows : run.row_budget ≤ rows_limit
  pub some_member : 1 ≤ length run.members
  pub members : length run.members ≤ instance_limit

-- The fact holds of the member with this number.
abbrev pub ForMember : Composition → ℕ → (Member → Type 0) → Type 0
ForMember run instance Holds = (member : Member) → slice_get run.members instance ≡ Some member → Holds member

-- A member has an image: there is code that computes its component.
pub record HasImage (member : Member) : Type 0 where
  pub image : Compiled
  pub is_image : IsImageOf member.component image

abbrev pub HaveImages : Composition → Type 0
HaveImages run = (instance : ℕ) → ForMember run instance HasImage

-- The lowest and the highest words that a member's inputs may have, in their order.
abbrev pub lowest_words : Member → List ℤ
lowest_words member = map (λ input. lowest input.ty) member.component.unit.inputs

abbrev pub highest_words : Member → List ℤ
highest_words member = map (λ input. highest input.ty) member.component.unit.inputs

-- The places at which a list has `true`. The first element has the place that is given.
abbrev pub places_from : ℕ → List Bool → List ℕ
places_from place [] = []
places_from place (so ∷ rest) = if so then place ∷ places_from (suc place) rest else places_from (suc place) rest

-- The unit of a member has a `max`.
abbrev pub has_max : Member → Bool
has_max member = is_some member.component.unit.max

-- The numbers of the instances whose units have a `max`, in their order.
abbrev pub limited_in : Composition → List ℕ
limited_in run = places_from 0 (map has_max run.members)
