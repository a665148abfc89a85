-- What is computed for one instance.
use Rattle.std.specs.Prelude.{◌≡◌, ℕ, Bool, List, slice_get, is_some, Some}
use Rattle.std.specs.List.{AllByRecursion}
use Rattle.trace_plan.specs.Keeps.{IsFitted}
use Rattle.trace_plan.specs.declared.fitting.Fitted.{Fitted}
use Rattle.trace_plan.specs.declared.fitting.Made.{Made}
use Rattle.unit_exec.specs.Images.{IsCompiled}
use Rattle.unit_tree.specs.Compositions.{Member, member_with}
use Rattle.unit_tree.specs.Names.{unit_named, unit_of_instance}
use Rattle.unit_tree.specs.declared.system.Instance.{Instance}
use Rattle.unit_tree.specs.declared.system.System.{System}
use Rattle.unit_tree.specs.declared.unit.Unit.{Unit}

-- The number is that of the first unit of the name.
pub record IsUnitNamed (units : List Unit) (name : List ℕ) (number : ℕ) : Type 0 where
  pub unit : Unit
  pub at : slice_get units number ≡ Some unit
  pub is : unit_named units name ≡ Some unit

-- What the instance of a system without event ports needs is that of its member.
pub record IsFittedFor (system : System) (instance : Instance) (fitted : Fitted) : Type 0 where
  pub member : Member
  pub is : member_with system instance (unit_of_instance system instance) ≡ Some member
  pub fits : IsFitted member fitted

-- Each of the images is that of its unit of the system, with its words of the parameters.
abbrev pub AreImagesOf : System → List Made → Type 0
AreImagesOf system made = AllByRecursion (λ (one : Made). IsCompiled system one.unit one.params.items one.image.value) made

-- The code of the instance computes a limit.
abbrev pub tells_max : Fitted → Bool
tells_max fitted = is_some fitted.image.value.program.limit
