-- The canonical lines of a system, each with the block that it is in and the lines before it there. The rules of a
-- system are stated with them.
use Rattle.std.specs.Prelude.{◌≡◌, ◌⊎◌, ⊤, Bool, true, false, not, List, [], ◌∷◌, ◌++◌, map, length, Some, IsTrue}
use Rattle.std.specs.List.{AllByRecursion, slice_get, flat_map, filter}
use Rattle.unit_tree.specs.Blocks.{Block, InUnit, InStep, InIf, InElse, InRepeat, InInstance}
use Rattle.unit_tree.specs.Canonical.{canonical_parts}
use Rattle.unit_tree.specs.Parts.{Part, HasUnit, HasInstance, UnitPart, Step, line_forms, unit_part_forms, part_forms, unit_of}
use Rattle.unit_tree.specs.declared.line_form.LineForm.{LineForm}
use Rattle.unit_tree.specs.declared.line_form.LineForm.TheVariants as form
use Rattle.unit_tree.specs.declared.system.Instance.{Instance}
use Rattle.unit_tree.specs.declared.system.System.{System}
use Rattle.unit_tree.specs.declared.unit.Unit.{Unit}

-- The scope of a line: no block, a unit, a unit's step (between `step` and its own `end`), or an instance.
pub data Scope : Type 0 where
  TopScope : Scope
  UnitScope : Unit → Scope
  StepScope : Unit → Scope
  InstanceScope : Instance → Scope

-- A line, and the lines of the same scope that come before it.
pub record Site : Type 0 where
  pub scope : Scope
  pub earlier : List LineForm
  pub line : LineForm

-- A line with the sites of the block that it opens.
pub record Headed : Type 0 where
  pub head : LineForm
  pub block : List Site

abbrev pub alone : LineForm → Headed
alone line = record { head = line; block = [] }

-- The sites of lines in a scope, after earlier lines there.
abbrev pub sites : Scope → List LineForm → List Headed → List Site
sites scope earlier [] = []
sites scope earlier (headed ∷ others) =
    record { scope = scope; earlier = earlier; line = headed.head } ∷ headed.block ++ sites scope (earlier ++ (headed.head ∷ [])) others

-- The lines of a part of a unit. `step` has the step lines in its block.
abbrev pub headed_unit_part : Unit → UnitPart → List Headed
headed_unit_part unit (Step lines) =
    record { head = form.Step; block = sites (StepScope unit) [] (map alone (flat_map line_forms lines)) } ∷ alone form.End ∷ []
headed_unit_part unit part = map alone (unit_part_forms part)

-- The lines of a part of a text. A unit and an instance have their lines and their `end` in their block.
abbrev pub headed_part : Part → List Headed
headed_part (HasUnit name parts) = record {
  head = form.Unit name;
  block = sites (UnitScope (unit_of name parts)) [] (flat_map (headed_unit_part (unit_of name parts)) parts ++ (alone form.End ∷ []));
} ∷ []
headed_part (HasInstance instance) = record {
  head = form.Instance instance.name instance.unit;
  block = sites (InstanceScope instance) [] (map alone (map form.Setting instance.settings ++ (form.End ∷ [])));
} ∷ []
headed_part part = map alone (part_forms part)

-- The sites of a system, one for each canonical line.
abbrev pub sites_of : System → List Site
sites_of system = sites TopScope [] (alone (form.Header system.version) ∷ flat_map headed_part (canonical_parts system))

-- ---- Where a site is

abbrev pub is_step_line : LineForm → Bool
is_step_line (form.Assign target value) = true
is_step_line (form.If cond) = true
is_step_line form.Else = true
is_step_line (form.Repeat count) = true
is_step_line (form.Accept value) = true
is_step_line form.End = true
is_step_line _ = false

abbrev pub is_end : LineForm → Bool
is_end form.End = true
is_end _ = false

-- Whether a line has the scope, where these blocks are open, the innermost first. The `end` of a step is in the unit,
-- as its `step` is, and those of `if` and `repeat` are in the step. The `end` of a unit or an instance is in the block
-- that it closes.
abbrev pub is_scope_in : List Block → Scope → LineForm → Bool
is_scope_in [] TopScope line = true
is_scope_in (InUnit ∷ blocks) (UnitScope unit) line = true
is_scope_in (InStep ∷ blocks) (UnitScope unit) line = is_end line
is_scope_in (InStep ∷ blocks) (StepScope unit) line = not (is_end line)
is_scope_in (InIf ∷ blocks) (StepScope unit) line = true
is_scope_in (InElse ∷ blocks) (StepScope unit) line = true
is_scope_in (InRepeat ∷ blocks) (StepScope unit) line = true
is_scope_in (InInstance ∷ blocks) (InstanceScope instance) line = true
is_scope_in _ _ _ = false

-- A scope may have lines of the form. Each form but `end` is allowed in one kind of scope.
abbrev pub holds : Scope → LineForm → Bool
holds (UnitScope unit) (form.Resolution decimals) = true
holds (UnitScope unit) (form.Param param) = true
holds (UnitScope unit) (form.State state) = true
holds (UnitScope unit) (form.Local local) = true
holds (UnitScope unit) (form.Input input) = true
holds (UnitScope unit) (form.EventInput event) = true
holds (UnitScope unit) (form.Output output) = true
holds (UnitScope unit) (form.EventOutput event) = true
holds (UnitScope unit) (form.Max value) = true
holds (UnitScope unit) form.Step = true
holds (UnitScope unit) form.End = true
holds (StepScope unit) line = is_step_line line
holds (InstanceScope instance) (form.Setting setting) = true
holds (InstanceScope instance) form.End = true
holds TopScope (form.Header version) = true
holds TopScope (form.Unit name) = true
holds TopScope (form.Instance name unit) = true
holds TopScope (form.Connect wire) = true
holds TopScope (form.Stop seconds) = true
holds TopScope (form.Longest seconds) = true
holds TopScope (form.Zero count) = true
holds TopScope (form.Rows count) = true
holds TopScope (form.Sample port) = true
holds _ _ = false

abbrev pub is_unit_line : LineForm → Bool
is_unit_line (form.Unit name) = true
is_unit_line _ = false

abbrev pub is_instance_line : LineForm → Bool
is_instance_line (form.Instance name unit) = true
is_instance_line _ = false

-- The site opens the block of the scope: it is the `step` of a unit, or the line of a unit or an instance that has,
-- among such lines, the number of the scope's unit or instance in the system.
abbrev pub IsOpenedBy : System → Scope → Site → Type 0
IsOpenedBy system TopScope head = ⊥
IsOpenedBy system (UnitScope unit) head =
    (head.scope ≡ TopScope) × (head.line ≡ form.Unit unit.name) × (slice_get system.units (length (filter is_unit_line head.earlier)) ≡ Some unit)
IsOpenedBy system (StepScope unit) head = (head.scope ≡ UnitScope unit) × (head.line ≡ form.Step)
IsOpenedBy system (InstanceScope instance) head =
    (head.scope ≡ TopScope) × (head.line ≡ form.Instance instance.name instance.unit)
    × (slice_get system.instances (length (filter is_instance_line head.earlier)) ≡ Some instance)

-- What comes before a block ends with the site that opens it. Nothing comes before the text.
abbrev pub Opens : System → Scope → List Site → Type 0
Opens system TopScope outside = outside ≡ []
Opens system scope outside = (front : List Site) × (head : Site) × (outside ≡ front ++ (head ∷ [])) × IsOpenedBy system scope head

-- The second scope is the first one, or a block inside it.
abbrev pub IsWithin : Scope → Scope → Type 0
IsWithin TopScope scope = ⊤
IsWithin (UnitScope unit) scope = (scope ≡ UnitScope unit) ⊎ (scope ≡ StepScope unit)
IsWithin (StepScope unit) scope = scope ≡ StepScope unit
IsWithin (InstanceScope instance) scope = scope ≡ InstanceScope instance

-- Two scopes are blocks of the same kind.
abbrev pub are_level : Scope → Scope → Bool
are_level TopScope TopScope = true
are_level (UnitScope unit) (UnitScope other) = true
are_level (StepScope unit) (StepScope other) = true
are_level (InstanceScope instance) (InstanceScope other) = true
are_level _ _ = false

-- How a site follows the sites before it. Its block was opened before it and is still open. The lines that count as
-- earlier are those of the block itself, in their order.
pub record StandsBehind (system : System) (before : List Site) (site : Site) : Type 0 where
  pub outside : List Site
  pub inside : List Site
  pub cut : before ≡ outside ++ inside
  pub opened : Opens system site.scope outside
  pub within : AllByRecursion (λ other. IsWithin site.scope other.scope) inside
  pub earlier : site.earlier ≡ map (λ other. other.line) (filter (λ other. are_level site.scope other.scope) inside)
  pub held : IsTrue (holds site.scope site.line)
