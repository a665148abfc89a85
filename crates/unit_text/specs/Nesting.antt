-- Nesting: the parts of the lines of a text that were read so far, and the block that they leave open.
use Rattle.std.specs.Prelude.{ℕ, List, [], ◌∷◌, ◌++◌, map, Option, Some, None}
use Rattle.std.specs.List.{fold, flat_map}
use Rattle.unit_tree.specs.Blocks as blocks
use Rattle.unit_tree.specs.Blocks.{Block, InIf, InElse, InRepeat}
use Rattle.unit_tree.specs.Parts as parts
use Rattle.unit_tree.specs.Parts.{Part, UnitPart, line_forms, unit_part_forms, text_forms}
use Rattle.unit_tree.specs.declared.line.Line.{Line}
use Rattle.unit_tree.specs.declared.line.Line as line
use Rattle.unit_tree.specs.declared.line_form.LineForm.{LineForm}
use Rattle.unit_tree.specs.declared.line_form.LineForm.TheVariants as form
use Rattle.unit_tree.specs.declared.system.Instance.{Instance}
use Rattle.unit_text.specs.Drafts.{headed}
use Rattle.unit_text.specs.declared.draft.Around.{Around}
use Rattle.unit_text.specs.declared.draft.Head.{Head}
use Rattle.unit_text.specs.declared.draft.Head.TheVariants.{Then, Else, Times}

-- ---- What is open

-- A step so far: the lines of its innermost block, and the blocks around that one, the innermost first.
pub record Inner : Type 0 where
  pub lines : List Line
  pub around : List Around

-- The open block with its content so far.
pub data Open : Type 0 where
  AtTop : Open
  InUnit : List ℕ → List UnitPart → Open
  InStep : List ℕ → List UnitPart → Inner → Open
  InInstance : Instance → Open

-- The complete parts of a text, and the open block after them.
pub record Nested : Type 0 where
  pub version : ℕ
  pub parts : List Part
  pub block : Open

-- ---- Its lines

abbrev pub head_forms : Head → List LineForm
head_forms (Then cond) = form.If cond ∷ []
head_forms (Else cond then_lines) = form.If cond ∷ flat_map line_forms then_lines ++ (form.Else ∷ [])
head_forms (Times count) = form.Repeat count ∷ []

abbrev pub around_forms : List Around → List LineForm
around_forms [] = []
around_forms (block ∷ others) = around_forms others ++ flat_map line_forms block.before ++ head_forms block.head

abbrev pub open_forms : Open → List LineForm
open_forms AtTop = []
open_forms (InUnit name unit_parts) = form.Unit name ∷ flat_map unit_part_forms unit_parts
open_forms (InStep name unit_parts inner) =
    form.Unit name ∷ flat_map unit_part_forms unit_parts ++ (form.Step ∷ around_forms inner.around ++ flat_map line_forms inner.lines)
open_forms (InInstance instance) = form.Instance instance.name instance.unit ∷ map form.Setting instance.settings

-- Its lines.
abbrev pub nested_forms : Nested → List LineForm
nested_forms nested = text_forms nested.version nested.parts ++ open_forms nested.block

-- ---- One line more

abbrev pub and_part : Nested → Part → Nested
and_part nested part = record nested { parts = nested.parts ++ (part ∷ []); block = AtTop }

abbrev pub opened : Nested → Open → Nested
opened nested block = record nested { block = block }

-- With a line at the top. A line that is not allowed there changes nothing; so it is in the definitions
-- below.
abbrev pub at_top : Nested → LineForm → Nested
at_top nested (form.Unit name) = opened nested (InUnit name [])
at_top nested (form.Instance name unit) = opened nested (InInstance (record { name = name; unit = unit; settings = [] }))
at_top nested (form.Connect wire) = and_part nested (parts.Connects wire)
at_top nested (form.Stop seconds) = and_part nested (parts.Stop seconds)
at_top nested (form.Longest seconds) = and_part nested (parts.Longest seconds)
at_top nested (form.Zero count) = and_part nested (parts.Zero count)
at_top nested (form.Rows count) = and_part nested (parts.Rows count)
at_top nested (form.Sample port) = and_part nested (parts.Samples port)
at_top nested _ = nested

abbrev pub and_unit_part : Nested → List ℕ → List UnitPart → UnitPart → Nested
and_unit_part nested name unit_parts part = opened nested (InUnit name (unit_parts ++ (part ∷ [])))

abbrev pub in_unit : Nested → List ℕ → List UnitPart → LineForm → Nested
in_unit nested name unit_parts (form.Resolution decimals) = and_unit_part nested name unit_parts (parts.Resolution decimals)
in_unit nested name unit_parts (form.Param param) = and_unit_part nested name unit_parts (parts.HasParam param)
in_unit nested name unit_parts (form.State state) = and_unit_part nested name unit_parts (parts.HasState state)
in_unit nested name unit_parts (form.Local local) = and_unit_part nested name unit_parts (parts.HasLocal local)
in_unit nested name unit_parts (form.Input input) = and_unit_part nested name unit_parts (parts.HasInput input)
in_unit nested name unit_parts (form.EventInput event) = and_unit_part nested name unit_parts (parts.HasEventIn event)
in_unit nested name unit_parts (form.Output output) = and_unit_part nested name unit_parts (parts.HasOutput output)
in_unit nested name unit_parts (form.EventOutput event) = and_unit_part nested name unit_parts (parts.HasEventOut event)
in_unit nested name unit_parts (form.Max value) = and_unit_part nested name unit_parts (parts.Max value)
in_unit nested name unit_parts form.Step = opened nested (InStep name unit_parts (record { lines = []; around = [] }))
in_unit nested name unit_parts form.End = and_part nested (parts.HasUnit name unit_parts)
in_unit nested name unit_parts _ = nested

abbrev pub and_line : Inner → Line → Inner
and_line inner more = record inner { lines = inner.lines ++ (more ∷ []) }

abbrev pub block_in : Inner → Head → Inner
block_in inner head = record { lines = []; around = record { before = inner.lines; head = head } ∷ inner.around }

-- `else`, which ends the lines after an `if` and begins others.
abbrev pub turned : List Line → List Around → List Around
turned lines [] = []
turned lines (block ∷ others) = turned_by block.head
  where
    turned_by : Head → List Around
    turned_by (Then cond) = record { before = block.before; head = Else cond lines } ∷ others
    turned_by head = block ∷ others

-- `end`: the innermost block becomes a line of the block around it. `None` where the step itself ends.
abbrev pub ended : List Line → List Around → Option Inner
ended lines [] = None
ended lines (block ∷ others) = Some (record { lines = block.before ++ (headed block.head lines ∷ []); around = others })

-- A step with one more line. `None` where the line ends it.
abbrev pub and_step_form : Inner → LineForm → Option Inner
and_step_form inner (form.Assign target value) = Some (and_line inner (line.Assign target value))
and_step_form inner (form.Accept value) = Some (and_line inner (line.Accept value))
and_step_form inner (form.If cond) = Some (block_in inner (Then cond))
and_step_form inner (form.Repeat count) = Some (block_in inner (Times count))
and_step_form inner form.Else = Some (record { lines = []; around = turned inner.lines inner.around })
and_step_form inner form.End = ended inner.lines inner.around
and_step_form inner _ = Some inner

abbrev pub in_step : Nested → List ℕ → List UnitPart → List Line → Option Inner → Nested
in_step nested name unit_parts lines (Some inner) = opened nested (InStep name unit_parts inner)
in_step nested name unit_parts lines None = and_unit_part nested name unit_parts (parts.Step lines)

abbrev pub in_instance : Nested → Instance → LineForm → Nested
in_instance nested instance (form.Setting setting) =
    opened nested (InInstance (record instance { settings = instance.settings ++ (setting ∷ []) }))
in_instance nested instance form.End = and_part nested (parts.HasInstance instance)
in_instance nested instance _ = nested

abbrev pub and_form_in : Nested → Open → LineForm → Nested
and_form_in nested AtTop some = at_top nested some
and_form_in nested (InUnit name unit_parts) some = in_unit nested name unit_parts some
and_form_in nested (InStep name unit_parts inner) some = in_step nested name unit_parts inner.lines (and_step_form inner some)
and_form_in nested (InInstance instance) some = in_instance nested instance some

abbrev pub and_form : Nested → LineForm → Nested
and_form nested some = and_form_in nested nested.block some

-- ---- A text

abbrev pub headed_by : ℕ → Nested
headed_by version = record { version = version; parts = []; block = AtTop }

-- The nesting of lines after the header of a version.
abbrev pub nested_by : ℕ → List LineForm → Nested
nested_by version forms = fold and_form (headed_by version) forms

-- The blocks that are open there, the innermost first.
abbrev pub block_of : Head → Block
block_of (Then cond) = InIf
block_of (Else cond then_lines) = InElse
block_of (Times count) = InRepeat

abbrev pub blocks_of : Open → List Block
blocks_of AtTop = []
blocks_of (InUnit name unit_parts) = blocks.InUnit ∷ []
blocks_of (InStep name unit_parts inner) = map (λ block. block_of block.head) inner.around ++ (blocks.InStep ∷ blocks.InUnit ∷ [])
blocks_of (InInstance instance) = blocks.InInstance ∷ []
