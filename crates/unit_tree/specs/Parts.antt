-- Nesting: the parts of a text, the lines of each part, and the system of the parts. A system doesn't keep
-- the order of parts of different kinds; each of its lists keeps the order of its elements.
use Rattle.std.specs.Prelude.{ℕ, List, [], ◌∷◌, ◌++◌, map, Option, Some, None}
use Rattle.std.specs.List.{flat_map}
use Rattle.fixed_words.specs.declared.types.Literal.{Literal}
use Rattle.unit_tree.specs.declared.expr.Expr.{Expr}
use Rattle.unit_tree.specs.declared.line.Line.{Line, fold-Line}
use Rattle.unit_tree.specs.declared.line.Line.TheOpen.{Line-F}
use Rattle.unit_tree.specs.declared.line_form.LineForm.{LineForm}
use Rattle.unit_tree.specs.declared.line_form.LineForm.TheVariants as form
use Rattle.unit_tree.specs.declared.system.Instance.{Instance}
use Rattle.unit_tree.specs.declared.system.PortName.{PortName}
use Rattle.unit_tree.specs.declared.system.System.{System}
use Rattle.unit_tree.specs.declared.system.Wire.{Wire}
use Rattle.unit_tree.specs.declared.unit.EventIn.{EventIn}
use Rattle.unit_tree.specs.declared.unit.EventOut.{EventOut}
use Rattle.unit_tree.specs.declared.unit.Input.{Input}
use Rattle.unit_tree.specs.declared.unit.Local.{Local}
use Rattle.unit_tree.specs.declared.unit.Output.{Output}
use Rattle.unit_tree.specs.declared.unit.Param.{Param}
use Rattle.unit_tree.specs.declared.unit.State.{State}
use Rattle.unit_tree.specs.declared.unit.Unit.{Unit}

-- ---- Step lines

abbrev pub joined : {A : Type 0} → List (List A) → List A
joined lists = flat_map (λ list. list) lists

-- `else` and the lines of its block.
abbrev pub else_forms : Option (List (List LineForm)) → List LineForm
else_forms None = []
else_forms (Some lines) = form.Else ∷ joined lines

-- One line with the lines of its block, where each line in the block is given as all of its lines.
abbrev pub block_forms : Line-F (List LineForm) → List LineForm
block_forms (Line-F.Assign target value) = form.Assign target value ∷ []
block_forms (Line-F.If cond then_lines else_lines) = form.If cond ∷ joined then_lines ++ else_forms else_lines ++ (form.End ∷ [])
block_forms (Line-F.Repeat count body) = form.Repeat count ∷ joined body ++ (form.End ∷ [])
block_forms (Line-F.Accept value) = form.Accept value ∷ []

abbrev pub line_forms : Line → List LineForm
line_forms = fold-Line (List LineForm) block_forms

-- ---- Parts of a unit

pub data UnitPart : Type 0 where
  Resolution : ℕ → UnitPart
  HasParam : Param → UnitPart
  HasState : State → UnitPart
  HasLocal : Local → UnitPart
  HasInput : Input → UnitPart
  HasEventIn : EventIn → UnitPart
  HasOutput : Output → UnitPart
  HasEventOut : EventOut → UnitPart
  Max : Expr → UnitPart
  Step : List Line → UnitPart

-- The lines of a part.
abbrev pub unit_part_forms : UnitPart → List LineForm
unit_part_forms (Resolution decimals) = form.Resolution decimals ∷ []
unit_part_forms (HasParam param) = form.Param param ∷ []
unit_part_forms (HasState state) = form.State state ∷ []
unit_part_forms (HasLocal local) = form.Local local ∷ []
unit_part_forms (HasInput input) = form.Input input ∷ []
unit_part_forms (HasEventIn event) = form.EventInput event ∷ []
unit_part_forms (HasOutput output) = form.Output output ∷ []
unit_part_forms (HasEventOut event) = form.EventOutput event ∷ []
unit_part_forms (Max value) = form.Max value ∷ []
unit_part_forms (Step lines) = form.Step ∷ flat_map line_forms lines ++ (form.End ∷ [])

-- A unit that has nothing but its name.
abbrev pub bare_unit : List ℕ → Unit
bare_unit name = record {
  name = name;
  resolution = None;
  params = [];
  states = [];
  locals = [];
  inputs = [];
  events_in = [];
  outputs = [];
  events_out = [];
  max = None;
  step = None;
}

-- A unit with one more part, which comes before those that it has.
abbrev pub with_unit_part : UnitPart → Unit → Unit
with_unit_part (Resolution decimals) unit = record unit { resolution = Some decimals }
with_unit_part (HasParam param) unit = record unit { params = param ∷ unit.params }
with_unit_part (HasState state) unit = record unit { states = state ∷ unit.states }
with_unit_part (HasLocal local) unit = record unit { locals = local ∷ unit.locals }
with_unit_part (HasInput input) unit = record unit { inputs = input ∷ unit.inputs }
with_unit_part (HasEventIn event) unit = record unit { events_in = event ∷ unit.events_in }
with_unit_part (HasOutput output) unit = record unit { outputs = output ∷ unit.outputs }
with_unit_part (HasEventOut event) unit = record unit { events_out = event ∷ unit.events_out }
with_unit_part (Max value) unit = record unit { max = Some value }
with_unit_part (Step lines) unit = record unit { step = Some lines }

-- The unit with these parts.
abbrev pub unit_of : List ℕ → List UnitPart → Unit
unit_of name [] = bare_unit name
unit_of name (part ∷ parts) = with_unit_part part (unit_of name parts)

-- ---- Parts of a text

pub data Part : Type 0 where
  HasUnit : List ℕ → List UnitPart → Part
  HasInstance : Instance → Part
  Connects : Wire → Part
  Stop : Literal → Part
  Longest : Literal → Part
  Zero : ℕ → Part
  Rows : ℕ → Part
  Samples : PortName → Part

-- The lines of a part.
abbrev pub part_forms : Part → List LineForm
part_forms (HasUnit name parts) = form.Unit name ∷ flat_map unit_part_forms parts ++ (form.End ∷ [])
part_forms (HasInstance instance) =
    form.Instance instance.name instance.unit ∷ map form.Setting instance.settings ++ (form.End ∷ [])
part_forms (Connects wire) = form.Connect wire ∷ []
part_forms (Stop seconds) = form.Stop seconds ∷ []
part_forms (Longest seconds) = form.Longest seconds ∷ []
part_forms (Zero count) = form.Zero count ∷ []
part_forms (Rows count) = form.Rows count ∷ []
part_forms (Samples port) = form.Sample port ∷ []

-- A system that has nothing but its version.
abbrev pub bare_system : ℕ → System
bare_system version = record {
  version = version;
  units = [];
  instances = [];
  wires = [];
  stop = None;
  longest = None;
  zero = None;
  rows = None;
  samples = [];
}

-- A system with one more part, which comes before those that it has.
abbrev pub with_part : Part → System → System
with_part (HasUnit name parts) system = record system { units = unit_of name parts ∷ system.units }
with_part (HasInstance instance) system = record system { instances = instance ∷ system.instances }
with_part (Connects wire) system = record system { wires = wire ∷ system.wires }
with_part (Stop seconds) system = record system { stop = Some seconds }
with_part (Longest seconds) system = record system { longest = Some seconds }
with_part (Zero count) system = record system { zero = Some count }
with_part (Rows count) system = record system { rows = Some count }
with_part (Samples port) system = record system { samples = port ∷ system.samples }

-- The system of a version with these parts.
abbrev pub system_of : ℕ → List Part → System
system_of version [] = bare_system version
system_of version (part ∷ parts) = with_part part (system_of version parts)

-- The lines of a text: the header with the version, and the lines of its parts.
abbrev pub text_forms : ℕ → List Part → List LineForm
text_forms version parts = form.Header version ∷ flat_map part_forms parts
