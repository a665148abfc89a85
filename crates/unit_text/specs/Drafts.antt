-- Drafts: the system of the lines of a text that were read so far, and how one more line changes it.
use Rattle.std.specs.Prelude.{◌≡◌, ⊤, ℕ, Bool, true, false, List, [], ◌∷◌, ◌++◌, length, Option, Some, None, Result, Ok, Err, if◌then◌else◌, nat_lt}
use Rattle.std.specs.Prelude.{option_and_then}
use Rattle.std.specs.Option.{option_map}
use Rattle.model_rules.specs.Limits.{block_limit}
use Rattle.fixed_words.specs.declared.types.Literal.{Literal}
use Rattle.text_tokens.specs.declared.fault.Unread.{Unread}
use Rattle.text_tokens.specs.declared.fault.Unread.TheVariants as unread
use Rattle.unit_tree.specs.Parts.{bare_system, bare_unit}
use Rattle.unit_tree.specs.declared.expr.Expr.{Expr}
use Rattle.unit_tree.specs.declared.line.Line.{Line}
use Rattle.unit_tree.specs.declared.line.Line as line
use Rattle.unit_tree.specs.declared.line_form.LineForm.{LineForm}
use Rattle.unit_tree.specs.declared.line_form.LineForm.TheVariants as form
use Rattle.unit_tree.specs.declared.system.Instance.{Instance}
use Rattle.unit_tree.specs.declared.system.PortName.{PortName}
use Rattle.unit_tree.specs.declared.system.Setting.{Setting}
use Rattle.unit_tree.specs.declared.system.System.{System}
use Rattle.unit_tree.specs.declared.system.Wire.{Wire}
use Rattle.unit_tree.specs.declared.unit.EventIn.{EventIn}
use Rattle.unit_tree.specs.declared.unit.EventOut.{EventOut}
use Rattle.unit_tree.specs.declared.unit.Input.{Input}
use Rattle.unit_tree.specs.declared.unit.Local.{Local}
use Rattle.unit_tree.specs.declared.unit.Output.{Output}
use Rattle.unit_tree.specs.declared.unit.Param.{Param}
use Rattle.unit_tree.specs.declared.unit.State.{State}
use Rattle.unit_tree.specs.declared.unit.Unit.{Unit}
use Rattle.unit_text.specs.declared.draft.Around.{Around}
use Rattle.unit_text.specs.declared.draft.Draft.{Draft}
use Rattle.unit_text.specs.declared.draft.Head.{Head}
use Rattle.unit_text.specs.declared.draft.Head.TheVariants.{Then, Else, Times}
use Rattle.unit_text.specs.declared.draft.OpenBlock.{OpenBlock}
use Rattle.unit_text.specs.declared.draft.OpenBlock.TheVariants as block
use Rattle.unit_text.specs.declared.draft.StepSoFar.{StepSoFar}

abbrev pub bare_draft : ℕ → Draft
bare_draft version = record { system = bare_system version; block = block.Top }

abbrev pub at_top : System → Draft
at_top system = record { system = system; block = block.Top }

abbrev pub in_unit : System → Unit → Draft
in_unit system unit = record { system = system; block = block.Unit unit }

abbrev pub in_step : System → Unit → StepSoFar → Draft
in_step system unit step = record { system = system; block = block.Step unit step }

abbrev pub in_instance : System → Instance → Draft
in_instance system instance = record { system = system; block = block.Instance instance }

-- A change gives the new value, or fails exactly where `None` is expected. Without memory it states nothing.
abbrev pub Puts : {A X : Type 0} → Result A Unread → X → Option X → Type 0
Puts (Ok done) new wanted = wanted ≡ Some new
Puts (Err unread.NoForm) new wanted = wanted ≡ None
Puts (Err unread.NoMemory) new wanted = ⊤

-- An item that may occur once: the new value where there was none before.
abbrev pub once : {A B : Type 0} → Option A → B → Option B
once (Some said) now = None
once None now = Some now

-- ---- Outside blocks

abbrev pub with_wire : System → Wire → System
with_wire system wire = record system { wires = system.wires ++ (wire ∷ []) }

abbrev pub with_stop : System → Literal → Option System
with_stop system seconds = once system.stop (record system { stop = Some seconds })

abbrev pub with_longest : System → Literal → Option System
with_longest system seconds = once system.longest (record system { longest = Some seconds })

abbrev pub with_zero : System → ℕ → Option System
with_zero system count = once system.zero (record system { zero = Some count })

abbrev pub with_rows : System → ℕ → Option System
with_rows system count = once system.rows (record system { rows = Some count })

abbrev pub with_sample : System → PortName → System
with_sample system port = record system { samples = system.samples ++ (port ∷ []) }

abbrev pub bare_instance : List ℕ → List ℕ → Instance
bare_instance name unit = record { name = name; unit = unit; settings = [] }

-- With a limit of the run, each of which may occur once.
abbrev pub limit_form : System → LineForm → Option System
limit_form system (form.Stop seconds) = with_stop system seconds
limit_form system (form.Longest seconds) = with_longest system seconds
limit_form system (form.Zero count) = with_zero system count
limit_form system (form.Rows count) = with_rows system count
limit_form system _ = None

-- With a line that opens no block.
abbrev pub single_form : System → LineForm → Option System
single_form system (form.Connect wire) = Some (with_wire system wire)
single_form system (form.Sample port) = Some (with_sample system port)
single_form system some = limit_form system some

abbrev pub top_form : System → LineForm → Option Draft
top_form system (form.Unit name) = Some (in_unit system (bare_unit name))
top_form system (form.Instance name unit) = Some (in_instance system (bare_instance name unit))
top_form system some = option_map at_top (single_form system some)

-- ---- In a unit

abbrev pub with_resolution : Unit → ℕ → Option Unit
with_resolution unit decimals = once unit.resolution (record unit { resolution = Some decimals })

abbrev pub with_param : Unit → Param → Unit
with_param unit param = record unit { params = unit.params ++ (param ∷ []) }

abbrev pub with_state : Unit → State → Unit
with_state unit state = record unit { states = unit.states ++ (state ∷ []) }

abbrev pub with_local : Unit → Local → Unit
with_local unit local = record unit { locals = unit.locals ++ (local ∷ []) }

abbrev pub with_input : Unit → Input → Unit
with_input unit input = record unit { inputs = unit.inputs ++ (input ∷ []) }

abbrev pub with_event_in : Unit → EventIn → Unit
with_event_in unit event = record unit { events_in = unit.events_in ++ (event ∷ []) }

abbrev pub with_output : Unit → Output → Unit
with_output unit output = record unit { outputs = unit.outputs ++ (output ∷ []) }

abbrev pub with_event_out : Unit → EventOut → Unit
with_event_out unit event = record unit { events_out = unit.events_out ++ (event ∷ []) }

abbrev pub with_max : Unit → Expr → Option Unit
with_max unit value = once unit.max (record unit { max = Some value })

-- With a line of a unit that opens no block.
abbrev pub declared_form : Unit → LineForm → Option Unit
declared_form unit (form.Resolution decimals) = with_resolution unit decimals
declared_form unit (form.Param param) = Some (with_param unit param)
declared_form unit (form.State state) = Some (with_state unit state)
declared_form unit (form.Local local) = Some (with_local unit local)
declared_form unit (form.Input input) = Some (with_input unit input)
declared_form unit (form.EventInput event) = Some (with_event_in unit event)
declared_form unit (form.Output output) = Some (with_output unit output)
declared_form unit (form.EventOutput event) = Some (with_event_out unit event)
declared_form unit (form.Max value) = with_max unit value
declared_form unit _ = None

abbrev pub no_step_lines : StepSoFar
no_step_lines = record { lines = []; around = [] }

abbrev pub with_step : System → Unit → Option Draft
with_step system unit = once unit.step (in_step system unit no_step_lines)

abbrev pub with_unit : System → Unit → Draft
with_unit system unit = at_top (record system { units = system.units ++ (unit ∷ []) })

abbrev pub unit_form : System → Unit → LineForm → Option Draft
unit_form system unit form.Step = with_step system unit
unit_form system unit form.End = Some (with_unit system unit)
unit_form system unit some = option_map (in_unit system) (declared_form unit some)

-- ---- In an instance

abbrev pub with_setting : Instance → Setting → Instance
with_setting instance setting = record instance { settings = instance.settings ++ (setting ∷ []) }

abbrev pub with_instance : System → Instance → Draft
with_instance system instance = at_top (record system { instances = system.instances ++ (instance ∷ []) })

-- With a setting.
abbrev pub setting_form : Instance → LineForm → Option Instance
setting_form instance (form.Setting setting) = Some (with_setting instance setting)
setting_form instance _ = None

abbrev pub instance_form : System → Instance → LineForm → Option Draft
instance_form system instance form.End = Some (with_instance system instance)
instance_form system instance some = option_map (in_instance system) (setting_form instance some)

-- ---- In steps

-- The other elements of a nonempty list, and its last one.
abbrev pub split_from : {A : Type 0} → A → List A → List A × A
split_from first [] = ([], first)
split_from first (next ∷ others) = (first ∷ (split_from next others).0, (split_from next others).1)

abbrev pub split_last : {A : Type 0} → List A → Option (List A × A)
split_last [] = None
split_last (first ∷ others) = Some (split_from first others)

abbrev pub and_line : StepSoFar → Line → StepSoFar
and_line step more = record step { lines = step.lines ++ (more ∷ []) }

-- The step with an `if` or `repeat` whose block begins, if at most fifteen are open.
abbrev pub in_block : StepSoFar → Head → Option StepSoFar
in_block step head =
    if nat_lt (length step.around) block_limit then Some (record { lines = []; around = step.around ++ (record { before = step.lines; head = head } ∷ []) }) else None

abbrev pub turned_by : List Line → List Around → List Line → Head → Option StepSoFar
turned_by lines around before (Then cond) = Some (record { lines = []; around = around ++ (record { before = before; head = Else cond lines } ∷ []) })
turned_by lines around before _ = None

abbrev pub turned : StepSoFar → Option StepSoFar
turned step = option_and_then (λ split. turned_by step.lines split.0 split.1.before split.1.head) (split_last step.around)

abbrev pub headed : Head → List Line → Line
headed (Then cond) lines = line.If cond lines None
headed (Else cond then_lines) lines = line.If cond then_lines (Some lines)
headed (Times count) lines = line.Repeat count lines

-- The step after the end of the innermost block, which becomes a line of the block around it.
abbrev pub behind_block : List Around → Around → List Line → StepSoFar
behind_block around block lines = record { lines = block.before ++ (headed block.head lines ∷ []); around = around }

abbrev pub ended_by : System → Unit → List Line → Option (List Around × Around) → Draft
ended_by system unit lines None = in_unit system (record unit { step = Some lines })
ended_by system unit lines (Some split) = in_step system unit (behind_block split.0 split.1 lines)

abbrev pub ended : System → Unit → StepSoFar → Option Draft
ended system unit step = Some (ended_by system unit step.lines (split_last step.around))

-- The step with a line that ends no block.
abbrev pub line_in_step : StepSoFar → LineForm → Option StepSoFar
line_in_step step (form.Assign target value) = Some (and_line step (line.Assign target value))
line_in_step step (form.Accept value) = Some (and_line step (line.Accept value))
line_in_step step (form.If cond) = in_block step (Then cond)
line_in_step step (form.Repeat count) = in_block step (Times count)
line_in_step step form.Else = turned step
line_in_step step _ = None

abbrev pub step_form : System → Unit → StepSoFar → LineForm → Option Draft
step_form system unit step form.End = ended system unit step
step_form system unit step some = option_map (in_step system unit) (line_in_step step some)

-- ---- One line more

abbrev pub form_in : System → OpenBlock → LineForm → Option Draft
form_in system block.Top some = top_form system some
form_in system (block.Unit unit) some = unit_form system unit some
form_in system (block.Step unit step) some = step_form system unit step some
form_in system (block.Instance instance) some = instance_form system instance some

abbrev pub with_form : Draft → LineForm → Option Draft
with_form draft some = form_in draft.system draft.block some

-- Whether no block is open.
abbrev pub is_top : OpenBlock → Bool
is_top block.Top = true
is_top _ = false

-- The system, if no block is open.
abbrev pub whole_by : System → OpenBlock → Option System
whole_by system block = if is_top block then Some system else None

abbrev pub whole_system : Draft → Option System
whole_system draft = whole_by draft.system draft.block
