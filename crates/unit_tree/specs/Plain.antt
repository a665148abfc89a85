-- The plain form of a system: a system of version 2 without event ports, which is what is run. Each event port `p` is
-- two plain ports there: `p?`, a truth value that is true where an event occurs, and then `p`, the event's word, or 0
-- without an event.
use Rattle.std.specs.Prelude.{ℕ, zero, suc, ◌==◌, Bool, true, false, pos, List, [], ◌∷◌, ◌++◌, map, if◌then◌else◌}
use Rattle.std.specs.List.{flat_map}
use Rattle.std.specs.Option.{option_map, unwrap_or}
use Rattle.fixed_words.specs.declared.types.Literal.{Literal}
use Rattle.fixed_words.specs.declared.types.Literal.TheVariants as literal
use Rattle.fixed_words.specs.declared.types.Ty.{Ty}
use Rattle.fixed_words.specs.declared.types.Ty.TheVariants as types
use Rattle.unit_tree.specs.Names.{is_among, is_empty, event_input_names, output_at}
use Rattle.unit_tree.specs.Orders.{outputs_of}
use Rattle.unit_tree.specs.Sites.{Scope, UnitScope}
use Rattle.unit_tree.specs.declared.expr.Expr.{Expr, fold-Expr}
use Rattle.unit_tree.specs.declared.expr.Expr as expr
use Rattle.unit_tree.specs.declared.expr.Expr.TheOpen.{Expr-F}
use Rattle.unit_tree.specs.declared.expr.UnOp.TheVariants as of
use Rattle.unit_tree.specs.declared.line.Line.{Line, fold-Line}
use Rattle.unit_tree.specs.declared.line.Line as line
use Rattle.unit_tree.specs.declared.line.Line.TheOpen.{Line-F}
use Rattle.unit_tree.specs.declared.line_form.LineForm.{LineForm}
use Rattle.unit_tree.specs.declared.line_form.LineForm.TheVariants as form
use Rattle.unit_tree.specs.declared.system.PortName.{PortName}
use Rattle.unit_tree.specs.declared.system.System.{System}
use Rattle.unit_tree.specs.declared.system.Wire.{Wire}
use Rattle.unit_tree.specs.declared.unit.EventIn.{EventIn}
use Rattle.unit_tree.specs.declared.unit.EventOut.{EventOut}
use Rattle.unit_tree.specs.declared.unit.Input.{Input}
use Rattle.unit_tree.specs.declared.unit.Output.{Output}
use Rattle.unit_tree.specs.declared.unit.Unit.{Unit}

-- ---- Expressions

-- The name of the port that is true where an event occurs: `p?`, which no text can spell.
abbrev pub presence_name : List ℕ → List ℕ
presence_name name = name ++ (63 ∷ [])

-- The expression of one node and its parts.
abbrev pub rebuilt : Expr-F Expr → Expr
rebuilt (Expr-F.Number word decimals) = expr.Number word decimals
rebuilt (Expr-F.Truth told) = expr.Truth told
rebuilt (Expr-F.Var name) = expr.Var name
rebuilt Expr-F.Time = expr.Time
rebuilt Expr-F.Step = expr.Step
rebuilt (Expr-F.Unary op arg) = expr.Unary op arg
rebuilt (Expr-F.Binary op left right) = expr.Binary op left right
rebuilt (Expr-F.Clamp value low high) = expr.Clamp value low high
rebuilt (Expr-F.Choose cond then_part else_part) = expr.Choose cond then_part else_part
rebuilt Expr-F.Absent = expr.Absent
rebuilt (Expr-F.Present name) = expr.Present name

-- `present(u)` becomes the name `u?`.
abbrev pub node_plain : Expr-F Expr → Expr
node_plain (Expr-F.Present name) = expr.Var (presence_name name)
node_plain node = rebuilt node

abbrev pub plain_expression : Expr → Expr
plain_expression = fold-Expr Expr node_plain

-- An event output's expression, and the same expression with each of its choices changed. The one choice of an
-- expression is the expression itself; but an `if` has the choices of both its branches.
pub record Choices : Type 0 where
  pub whole : Expr
  pub changed : Expr

abbrev pub chosen : (Expr → Expr) → Expr → Choices
chosen change whole = record { whole = whole; changed = change whole }

-- One node: `absent` becomes `gap`, and any other choice is changed by `change`.
abbrev pub node_choices : Expr → (Expr → Expr) → Expr-F Choices → Choices
node_choices gap change (Expr-F.Number word decimals) = chosen change (expr.Number word decimals)
node_choices gap change (Expr-F.Truth told) = chosen change (expr.Truth told)
node_choices gap change (Expr-F.Var name) = chosen change (expr.Var name)
node_choices gap change Expr-F.Time = chosen change expr.Time
node_choices gap change Expr-F.Step = chosen change expr.Step
node_choices gap change (Expr-F.Unary op arg) = chosen change (expr.Unary op arg.whole)
node_choices gap change (Expr-F.Binary op left right) = chosen change (expr.Binary op left.whole right.whole)
node_choices gap change (Expr-F.Clamp value low high) = chosen change (expr.Clamp value.whole low.whole high.whole)
node_choices gap change (Expr-F.Choose cond then_part else_part) = record {
  whole = expr.Choose cond.whole then_part.whole else_part.whole;
  changed = expr.Choose cond.whole then_part.changed else_part.changed;
}
node_choices gap change Expr-F.Absent = record { whole = expr.Absent; changed = gap }
node_choices gap change (Expr-F.Present name) = chosen change (expr.Present name)

abbrev pub with_choices : Expr → (Expr → Expr) → Expr → Expr
with_choices gap change value = (fold-Expr Choices (node_choices gap change) value).changed

-- Whether an event occurs: false for `absent`, and true for every other choice.
abbrev pub presence_of : Expr → Expr
presence_of value = with_choices (expr.Truth false) (λ other. expr.Truth true) value

-- The zero of a type's kind.
abbrev pub zero_of : Ty → Expr
zero_of types.Bool = expr.Truth false
zero_of (types.Fixed zero) = expr.Unary (of.ToFix 0) (expr.Number (pos 0) 0)
zero_of (types.Fixed (suc less)) = expr.Number (pos 0) (suc less)
zero_of _ = expr.Number (pos 0) 0

-- The event's word, with the zero of the type's kind for `absent`.
abbrev pub word_expression_of : Ty → Expr → Expr
word_expression_of ty value = with_choices (zero_of ty) (λ other. other) value

-- ---- Step lines

abbrev pub node_plain_line : Line-F Line → Line
node_plain_line (Line-F.Assign target value) = line.Assign target (plain_expression value)
node_plain_line (Line-F.If cond then_lines else_lines) = line.If (plain_expression cond) then_lines else_lines
node_plain_line (Line-F.Repeat count body) = line.Repeat count body
node_plain_line (Line-F.Accept value) = line.Accept (plain_expression value)

abbrev pub plain_line : Line → Line
plain_line = fold-Line Line node_plain_line

-- ---- Units

-- The start literal of the plain input, which it has where no event occurs.
abbrev pub no_event : Ty → Literal
no_event types.Bool = literal.Truth false
no_event _ = literal.Number (pos 0) 0

abbrev pub plain_inputs : EventIn → List Input
plain_inputs event =
    record { name = presence_name event.name; ty = types.Bool; start = literal.Truth false }
    ∷ record { name = event.name; ty = event.ty; start = no_event event.ty }
    ∷ []

-- An event input `u` in the needs becomes the two inputs `u?` and `u`.
abbrev pub plain_need : Unit → List ℕ → List (List ℕ)
plain_need unit name = if is_among (event_input_names unit) name then presence_name name ∷ name ∷ [] else name ∷ []

abbrev pub plain_needs : Unit → List (List ℕ) → List (List ℕ)
plain_needs unit needs = flat_map (plain_need unit) needs

abbrev pub plain_output : Unit → Output → Output
plain_output unit output = record output { needs = plain_needs unit output.needs; value = plain_expression output.value }

abbrev pub plain_outputs : Unit → EventOut → List Output
plain_outputs unit event =
    record { name = presence_name event.name; ty = types.Bool; needs = plain_needs unit event.needs; value = plain_expression (presence_of event.value) }
    ∷ record { name = event.name; ty = event.ty; needs = plain_needs unit event.needs; value = plain_expression (word_expression_of event.ty event.value) }
    ∷ []

-- The plain form of a unit, in which the ports of events come after all plain ones.
abbrev pub plain_unit : Unit → Unit
plain_unit unit = record unit {
  inputs = unit.inputs ++ flat_map plain_inputs unit.events_in;
  events_in = [];
  outputs = map (plain_output unit) unit.outputs ++ flat_map (plain_outputs unit) unit.events_out;
  events_out = [];
  max = option_map plain_expression unit.max;
  step = option_map (map plain_line) unit.step;
}

-- ---- Systems

abbrev pub presence_port : PortName → PortName
presence_port port = record { instance = port.instance; port = presence_name port.port }

abbrev pub is_event_output : System → PortName → Bool
is_event_output system port = unwrap_or (option_map (λ output. output.is_event) (output_at system port)) false

-- A connection of event ports becomes two connections, first that of the `?` ports.
abbrev pub plain_wires : System → Wire → List Wire
plain_wires system wire =
    if is_event_output system wire.from
    then record { from = presence_port wire.from; to = presence_port wire.to } ∷ wire ∷ []
    else wire ∷ []

-- The sampled outputs, or all outputs where none is sampled.
abbrev pub samples_or_all : System → List PortName
samples_or_all system = if is_empty system.samples then outputs_of system else system.samples

-- The plain form. A system of version 1 is its own plain form.
abbrev pub plain_form : System → System
plain_form system = if system.version == 2 then record system {
  units = map plain_unit system.units;
  wires = flat_map (plain_wires system) system.wires;
  samples = samples_or_all system;
} else system

-- ---- Lines

-- The lines of the plain form that a line of a system of version 2 becomes, where the scope states the unit that the
-- line is in. In version 1 the plain form is the system itself, with its own lines.
abbrev pub plain_forms : System → Scope → LineForm → List LineForm
plain_forms system (UnitScope unit) (form.Output output) = form.Output (plain_output unit output) ∷ []
plain_forms system (UnitScope unit) (form.EventOutput event) = map form.Output (plain_outputs unit event)
plain_forms system scope (form.EventInput event) = map form.Input (plain_inputs event)
plain_forms system scope (form.Max value) = form.Max (plain_expression value) ∷ []
plain_forms system scope (form.Assign target value) = form.Assign target (plain_expression value) ∷ []
plain_forms system scope (form.If cond) = form.If (plain_expression cond) ∷ []
plain_forms system scope (form.Accept value) = form.Accept (plain_expression value) ∷ []
plain_forms system scope (form.Connect wire) = map form.Connect (plain_wires system wire)
plain_forms system scope some = some ∷ []
