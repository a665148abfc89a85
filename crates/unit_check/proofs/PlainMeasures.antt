-- Depth and cost in the plain form are those of the source.
use Rattle.std.proofs.Common.{◌≡◌, ℕ, ◌+◌, Bool, true, false, ◌||◌, nat_le, nat_lt, List, [], ◌∷◌, map, min, Option, Some, None, refl, ap, sym, ◌∙◌, arith}
use Rattle.std.specs.Prelude.{not, if◌then◌else◌}
use Rattle.std.specs.List.{list_any, sum}
use Rattle.std.specs.Option.{option_map}
use Rattle.unit_check.specs.Measures.{is_deeper, is_deep_at, is_dearer, is_dear_at}
use Rattle.unit_tree.specs.Costs.{cost_of, line_cost, expression_call_cost, step_call_cost}
use Rattle.unit_tree.specs.Names.{depth_of, expression_on}
use Rattle.unit_tree.specs.Plain.{plain_expression, plain_line, plain_forms, presence_of, word_expression_of, presence_port, is_event_output}
use Rattle.unit_tree.specs.Sites.{Scope, TopScope, UnitScope, StepScope, InstanceScope}
use Rattle.unit_tree.specs.WellFormed.{has_deep_expression, costs_too_much, is_deep, is_dear, step_cost}
use Rattle.unit_tree.specs.declared.expr.Expr.{Expr}
use Rattle.unit_tree.specs.declared.line.Line.{Line}
use Rattle.unit_tree.specs.declared.line_form.LineForm.{LineForm}
use Rattle.unit_tree.specs.declared.line_form.LineForm.TheVariants as form
use Rattle.unit_tree.specs.declared.system.System.{System}
use Rattle.unit_tree.specs.declared.system.Wire.{Wire}
use Rattle.unit_tree.specs.declared.unit.Unit.{Unit}
use Rattle.language_laws.proofs.PlainLemmas.{plain_depth, plain_cost, plain_line_cost}
use Rattle.list_laws.proofs.Truths.{or_nothing}

-- ---- Depth

not_within : (depth bound : ℕ) → nat_lt bound depth ≡ not (nat_le depth bound)
not_within depth bound = grind (arith)

deep_is : (value : Expr) → nat_lt 32 (depth_of value) ≡ is_deeper value
deep_is value = not_within (depth_of value) 32

one_is : (value : Expr) → (nat_lt 32 (depth_of value) || false) ≡ is_deeper value
one_is value = sym (or_nothing (nat_lt 32 (depth_of value))) ∙ deep_is value

plain_is : (value : Expr) → (nat_lt 32 (depth_of (plain_expression value)) || false) ≡ is_deeper value
plain_is value = ap (λ depth. nat_lt 32 depth || false) (plain_depth value) ∙ one_is value

two_are : (one other : Expr)
    → (nat_lt 32 (depth_of (plain_expression one)) || (nat_lt 32 (depth_of (plain_expression other)) || false)) ≡ (is_deeper one || is_deeper other)
two_are one other =
    ap (λ met. nat_lt 32 (depth_of (plain_expression one)) || met) (plain_is other)
    ∙ ap (λ met. met || is_deeper other) (ap (nat_lt 32) (plain_depth one) ∙ deep_is one)

wires_are_flat : (wire : Wire) (is_event : Bool)
    → list_any (λ plain. is_deep (expression_on plain))
    (map form.Connect (if is_event then record { from = presence_port wire.from; to = presence_port wire.to } ∷ wire ∷ [] else wire ∷ []))
    ≡ false
wires_are_flat wire true = refl
wires_are_flat wire false = refl

pub depth_is : (system : System) (scope : Scope) (line : LineForm) → is_deep_at scope line ≡ has_deep_expression system scope line
depth_is system TopScope (form.Connect wire) = sym (wires_are_flat wire (is_event_output system wire.from))
depth_is system (UnitScope unit) (form.Connect wire) = sym (wires_are_flat wire (is_event_output system wire.from))
depth_is system (StepScope unit) (form.Connect wire) = sym (wires_are_flat wire (is_event_output system wire.from))
depth_is system (InstanceScope instance) (form.Connect wire) = sym (wires_are_flat wire (is_event_output system wire.from))
depth_is system (UnitScope unit) (form.Output output) = sym (plain_is output.value)
depth_is system TopScope (form.Output output) = sym (one_is output.value)
depth_is system (StepScope unit) (form.Output output) = sym (one_is output.value)
depth_is system (InstanceScope instance) (form.Output output) = sym (one_is output.value)
depth_is system (UnitScope unit) (form.EventOutput event) = sym (two_are (presence_of event.value) (word_expression_of event.ty event.value))
depth_is system TopScope (form.EventOutput event) = sym (one_is event.value)
depth_is system (StepScope unit) (form.EventOutput event) = sym (one_is event.value)
depth_is system (InstanceScope instance) (form.EventOutput event) = sym (one_is event.value)
depth_is system TopScope (form.Max value) = sym (plain_is value)
depth_is system (UnitScope unit) (form.Max value) = sym (plain_is value)
depth_is system (StepScope unit) (form.Max value) = sym (plain_is value)
depth_is system (InstanceScope instance) (form.Max value) = sym (plain_is value)
depth_is system TopScope (form.Assign target value) = sym (plain_is value)
depth_is system (UnitScope unit) (form.Assign target value) = sym (plain_is value)
depth_is system (StepScope unit) (form.Assign target value) = sym (plain_is value)
depth_is system (InstanceScope instance) (form.Assign target value) = sym (plain_is value)
depth_is system TopScope (form.If cond) = sym (plain_is cond)
depth_is system (UnitScope unit) (form.If cond) = sym (plain_is cond)
depth_is system (StepScope unit) (form.If cond) = sym (plain_is cond)
depth_is system (InstanceScope instance) (form.If cond) = sym (plain_is cond)
depth_is system TopScope (form.Accept value) = sym (plain_is value)
depth_is system (UnitScope unit) (form.Accept value) = sym (plain_is value)
depth_is system (StepScope unit) (form.Accept value) = sym (plain_is value)
depth_is system (InstanceScope instance) (form.Accept value) = sym (plain_is value)
depth_is system TopScope _ = refl
depth_is system (UnitScope unit) _ = refl
depth_is system (StepScope unit) _ = refl
depth_is system (InstanceScope instance) _ = refl

-- ---- Cost

capped : (cost : ℕ) → nat_lt 100000 (min cost 100001 + 1) ≡ nat_lt 100000 (cost + 1)
capped cost = grind (arith)

pub dearer_is : (value : Expr) → nat_lt 100000 (min (cost_of value) 100001 + 1) ≡ is_dearer value
dearer_is value = capped (cost_of value)

pub steps_are : (lines : List Line) → nat_lt 100000 (min (sum (map line_cost lines)) 100001 + 1) ≡ nat_lt 100000 (step_call_cost lines)
steps_are lines = capped (sum (map line_cost lines))

plain_dear : (value : Expr) → (nat_lt 100000 (expression_call_cost (plain_expression value)) || false) ≡ is_dearer value
plain_dear value = sym (or_nothing (nat_lt 100000 (expression_call_cost (plain_expression value)))) ∙ ap (λ cost. nat_lt 100000 (cost + 1)) (plain_cost value)

two_dear : (one other : Expr)
    → (nat_lt 100000 (expression_call_cost (plain_expression one)) || (nat_lt 100000 (expression_call_cost (plain_expression other)) || false))
    ≡ (is_dearer one || is_dearer other)
two_dear one other =
    ap (λ met. nat_lt 100000 (expression_call_cost (plain_expression one)) || met) (plain_dear other)
    ∙ ap (λ cost. nat_lt 100000 (cost + 1) || is_dearer other) (plain_cost one)

same_list : (lines : List Line) → map line_cost (map plain_line lines) ≡ map line_cost lines
same_list [] = refl
same_list (line ∷ lines) = ap (λ cost. cost ∷ map line_cost (map plain_line lines)) (plain_line_cost line)
    ∙ ap (λ rest. line_cost line ∷ rest) (same_list lines)

same_costs : (lines : List Line) → sum (map line_cost (map plain_line lines)) ≡ sum (map line_cost lines)
same_costs lines = ap sum (same_list lines)

step_is : (step : Option (List Line)) → (nat_lt 100000 (step_cost (option_map (map plain_line) step)) || false) ≡ nat_lt 100000 (step_cost step)
step_is None = refl
step_is (Some lines) = sym (or_nothing (nat_lt 100000 (step_call_cost (map plain_line lines)))) ∙ ap (λ cost. nat_lt 100000 (cost + 1)) (same_costs lines)

none_dear : (lines : List LineForm) → list_any (λ line. false) lines ≡ false
none_dear [] = refl
none_dear (line ∷ lines) = none_dear lines

wires_are_cheap : (unit : Unit) (wire : Wire) (is_event : Bool)
    → list_any (is_dear (UnitScope unit))
    (map form.Connect (if is_event then record { from = presence_port wire.from; to = presence_port wire.to } ∷ wire ∷ [] else wire ∷ []))
    ≡ false
wires_are_cheap unit wire true = refl
wires_are_cheap unit wire false = refl

pub cost_is : (system : System) (scope : Scope) (line : LineForm) → is_dear_at scope line ≡ costs_too_much system scope line
cost_is system TopScope line = sym (none_dear (plain_forms system TopScope line))
cost_is system (StepScope unit) line = sym (none_dear (plain_forms system (StepScope unit) line))
cost_is system (InstanceScope instance) line = sym (none_dear (plain_forms system (InstanceScope instance) line))
cost_is system (UnitScope unit) (form.Output output) = sym (plain_dear output.value)
cost_is system (UnitScope unit) (form.EventOutput event) = sym (two_dear (presence_of event.value) (word_expression_of event.ty event.value))
cost_is system (UnitScope unit) (form.Max value) = sym (plain_dear value)
cost_is system (UnitScope unit) form.Step = sym (step_is unit.step)
cost_is system (UnitScope unit) (form.Connect wire) = sym (wires_are_cheap unit wire (is_event_output system wire.from))
cost_is system (UnitScope unit) _ = refl
