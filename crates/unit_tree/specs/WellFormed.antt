-- Well-formed systems. Each rule has a test, which is true for a canonical line that breaks the rule. The rules are
-- judged in the order of their numbers, each over the whole system and only where all earlier rules hold.
use Rattle.std.specs.Prelude.{◌≡◌, ℕ, ◌*◌, max, Bool, true, false, not, ◌&&◌, ◌||◌, ◌==◌, nat_le, nat_lt, if◌then◌else◌, ℤ, List, [], ◌∷◌, ◌++◌, map, length}
use Rattle.std.specs.Prelude.{Option, Some, None, is_none, Result, Ok, Err}
use Rattle.std.specs.Bool.{beq}
use Rattle.std.specs.List.{AllByRecursion, list_any, count_by, enumerate_from, filter_map, flat_map, fold}
use Rattle.std.specs.Option.{option_map, option_and_then, unwrap_or}
use Rattle.std.specs.Ordering.{int_eq}
use Rattle.std.specs.Str.{bytes_eq}
use Rattle.model_rules.specs.Limits.{cell_limit, connection_limit, cost_limit, depth_limit, input_limit, instance_limit, local_limit, output_limit, param_limit, sample_limit, state_limit, unit_limit}
use Rattle.fixed_words.specs.Literals.{word_of_literal}
use Rattle.fixed_words.specs.Types.{kind_of, lowest, highest}
use Rattle.fixed_words.specs.declared.types.Kind.{Kind}
use Rattle.fixed_words.specs.declared.types.Kind.TheVariants as kinds
use Rattle.fixed_words.specs.declared.types.Literal.{Literal}
use Rattle.fixed_words.specs.declared.types.LiteralFault.{LiteralFault}
use Rattle.fixed_words.specs.declared.types.LiteralFault.TheVariants.{Form, Range}
use Rattle.fixed_words.specs.declared.types.Ty.{Ty}
use Rattle.super_time.specs.Seconds.{seconds_of}
use Rattle.super_time.specs.declared.seconds.SecondsFault.{SecondsFault}
use Rattle.unit_tree.specs.Costs.{expression_call_cost, step_call_cost}
use Rattle.unit_tree.specs.Kinds.{same_kind, has_kind, line_is_kinded}
use Rattle.unit_tree.specs.LineForms.{are_alike, tail_of, tail_speaks_of_events}
use Rattle.unit_tree.specs.Names.{names_in, depth_of, expression_on, is_empty, is_among, are_among, param_names, Port, input_names, output_names, output_uses}
use Rattle.unit_tree.specs.Names.{max_uses, step_uses, keeps_to, type_in, kinds_in, unit_named, unit_of_instance, param_named, output_at, input_at, same_port}
use Rattle.unit_tree.specs.Plain.{word_expression_of, plain_unit, plain_forms}
use Rattle.unit_tree.specs.Sites.{Site, Scope, TopScope, UnitScope, StepScope, InstanceScope, sites_of}
use Rattle.unit_tree.specs.declared.expr.Expr.{Expr}
use Rattle.unit_tree.specs.declared.line.Line.{Line}
use Rattle.unit_tree.specs.declared.line_form.LineForm.{LineForm}
use Rattle.unit_tree.specs.declared.line_form.LineForm.TheVariants as form
use Rattle.unit_tree.specs.declared.system.Instance.{Instance}
use Rattle.unit_tree.specs.declared.system.PortName.{PortName}
use Rattle.unit_tree.specs.declared.system.System.{System}
use Rattle.unit_tree.specs.declared.unit.Unit.{Unit}

-- ---- Lines that repeat an earlier one

abbrev pub is_said : {A : Type 0} → (A → A → Bool) → List A → Option A → Bool
is_said same before None = false
is_said same before (Some thing) = list_any (same thing) before

-- An earlier line has the same item as this one: `asked` gives the item of a line, and `same` compares two items.
abbrev pub says_again : {A : Type 0} → (A → A → Bool) → (LineForm → Option A) → Site → Bool
says_again same asked site = is_said same (filter_map asked site.earlier) (asked site.line)

abbrev pub unit_declared : LineForm → Option (List ℕ)
unit_declared (form.Unit name) = Some name
unit_declared _ = None

abbrev pub instance_declared : LineForm → Option (List ℕ)
instance_declared (form.Instance name unit) = Some name
instance_declared _ = None

abbrev pub name_declared : LineForm → Option (List ℕ)
name_declared (form.Param param) = Some param.name
name_declared (form.State state) = Some state.name
name_declared (form.Local local) = Some local.name
name_declared (form.Input input) = Some input.name
name_declared (form.EventInput event) = Some event.name
name_declared (form.Output output) = Some output.name
name_declared (form.EventOutput event) = Some event.name
name_declared _ = None

abbrev pub input_connected : LineForm → Option PortName
input_connected (form.Connect wire) = Some wire.to
input_connected _ = None

abbrev pub param_set : LineForm → Option (List ℕ)
param_set (form.Setting setting) = Some setting.name
param_set _ = None

abbrev pub port_sampled : LineForm → Option PortName
port_sampled (form.Sample port) = Some port
port_sampled _ = None

-- ---- Rule 8: two units, two instances, or two names declared in one unit are equal, at the second

abbrev pub redeclares : System → Site → Bool
redeclares system site =
    says_again bytes_eq unit_declared site || (says_again bytes_eq instance_declared site || says_again bytes_eq name_declared site)

-- ---- Rule 9: a name is not declared, or may not be used there

abbrev pub is_param_of : Option Unit → List ℕ → Bool
is_param_of None name = false
is_param_of (Some unit) name = is_among (param_names unit) name

-- An output uses a name that it may not use, or a need is not an input.
abbrev pub misuses : Unit → List (List ℕ) → Expr → Bool
misuses unit needs value = not (keeps_to (output_uses unit) value) || not (are_among (input_names unit) needs)

abbrev pub misnames : System → Scope → LineForm → Bool
misnames system (UnitScope unit) (form.Output output) = misuses unit output.needs output.value
misnames system (UnitScope unit) (form.EventOutput event) = misuses unit event.needs event.value
misnames system (UnitScope unit) (form.Max value) = not (keeps_to (max_uses unit) value)
misnames system (StepScope unit) (form.Assign target value) = is_none (type_in unit target) || not (keeps_to (step_uses unit) value)
misnames system (StepScope unit) (form.If cond) = not (keeps_to (step_uses unit) cond)
misnames system (StepScope unit) (form.Accept value) = not (keeps_to (step_uses unit) value)
misnames system (InstanceScope instance) (form.Setting setting) = not (is_param_of (unit_of_instance system instance) setting.name)
misnames system TopScope (form.Instance name unit) = is_none (unit_named system.units unit)
misnames system TopScope (form.Connect wire) = is_none (output_at system wire.from) || is_none (input_at system wire.to)
misnames system TopScope (form.Sample port) = is_none (output_at system port)
misnames system _ _ = false

-- ---- Rule 10: a kind is wrong, `absent` is where it is not allowed, `absent` or `present` is used in version 1, or a
-- literal has the wrong form for its type

-- The expression does not have the required kind, or an operand in it has a wrong one.
abbrev pub is_not_of : Option Kind → Unit → Expr → Bool
is_not_of asked unit value = not (has_kind asked value (kinds_in unit))

abbrev pub is_misformed : Result ℤ LiteralFault → Bool
is_misformed (Err Form) = true
is_misformed _ = false

-- The word of a literal for a parameter that an instance sets.
abbrev pub setting_word : System → Instance → List ℕ → Literal → Option (Result ℤ LiteralFault)
setting_word system instance name value =
    option_map (λ param. word_of_literal param.ty value) (option_and_then (param_named name) (unit_of_instance system instance))

-- The word of the literal on a line, or why it has none.
abbrev pub literal_on : System → Scope → LineForm → Option (Result ℤ LiteralFault)
literal_on system scope (form.Param param) = Some (word_of_literal param.ty param.start)
literal_on system scope (form.State state) = Some (word_of_literal state.ty state.start)
literal_on system scope (form.Input input) = Some (word_of_literal input.ty input.start)
literal_on system (InstanceScope instance) (form.Setting setting) = setting_word system instance setting.name setting.value
literal_on system scope _ = None

abbrev pub on_literal : (Result ℤ LiteralFault → Bool) → Option (Result ℤ LiteralFault) → Bool
on_literal test None = false
on_literal test (Some read) = test read

-- `absent` is allowed as the whole expression of an event output, and as a branch of an `if` that is allowed there.
-- With a zero of the output's kind in place of each of these, the expression has this kind. Any other `absent` has no
-- kind.
abbrev pub mistakes_kind : Scope → LineForm → Bool
mistakes_kind (UnitScope unit) (form.Output output) = is_not_of (Some (kind_of output.ty)) unit output.value
mistakes_kind (UnitScope unit) (form.EventOutput event) =
    is_not_of (Some (kind_of event.ty)) unit (word_expression_of event.ty event.value)
mistakes_kind (UnitScope unit) (form.Max value) = is_not_of (Some kinds.Int) unit value
mistakes_kind (StepScope unit) line = not (line_is_kinded line (kinds_in unit))
mistakes_kind _ _ = false

abbrev pub is_of_wrong_kind : System → Site → Bool
is_of_wrong_kind system site =
    mistakes_kind site.scope site.line
    || (((system.version == 1) && tail_speaks_of_events (tail_of site.line)) || on_literal is_misformed (literal_on system site.scope site.line))

-- ---- Rule 11: a literal is out of its type's range

abbrev pub is_beyond : Result ℤ LiteralFault → Bool
is_beyond (Err Range) = true
is_beyond _ = false

abbrev pub is_out_of_range : System → Site → Bool
is_out_of_range system site = on_literal is_beyond (literal_on system site.scope site.line)

-- ---- Rule 12: an output uses an input that is not in its needs, also in `present`

abbrev pub uses_other_input : Unit → List (List ℕ) → Expr → Bool
uses_other_input unit needs value =
    list_any (λ name. is_among (input_names unit) name && not (is_among needs name)) (names_in value)

abbrev pub hides_need : Scope → LineForm → Bool
hides_need (UnitScope unit) (form.Output output) = uses_other_input unit output.needs output.value
hides_need (UnitScope unit) (form.EventOutput event) = uses_other_input unit event.needs event.value
hides_need _ _ = false

-- ---- Rule 13: an input is connected twice, at the second connection

abbrev pub connects_again : System → Site → Bool
connects_again system site = says_again same_port input_connected site

-- ---- Rule 14: the types of a connection's ends are not equal, or only one end is an event port

-- Types are equal where their kinds and their ranges are.
abbrev pub same_type : Ty → Ty → Bool
same_type one other =
    same_kind (kind_of one) (kind_of other) && (int_eq (lowest one) (lowest other) && int_eq (highest one) (highest other))

abbrev pub differ : Option Port → Option Port → Bool
differ (Some one) (Some other) = not (same_type one.ty other.ty) || not (beq one.is_event other.is_event)
differ _ _ = false

abbrev pub joins_other_types : System → LineForm → Bool
joins_other_types system (form.Connect wire) = differ (output_at system wire.from) (input_at system wire.to)
joins_other_types system _ = false

-- ---- Rule 16: there are too many of a kind, at the first that is too many
--
-- This rule and the next two are judged on the lines of the plain form that a line becomes: an event port, and a
-- connection of event ports, become two.

-- How many there may be in one scope.
abbrev pub limit_of : LineForm → Option ℕ
limit_of (form.Unit name) = Some unit_limit
limit_of (form.Instance name unit) = Some instance_limit
limit_of (form.Param param) = Some param_limit
limit_of (form.State state) = Some state_limit
limit_of (form.Local local) = Some local_limit
limit_of (form.Input input) = Some input_limit
limit_of (form.Output output) = Some output_limit
limit_of (form.Connect wire) = Some connection_limit
limit_of (form.Sample port) = Some sample_limit
limit_of _ = None

abbrev pub is_above : Option ℕ → ℕ → Bool
is_above None count = false
is_above (Some limit) count = nat_lt limit count

-- Up to this line, a scope has more lines of this kind than allowed. All lines between `step` and its own `end` count
-- as step lines, of which 500 are allowed.
abbrev pub is_one_too_many : Scope → List LineForm → LineForm → Bool
is_one_too_many (StepScope unit) all line = nat_lt 500 (length all)
is_one_too_many scope all line = is_above (limit_of line) (count_by (are_alike line) all)

abbrev pub exceeds : System → Scope → List LineForm → LineForm → Bool
exceeds system scope earlier line =
    list_any (is_one_too_many scope (flat_map (plain_forms system scope) (earlier ++ (line ∷ [])))) (plain_forms system scope line)

-- ---- Rule 17: an expression is deeper than 32

abbrev pub is_deep : Option Expr → Bool
is_deep None = false
is_deep (Some value) = nat_lt depth_limit (depth_of value)

abbrev pub has_deep_expression : System → Scope → LineForm → Bool
has_deep_expression system scope line = list_any (λ plain. is_deep (expression_on plain)) (plain_forms system scope line)

-- ---- Rule 18: the cost of a call is above 100,000

abbrev pub step_cost : Option (List Line) → ℕ
step_cost None = 0
step_cost (Some lines) = step_call_cost lines

abbrev pub is_dear : Scope → LineForm → Bool
is_dear (UnitScope unit) (form.Output output) = nat_lt cost_limit (expression_call_cost output.value)
is_dear (UnitScope unit) (form.Max value) = nat_lt cost_limit (expression_call_cost value)
is_dear (UnitScope unit) form.Step = nat_lt cost_limit (step_cost (plain_unit unit).step)
is_dear _ _ = false

abbrev pub costs_too_much : System → Scope → LineForm → Bool
costs_too_much system scope line = list_any (is_dear scope) (plain_forms system scope line)

-- ---- Rule 19: there is no `stop`, at the header

abbrev pub lacks_stop : System → LineForm → Bool
lacks_stop system (form.Header version) = is_none system.stop
lacks_stop system _ = false

-- ---- Rule 20: `stop` or `longest` is not a whole number of ticks, or is above 10^15 ticks, or `longest` is 0

abbrev pub unit_resolution : Option Unit → ℕ
unit_resolution None = 0
unit_resolution (Some unit) = unwrap_or unit.resolution 0

-- The resolution of a system: the greatest of the units of its instances; 0 where there is no instance. A tick is 10 to
-- the power of minus this number, in seconds.
abbrev pub resolution_of : System → ℕ
resolution_of system = fold max 0 (map (λ instance. unit_resolution (unit_of_instance system instance)) system.instances)

-- Seconds that are a whole number of ticks, at least `least` and at most 10^15.
abbrev pub is_length : ℕ → Result ℕ SecondsFault → Bool
is_length least (Ok ticks) = nat_le least ticks
is_length least (Err fault) = false

abbrev pub mistimes : System → LineForm → Bool
mistimes system (form.Stop seconds) = not (is_length 0 (seconds_of (resolution_of system) seconds))
mistimes system (form.Longest seconds) = not (is_length 1 (seconds_of (resolution_of system) seconds))
mistimes system _ = false

-- ---- Rule 21: rows times instances are above 1,000,000

abbrev pub has_too_many_rows : System → LineForm → Bool
has_too_many_rows system (form.Rows count) = nat_lt cell_limit (count * length system.instances)
has_too_many_rows system _ = false

-- ---- Rule 22: a parameter, input or output is assigned

abbrev pub assigns_read_only : Scope → LineForm → Bool
assigns_read_only (StepScope unit) (form.Assign target value) =
    is_among (param_names unit ++ input_names unit ++ output_names unit) target
assigns_read_only _ _ = false

-- ---- Rule 23: there is no instance, at the header

abbrev pub lacks_instance : System → LineForm → Bool
lacks_instance system (form.Header version) = is_empty system.instances
lacks_instance system _ = false

-- ---- Rule 24: a parameter is set twice, a port sampled twice, at the second, or a need named twice

abbrev pub has_equals : List (List ℕ) → Bool
has_equals [] = false
has_equals (name ∷ names) = is_among names name || has_equals names

abbrev pub repeats_need : LineForm → Bool
repeats_need (form.Output output) = has_equals output.needs
repeats_need (form.EventOutput event) = has_equals event.needs
repeats_need _ = false

abbrev pub repeats_itself : System → Site → Bool
repeats_itself system site =
    says_again bytes_eq param_set site || (says_again same_port port_sampled site || repeats_need site.line)

-- ---- The rules

-- A rule, with the test of a line that breaks it.
pub record Rule : Type 0 where
  pub number : ℕ
  pub breaks : System → Site → Bool

abbrev pub rule : ℕ → (System → Site → Bool) → Rule
rule number breaks = record { number = number; breaks = breaks }

abbrev pub rules : List Rule
rules =
    rule 8 redeclares
    ∷ rule 9 (λ system site. misnames system site.scope site.line)
    ∷ rule 10 is_of_wrong_kind
    ∷ rule 11 is_out_of_range
    ∷ rule 12 (λ system site. hides_need site.scope site.line)
    ∷ rule 13 connects_again
    ∷ rule 14 (λ system site. joins_other_types system site.line)
    ∷ rule 16 (λ system site. exceeds system site.scope site.earlier site.line)
    ∷ rule 17 (λ system site. has_deep_expression system site.scope site.line)
    ∷ rule 18 (λ system site. costs_too_much system site.scope site.line)
    ∷ rule 19 (λ system site. lacks_stop system site.line)
    ∷ rule 20 (λ system site. mistimes system site.line)
    ∷ rule 21 (λ system site. has_too_many_rows system site.line)
    ∷ rule 22 (λ system site. assigns_read_only site.scope site.line)
    ∷ rule 23 (λ system site. lacks_instance system site.line)
    ∷ rule 24 repeats_itself
    ∷ []

-- The number of a line, from 1, where it breaks the rule.
abbrev pub number_where : (Site → Bool) → ℕ × Site → Option ℕ
number_where breaks (number, site) = if breaks site then Some number else None

-- The canonical lines that break a rule, in their order.
abbrev pub lines_breaking : Rule → System → List ℕ
lines_breaking broken system = filter_map (number_where (broken.breaks system)) (enumerate_from 1 (sites_of system))

-- The system breaks none of these rules.
abbrev pub BreaksNone : List Rule → System → Type 0
BreaksNone judged system = AllByRecursion (λ kept. lines_breaking kept system ≡ []) judged

-- Why a system is refused: the rule, and the canonical line.
pub record Refusal : Type 0 where
  pub by : ℕ
  pub at : ℕ

abbrev pub or_later : Rule → Option Refusal → List ℕ → Option Refusal
or_later judged later [] = later
or_later judged later (line ∷ lines) = Some (record { by = judged.number; at = line })

-- The least rule that a line breaks, with the first line that breaks it.
abbrev pub refusal_by : List Rule → System → Option Refusal
refusal_by [] system = None
refusal_by (judged ∷ later) system = or_later judged (refusal_by later system) (lines_breaking judged system)

-- The refusal is by the first of the rules that some line breaks, at the first line that breaks it.
pub record IsRefusal (judged : List Rule) (system : System) (refusal : Refusal) : Type 0 where
  pub kept : List Rule
  pub broken : Rule
  pub later : List Rule
  pub others : List ℕ
  pub cut : judged ≡ kept ++ (broken ∷ later)
  pub none_before : BreaksNone kept system
  pub by : broken.number ≡ refusal.by
  pub lines : lines_breaking broken system ≡ refusal.at ∷ others

-- A system is well-formed where no line breaks a rule.
abbrev pub IsWellFormed : System → Type 0
IsWellFormed system = BreaksNone rules system

abbrev pub refusal_of : System → Option Refusal
refusal_of system = refusal_by rules system
