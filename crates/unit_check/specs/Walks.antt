-- A walk over the canonical lines of a system, part by part, up to the first line that passes a test.
use Rattle.std.specs.Prelude.{ℕ, suc, ◌-◌, Bool, nat_eq, List, [], ◌∷◌, map, length, Option, Some, None, Result, Ok, Err, if◌then◌else◌}
use Rattle.std.specs.List.{filter_map}
use Rattle.unit_check.specs.declared.walk.ScopeRef.{ScopeRef}
use Rattle.unit_check.specs.declared.walk.ScopeRef.TheVariants as shown
use Rattle.unit_check.specs.declared.walk.FormRef.{FormRef}
use Rattle.unit_check.specs.declared.walk.FormRef.TheVariants as seen
use Rattle.unit_check.specs.declared.walk.Stop.{Stop}
use Rattle.unit_check.specs.declared.walk.Stop.TheVariants as stop
use Rattle.unit_tree.specs.Sites.{Scope, TopScope, UnitScope, StepScope, InstanceScope, Site}
use Rattle.unit_tree.specs.WellFormed.{unit_declared, instance_declared, name_declared, input_connected, param_set, port_sampled}
use Rattle.unit_tree.specs.declared.line.Line.{Line, fold-Line}
use Rattle.unit_tree.specs.declared.line.Line.TheOpen.{Line-F}
use Rattle.unit_tree.specs.declared.line_form.LineForm.{LineForm}
use Rattle.unit_tree.specs.declared.line_form.LineForm.TheVariants as form
use Rattle.unit_tree.specs.declared.system.Instance.{Instance}
use Rattle.unit_tree.specs.declared.system.System.{System}
use Rattle.unit_tree.specs.declared.unit.Unit.{Unit}

-- ---- The test of a line

-- The place of a line: how many lines of the same sort came before it in its scope. In a step all lines are of one
-- sort, and in a unit all lines that declare a name are.
abbrev pub place_of : Scope → List LineForm → LineForm → ℕ
place_of (StepScope unit) earlier line = length earlier
place_of scope earlier (form.Unit name) = length (filter_map unit_declared earlier)
place_of scope earlier (form.Instance name unit) = length (filter_map instance_declared earlier)
place_of scope earlier (form.Param param) = length (filter_map name_declared earlier)
place_of scope earlier (form.State state) = length (filter_map name_declared earlier)
place_of scope earlier (form.Local local) = length (filter_map name_declared earlier)
place_of scope earlier (form.Input input) = length (filter_map name_declared earlier)
place_of scope earlier (form.EventInput event) = length (filter_map name_declared earlier)
place_of scope earlier (form.Output output) = length (filter_map name_declared earlier)
place_of scope earlier (form.EventOutput event) = length (filter_map name_declared earlier)
place_of scope earlier (form.Connect wire) = length (filter_map input_connected earlier)
place_of scope earlier (form.Setting setting) = length (filter_map param_set earlier)
place_of scope earlier (form.Sample port) = length (filter_map port_sampled earlier)
place_of scope earlier _ = 0

-- A test of lines: by the scope of a line, its place, and the line itself.
abbrev pub Test : Type 0
Test = Scope → ℕ → LineForm → Bool

abbrev pub test_at : Test → Site → Bool
test_at test site = test site.scope (place_of site.scope site.earlier site.line) site.line

-- ---- Walks

-- A walk over some lines: from the number of the first one to the number after the last one, or to why it stops.
abbrev pub Walk : Type 0
Walk = ℕ → Result ℕ Stop

-- One walk after another, if the first one didn't stop.
abbrev pub onward : Result ℕ Stop → Walk → Result ℕ Stop
onward (Ok behind) next = next behind
onward (Err why) next = Err why

infixl 10 ◌>=>◌
abbrev pub ◌>=>◌ : Walk → Walk → Walk
(first >=> next) number = onward (first number) next

-- The walk over one line: it stops there if the line passes the test. Numbers have 32 bits.
abbrev pub past : Bool → Walk
past met number = if met then Err (stop.At number) else (if nat_eq number 4294967295 then Err stop.Full else Ok (suc number))

-- The walk over a line whose place is counted from the number of a first one.
abbrev pub past_from : (ℕ → LineForm → Bool) → ℕ → LineForm → Walk
past_from test first line number = past (test (number - first) line) number

abbrev pub in_turn : List Walk → Walk
in_turn [] number = Ok number
in_turn (first ∷ others) number = (first >=> in_turn others) number

abbrev pub each : {A : Type 0} → (A → Walk) → List A → Walk
each walk items = in_turn (map walk items)

abbrev pub if_given : {A : Type 0} → (A → Walk) → Option A → Walk
if_given walk None number = Ok number
if_given walk (Some given) number = walk given number

-- ---- Step lines

abbrev pub else_walk : (LineForm → Walk) → Option (List Walk) → Walk
else_walk past_line None = past_line form.End
else_walk past_line (Some lines) = past_line form.Else >=> (in_turn lines >=> past_line form.End)

abbrev pub node_walk : (LineForm → Walk) → Line-F Walk → Walk
node_walk past_line (Line-F.Assign target value) number = past_line (form.Assign target value) number
node_walk past_line (Line-F.If cond then_lines else_lines) number =
    (past_line (form.If cond) >=> (in_turn then_lines >=> else_walk past_line else_lines)) number
node_walk past_line (Line-F.Repeat count body) number = (past_line (form.Repeat count) >=> (in_turn body >=> past_line form.End)) number
node_walk past_line (Line-F.Accept value) number = past_line (form.Accept value) number

abbrev pub line_walk : (LineForm → Walk) → Line → Walk
line_walk past_line = fold-Line Walk (node_walk past_line)

-- The walk over a step, with its own `step` and `end`.
abbrev pub step_walk : Test → Unit → List Line → Walk
step_walk test unit lines =
    past (test (UnitScope unit) 0 form.Step)
    >=> (λ first. each (line_walk (past_from (test (StepScope unit)) first)) lines first)
    >=> past (test (UnitScope unit) 0 form.End)

-- ---- Units

-- The walk over the lines that declare names, from the number of the first one.
abbrev pub plain_names_walk : (LineForm → Walk) → Unit → Walk
plain_names_walk past_line unit =
    each (λ param. past_line (form.Param param)) unit.params
    >=> each (λ state. past_line (form.State state)) unit.states
    >=> each (λ local. past_line (form.Local local)) unit.locals

abbrev pub ports_walk : (LineForm → Walk) → Unit → Walk
ports_walk past_line unit =
    each (λ input. past_line (form.Input input)) unit.inputs
    >=> each (λ event. past_line (form.EventInput event)) unit.events_in
    >=> each (λ output. past_line (form.Output output)) unit.outputs
    >=> each (λ event. past_line (form.EventOutput event)) unit.events_out

abbrev pub names_walk : (LineForm → Walk) → Unit → Walk
names_walk past_line unit = plain_names_walk past_line unit >=> ports_walk past_line unit

-- The walk over `max` and the step of a unit, and its `end`.
abbrev pub behaviour_walk : Test → Unit → Walk
behaviour_walk test unit =
    if_given (λ value. past (test (UnitScope unit) 0 (form.Max value))) unit.max
    >=> if_given (step_walk test unit) unit.step
    >=> past (test (UnitScope unit) 0 form.End)

-- The walk over the block of a unit.
abbrev pub unit_walk : Test → Unit → Walk
unit_walk test unit =
    if_given (λ decimals. past (test (UnitScope unit) 0 (form.Resolution decimals))) unit.resolution
    >=> (λ first. names_walk (past_from (test (UnitScope unit)) first) unit first)
    >=> behaviour_walk test unit

-- ---- Systems

-- The walk over units, from the place of the first one.
abbrev pub units_walk : Test → ℕ → List Unit → Walk
units_walk test place [] number = Ok number
units_walk test place (unit ∷ units) number =
    (past (test TopScope place (form.Unit unit.name)) >=> unit_walk test unit >=> units_walk test (suc place) units) number

-- The walk over the unit at a place, if there is one.
abbrev pub numbered_walk : Test → ℕ → Option Unit → Walk
numbered_walk test place None number = Ok number
numbered_walk test place (Some unit) number = (past (test TopScope place (form.Unit unit.name)) >=> unit_walk test unit) number

-- The walk over the block of an instance.
abbrev pub instance_walk : Test → Instance → Walk
instance_walk test instance =
    (λ first. each (λ setting. past_from (test (InstanceScope instance)) first (form.Setting setting)) instance.settings first)
    >=> past (test (InstanceScope instance) 0 form.End)

abbrev pub instances_walk : Test → ℕ → List Instance → Walk
instances_walk test place [] number = Ok number
instances_walk test place (instance ∷ instances) number =
    (past (test TopScope place (form.Instance instance.name instance.unit)) >=> instance_walk test instance >=> instances_walk test
    (suc place) instances) number

-- The walk over the lines that set the limits of a run.
abbrev pub limits_walk : (LineForm → Bool) → System → Walk
limits_walk test system =
    if_given (λ seconds. past (test (form.Stop seconds))) system.stop
    >=> if_given (λ seconds. past (test (form.Longest seconds))) system.longest
    >=> if_given (λ count. past (test (form.Zero count))) system.zero
    >=> if_given (λ count. past (test (form.Rows count))) system.rows

abbrev pub parts_walk : Test → System → Walk
parts_walk test system =
    units_walk test 0 system.units
    >=> instances_walk test 0 system.instances
    >=> (λ first. each (λ wire. past_from (test TopScope) first (form.Connect wire)) system.wires first)

abbrev pub system_walk : Test → System → Walk
system_walk test system =
    past (test TopScope 0 (form.Header system.version))
    >=> parts_walk test system
    >=> limits_walk (test TopScope 0) system
    >=> (λ first. each (λ port. past_from (test TopScope) first (form.Sample port)) system.samples first)

-- ---- The meaning of a line's references in the code

abbrev pub scope_of : ScopeRef → Scope
scope_of shown.Top = TopScope
scope_of (shown.Unit unit) = UnitScope unit.now
scope_of (shown.Step unit) = StepScope unit.now
scope_of (shown.Instance instance) = InstanceScope instance.now

abbrev pub form_of : FormRef → LineForm
form_of (seen.Header version) = form.Header version
form_of (seen.Unit name) = form.Unit name.now
form_of (seen.Resolution decimals) = form.Resolution decimals
form_of (seen.Param param) = form.Param param.now
form_of (seen.State state) = form.State state.now
form_of (seen.Local local) = form.Local local.now
form_of (seen.Input input) = form.Input input.now
form_of (seen.EventInput event) = form.EventInput event.now
form_of (seen.Output output) = form.Output output.now
form_of (seen.EventOutput event) = form.EventOutput event.now
form_of (seen.Max value) = form.Max value.now
form_of seen.Step = form.Step
form_of seen.End = form.End
form_of (seen.Assign target value) = form.Assign target.now value.now
form_of (seen.If cond) = form.If cond.now
form_of seen.Else = form.Else
form_of (seen.Repeat count) = form.Repeat count
form_of (seen.Accept value) = form.Accept value.now
form_of (seen.Instance instance) = form.Instance instance.now.name instance.now.unit
form_of (seen.Setting setting) = form.Setting setting.now
form_of (seen.Connect wire) = form.Connect wire.now
form_of (seen.Stop seconds) = form.Stop seconds
form_of (seen.Longest seconds) = form.Longest seconds
form_of (seen.Zero count) = form.Zero count
form_of (seen.Rows count) = form.Rows count
form_of (seen.Sample port) = form.Sample port.now
