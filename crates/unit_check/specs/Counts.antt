-- Rule 16: how many of a kind there may be, tested by the place of a line alone.
use Rattle.std.specs.Prelude.{ℕ, ◌+◌, ◌-◌, ◌*◌, nat_lt, nat_le, Bool, false, length, take, Option, Some, None}
use Rattle.std.specs.List.{flat_map}
use Rattle.model_rules.specs.Limits.{connection_limit, input_limit, instance_limit, local_limit, output_limit, param_limit, sample_limit, state_limit, unit_limit}
use Rattle.unit_tree.specs.Plain.{plain_wires}
use Rattle.unit_tree.specs.Sites.{Scope, TopScope, UnitScope, StepScope, InstanceScope}
use Rattle.unit_tree.specs.declared.line_form.LineForm.{LineForm}
use Rattle.unit_tree.specs.declared.line_form.LineForm.TheVariants as form
use Rattle.unit_tree.specs.declared.system.System.{System}
use Rattle.unit_tree.specs.declared.unit.Unit.{Unit}

-- How many connections of the plain form the first `count` connections of a system become.
abbrev pub plain_wire_count : System → ℕ → ℕ
plain_wire_count system count = length (flat_map (plain_wires system) (take count system.wires))

-- A place is at or after the first place, if there is one.
abbrev pub is_from : ℕ → Option ℕ → Bool
is_from place None = false
is_from place (Some first) = nat_le first place

-- There are too many in a unit up to the line, by its place among the lines that declare names. These are in the order
-- of the unit's lists, and an event port counts as two.
abbrev pub exceeds_in_unit : Unit → ℕ → LineForm → Bool
exceeds_in_unit unit place (form.Param param) = nat_lt param_limit (place + 1)
exceeds_in_unit unit place (form.State state) = nat_lt state_limit (place - length unit.params + 1)
exceeds_in_unit unit place (form.Local local) = nat_lt local_limit (place - length unit.params - length unit.states + 1)
exceeds_in_unit unit place (form.Input input) = nat_lt input_limit (place - length unit.params - length unit.states - length unit.locals + 1)
exceeds_in_unit unit place (form.EventInput event) =
    nat_lt input_limit (length unit.inputs + 2 * (place - length unit.params - length unit.states - length unit.locals - length unit.inputs + 1))
exceeds_in_unit unit place (form.Output output) =
    nat_lt output_limit (place - length unit.params - length unit.states - length unit.locals - length unit.inputs - length unit.events_in + 1)
exceeds_in_unit unit place (form.EventOutput event) =
    nat_lt output_limit
    (length unit.outputs
    + 2 * (place - length unit.params - length unit.states - length unit.locals - length unit.inputs - length unit.events_in - length unit.outputs + 1))
exceeds_in_unit unit place line = false

-- There are too many outside blocks up to the line.
abbrev pub exceeds_on_top : System → ℕ → LineForm → Bool
exceeds_on_top system place (form.Unit name) = nat_lt unit_limit (place + 1)
exceeds_on_top system place (form.Instance name unit) = nat_lt instance_limit (place + 1)
exceeds_on_top system place (form.Connect wire) = nat_lt connection_limit (plain_wire_count system (place + 1))
exceeds_on_top system place (form.Sample port) = nat_lt sample_limit (place + 1)
exceeds_on_top system place line = false

-- Rule 16: there are too many of the line's kind, up to the line.
abbrev pub exceeds_at : System → Scope → ℕ → LineForm → Bool
exceeds_at system TopScope place line = exceeds_on_top system place line
exceeds_at system (UnitScope unit) place line = exceeds_in_unit unit place line
exceeds_at system (StepScope unit) place line = nat_lt 500 (place + 1)
exceeds_at system (InstanceScope instance) place line = false
