-- The rules that compare a line with earlier ones, tested by the place of a line alone: an item is repeated where its
-- first place is before the line's own place.
use Rattle.std.specs.Prelude.{ℕ, nat_lt, Bool, false, List, map, Option, Some, None}
use Rattle.std.specs.List.{position_from}
use Rattle.unit_names.specs.Found.{first_place, declared_names}
use Rattle.unit_tree.specs.Names.{same_port}
use Rattle.unit_tree.specs.Sites.{Scope, TopScope, UnitScope, InstanceScope}
use Rattle.unit_tree.specs.WellFormed.{name_declared, repeats_need}
use Rattle.unit_tree.specs.declared.line_form.LineForm.{LineForm}
use Rattle.unit_tree.specs.declared.line_form.LineForm.TheVariants as form
use Rattle.unit_tree.specs.declared.system.PortName.{PortName}
use Rattle.unit_tree.specs.declared.system.System.{System}
use Rattle.unit_tree.specs.declared.unit.Unit.{Unit}

-- There is a first place, and it is before another place.
abbrev pub is_before : ℕ → Option ℕ → Bool
is_before place None = false
is_before place (Some first) = nat_lt first place

-- The first place of a port in a list.
abbrev pub first_port : List PortName → PortName → Option ℕ
first_port ports port = position_from (same_port port) 0 ports

-- The name that a line of a unit declares was declared before.
abbrev pub declares_again : Unit → ℕ → Option (List ℕ) → Bool
declares_again unit place None = false
declares_again unit place (Some name) = is_before place (first_place (declared_names unit) name)

-- Rule 8: a name is declared again.
abbrev pub redeclares_at : System → Scope → ℕ → LineForm → Bool
redeclares_at system TopScope place (form.Unit name) = is_before place (first_place (map (λ unit. unit.name) system.units) name)
redeclares_at system TopScope place (form.Instance name unit) = is_before place (first_place (map (λ instance. instance.name) system.instances) name)
redeclares_at system (UnitScope unit) place line = declares_again unit place (name_declared line)
redeclares_at system scope place line = false

-- Rule 13: an input is connected again.
abbrev pub connects_again_at : System → ℕ → LineForm → Bool
connects_again_at system place (form.Connect wire) = is_before place (first_port (map (λ wire. wire.to) system.wires) wire.to)
connects_again_at system place line = false

-- Rule 24: a parameter is set again, a port is sampled again, or a need is named twice.
abbrev pub repeats_at : System → Scope → ℕ → LineForm → Bool
repeats_at system (InstanceScope instance) place (form.Setting setting) =
    is_before place (first_place (map (λ setting. setting.name) instance.settings) setting.name)
repeats_at system scope place (form.Sample port) = is_before place (first_port system.samples port)
repeats_at system scope place line = repeats_need line
