-- What a part adds to the system, or the unit, of the parts before it.
use Rattle.std.proofs.Common.{◌≡◌, ℕ, List, [], ◌∷◌, ◌++◌, Option, Some, None, refl, ap, ◌∙◌}
use Rattle.unit_tree.specs.Parts as parts
use Rattle.unit_tree.specs.Parts.{Part, UnitPart, with_part, with_unit_part, unit_of, system_of}
use Rattle.unit_tree.specs.declared.system.System.{System}
use Rattle.unit_tree.specs.declared.unit.Unit.{Unit}

-- The first of several items of which only one is kept.
abbrev pub first_said : {A : Type 0} → Option A → A → Option A
first_said (Some said) now = Some said
first_said None now = Some now

-- ---- Systems

-- The system with one more part, which comes after those that it has.
abbrev pub with_last : Part → System → System
with_last (parts.HasUnit name inside) system = record system { units = system.units ++ (unit_of name inside ∷ []) }
with_last (parts.HasInstance instance) system = record system { instances = system.instances ++ (instance ∷ []) }
with_last (parts.Connects wire) system = record system { wires = system.wires ++ (wire ∷ []) }
with_last (parts.Stop seconds) system = record system { stop = first_said system.stop seconds }
with_last (parts.Longest seconds) system = record system { longest = first_said system.longest seconds }
with_last (parts.Zero count) system = record system { zero = first_said system.zero count }
with_last (parts.Rows count) system = record system { rows = first_said system.rows count }
with_last (parts.Samples port) system = record system { samples = system.samples ++ (port ∷ []) }

either_first : (one last : Part) (system : System) → with_part one (with_last last system) ≡ with_last last (with_part one system)
either_first (parts.HasUnit name inside) (parts.HasUnit other within) system = refl
either_first (parts.HasInstance instance) (parts.HasInstance other) system = refl
either_first (parts.Connects wire) (parts.Connects other) system = refl
either_first (parts.Stop seconds) (parts.Stop other) system = refl
either_first (parts.Longest seconds) (parts.Longest other) system = refl
either_first (parts.Zero count) (parts.Zero other) system = refl
either_first (parts.Rows count) (parts.Rows other) system = refl
either_first (parts.Samples port) (parts.Samples other) system = refl
either_first _ _ system = refl

pub system_and_part : (version : ℕ) (all : List Part) (last : Part) → system_of version (all ++ (last ∷ [])) ≡ with_last last (system_of version all)
system_and_part version [] (parts.HasUnit name inside) = refl
system_and_part version [] _ = refl
system_and_part version (one ∷ all) last = ap (with_part one) (system_and_part version all last) ∙ either_first one last (system_of version all)

-- ---- Units

abbrev pub with_last_inside : UnitPart → Unit → Unit
with_last_inside (parts.Resolution decimals) unit = record unit { resolution = first_said unit.resolution decimals }
with_last_inside (parts.HasParam param) unit = record unit { params = unit.params ++ (param ∷ []) }
with_last_inside (parts.HasState state) unit = record unit { states = unit.states ++ (state ∷ []) }
with_last_inside (parts.HasLocal local) unit = record unit { locals = unit.locals ++ (local ∷ []) }
with_last_inside (parts.HasInput input) unit = record unit { inputs = unit.inputs ++ (input ∷ []) }
with_last_inside (parts.HasEventIn event) unit = record unit { events_in = unit.events_in ++ (event ∷ []) }
with_last_inside (parts.HasOutput output) unit = record unit { outputs = unit.outputs ++ (output ∷ []) }
with_last_inside (parts.HasEventOut event) unit = record unit { events_out = unit.events_out ++ (event ∷ []) }
with_last_inside (parts.Max value) unit = record unit { max = first_said unit.max value }
with_last_inside (parts.Step lines) unit = record unit { step = first_said unit.step lines }

either_inside : (one last : UnitPart) (unit : Unit) → with_unit_part one (with_last_inside last unit) ≡ with_last_inside last (with_unit_part one unit)
either_inside (parts.Resolution decimals) (parts.Resolution other) unit = refl
either_inside (parts.HasParam param) (parts.HasParam other) unit = refl
either_inside (parts.HasState state) (parts.HasState other) unit = refl
either_inside (parts.HasLocal local) (parts.HasLocal other) unit = refl
either_inside (parts.HasInput input) (parts.HasInput other) unit = refl
either_inside (parts.HasEventIn event) (parts.HasEventIn other) unit = refl
either_inside (parts.HasOutput output) (parts.HasOutput other) unit = refl
either_inside (parts.HasEventOut event) (parts.HasEventOut other) unit = refl
either_inside (parts.Max value) (parts.Max other) unit = refl
either_inside (parts.Step lines) (parts.Step other) unit = refl
either_inside _ _ unit = refl

pub unit_and_part : (name : List ℕ) (inside : List UnitPart) (last : UnitPart)
    → unit_of name (inside ++ (last ∷ [])) ≡ with_last_inside last (unit_of name inside)
unit_and_part name [] (parts.Resolution decimals) = refl
unit_and_part name [] _ = refl
unit_and_part name (one ∷ inside) last = ap (with_unit_part one) (unit_and_part name inside last) ∙ either_inside one last (unit_of name inside)
