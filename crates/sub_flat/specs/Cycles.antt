-- Groups that contain themselves.
use Rattle.std.specs.Prelude.{ℕ, zero, suc, List, Some}
use Rattle.std.specs.List.{filter_map}
use Rattle.unit_tree.specs.Ports.{IsAmong}
use Rattle.nest_text.specs.declared.nest.Nest.{Nest}
use Rattle.nest_names.specs.Flattening.{group_place, instances_of}

-- The places of the groups of a group's instances.
abbrev pub inner_places : Nest → ℕ → List ℕ
inner_places nest place = filter_map (λ instance. group_place nest instance.unit) (instances_of nest (Some place))

-- A group contains another through this many groups between them.
abbrev pub Leads : (ℕ → List ℕ) → ℕ → ℕ → ℕ → Type 0
Leads inner zero from to = IsAmong (inner from) to
Leads inner (suc count) from to = (between : ℕ) × IsAmong (inner from) between × Leads inner count between to

abbrev pub LeadsBack : (ℕ → List ℕ) → ℕ → Type 0
LeadsBack inner place = (count : ℕ) × Leads inner count place place

abbrev pub ContainsItself : Nest → ℕ → Type 0
ContainsItself nest place = LeadsBack (inner_places nest) place
