-- Laws of runs of nests.
use Rattle.std.specs.Prelude.{◌≡◌, ◌↔◌, ℕ, List}
use Rattle.super_time.specs.declared.point.Point.{Point}
use Rattle.unit_tree.specs.Canonical.{canonical_text}
use Rattle.unit_tree.specs.Orders.{HasNoCycle}
use Rattle.unit_tree.specs.declared.ending.Ending.{Ending}
use Rattle.unit_tree.specs.declared.system.PortName.{PortName}
use Rattle.unit_tree.specs.declared.system.System.{System}
use Rattle.event_runs.specs.EventRuns.{IsEventTraceOf}
use Rattle.event_runs.specs.EventTrace.{EventRow}
use Rattle.nest_text.specs.Nests.{IsNestOf}
use Rattle.nest_text.specs.declared.nest.Nest.{Nest}
use Rattle.nest_names.specs.Flattening.{flat_of, flat_port, follow, levels}
use Rattle.sub_flat.specs.NestRules.{BreaksNest}
use Rattle.text_accept.specs.Accepting.{IsAcceptedAs}
use Rattle.nest_runs.specs.SoundNests.{IsSound}
use Rattle.nest_runs.specs.NestPorts.{LeadsOut, NestPort, OfComponent}
use Rattle.nest_runs.specs.NestTrace.{AreCarried, HasOneNestTraceOf, IsNestTraceOf, PortValues}

-- The trace of a nest is that of its flat system: the same rows, with the same signals of all components' outputs, the
-- same last point and the same ending.
abbrev pub NestsRunAsTheyAreFlat : Type 0
NestsRunAsTheyAreFlat =
    (nest : Nest) → IsSound nest → (rows : List EventRow) (last : Point) (ending : Ending)
    → IsNestTraceOf nest rows last ending ↔ IsEventTraceOf (flat_of nest) rows last ending

-- So it has exactly one trace, if the flat system has no cycle.
abbrev pub NestsHaveOneOutcome : Type 0
NestsHaveOneOutcome = (nest : Nest) → IsSound nest → HasNoCycle (flat_of nest) → HasOneNestTraceOf nest

-- A nested text whose nest keeps the rules of groups runs as the canonical text of its flat system does, if that text
-- is accepted.
abbrev pub NestedTextsRunFlat : Type 0
NestedTextsRunFlat =
    (text : List ℕ) (nest : Nest) (system : System) (lines : List ℕ) → IsNestOf text nest → ((line rule : ℕ) → BreaksNest nest line rule → ⊥)
    → IsAcceptedAs (canonical_text (flat_of nest)) system lines
    → (rows : List EventRow) (last : Point) (ending : Ending) → IsNestTraceOf nest rows last ending ↔ IsEventTraceOf system rows last ending

-- The values at ports of groups depend only on those of components: where two assignments agree at the outputs of
-- components, they agree at each input, and at each output of a group that has an `out` line.
abbrev pub GroupsHaveWhatComponentsHave : Type 0
GroupsHaveWhatComponentsHave =
    (nest : Nest) → IsSound nest → (one other : PortValues) → AreCarried nest one → AreCarried nest other
    → ((port : PortName) → one.outs (OfComponent port) ≡ other.outs (OfComponent port))
    → ((port : NestPort) → one.ins port ≡ other.ins port)
    × ((outer inner : NestPort) → LeadsOut nest outer inner → one.outs outer ≡ other.outs outer)

-- An output of a group has the value of the component's output that its `out` lines lead to.
abbrev pub GroupsShowComponents : Type 0
GroupsShowComponents =
    (nest : Nest) → IsSound nest → (values : PortValues) → AreCarried nest values → (outer inner : NestPort) (line : LeadsOut nest outer inner)
    → values.outs outer ≡ values.outs (OfComponent (flat_port (follow nest levels line.spot)))
