-- The invariant of a node, with its private fields.
use Rattle.std.specs.Prelude.{◌≡◌, ◌≤◌, ◌^◌, ℕ, ℤ, List, map, length, vec_capacity}
use Rattle.std.specs.List.{AllByRecursion}
use Rattle.link_laws.specs.Keeping.{KeepsTo}
use Rattle.link_laws.specs.Lengths.{AreOfWords}
use Rattle.link_laws.specs.Making.{ports_in, rule_of}
use Rattle.link_core.specs.NodeStates.{NodeState}
use Rattle.link_core.specs.Noted.{AreNotes}
use Rattle.link_core.specs.Ready.{progress_in}
use Rattle.link_core.specs.declared.course.NodePosition.{NodePosition}
use Rattle.link_core.specs.declared.course.Kept.{Kept}
use Rattle.link_core.specs.declared.node.Node.TheInside.{Inside}
use Rattle.link_core.specs.declared.notes.Notes.{Notes}
use Rattle.port_solve.specs.Solved.{HaveStates, HaveTheirWords}
use Rattle.trace_plan.specs.Plans.{Planned}
use Rattle.trace_units.specs.Fleets.{Fleet}
use Rattle.unit_tree.specs.Routes.{routes_of}

abbrev pub node_state : Inside → NodeState
node_state node = record {
  plan = node.plan.value;
  owners = node.owners;
  me = node.me;
  progress = progress_in node.owners node.me node.units.states node.notes node.course node.kept;
}

-- Its units are those of its plan, and inputs have the known words. There is memory for the states of all instances, twice, and for
-- the words of a row.
pub record IsSet (plan : Planned) (owners : List ℕ) (me : ℕ) (units : Fleet) (notes : Notes) (course : NodePosition) (kept : Kept)
    (before : List (List ℤ)) : Type 0 where
  pub tied : units.plan ≡ plan
  pub owned : length owners ≡ length plan.run.members
  pub one_or_other : AllByRecursion (λ owner. owner ≤ 1) owners
  pub me_is : me ≤ 1
  pub few : length (routes_of plan.run).outputs ≤ 2 ^ 32
  pub noted : AreNotes plan.run notes
  pub words : HaveTheirWords plan.run (ports_in notes.words.items) units.inputs
  pub kept_long : HaveStates plan.run (map (λ one. one.items) kept.states.items)
  pub before_long : HaveStates plan.run before
  pub room : length (routes_of plan.run).outputs ≤ vec_capacity course.shown.words

-- A node keeps to the trace, and the numbers of its plan are words of 64 bits.
pub record IsNode (node : Inside) : Type 0 where
  pub keeps : KeepsTo node.plan.value.run (rule_of node.plan.value.run node.owners) node.me (node_state node).progress
  pub is_set : IsSet node.plan.value node.owners node.me node.units node.notes node.course node.kept (map (λ one. one.items) node.before.items)
  pub of_words : AreOfWords node.plan.value.run
