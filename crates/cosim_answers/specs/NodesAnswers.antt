-- The answers of `nodes`, and the rule by which it refuses a system.
--
--   rule 34   the product of the budget of rows and the outputs, or instances, is too large for two nodes
use Rattle.std.specs.Prelude.{◌≡◌, ℕ, ◌*◌, ◌<◌, ◌≤◌, max, List, [], ◌∷◌, ◌++◌, length, take, is_some, if◌then◌else◌, Option, Some, None}
use Rattle.std.specs.List.{flat_map}
use Rattle.event_csv.specs.EventText.{event_text}
use Rattle.event_runs.specs.EventRuns.{event_run_of}
use Rattle.event_runs.specs.EventTrace.{EventStand, IsEventTrace, event_rows_of}
use Rattle.link_laws.specs.Nodes.{Progress}
use Rattle.link_laws.specs.Pairs.{Pair}
use Rattle.link_nodes.specs.Rounds.{pair_after}
use Rattle.link_nodes.specs.Shown.{told_of}
use Rattle.link_nodes.specs.declared.run.Nodes.{Nodes}
use Rattle.super_time.specs.declared.point.Point.{Point}
use Rattle.unit_tree.specs.Compositions.{Composition, run_of}
use Rattle.unit_tree.specs.declared.ending.Ending.{Ending}
use Rattle.unit_tree.specs.declared.system.System.{System}
use Rattle.unit_tree.specs.declared.unit.Output.{Output}
use Rattle.command_line.specs.declared.splitting.Splitting.{Splitting}
use Rattle.cosim_call.specs.Answers.{Answer}
use Rattle.cosim_call.specs.declared.status.Status.{Status}
use Rattle.cosim_call.specs.declared.status.Status.TheVariants as status
use Rattle.cosim_answers.specs.Accepted.{OnAccepted, RefusesAlso, status_of, traced_notes}
use Rattle.cosim_answers.specs.Notes.{nodes_text}
use Rattle.cosim_answers.specs.SourcePlaces.{source_end}

-- ---- Systems that are too large

-- The outputs of the plain form.
abbrev pub outputs_run : Composition → List Output
outputs_run run = flat_map (λ member. member.component.unit.outputs) run.members

-- The greatest number of words in its rows, or of instances times rows, whichever is more.
abbrev pub size_for_nodes : Composition → ℕ
size_for_nodes run = run.row_budget * max (length (outputs_run run)) (length run.members)

abbrev pub nodes_limit : ℕ
nodes_limit = 1000000

-- This is more than two nodes serve: rule 34.
abbrev pub IsTooLargeForNodes : System → Type 0
IsTooLargeForNodes system = nodes_limit < size_for_nodes (run_of system)

abbrev pub NodesRefuses : List ℕ → ℕ → ℕ → Type 0
NodesRefuses = RefusesAlso IsTooLargeForNodes 34

-- ---- Answers

-- The status, by how node 0 ended, where it did.
abbrev pub node_status : Option Ending → Status
node_status None = status.Done
node_status (Some ending) = status_of ending

abbrev pub node_notes : System → Option Ending → Point → List (List ℕ)
node_notes system None last = []
node_notes system (Some ending) last = traced_notes system (source_end system ending) last

abbrev pub told_notes : System → Nodes → List (List ℕ)
told_notes system nodes = node_notes system nodes.outcome nodes.last ++ nodes_text nodes.first nodes.second ∷ []

-- The stands of a trace that a node has committed: those before its number, or all where it has ended.
abbrev pub stands_committed : Progress → List EventStand → List EventStand
stands_committed node stands = if is_some node.ended then stands else take node.at.number stands

-- The text of the rows of these stands that node 0 has committed, and the progress of both nodes.
abbrev pub nodes_answer : System → Pair → List EventStand → Answer
nodes_answer system pair stands = record {
  out = event_text system (event_rows_of (event_run_of system) (stands_committed pair.first stands));
  notes = told_notes system (told_of pair);
  status = node_status pair.first.ended;
}

-- The answer is the rows of the one trace that node 0 has committed after the rounds that are asked for.
pub record TellsNodes (asked : Splitting) (system : System) (answer : Answer) : Type 0 where
  pub fits : size_for_nodes (run_of system) ≤ nodes_limit
  pub stands : List EventStand
  pub ending : Ending
  pub trace : IsEventTrace (event_run_of system) stands ending
  pub is : answer ≡ nodes_answer system (pair_after (run_of system) asked.seed asked.rounds) stands

abbrev pub AnswersNodes : Splitting → List ℕ → Answer → Type 0
AnswersNodes asked = OnAccepted (TellsNodes asked)
