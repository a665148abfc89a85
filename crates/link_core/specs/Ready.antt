-- A node that is about to work. No promise depends on these definitions.
use Rattle.std.specs.Prelude.{◌≡◌, ◌≤◌, ◌^◌, ◌-◌, ◌==◌, ◌||◌, Bool, not, is_some, ℕ, ℤ, List, map, length, if◌then◌else◌, Option, Some, None}
use Rattle.link_laws.specs.Boards.{Board, row_of}
use Rattle.link_laws.specs.Making.{is_own, limits_made, ports_in, redos_made, replies_made, words_made}
use Rattle.link_laws.specs.Nodes.{Making, Progress, has}
use Rattle.link_core.specs.Noted.{AreNotes, IsTrue, making_in, part_at}
use Rattle.link_core.specs.declared.course.NodePosition.{NodePosition}
use Rattle.link_core.specs.declared.course.Kept.{Kept}
use Rattle.link_core.specs.declared.course.Shown.{Shown}
use Rattle.link_laws.specs.declared.fact.Fact.{Fact}
use Rattle.link_core.specs.declared.notes.Notes.{Notes}
use Rattle.port_solve.specs.Solved.{HaveTheirWords}
use Rattle.port_solve.specs.Sound.{IsSound}
use Rattle.super_time.specs.declared.point.Point.{Point}
use Rattle.trace_plan.specs.Plans.{IsBounded, Planned}
use Rattle.trace_units.specs.Fleets.{Fleet}
use Rattle.unit_tree.specs.Compositions.{AreMembers, Composition}
use Rattle.unit_tree.specs.Ports.{IsPlaceOrder}
use Rattle.unit_tree.specs.Routes.{routes_of}
use Rattle.unit_tree.specs.Successor.{Position}
use Rattle.unit_tree.specs.Trace.{Row as TraceRow}

-- ---- The progress of a node, from its fields

abbrev pub shown_in : Shown → Option TraceRow
shown_in shown = if shown.there then Some (record { point = shown.point; words = shown.words.items }) else None

abbrev pub kept_in : List ℕ → ℕ → Kept → Position
kept_in owners me kept = part_at owners me kept.point kept.number (map (λ one. one.items) kept.states.items)

abbrev pub progress_in : List ℕ → ℕ → List (List ℤ) → Notes → NodePosition → Kept → Progress
progress_in owners me states notes course kept = record {
  at = part_at owners me course.point course.number states;
  known = (making_in notes).known;
  ended = course.ended;
  kept = kept_in owners me kept;
  facts = notes.facts.items;
  row = shown_in course.shown;
}

-- ---- What is known of every plan's run

pub record IsJudged (run : Composition) : Type 0 where
  pub order : List ℕ
  pub is_order : IsPlaceOrder run order
  pub members : AreMembers run
  pub sound : IsSound run
  pub bounded : IsBounded run

-- ---- A node that will make facts

pub record IsReady (plan : Planned) (owners : List ℕ) (me : ℕ) (point : Point) (row : ℕ) (units : Fleet) (notes : Notes) : Type 0 where
  pub tied : units.plan ≡ plan
  pub owned : length owners ≡ length plan.run.members
  pub few : length (routes_of plan.run).outputs ≤ 2 ^ 32
  pub noted : AreNotes plan.run notes
  pub words : HaveTheirWords plan.run (ports_in notes.words.items) units.inputs
  pub truth : IsTrue plan.run owners me point row units.states (making_in notes).known

-- All that a node makes, after what it had.
abbrev pub all_made : Composition → List ℕ → ℕ → Position → Making → Making
all_made run owners me at making = redos_made run owners me at
    (replies_made run owners me at (limits_made run owners me at (words_made run owners me at making)))

-- ---- Facts that arrive

-- A node drops the fact.
abbrev pub is_dropped : Composition → List ℕ → ℕ → NodePosition → Board → Fact → Bool
is_dropped run owners me course known fact =
    is_some course.ended || (not (row_of fact == course.number) || (not (is_own run owners (1 - me) fact) || has known fact))
