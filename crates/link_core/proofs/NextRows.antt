-- A node that goes on to the next row.
use Rattle.std.proofs.Common.{◌≡◌, ◌∙◌, ℕ, suc, ◌+◌, ◌==◌, Bool, true, false, ℤ, List, [], ◌∷◌, length, map, Option, None, refl, sym, ap, ap₂, arith}
use Rattle.std.specs.Prelude.{if◌then◌else◌, zip}
use Rattle.link_laws.specs.Boards.{Board}
use Rattle.link_laws.specs.Making.{move_by, names_of, nothing_known, own_after, own_states, ports_in, row_shown, rule_of, stage_at}
use Rattle.link_laws.specs.Nodes.{Making, Progress, moved}
use Rattle.link_core.specs.Noted.{AreNotes, forgotten, making_in, part_at, place_of, stepped}
use Rattle.link_laws.specs.Boards.{are_nothing}
use Rattle.link_core.specs.Ready.{kept_in, progress_in, shown_in}
use Rattle.link_core.specs.declared.course.NodePosition.{NodePosition}
use Rattle.link_core.specs.declared.course.Kept.{Kept}
use Rattle.link_core.specs.declared.course.Shown.{Shown}
use Rattle.link_laws.specs.declared.fact.Fact.{Fact}
use Rattle.link_core.specs.declared.notes.Notes.{Notes}
use Rattle.link_laws.specs.declared.stage.Stage.TheVariants.{On}
use Rattle.link_laws.specs.declared.taken.Taken.{Taken}
use Rattle.link_laws.specs.declared.taken.Taken.TheVariants.{Row}
use Rattle.link_laws.proofs.PlaceLaws.{nothing_same}
use Rattle.link_core.proofs.StageItems.{names_count}
use Rattle.link_core.proofs.StepBodies.{own_stepped}
use Rattle.super_time.specs.declared.point.Point.{Point}
use Rattle.unit_tree.specs.Compositions.{Composition, Member}
use Rattle.unit_tree.specs.Negotiation.{state_after, step_at}
use Rattle.unit_tree.specs.Ports.{Ports}
use Rattle.unit_tree.specs.Successor.{Position, point_after}
use Rattle.unit_tree.specs.Trace.{Row as TraceRow}

-- The node's own states after a step are those of a step from them.
own_from : (me t h : ℕ) (ports : Ports) (owners : List ℕ) (members : List Member) (states : List (List ℤ)) → length owners ≡ length members
    → length states ≡ length members
    → own_states owners me (map state_after (zip (own_states owners me states)
    (map (step_at t h ports) (zip members (own_states owners me states))))) ≡ own_states owners me
    (map state_after (zip states (map (step_at t h ports) (zip members states))))
own_from me t h ports [] members states owns long = refl
own_from me t h ports (owner ∷ owners) [] states owns long = absurd (omega (arith, owns))
own_from me t h ports (owner ∷ owners) (member ∷ members) [] owns long = absurd (omega (arith, long))
own_from me t h ports (owner ∷ owners) (member ∷ members) (state ∷ states) owns long =
    ap₂ (λ first rest. first ∷ rest) (by_test (owner == me)) (own_from me t h ports owners members states (omega (arith, owns)) (omega (arith, long)))
  where
    by_test : (test : Bool) → (if test then state_after (if test then state else [], step_at t h ports (member, if test then state else [])) else []) ≡
        (if test then state_after (state, step_at t h ports (member, state)) else [])
    by_test true = refl
    by_test false = refl

-- Notes that are cleared know nothing.
pub known_is : (run : Composition) (notes cleared : Notes) → AreNotes run notes → making_in cleared ≡ forgotten (making_in notes)
    → (making_in cleared).known ≡ nothing_known run
known_is run notes cleared noted notes_are =
    let words = nothing_same notes.words.items (names_of run) (noted.words ∙ sym (names_count run)) in
    let limits = nothing_same notes.limits.items run.members noted.limits in
    let replies = nothing_same notes.replies.items run.members noted.replies in
    let redos = nothing_same notes.redos.items run.members noted.redos in
    ap (λ (making : Making). making.known) notes_are
    ∙ ap₂ (λ w l. record { words = w; limits = l; replies = are_nothing notes.replies.items; redos = are_nothing notes.redos.items }) words limits
    ∙ ap₂ (λ r d. record { words = map (λ name. None) (names_of run); limits = map (λ member. None) run.members; replies = r; redos = d }) replies redos

module _ (run : Composition) (owners : List ℕ) (me : ℕ) (owns : length owners ≡ length run.members) (states after : List (List ℤ)) (notes cleared : Notes)
    (course : NodePosition) (kept : Kept) (point : Point) (shown : Shown) (h : ℕ)
    (long : length states ≡ length run.members) (noted : AreNotes run notes) where
  abbrev known : Board
  known = (making_in notes).known

  abbrev here : Position
  here = part_at owners me course.point course.number states

  abbrev ports : Ports
  ports = ports_in known.words

  abbrev mk : Position → Board → List Fact → Option TraceRow → Progress × Taken
  mk at board facts row = (record { at = at; known = board; ended = course.ended; kept = kept_in owners me kept; facts = facts; row = row }, Row)

  module _ (stage_is : stage_at run here known ≡ On h) (states_are : after ≡ stepped run owners me course.point.t h ports states)
      (notes_are : making_in cleared ≡ forgotten (making_in notes))
      (point_is : point ≡ point_after course.point h) (shown_is : shown_in shown ≡ row_shown run (place_of course.point) known) where
    at_is : part_at owners me point (course.number + 1) after ≡ own_after run owners me here ports h
    at_is =
        let more : course.number + 1 ≡ suc course.number = omega arith in
        let own : own_states owners me after ≡ (own_after run owners me here ports h).states =
        ap (own_states owners me) states_are ∙ own_stepped me course.point.t h ports owners run.members states owns long
        ∙ sym (own_from me course.point.t h ports owners run.members states owns long) in
        ap₂ (λ p n. record { point = p; states = own_states owners me after; number = n }) point_is more
        ∙ ap (λ all. record { point = point_after course.point h; states = all; number = suc course.number }) own

    pub moved_on : (progress_in owners me after cleared (record { point = point; number = course.number + 1; ended = course.ended; shown = shown }) kept, Row)
        ≡ moved (rule_of run owners) (progress_in owners me states notes course kept) (move_by run owners me here known (stage_at run here known))
    moved_on =
        ap₂ (λ at board. mk at board cleared.facts.items (shown_in shown)) at_is (known_is run notes cleared noted notes_are)
        ∙ ap₂ (λ facts row. mk (own_after run owners me here ports h) (nothing_known run) facts row) (ap (λ (making : Making). making.facts) notes_are) shown_is
        ∙ sym (ap (λ stage. moved (rule_of run owners) (progress_in owners me states notes course kept) (move_by run owners me here known stage)) stage_is)
