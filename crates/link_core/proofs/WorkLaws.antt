-- A node that works.
use Rattle.std.proofs.Common.{◌≡◌, ◌∙◌, ℕ, ◌≤◌, ◌<◌, ℤ, List, length, is_some, Option, Some, None, refl, sym, ap, subst}
use Rattle.std.specs.Prelude.{if◌then◌else◌}
use Rattle.link_laws.specs.Keeping.{IsRightRule, KeepsTo}
use Rattle.link_laws.specs.Making.{made, move_by, rule_of, stage_at}
use Rattle.link_laws.specs.Nodes.{Making, Progress, moved, worked}
use Rattle.link_core.specs.Noted.{IsTrue, making_in, part_at}
use Rattle.link_core.specs.Ready.{IsJudged, all_made, kept_in, progress_in, shown_in}
use Rattle.link_core.specs.declared.course.NodePosition.{NodePosition}
use Rattle.link_core.specs.declared.course.Kept.{Kept}
use Rattle.link_core.specs.declared.notes.Notes.{Notes}
use Rattle.link_laws.specs.declared.taken.Taken.{Taken}
use Rattle.link_laws.specs.declared.taken.Taken.TheVariants.{Ended}
use Rattle.link_laws.proofs.PairLaws.{work_keeps}
use Rattle.link_laws.proofs.PlaceLaws.{place_within}
use Rattle.link_laws.proofs.PrefixLaws.{behind, made_behind}
use Rattle.link_laws.proofs.RuleLaws.{rule_is_right}
use Rattle.super_time.specs.declared.point.Point.{Point}
use Rattle.unit_tree.specs.Compositions.{Composition}
use Rattle.unit_tree.specs.Successor.{Position}
use Rattle.unit_tree.specs.declared.ending.Ending.{Ending}

module _ (run : Composition) (owners : List ℕ) (me : ℕ) (states : List (List ℤ)) (notes made_notes : Notes) (course : NodePosition) (kept : Kept) where
  abbrev here : Position
  here = part_at owners me course.point course.number states

  abbrev node : Progress
  node = progress_in owners me states notes course kept

  abbrev making : Making
  making = made run owners me here (making_in notes).known

  made_is : making_in made_notes ≡ all_made run owners me here (making_in notes) → making_in made_notes ≡ behind notes.facts.items making
  made_is is = is ∙ made_behind notes.facts.items run owners me here (making_in notes).known

  abbrev moves : Making → Progress × Taken
  moves all = moved (rule_of run owners)
      (record { at = here; known = all.known; ended = course.ended; kept = kept_in owners me kept; facts = all.facts; row = shown_in course.shown })
      (move_by run owners me here all.known (stage_at run here all.known))

  pub work_is : (did : Progress × Taken) → course.ended ≡ None → making_in made_notes ≡ all_made run owners me here (making_in notes)
      → did ≡ moves (making_in made_notes) → did ≡ worked (rule_of run owners) me node
  work_is did going all is = is ∙ ap moves (made_is all) ∙ sym (by_end course.ended going)
    where
      by_end : (ended : Option Ending) → ended ≡ None → (if is_some ended then (node, Ended) else moves (behind notes.facts.items making)) ≡ moves
          (behind notes.facts.items making)
      by_end None going = refl
      by_end (Some ending) going = absurd (cc)

-- ---- What is known of a node that keeps to the trace

module _ (run : Composition) (judged : IsJudged run) (owners : List ℕ) (me : ℕ) (owns : length owners ≡ length run.members) where
  pub right : IsRightRule run (rule_of run owners)
  right = rule_is_right run judged.order owners judged.is_order judged.members owns

  module _ (states : List (List ℤ)) (notes : Notes) (course : NodePosition) (kept : Kept)
      (keeps : KeepsTo run (rule_of run owners) me (progress_in owners me states notes course kept)) where
    pub is_true : IsTrue run owners me course.point course.number states (making_in notes).known
    is_true = record { stand = keeps.stand; place = keeps.stands.place; part = keeps.stands.part; agrees = keeps.agrees }

    pub record Bounds : Type 0 where
      pub time : course.point.t ≤ run.stop
      pub zeros : course.point.n ≤ run.zero_budget
      pub rows : course.number < run.row_budget

    pub bounds : Bounds
    bounds =
        let within = place_within run judged.order judged.members judged.is_order keeps.stand judged.bounded.some_row keeps.stands.place in
        let point = ap (λ (at : Position). at.point) keeps.stands.part in
        let number = ap (λ (at : Position). at.number) keeps.stands.part in
        record {
          time = subst (λ (p : Point). p.t ≤ run.stop) (sym point) within.0.stop;
          zeros = subst (λ (p : Point). p.n ≤ run.zero_budget) (sym point) within.0.zeros;
          rows = subst (λ n. n < run.row_budget) (sym number) within.1;
        }

    pub keeps_working : (did : Progress × Taken) → did ≡ worked (rule_of run owners) me (progress_in owners me states notes course kept)
        → KeepsTo run (rule_of run owners) me did.0
    keeps_working did is =
        subst (λ (one : Progress × Taken). KeepsTo run (rule_of run owners) me one.0) (sym is)
        (work_keeps run (rule_of run owners) right me (progress_in owners me states notes course kept) keeps)
