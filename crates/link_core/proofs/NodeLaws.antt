-- The invariant of a node when it works.
use Rattle.std.proofs.Common.{◌≡◌, ◌∙◌, ℕ, ℤ, List, length, map, sym, ap, subst}
use Rattle.link_core.specs.Inner.{IsSet}
use Rattle.link_laws.specs.Keeping.{KeepsTo}
use Rattle.link_laws.specs.Making.{ports_in, rule_of}
use Rattle.link_laws.specs.Nodes.{Making, Progress, worked}
use Rattle.link_core.specs.Noted.{AreNotes, IsTrue, is_defined, making_in, part_at}
use Rattle.link_core.specs.Ready.{IsJudged, IsReady, kept_in, progress_in, shown_in}
use Rattle.link_core.specs.declared.course.NodePosition.{NodePosition}
use Rattle.link_core.specs.declared.course.Kept.{Kept}
use Rattle.link_core.specs.declared.notes.Notes.{Notes}
use Rattle.link_laws.specs.declared.taken.Taken.{Taken}
use Rattle.link_core.proofs.WorkLaws.{is_true, keeps_working}
use Rattle.port_solve.specs.Solved.{HaveTheirWords}
use Rattle.trace_plan.specs.Plans.{Planned}
use Rattle.trace_units.specs.Fleets.{Fleet}
use Rattle.unit_tree.specs.Compositions.{Composition}

pub noted_again : (run : Composition) (old new : Notes) → making_in new ≡ making_in old → new.defined.items ≡ old.defined.items → AreNotes run old
    → AreNotes run new
noted_again run old new same defined are = record {
  words = ap (λ (m : Making). length m.known.words) same ∙ are.words;
  limits = ap (λ (m : Making). length m.known.limits) same ∙ are.limits;
  replies = ap (λ (m : Making). length m.known.replies) same ∙ are.replies;
  redos = ap (λ (m : Making). length m.known.redos) same ∙ are.redos;
  defined = defined ∙ are.defined ∙ ap (λ (m : Making). map is_defined m.known.words) (sym same);
}

-- Notes with the same contents are those of the same node.
pub same_progress : (owners : List ℕ) (me : ℕ) (states : List (List ℤ)) (old new : Notes) (course : NodePosition) (kept : Kept) → making_in new ≡ making_in old
    → progress_in owners me states new course kept ≡ progress_in owners me states old course kept
same_progress owners me states old new course kept same =
    ap (λ (m : Making). record {
      at = part_at owners me course.point course.number states;
      known = m.known;
      ended = course.ended;
      kept = kept_in owners me kept;
      facts = m.facts;
      row = shown_in course.shown;
    }) same

module _ (plan : Planned) (judged : IsJudged plan.run) (owners : List ℕ) (me : ℕ) (units : Fleet) (notes : Notes) (course : NodePosition) (kept : Kept)
    (before : List (List ℤ)) (set : IsSet plan owners me units notes course kept before)
    (keeps : KeepsTo plan.run (rule_of plan.run owners) me (progress_in owners me units.states notes course kept)) (reserved : Notes)
    (same : making_in reserved ≡ making_in notes) where
  pub ready : reserved.defined.items ≡ notes.defined.items → IsReady plan owners me course.point course.number units reserved
  ready defined = record {
    tied = set.tied;
    owned = set.owned;
    few = set.few;
    noted = noted_again plan.run notes reserved same defined set.noted;
    words = subst (λ (m : Making). HaveTheirWords plan.run (ports_in m.known.words) units.inputs) (sym same) set.words;
    truth = subst (λ (m : Making). IsTrue plan.run owners me course.point course.number units.states m.known) (sym same)
        (is_true plan.run judged owners me set.owned units.states notes course kept keeps);
  }

  pub did_is : (did : Progress × Taken) → did ≡ worked (rule_of plan.run owners) me (progress_in owners me units.states reserved course kept)
      → did ≡ worked (rule_of plan.run owners) me (progress_in owners me units.states notes course kept)
  did_is did is = is ∙ ap (worked (rule_of plan.run owners) me) (same_progress owners me units.states notes reserved course kept same)

  pub keeps_new : (did : Progress × Taken) → did ≡ worked (rule_of plan.run owners) me (progress_in owners me units.states reserved course kept)
      → KeepsTo plan.run (rule_of plan.run owners) me did.0
  keeps_new did is = keeps_working plan.run judged owners me set.owned units.states notes course kept keeps did (did_is did is)
