-- The phase of a run at whose stand no cell was filled.
use Rattle.std.proofs.Common.{◌≡◌, ◌+◌, false, [], map, cond, Option, Some, None, refl, sym, ap, subst, ◌∙◌}
use Rattle.std.specs.Prelude.{◌&&◌, is_some, is_none}
use Rattle.trace_core.specs.Runs.{RunState, IsPhase, cells_of, cell_of, first_end, phase_or, is_ended}
use Rattle.trace_core.specs.declared.phase.Phase.{Phase}
use Rattle.trace_core.specs.declared.phase.Phase.TheVariants.{Trial, Redo, Ended}
use Rattle.unit_tree.specs.Compositions.{Composition}
use Rattle.unit_tree.specs.Successor.{proposed, trial_end, is_redone, successor, ends}
use Rattle.unit_tree.specs.Trace.{Stand, cells_of_trial, cells_of_redo, cells_at}
use Rattle.unit_tree.specs.declared.ending.Ending.{Ending}
use Rattle.trace_rows.specs.Passing.{IsFresh}

-- A trial of the proposed step.
pub record IsTried (r : RunState) : Type 0 where
  pub going : first_end r.plan.run r.stand ≡ None
  pub phase : r.phase ≡ Trial (proposed r.plan.run r.stand.at r.stand.ports)
  pub cells : r.cells ≡ map (cell_of r.stand.at.point.t (proposed r.plan.run r.stand.at r.stand.ports)) r.plan.run.members

-- Or the end.
pub record IsOver (r : RunState) (ending : Ending) : Type 0 where
  pub over : first_end r.plan.run r.stand ≡ Some ending
  pub phase : r.phase ≡ Ended ending
  pub none : r.cells ≡ []

abbrev pub By : RunState → Option Ending → Type 0
By r (Some ending) = IsOver r ending
By r None = IsTried r

pub phase_by : (r : RunState) (end : Option Ending) → IsFresh r → first_end r.plan.run r.stand ≡ end → By r end
phase_by r (Some ending) fresh is =
    let phase : r.phase ≡ Ended ending = ap (λ (s : RunState). s.phase) fresh ∙ ap (λ end. phase_or end (proposed r.plan.run r.stand.at r.stand.ports)) is in
    record {
      over = is;
      phase = phase;
      none = ap (λ (s : RunState). s.cells) fresh
          ∙ ap (cells_of r.plan.run r.stand.at.point.t) (ap (λ end. phase_or end (proposed r.plan.run r.stand.at r.stand.ports)) is);
    }
phase_by r None fresh is =
    let phase : r.phase ≡ Trial (proposed r.plan.run r.stand.at r.stand.ports) = ap (λ (s : RunState). s.phase) fresh
    ∙ ap (λ end. phase_or end (proposed r.plan.run r.stand.at r.stand.ports)) is in
    record {
      going = is;
      phase = phase;
      cells = ap (λ (s : RunState). s.cells) fresh
          ∙ ap (cells_of r.plan.run r.stand.at.point.t) (ap (λ end. phase_or end (proposed r.plan.run r.stand.at r.stand.ports)) is);
    }

tried_from : (r : RunState) (end : Option Ending) → By r end → ((ending : Ending) → r.phase ≡ Ended ending → ⊥) → IsTried r
tried_from r None by not = by
tried_from r (Some ending) by not = absurd (not ending by.phase)

pub fresh_tried : (r : RunState) → IsFresh r → ((ending : Ending) → r.phase ≡ Ended ending → ⊥) → IsTried r
fresh_tried r fresh not = tried_from r (first_end r.plan.run r.stand) (phase_by r (first_end r.plan.run r.stand) fresh refl) not

pub trial_going : (r : RunState) → IsFresh r → ((ending : Ending) → r.phase ≡ Ended ending → ⊥) → is_ended r.phase ≡ false
trial_going r fresh not = ap is_ended (fresh_tried r fresh not).phase

pub same_end : {one other : Ending} → Ended one ≡ Ended other → one ≡ other
same_end e = cc

pub over_from : (r : RunState) (end : Option Ending) (ending : Ending) → By r end → r.phase ≡ Ended ending → IsOver r ending
over_from r None ending by is = absurd (differ (sym by.phase ∙ is))
  where
    differ : Trial (proposed r.plan.run r.stand.at r.stand.ports) ≡ Ended ending → ⊥
    differ e = cc
over_from r (Some end) ending by is = subst (IsOver r) (same_end (sym by.phase ∙ is)) by

-- Where it ended, the successor is the end.
pub ended_as : (run : Composition) (stand : Stand) (phase : Phase) (ending : Ending) → IsPhase run stand phase [] → phase ≡ Ended ending
    → successor run stand.at stand.ports ≡ ends ending
ended_as run stand (Ended end) ending is same = is.is ∙ ap ends (same_end same)
ended_as run stand (Trial h) ending is same = absurd (cc)
ended_as run stand (Redo h) ending is same = absurd (cc)

-- And there are no cells.
pub cells_ended : (run : Composition) (stand : Stand) (ending : Ending) → first_end run stand ≡ Some ending → cells_at run stand ≡ 0
cells_ended run stand ending over =
    ap (λ (end : Option Ending). cond (is_some end) 0
    (cells_of_trial run stand + cond (is_none (trial_end run stand.at stand.ports) && is_redone run stand.at stand.ports) (cells_of_redo run stand) 0)) over
