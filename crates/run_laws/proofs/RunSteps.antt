-- Each step that a run makes, and each stand of its trace, is right.
use Rattle.std.proofs.Common.{◌≡◌, ℕ, suc, ◌<◌, ◌≤◌, ◌==◌, false, List, [], ◌∷◌, Option, Some, None, refl, sym, subst, arith}
use Rattle.std.proofs.lemmas.Bool.Decides.{nat_tests}
use Rattle.std.specs.List.{AllByRecursion}
use Rattle.unit_tree.specs.Compositions.{Composition, AreMembers}
use Rattle.unit_tree.specs.Ports.{first_some}
use Rattle.run_laws.specs.RunLaws.{IsRightStep, HasRightStands}
use Rattle.unit_tree.specs.Successor.{Position, first_position, after, goes, ends_at, ends_or, row_end}
use Rattle.unit_tree.specs.Trace.{Stand, Goes, Follows, IsTrace, HasWords, IsInBounds, IsInRows}
use Rattle.unit_tree.specs.declared.ending.Ending.{Ending}
use Rattle.run_laws.proofs.AssignmentLaws.{none_at}
use Rattle.run_laws.proofs.PositionLaws.{positions_keep}
use Rattle.run_laws.proofs.RunTraces.{when_none, next_is_nearer, goes_to, goes_keeps}

-- ---- A step

pub none_by : (end : Option Ending) (position next : Position) → ends_or end position ≡ goes next → end ≡ None
none_by None position next is = refl
none_by (Some ending) position next is = absurd (cc)

pub next_row : (number budget : ℕ) → number < budget → (suc number == budget) ≡ false → suc number < budget
next_row number budget within not_last = grind (arith, nat_tests)

pub goes_within : (run : Composition) (one next : Stand) → AreMembers run → Goes run one next → HasWords run one.at → IsInBounds run one.at
    → IsInBounds run next.at
goes_within run one next are on words within =
    let none : first_some (ends_at run one.at one.ports) ≡ None =
    none_by (first_some (ends_at run one.at one.ports)) (after run one.at one.ports) next.at on.0 in
    let nearer = next_is_nearer run one are words (record { stop = within.stop; zeros = within.zeros }) none in
    subst (IsInBounds run) (goes_to run one next on) (record { stop = nearer.stop; zeros = nearer.zeros })

pub goes_in_rows : (run : Composition) (one next : Stand) → Goes run one next → IsInRows run one.at → IsInRows run next.at
goes_in_rows run one next on within =
    let none : first_some (ends_at run one.at one.ports) ≡ None =
    none_by (first_some (ends_at run one.at one.ports)) (after run one.at one.ports) next.at on.0 in
    let not_last : (suc one.at.number == run.row_budget) ≡ false = when_none _ _ (none_at (ends_at run one.at one.ports) 2 (row_end run one.at) none refl) in
    subst (IsInRows run) (goes_to run one next on) (next_row one.at.number run.row_budget within not_last)

pub step_is_right : (run : Composition) (one next : Stand) → AreMembers run → Goes run one next → IsRightStep run one next
step_is_right run one next are on = record {
  agreed = sym (goes_to run one next on);
  words = λ words. goes_keeps run one next are words on;
  bounds = goes_within run one next are on;
  rows = goes_in_rows run one next on;
}

-- ---- A trace

pub words_along : (run : Composition) (stand : Stand) (others : List Stand) (ending : Ending) → AreMembers run → HasWords run stand.at
    → Follows run stand others ending → AllByRecursion (λ (each : Stand). HasWords run each.at) (stand ∷ others)
words_along run stand [] ending are words follow = (words, tt)
words_along run stand (next ∷ others) ending are words follow =
    (words, words_along run next others ending are (goes_keeps run stand next are words follow.0) follow.1)

pub bounds_along : (run : Composition) (stand : Stand) (others : List Stand) (ending : Ending) → AreMembers run → HasWords run stand.at
    → IsInBounds run stand.at → Follows run stand others ending → AllByRecursion (λ (each : Stand). IsInBounds run each.at) (stand ∷ others)
bounds_along run stand [] ending are words within follow = (within, tt)
bounds_along run stand (next ∷ others) ending are words within follow = (
  within,
  bounds_along run next others ending are (goes_keeps run stand next are words follow.0)
      (goes_within run stand next are follow.0 words within) follow.1,
)

pub rows_along : (run : Composition) (stand : Stand) (others : List Stand) (ending : Ending) → IsInRows run stand.at → Follows run stand others ending
    → AllByRecursion (λ (each : Stand). IsInRows run each.at) (stand ∷ others)
rows_along run stand [] ending within follow = (within, tt)
rows_along run stand (next ∷ others) ending within follow = (within, rows_along run next others ending (goes_in_rows run stand next follow.0 within) follow.1)

pub first_within : (run : Composition) → IsInBounds run (first_position run)
first_within run = record { stop = omega arith; zeros = omega arith }

pub first_in_rows : (run : Composition) → 1 ≤ run.row_budget → IsInRows run (first_position run)
first_in_rows run rows = omega (arith, rows)

pub stands_are_right : (run : Composition) (stands : List Stand) (ending : Ending) → AreMembers run → IsTrace run stands ending → HasRightStands run stands
stands_are_right run [] ending are is = absurd is
stands_are_right run (first ∷ others) ending are is =
    let words : HasWords run first.at = subst (HasWords run) (sym is.0) (positions_keep run are).first in
    record {
      words = words_along run first others ending are words is.2;
      bounds = bounds_along run first others ending are words (subst (IsInBounds run) (sym is.0) (first_within run)) is.2;
      rows = λ some. rows_along run first others ending (subst (IsInRows run) (sym is.0) (first_in_rows run some)) is.2;
    }
