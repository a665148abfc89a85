-- Tails of traces, and that a trace ends with the rest of each of its positions.
use Rattle.std.proofs.Common.{◌≡◌, ℕ, suc, ◌+◌, List, [], ◌∷◌, ◌++◌, length, refl, sym, ap, subst, ◌∙◌, arith}
use Rattle.std.proofs.lemmas.List.Elements.{filter_map-append}
use Rattle.super_time.specs.declared.point.Point.{Point}
use Rattle.unit_tree.specs.Compositions.{Composition, AreMembers}
use Rattle.unit_tree.specs.Ports.{IsPlaceOrder}
use Rattle.unit_tree.specs.Successor.{Position}
use Rattle.unit_tree.specs.Trace.{Stand, IsStand, Goes, Follows, GoesOnFrom, IsTrace, Row, row_at, rows_of, last_point, IsRest, IsPositionOf, HasWords}
use Rattle.unit_tree.specs.declared.ending.Ending.{Ending}
use Rattle.run_laws.proofs.PositionLaws.{positions_keep}
use Rattle.run_laws.proofs.RunTraces.{goes_to, goes_keeps, same_rests}
use Rattle.run_laws.specs.RestLaws.{IsTail, EndsWithRest}

-- ---- Tails

pub next_number : (run : Composition) (here next : Stand) → Goes run here next → next.at.number ≡ suc here.at.number
next_number run here next on = sym (ap (λ (at : Position). at.number) (goes_to run here next on))

tail_from : (run : Composition) (from : Stand) (before : List Stand) (here : Stand) (later : List Stand) (ending : Ending)
    → Follows run from (before ++ (here ∷ later)) ending
    → IsStand run here × Follows run here later ending × (here.at.number ≡ from.at.number + suc (length before))
tail_from run from [] here later ending follows =
    let one = next_number run from here follows.0 in
    (follows.0.1, follows.1, omega arith)
tail_from run from (next ∷ before) here later ending follows =
    let one = next_number run from next follows.0 in
    let tail = tail_from run next before here later ending follows.1 in
    (tail.0, tail.1, omega (arith, tail.2))

pub tail : (run : Composition) (before : List Stand) (here : Stand) (later : List Stand) (ending : Ending) → IsTrace run (before ++ (here ∷ later)) ending
    → IsTail run before here later ending
tail run [] here later ending trace = record { goes_on = (refl, trace.1, trace.2); number = ap (λ (at : Position). at.number) trace.0 }
tail run (first ∷ before) here later ending trace =
    let found = tail_from run first before here later ending trace.2 in
    let start : first.at.number ≡ 0 = ap (λ (at : Position). at.number) trace.0 in
    record { goes_on = (refl, found.0, found.1); number = omega (arith, found.2) }

-- the words of a trace's positions
words_from : (run : Composition) (from : Stand) (before : List Stand) (here : Stand) (later : List Stand) (ending : Ending) → AreMembers run
    → HasWords run from.at → Follows run from (before ++ (here ∷ later)) ending → HasWords run here.at
words_from run from [] here later ending are words follows = goes_keeps run from here are words follows.0
words_from run from (next ∷ before) here later ending are words follows =
    words_from run next before here later ending are (goes_keeps run from next are words follows.0) follows.1

words_at : (run : Composition) (before : List Stand) (here : Stand) (later : List Stand) (ending : Ending) → AreMembers run
    → IsTrace run (before ++ (here ∷ later)) ending → HasWords run here.at
words_at run [] here later ending are trace = subst (HasWords run) (sym trace.0) (positions_keep run are).first
words_at run (first ∷ before) here later ending are trace =
    words_from run first before here later ending are (subst (HasWords run) (sym trace.0) (positions_keep run are).first) trace.2

-- ---- The rest after a cut

-- The stands before a stand don't change the last point.
last_behind : (before : List Stand) (here : Stand) (later : List Stand) → last_point (before ++ (here ∷ later)) ≡ last_point (here ∷ later)
last_behind [] here later = refl
last_behind (stand ∷ []) here later = refl
last_behind (stand ∷ (next ∷ before)) here later = last_behind (next ∷ before) here later

pub rest_ends_trace : (run : Composition) (order : List ℕ) (number : ℕ) (at : Position) (rows : List Row) (last : Point) (end : Ending) → AreMembers run
    → IsPlaceOrder run order → (of : IsPositionOf run number at) → IsRest run at rows last end
    → EndsWithRest run of.before (of.before ++ (of.here ∷ of.later)) of.ending rows last end
rest_ends_trace run order number at rows last end are is_order of rest =
    let words = words_at run of.before of.here of.later of.ending are of.trace in
    let goes_on = (tail run of.before of.here of.later of.ending of.trace).goes_on in
    let same =
    same_rests run order are is_order of.here.at (of.here ∷ of.later) rest.stands of.ending end words goes_on
    (subst (λ (p : Position). GoesOnFrom run p rest.stands end) of.is rest.goes_on) in
    record {
      rows_are =
          filter_map-append (row_at run) of.before (of.here ∷ of.later)
          ∙ ap (λ xs. rows_of run of.before ++ xs) (ap (rows_of run) same.0 ∙ sym rest.rows_are);
      last_is = last_behind of.before of.here of.later ∙ ap last_point same.0 ∙ sym rest.last_is;
      ending_is = same.1;
    }
