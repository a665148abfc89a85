-- The names and the moments of a table.
use Rattle.std.proofs.Common.{◌≡◌, ℕ, ◌+◌, ◌<◌, ◌≤◌, List, [], ◌∷◌, ◌++◌, length, inl, inr, arith, length-append}
use Rattle.std.specs.List.{AllByRecursion}
use Rattle.stimulus_tables.specs.Laws.{AreRising, TablesAreStimuli}
use Rattle.stimulus_tables.specs.Tables.{Fields, Follow, IsMoment, IsNextTime, LeavesForm}
use Rattle.stimulus_tables.specs.declared.moment.Moment.{Moment}

next_behind : (before : List Moment) (last : Moment) (time : ℕ) → IsNextTime (before ++ (last ∷ [])) time → last.time < time
next_behind [] last time is = is
next_behind (one ∷ []) last time is = is
next_behind (one ∷ two ∷ before) last time is = next_behind (two ∷ before) last time is

follow_moments : (names : List (List ℕ)) (before : List Moment) (rows : List Fields) (moments : List Moment) → Follow names before rows moments
    → AllByRecursion (IsMoment names) moments
follow_moments names before [] [] follow = tt
follow_moments names before [] (moment ∷ moments) follow = absurd follow
follow_moments names before (row ∷ rows) [] follow = absurd follow
follow_moments names before (row ∷ rows) (moment ∷ moments) follow =
    (follow.0.is_moment, follow_moments names (before ++ (moment ∷ [])) rows moments follow.1)

follow_rising : (names : List (List ℕ)) (before : List Moment) (last : Moment) (rows : List Fields) (later : List Moment)
    → Follow names (before ++ (last ∷ [])) rows later → AreRising last later
follow_rising names before last rows [] follow = tt
follow_rising names before last [] (next ∷ later) follow = absurd follow
follow_rising names before last (row ∷ rows) (next ∷ later) follow =
    (next_behind before last next.time follow.0.next_time, follow_rising names (before ++ (last ∷ [])) next rows later follow.1)

follow_few : (names : List (List ℕ)) (before : List Moment) (rows : List Fields) (moments : List Moment) → Follow names before rows moments
    → length before ≤ 20 → length before + length moments ≤ 20
follow_few names before [] [] follow few = omega (arith, few)
follow_few names before [] (moment ∷ moments) follow few = absurd follow
follow_few names before (row ∷ rows) [] follow few = absurd follow
follow_few names before (row ∷ rows) (moment ∷ moments) follow few =
    omega (arith, length-append before (moment ∷ []), follow_few names (before ++ (moment ∷ [])) rows moments follow.1 (omega (arith, follow.0.few, length-append before (moment ∷ []))))

first_row : (names : List (List ℕ)) (rows : List Fields) (first : Moment) (later : List Moment) → Follow names [] rows (first ∷ later)
    → (first.time ≡ 0) × AreRising first later
first_row names [] first later follow = absurd follow
first_row names (row ∷ rows) first later follow = (follow.0.next_time, follow_rising names [] first rows later follow.1)

pub table_is_stimulus : TablesAreStimuli
table_is_stimulus records names first later is =
    let start = first_row names is.front first later is.follow in
    record {
      are_names = is.is_head.1;
      are_moments = follow_moments names [] is.front (first ∷ later) is.follow;
      at_start = start.0;
      rising = start.1;
      few = omega (arith, follow_few names [] is.front (first ∷ later) is.follow (omega arith));
    }

-- Records leave the form of a table at one of the first: a 22nd record is one too many.
pub leaves_early : (records : List Fields) (number : ℕ) → LeavesForm records number → number ≤ 22
leaves_early records number (inl lacks) = omega (arith, lacks.1)
leaves_early records number (inr leaves) =
    omega (arith, leaves.number_is, follow_few leaves.names [] leaves.begins.front leaves.moments leaves.begins.follow (omega arith))
