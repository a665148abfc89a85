-- Positions and rests of the plain form, read as signals, are those of the system.
use Rattle.std.proofs.Common.{◌≡◌, ℕ, zero, suc, List, [], ◌∷◌, ◌++◌, map, take, length, refl, sym, ap, subst, ◌∙◌}
use Rattle.std.proofs.lemmas.List.{length-map, map-append}
use Rattle.std.specs.List.{AllByRecursion, cons_option}
use Rattle.std.specs.Option.{option_map}
use Rattle.super_time.specs.declared.point.Point.{Point}
use Rattle.unit_tree.specs.Compositions.{AreMembers, Composition, run_of}
use Rattle.unit_tree.specs.Orders.{HasNoCycle}
use Rattle.unit_tree.specs.Ports.{IsPlaceOrder, port_fault}
use Rattle.unit_tree.specs.Printable.{IsRanged}
use Rattle.unit_tree.specs.Successor.{Position}
use Rattle.unit_tree.specs.Trace.{Follows, GoesOnFrom, HasWords, IsPositionOf, IsRest, IsStand, IsTrace, Row, Stand, row_at, rows_of}
use Rattle.unit_tree.specs.WellFormed.{IsWellFormed}
use Rattle.unit_tree.specs.declared.ending.Ending.{Ending}
use Rattle.unit_tree.specs.declared.system.System.{System}
use Rattle.run_laws.proofs.PositionLaws.{positions_keep}
use Rattle.run_laws.proofs.RunTraces.{goes_keeps, one_trace}
use Rattle.event_runs.specs.EventPorts.{EventMember}
use Rattle.event_runs.specs.EventRests.{EventGoesOnFrom, IsEventPositionOf, IsEventRest, IsReadFrom, PositionsAreRead, RestsAreOnce, RestsAreRead, RestsHaveShape, StandsAreRead}
use Rattle.event_runs.specs.EventRuns.{event_members_of, event_run_of, last_event_point}
use Rattle.event_runs.specs.EventTrace.{EventFollows, EventRow, EventStand, IsEventTrace, event_rows_of}
use Rattle.event_runs.specs.Laws.{IsPlainRun}
use Rattle.event_runs.specs.Readings.{HasShape, pace_of, read_end, read_row, read_rows, read_stand, system_shape}
use Rattle.event_runs.proofs.OnlyTraces.{same_rest, same_stand, same_trace}
use Rattle.event_runs.proofs.RowLaws.{cons_map, fit_by, follow_fit, follow_rows, row_read}
use Rattle.event_runs.proofs.SystemTraces.{last_read, system_are, system_order, system_pace, system_plain, with_pace}
use Rattle.event_runs.proofs.TraceLaws.{follows_read, stand_read, trace_read}

-- Where a list of images is cut, its originals are cut too.
pub record Cut {A B : Type 0} (f : A → B) (xs : List A) (before : List B) (here : B) : Type 0 where
  pub first : List A
  pub one : A
  pub rest : List A
  pub is : xs ≡ first ++ (one ∷ rest)
  pub long : length first ≡ length before
  pub image : f one ≡ here

cut_map : {A B : Type 0} (f : A → B) (xs : List A) (before : List B) (here : B) (later : List B) → before ++ (here ∷ later) ≡ map f xs
    → Cut f xs before here
cut_map f [] [] here later is = absurd (cc)
cut_map f [] (one ∷ before) here later is = absurd (cc)
cut_map f (x ∷ xs) [] here later is =
    let image : f x ≡ here = cc in record { first = []; one = x; rest = xs; is = refl; long = refl; image = image }
cut_map f (x ∷ xs) (one ∷ before) here later is =
    let behind : before ++ (here ∷ later) ≡ map f xs = cc in
    let cut = cut_map f xs before here later behind in
    record {
      first = x ∷ cut.first;
      one = cut.one;
      rest = cut.rest;
      is = ap (λ list. x ∷ list) cut.is;
      long = ap (λ count. suc count) cut.long;
      image = cut.image;
    }

take_none : (count : ℕ) (none : List Stand) → none ≡ [] → take count none ≡ none
take_none zero none is = sym is
take_none (suc count) none is = ap (take (suc count)) is ∙ sym is

module _ (system : System) (ranged : IsRanged system) (kept : IsWellFormed system) (no_cycle : HasNoCycle system) where
  abbrev members : List EventMember
  members = event_members_of system

  abbrev run : Composition
  run = run_of system

  abbrev read : Stand → EventStand
  read = read_stand members

  plain : IsPlainRun members run
  plain = system_plain system ranged kept no_cycle

  are : AreMembers run
  are = system_are system ranged kept no_cycle

  abbrev order : List ℕ
  order = (system_order system ranged kept no_cycle).0

  ordered : IsPlaceOrder run order
  ordered = (system_order system ranged kept no_cycle).1

  same_pace : pace_of run ≡ (event_run_of system).pace
  same_pace = system_pace system ranged kept no_cycle

  -- ---- The rest of a position

  on_read : (at : Position) (stands : List Stand) (ending : Ending) → HasWords run at → GoesOnFrom run at stands ending
      → EventGoesOnFrom (event_run_of system) at (map read stands) (read_end system ending)
  on_read at [] ending words goes = absurd goes
  on_read at (first ∷ stands) ending words goes =
      let here = subst (HasWords run) (sym goes.0) words in
      subst (λ pace. EventGoesOnFrom (with_pace system ranged kept no_cycle pace) at (map read (first ∷ stands)) (read_end system ending)) same_pace
      (goes.0, stand_read members run order plain are ordered first here goes.1, follows_read members run order plain are ordered first stands ending here goes.1 goes.2)

  rows_on : (at : Position) (stands : List Stand) (ending : Ending) → HasWords run at → GoesOnFrom run at stands ending
      → event_rows_of (event_run_of system) (map read stands) ≡ read_rows system (rows_of run stands)
  rows_on at [] ending words goes = absurd goes
  rows_on at (first ∷ stands) ending words goes =
      follow_rows members run order plain are ordered first stands ending (subst (HasWords run) (sym goes.0) words) goes.1 goes.2

  fit_on : (at : Position) (stands : List Stand) (ending : Ending) → HasWords run at → GoesOnFrom run at stands ending
      → AllByRecursion (λ row. HasShape (system_shape system) row.words) (rows_of run stands)
  fit_on at [] ending words goes = absurd goes
  fit_on at (first ∷ stands) ending words goes =
      follow_fit members run order plain are ordered first stands ending (subst (HasWords run) (sym goes.0) words) goes.1 goes.2

  same_on : (at : Position) (xs : List Stand) (ys : List EventStand) (e f : Ending) → HasWords run at → GoesOnFrom run at xs e
      → EventGoesOnFrom (with_pace system ranged kept no_cycle (pace_of run)) at ys f → (ys ≡ map read xs) × (f ≡ read_end system e)
  same_on at [] ys e f words p q = absurd p
  same_on at (x ∷ xs) [] e f words p q = absurd q
  same_on at (x ∷ xs) (y ∷ ys) e f words p q =
      let here = subst (HasWords run) (sym p.0) words in
      let same : y ≡ read x = same_stand members run order plain are ordered x y here p.1 q.1 (q.0 ∙ sym p.0) in
      let rest = same_rest members run order plain are ordered x xs ys e f here p.1 p.2
      (subst (λ (z : EventStand). EventFollows (with_pace system ranged kept no_cycle (pace_of run)) z ys f) same q.2) in
      (ap (λ z. z ∷ ys) same ∙ ap (λ zs. read x ∷ zs) rest.0, rest.1)

  pub rest_read : (at : Position) (rows : List Row) (last : Point) (ending : Ending) → HasWords run at → IsRest run at rows last ending
      → IsEventRest system at (read_rows system rows) last (read_end system ending)
  rest_read at rows last ending words of = record {
    stands = map read of.stands;
    goes_on = on_read at of.stands ending words of.goes_on;
    rows_are = ap (read_rows system) of.rows_are ∙ sym (rows_on at of.stands ending words of.goes_on);
    last_is = of.last_is ∙ last_read members of.stands;
  }

  pub rest_only : (at : Position) (rows : List Row) (last : Point) (ending : Ending) → HasWords run at → IsRest run at rows last ending
      → (others : List EventRow) (point : Point) (end : Ending) → IsEventRest system at others point end
      → (others ≡ read_rows system rows) × (point ≡ last) × (end ≡ read_end system ending)
  rest_only at rows last ending words of others point end is =
      let goes = subst (λ pace. EventGoesOnFrom (with_pace system ranged kept no_cycle pace) at is.stands end) (sym same_pace) is.goes_on in
      let same = same_on at of.stands is.stands ending end words of.goes_on goes in (
        is.rows_are ∙ ap (event_rows_of (event_run_of system)) same.0 ∙ rows_on at of.stands ending words of.goes_on
            ∙ ap (read_rows system) (sym of.rows_are),
        is.last_is ∙ ap last_event_point same.0 ∙ sym (last_read members of.stands) ∙ sym of.last_is,
        same.1,
      )

  pub rest_fits : (at : Position) (rows : List Row) (last : Point) (ending : Ending) → HasWords run at → IsRest run at rows last ending
      → AllByRecursion (λ row. HasShape (system_shape system) row.words) rows
  rest_fits at rows last ending words of =
      subst (AllByRecursion (λ row. HasShape (system_shape system) row.words)) (sym of.rows_are) (fit_on at of.stands ending words of.goes_on)

  -- ---- Positions

  pub position_read : (number : ℕ) (at : Position) → IsPositionOf run number at → IsEventPositionOf system number at
  position_read number at of =
      let cut = map-append read of.before (of.here ∷ of.later) in
      record {
        before = map read of.before;
        here = read of.here;
        later = map read of.later;
        ending = read_end system of.ending;
        trace = subst (λ stands. IsEventTrace (event_run_of system) stands (read_end system of.ending)) cut
            (subst (λ pace. IsEventTrace (with_pace system ranged kept no_cycle pace) (map read (of.before ++ (of.here ∷ of.later))) (read_end system of.ending)) same_pace
            (trace_read members run order plain are ordered (of.before ++ (of.here ∷ of.later)) of.ending of.trace));
        place = of.place ∙ sym (length-map of.before read);
        is = of.is;
      }

  pub position_plain : (number : ℕ) (at : Position) → IsEventPositionOf system number at → IsPositionOf run number at
  position_plain number at of =
      let only = one_trace run order are ordered in
      let trace = subst (λ pace. IsEventTrace (with_pace system ranged kept no_cycle pace) (of.before ++ (of.here ∷ of.later)) of.ending) (sym same_pace) of.trace in
      let same = same_trace members run order plain are ordered only.stands (of.before ++ (of.here ∷ of.later)) only.ending of.ending only.is_trace trace in
      let cut = cut_map read only.stands of.before of.here of.later same.0 in
      record {
        before = cut.first;
        here = cut.one;
        later = cut.rest;
        ending = only.ending;
        trace = subst (λ stands. IsTrace run stands only.ending) cut.is only.is_trace;
        place = of.place ∙ sym cut.long;
        is = of.is ∙ ap (λ (stand : EventStand). stand.at) (sym cut.image);
      }

  -- ---- The first stands of a trace

  pub trace_told : (stands : List Stand) (ending : Ending) → IsTrace run stands ending → IsEventTrace (event_run_of system) (map read stands) (read_end system ending)
  trace_told stands ending trace =
      subst (λ pace. IsEventTrace (with_pace system ranged kept no_cycle pace) (map read stands) (read_end system ending)) same_pace
      (trace_read members run order plain are ordered stands ending trace)

  trace_only : (stands : List Stand) (ending : Ending) → IsTrace run stands ending → (others : List EventStand) (end : Ending)
      → IsEventTrace (event_run_of system) others end → (others ≡ map read stands) × (end ≡ read_end system ending)
  trace_only stands ending trace others end is =
      same_trace members run order plain are ordered stands others ending end trace
      (subst (λ pace. IsEventTrace (with_pace system ranged kept no_cycle pace) others end) (sym same_pace) is)

  first_rows : (count : ℕ) (here : Stand) (stands : List Stand) (ending : Ending) → HasWords run here.at → IsStand run here → Follows run here stands ending
      → event_rows_of (event_run_of system) (map read (take count (here ∷ stands))) ≡ read_rows system (rows_of run (take count (here ∷ stands)))
  first_rows zero here stands ending words is follows = refl
  first_rows (suc count) here [] ending words is follows =
      subst (λ (rest : List Stand). event_rows_of (event_run_of system) (map read (here ∷ rest)) ≡ read_rows system (rows_of run (here ∷ rest)))
      (sym (take_none count [] refl)) (follow_rows members run order plain are ordered here [] ending words is follows)
  first_rows (suc count) here (next ∷ stands) ending words is follows =
      ap (λ row. cons_option row (event_rows_of (event_run_of system) (map read (take count (next ∷ stands)))))
      (row_read members run order plain are ordered here words is)
      ∙ ap (cons_option (option_map (read_row members) (row_at run here)))
      (first_rows count next stands ending (goes_keeps run here next are words follows.0) follows.0.1 follows.1)
      ∙ cons_map (read_row members) (row_at run here) (rows_of run (take count (next ∷ stands)))

  first_fit : (count : ℕ) (here : Stand) (stands : List Stand) (ending : Ending) → HasWords run here.at → IsStand run here → Follows run here stands ending
      → AllByRecursion (λ row. HasShape (system_shape system) row.words) (rows_of run (take count (here ∷ stands)))
  first_fit zero here stands ending words is follows = tt
  first_fit (suc count) here [] ending words is follows =
      subst (λ (rest : List Stand). AllByRecursion (λ row. HasShape (system_shape system) row.words) (rows_of run (here ∷ rest)))
      (sym (take_none count [] refl)) (follow_fit members run order plain are ordered here [] ending words is follows)
  first_fit (suc count) here (next ∷ stands) ending words is follows =
      fit_by members run order plain are ordered (port_fault run here.at.states here.ports) here (rows_of run (take count (next ∷ stands))) words is refl
      (first_fit count next stands ending (goes_keeps run here next are words follows.0) follows.0.1 follows.1)

  first_words : (stands : List Stand) (ending : Ending) (count : ℕ) → IsTrace run stands ending
      → (event_rows_of (event_run_of system) (map read (take count stands)) ≡ read_rows system (rows_of run (take count stands)))
      × AllByRecursion (λ row. HasShape (system_shape system) row.words) (rows_of run (take count stands))
  first_words [] ending count trace = absurd trace
  first_words (first ∷ stands) ending count trace =
      let words = subst (HasWords run) (sym trace.0) (positions_keep run are).first in
      (first_rows count first stands ending words trace.1 trace.2, first_fit count first stands ending words trace.1 trace.2)

  pub stands_told : (stands : List Stand) (ending : Ending) → IsTrace run stands ending → IsReadFrom system stands ending
  stands_told stands ending trace = record {
    trace = trace_told stands ending trace;
    is_only = trace_only stands ending trace;
    rows = λ count. (first_words stands ending count trace).0;
    shape = λ count. (first_words stands ending count trace).1;
  }

pub positions_read : PositionsAreRead
positions_read system ranged kept no_cycle number at =
    (position_read system ranged kept no_cycle number at, position_plain system ranged kept no_cycle number at)

pub rests_read : RestsAreRead
rests_read = rest_read

pub rests_once : RestsAreOnce
rests_once = rest_only

pub rests_fit : RestsHaveShape
rests_fit = rest_fits

pub stands_read : StandsAreRead
stands_read = stands_told
