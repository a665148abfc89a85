-- The work of a run is bounded by its rows.
use Rattle.std.proofs.Common.{◌≡◌, ℕ, suc, ◌+◌, ◌*◌, ◌<◌, ◌≤◌, ◌==◌, ◌⊎◌, cond, Bool, true, false, List, [], ◌∷◌, length, Option, Some, None, inl, inr, refl}
use Rattle.std.proofs.Common.{sym, subst, ◌∙◌, arith}
use Rattle.std.specs.Prelude.{◌&&◌, is_some, is_none}
use Rattle.std.specs.List.{filter_map, cons_option}
use Rattle.std.proofs.Math.Nat.{mul-suc}
use Rattle.std.proofs.lemmas.Bool.Decides.{nat_tests}
use Rattle.std.proofs.lemmas.List.{length-map}
use Rattle.std.proofs.lemmas.List.Sums.{sum_by-cons, count_by-le-length}
use Rattle.std.proofs.lemmas.Slice.Zip.{length-zip}
use Rattle.super_time.specs.declared.point.Point.{Point}
use Rattle.unit_tree.specs.Compositions.{Composition, AreMembers, run_of}
use Rattle.unit_tree.specs.Plain.{plain_form}
use Rattle.unit_tree.specs.Negotiation.{step_at}
use Rattle.unit_tree.specs.Ports.{Ports, first_some, port_fault}
use Rattle.unit_tree.specs.Successor.{Position, proposed, agreed, is_redone, stop_end, row_end, max_end, trial_end, steps_by, standings, after}
use Rattle.unit_tree.specs.Trace.{Stand, Row, row_unless, rows_of, Follows, Goes, IsTrace, HasWords, steps_there, cells_of_trial, cells_of_redo, cells_at}
use Rattle.unit_tree.specs.Trace.{IsInBounds}
use Rattle.unit_tree.specs.Trace.{cells_of}
use Rattle.unit_tree.specs.declared.ending.Ending.{Ending}
use Rattle.run_laws.proofs.PositionLaws.{system_has_members, positions_keep}
use Rattle.run_laws.proofs.RunSteps.{step_is_right, first_within}
use Rattle.run_laws.proofs.RunTraces.{goes_to}
use Rattle.trace_rows.specs.Bounds.{CellsAreBounded, TimesAreBounded, rows_at}

-- ---- Cells

-- Each member makes at most one step.
few_steps : (run : Composition) (at : Position) (ports : Ports) (h : ℕ) → steps_there (steps_by run at ports h) ≤ length run.members
few_steps run at ports h =
    let all = count_by-le-length is_some (steps_by run at ports h) in
    let each = length-map (standings run at) (step_at at.point.t h ports) in
    let pairs = length-zip run.members at.states in
    omega (arith, all, each, pairs)

twice : (m rows rest : ℕ) → rest ≤ 2 * m * rows → 2 * m + rest ≤ 2 * m * suc rows
twice m rows rest fits = rw (mul-suc (2 * m) rows) (omega arith)

cells_by : (known redone : Bool) (tried anew m : ℕ) → tried ≤ m → anew ≤ m → cond known 0 (tried + cond redone anew 0) ≤ 2 * m
cells_by true redone tried anew m one two = omega arith
cells_by false true tried anew m one two = omega arith
cells_by false false tried anew m one two = omega arith

-- A stand without a row has no cells.
one_more : (fault : Option Ending) (others : List (Option Ending)) (redone : Bool) (tried anew m rest : ℕ) (point : Point) (ports : Ports) (rows : List Row)
    → tried ≤ m → anew ≤ m → rest ≤ 2 * m * length rows
    → cond (is_some (first_some (fault ∷ others))) 0 (tried + cond redone anew 0) + rest ≤ 2 * m * length (cons_option (row_unless fault point ports) rows)
one_more (Some ending) others redone tried anew m rest point ports rows one two fits = omega (arith, fits)
one_more None others redone tried anew m rest point ports rows one two fits =
    let here = cells_by (is_some (first_some others)) redone tried anew m one two in
    let all = twice m (length rows) rest fits in
    omega (arith, here, all)

pub cells_are_bounded : CellsAreBounded
cells_are_bounded run [] = omega arith
cells_are_bounded run (stand ∷ stands) =
    rw (sum_by-cons (cells_at run) stand stands)
    (one_more (port_fault run stand.at.states stand.ports) (stop_end run stand.at ∷ row_end run stand.at ∷ max_end run stand.at stand.ports ∷ [])
    (is_none (trial_end run stand.at stand.ports) && is_redone run stand.at stand.ports) (cells_of_trial run stand) (cells_of_redo run stand)
    (length run.members) (cells_of run stands) stand.at.point stand.ports (rows_of run stands)
    (few_steps run stand.at stand.ports (proposed run stand.at stand.ports)) (few_steps run stand.at stand.ports (agreed run stand.at stand.ports))
    (cells_are_bounded run stands))

-- ---- Times

-- A row is counted where it has the time.
counted : (fault : Option Ending) (t : ℕ) (point : Point) (ports : Ports) (rows : List Row)
    → rows_at t (cons_option (row_unless fault point ports) rows) ≤ cond (point.t == t) 1 0 + rows_at t rows
counted (Some ending) t point ports rows = omega arith
counted None t point ports rows =
    let first = sum_by-cons (λ (row : Row). cond (row.point.t == t) 1 0) (record { point = point; words = filter_map (λ word. word) ports }) rows in
    omega (arith, first)

-- The point after a step is one more at the same time, or later.
abbrev IsNext : Point → Point → Type 0
IsNext point next = ((next.t ≡ point.t) × (next.n ≡ suc point.n)) ⊎ (point.t < next.t)

next_by : (zero : Bool) (point : Point) (h : ℕ) → (h == 0) ≡ zero
    → IsNext point (cond zero (record { t = point.t; n = suc point.n }) (record { t = point.t + h; n = 0 }))
next_by true point h is = inl (refl, refl)
next_by false point h is = inr (grind (arith, nat_tests))

goes_next : (run : Composition) (here next : Stand) → Goes run here next → IsNext here.at.point next.at.point
goes_next run here next goes =
    let h = agreed run here.at here.ports in
    subst (λ (at : Position). IsNext here.at.point at.point) (goes_to run here next goes) (next_by (h == 0) here.at.point h refl)

-- Rows of stands from a point on: at an earlier time none, at its own time at most those that may still follow, at any time at most all.
record AreFew (most_zeros t : ℕ) (point : Point) (count : ℕ) : Type 0 where
  earlier : t < point.t → count ≡ 0
  same : point.t ≡ t → count + point.n ≤ most_zeros + 1
  any : count ≤ most_zeros + 1

last_few : (same : Bool) (most_zeros t count : ℕ) (point : Point) → (point.t == t) ≡ same → count ≤ cond same 1 0 + 0 → point.n ≤ most_zeros
    → AreFew most_zeros t point count
last_few true most_zeros t count point is most within = record {
  earlier = λ less. absurd (grind (arith, nat_tests));
  same = λ _. omega arith;
  any = omega arith;
}
last_few false most_zeros t count point is most within = record {
  earlier = λ _. omega arith;
  same = λ equal. absurd (grind (arith, nat_tests));
  any = omega arith;
}

more_few : (same : Bool) (most_zeros t count later : ℕ) (point next : Point) → (point.t == t) ≡ same → count ≤ cond same 1 0 + later → point.n ≤ most_zeros
    → IsNext point next → AreFew most_zeros t next later → AreFew most_zeros t point count
more_few true most_zeros t count later point next is most within (inl steps) few =
    let equal : point.t ≡ t = grind (arith, nat_tests) in
    let some = few.same (steps.0 ∙ equal) in
    record { earlier = λ less. absurd (omega arith); same = λ _. omega (arith, steps.1); any = omega (arith, steps.1) }
more_few true most_zeros t count later point next is most within (inr after) few =
    let equal : point.t ≡ t = grind (arith, nat_tests) in
    let none = few.earlier (omega arith) in
    record { earlier = λ less. absurd (omega arith); same = λ _. omega arith; any = omega arith }
more_few false most_zeros t count later point next is most within (inl steps) few =
    let any = few.any in
    record {
      earlier = λ less. (let none = few.earlier (omega (arith, steps.0)) in omega arith);
      same = λ equal. absurd (grind (arith, nat_tests));
      any =
          omega arith;
    }
more_few false most_zeros t count later point next is most within (inr after) few =
    let any = few.any in
    record { earlier = λ less. (let none = few.earlier (omega arith) in omega arith); same = λ equal. absurd (grind (arith, nat_tests)); any = omega arith }

few_along : (run : Composition) (t : ℕ) (here : Stand) (others : List Stand) (ending : Ending) → AreMembers run → HasWords run here.at
    → IsInBounds run here.at → Follows run here others ending → AreFew run.zero_budget t here.at.point (rows_at t (rows_of run (here ∷ others)))
few_along run t here [] ending members words bounds follows =
    last_few (here.at.point.t == t) run.zero_budget t (rows_at t (rows_of run (here ∷ []))) here.at.point refl
    (counted (port_fault run here.at.states here.ports) t here.at.point here.ports []) bounds.zeros
few_along run t here (next ∷ others) ending members words bounds follows =
    let right = step_is_right run here next members follows.0 in
    more_few (here.at.point.t == t) run.zero_budget t (rows_at t (rows_of run (here ∷ (next ∷ others))))
    (rows_at t (rows_of run (next ∷ others))) here.at.point next.at.point refl
    (counted (port_fault run here.at.states here.ports) t here.at.point here.ports (rows_of run (next ∷ others))) bounds.zeros
    (goes_next run here next follows.0)
    (few_along run t next others ending members (right.words words) (right.bounds words bounds) follows.1)

few_of_trace : (run : Composition) (t : ℕ) (stands : List Stand) (ending : Ending) → AreMembers run → IsTrace run stands ending
    → rows_at t (rows_of run stands) ≤ run.zero_budget + 1
few_of_trace run t [] ending members trace = absurd trace
few_of_trace run t (here ∷ others) ending members trace =
    (few_along run t here others ending members
    (subst (HasWords run) (sym trace.0) (positions_keep run members).first)
    (subst (IsInBounds run) (sym trace.0) (first_within run))
    trace.2).any

few_of_rows : (run : Composition) (rows : List Row) (stands : List Stand) (ending : Ending) (t : ℕ) → AreMembers run → IsTrace run stands ending
    → rows ≡ rows_of run stands → rows_at t rows ≤ run.zero_budget + 1
few_of_rows run rows stands ending t members trace is =
    subst (λ rows. rows_at t rows ≤ run.zero_budget + 1) (sym is) (few_of_trace run t stands ending members trace)

pub times_are_bounded : TimesAreBounded
times_are_bounded system rows last ending trace t =
    few_of_rows (run_of system) rows trace.stands ending t (system_has_members (plain_form system)) trace.trace trace.rows_are
