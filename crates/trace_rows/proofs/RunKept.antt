-- The invariant of a loop over the rows of a run, from where the run was opened on.
use Rattle.std.proofs.Common.{◌≡◌, ℕ, suc, ◌+◌, ◌<◌, ◌≤◌, pos, ◌+ℤ◌, List, [], ◌∷◌, ◌++◌, length, length-append, Option, Some, None, Ok, refl, sym, ap, subst}
use Rattle.std.proofs.Common.{◌∙◌}
use Rattle.std.proofs.Common.{arith}
use Rattle.std.specs.List.{cons_option}
use Rattle.std.specs.Io.KnownBytes.{Appends}
use Rattle.std.proofs.KnownBytes.{Appends-nil, Appends-trans}
use Rattle.std.proofs.lemmas.Int.{ints}
use Rattle.std.proofs.lemmas.Grind.{flat_map-append}
use Rattle.std.proofs.lemmas.List.Elements.{filter_map-append}
use Rattle.std.proofs.lemmas.List.Sums.{sum_by_push}
use Rattle.trace_core.specs.Runs.{RunState, Stands, IsOpened, arrived}
use Rattle.trace_csv.specs.Columns.{columns_of}
use Rattle.trace_csv.specs.TraceText.{row_line}
use Rattle.trace_plan.specs.Plans.{IsBounded, Planned}
use Rattle.unit_tree.specs.Compositions.{Composition, AreMembers, run_of}
use Rattle.unit_tree.specs.Ports.{IsPlaceOrder}
use Rattle.unit_tree.specs.Successor.{Position}
use Rattle.unit_tree.specs.Trace.{Stand, IsStand, Goes, Row, row_at, rows_of, cells_at, cells_of, HasWords, IsInBounds}
use Rattle.unit_tree.specs.WellFormed.{resolution_of}
use Rattle.unit_tree.specs.declared.system.Column.{Column}
use Rattle.unit_tree.specs.declared.system.System.{System}
use Rattle.run_laws.proofs.RunTraces.{goes_to}
use Rattle.trace_rows.specs.Lines.{IsPut, PutsRow, lines_of, rows_here}
use Rattle.trace_rows.specs.Passing.{IsFresh, Passes}
use Rattle.trace_rows.specs.Sums.{sum_shown}
use Rattle.trace_rows.specs.declared.tally.Tally.{Tally}
use Rattle.trace_rows.proofs.RowLaws.{no_lines}
use Rattle.trace_rows.proofs.PassedStands.{Walked, walked_first, walked_on}

-- What holds of a plan, and of the position at which a run of it was opened, whatever the run does.
pub record Given (plan : Planned) (from : Position) : Type 0 where
  pub run : plan.run ≡ run_of plan.system
  pub order : List ℕ
  pub ordered : IsPlaceOrder plan.run order
  pub bounded : IsBounded plan.run
  pub members : AreMembers plan.run
  pub words : HasWords plan.run from
  pub in_bounds : IsInBounds plan.run from

-- The rows of these stands were written and counted.
pub record ArePut (plan : Planned) (stands : List Stand) (held0 held : Option (List ℕ)) (tally : Tally) : Type 0 where
  pub out : Appends held0 held (lines_of plan.system (rows_of plan.run stands))
  pub rows : tally.rows ≡ length (rows_of plan.run stands)
  pub sum : tally.sum ≡ sum_shown (columns_of plan.system) (rows_of plan.run stands)

-- The run comes after these stands of the rest of the position at which it was opened, and no cell was filled there.
pub record IsAt (plan : Planned) (from : Position) (passed : List Stand) (r : RunState) : Type 0 where
  pub planned : r.plan ≡ plan
  pub stands : Stands r
  pub fresh : IsFresh r
  pub walked : Walked plan.run from passed r.stand
  pub filled : r.found + r.own ≡ cells_of plan.run passed

-- Before the row here is written.
pub record Come (plan : Planned) (from : Position) (r : RunState) (held0 held : Option (List ℕ)) (faults0 faults : ℕ) (tally : Tally) : Type 0 where
  pub passed : List Stand
  pub at : IsAt plan from passed r
  pub put : ArePut plan passed held0 held tally
  pub few : tally.rows ≤ r.stand.at.number
  pub same : faults ≡ faults0

-- After it was written.
pub record Kept (plan : Planned) (from : Position) (r : RunState) (held0 held : Option (List ℕ)) (faults0 faults : ℕ) (tally : Tally) : Type 0 where
  pub passed : List Stand
  pub at : IsAt plan from passed r
  pub put : ArePut plan (passed ++ (r.stand ∷ [])) held0 held tally
  pub few : tally.rows ≤ suc r.stand.at.number
  pub same : faults ≡ faults0

-- ---- A row is written

pub lines-append : (system : System) (one other : List Row) → lines_of system (one ++ other) ≡ lines_of system one ++ lines_of system other
unfolding lines_of
lines-append system one other = flat_map-append (λ row. row_line (resolution_of system) (columns_of system) row.point row.words) one other

sum-append : (columns : List Column) (one other : List Row) → sum_shown columns (one ++ other) ≡ sum_shown columns one +ℤ sum_shown columns other
sum-append columns [] other = omega (arith, ints)
sum-append columns (row ∷ rows) other = let rest = sum-append columns rows other in omega (arith, ints, rest)

one_row_most : (found : Option Row) → length (cons_option found []) ≤ 1
one_row_most None = omega arith
one_row_most (Some row) = omega arith

rows_here_most : (plan : Planned) (stand : Stand) → length (rows_here plan stand) ≤ 1
rows_here_most plan stand = one_row_most (row_at plan.run stand)

are_put_more : (plan : Planned) (passed : List Stand) (here : Stand) (held0 held held' : Option (List ℕ)) (before after : Tally)
    → ArePut plan passed held0 held before → IsPut plan here held held' before after → ArePut plan (passed ++ (here ∷ [])) held0 held' after
are_put_more plan passed here held0 held held' before after put more =
    let rows = filter_map-append (row_at plan.run) passed (here ∷ []) in
    let text : lines_of plan.system (rows_of plan.run passed) ++ lines_of plan.system (rows_here plan here)
    ≡ lines_of plan.system (rows_of plan.run (passed ++ (here ∷ []))) =
    sym (lines-append plan.system (rows_of plan.run passed) (rows_here plan here)) ∙ ap (lines_of plan.system) (sym rows) in
    record {
      out = subst (Appends held0 held') text
          (Appends-trans held0 held held' (lines_of plan.system (rows_of plan.run passed)) (lines_of plan.system (rows_here plan here)) put.out more.out);
      rows = more.rows ∙ ap (λ n. n + length (rows_here plan here)) put.rows ∙ sym (length-append (rows_of plan.run passed) (rows_here plan here))
          ∙ ap length (sym rows);
      sum = more.sum ∙ ap (λ s. s +ℤ sum_shown (columns_of plan.system) (rows_here plan here)) put.sum
          ∙ sym (sum-append (columns_of plan.system) (rows_of plan.run passed) (rows_here plan here)) ∙ ap (sum_shown (columns_of plan.system)) (sym rows);
    }

put_few : (plan : Planned) (here : Stand) (held held' : Option (List ℕ)) (before after : Tally) (number : ℕ) → before.rows ≤ number
    → IsPut plan here held held' before after → after.rows ≤ suc number
put_few plan here held held' before after number few put =
    let most = rows_here_most plan here in
    let rows = put.rows in
    omega arith

pub kept_by : (plan : Planned) (from : Position) (r : RunState) (held0 held held' : Option (List ℕ)) (faults0 faults faults' : ℕ) (before after : Tally)
    → Come plan from r held0 held faults0 faults before → PutsRow plan r.stand held held' faults faults' before after (Ok tt)
    → Kept plan from r held0 held' faults0 faults' after
kept_by plan from r held0 held held' faults0 faults faults' before after come puts = record {
  passed = come.passed;
  at = come.at;
  put = are_put_more plan come.passed r.stand held0 held held' before after come.put puts.whole;
  few = put_few plan r.stand held held' before after r.stand.at.number come.few puts.whole;
  same = puts.cause.same (λ e. absurd (cc)) ∙ come.same;
}

-- ---- From row to row

next_number : (run : Composition) (here next : Stand) → Goes run here next → suc here.at.number ≡ next.at.number
next_number run here next to_next = ap (λ (at : Position). at.number) (goes_to run here next to_next)

pub cells-push : (run : Composition) (passed : List Stand) (here : Stand) → cells_of run (passed ++ (here ∷ [])) ≡ cells_of run passed + cells_at run here
cells-push run passed here = sum_by_push (cells_at run) passed here

-- The cells of one more stand were filled.
pub filled_more : (plan lent : Planned) (passed : List Stand) (here : Stand) (before now : ℕ) → lent ≡ plan → before ≡ cells_of plan.run passed
    → now ≡ before + cells_at lent.run here → now ≡ cells_of plan.run (passed ++ (here ∷ []))
filled_more plan lent passed here before now is so_far more =
    more ∙ ap (λ n. n + cells_at lent.run here) so_far ∙ ap (λ (p : Planned). cells_of plan.run passed + cells_at p.run here) is
    ∙ sym (cells-push plan.run passed here)

-- A run that came to the next stand has one more stand before it.
pub passed_at : (plan : Planned) (from : Position) (passed : List Stand) (old new : RunState) → Given plan from → IsAt plan from passed old → Passes old new
    → Stands new → IsAt plan from (passed ++ (old.stand ∷ [])) new
passed_at plan from passed old new given at on stands =
    let planned = on.planned ∙ at.planned in
    let to_next : Goes plan.run old.stand new.stand = subst (λ (p : Planned). Goes p.run old.stand new.stand) at.planned on.goes in
    record {
      planned = planned;
      stands = stands;
      fresh = on.fresh;
      walked = walked_on plan.run given.order from passed old.stand new.stand given.ordered
          (subst (λ (p : Planned). HasWords p.run new.stand.at) planned stands.words) to_next at.walked;
      filled = filled_more plan old.plan passed old.stand (old.found + old.own) (new.found + new.own) at.planned at.filled on.filled;
    }

pub come_next : (plan : Planned) (from : Position) (old new : RunState) (held0 held : Option (List ℕ)) (faults0 faults : ℕ) (tally : Tally) → Given plan from
    → Kept plan from old held0 held faults0 faults tally → Passes old new → Stands new → Come plan from new held0 held faults0 faults tally
come_next plan from old new held0 held faults0 faults tally given kept on stands = record {
  passed = kept.passed ++ (old.stand ∷ []);
  at = passed_at plan from kept.passed old new given kept.at on stands;
  put = kept.put;
  few = subst (λ n. tally.rows ≤ n) (next_number old.plan.run old.stand new.stand on.goes) kept.few;
  same = kept.same;
}

-- Fewer rows are left.
pub fewer_left : (old new : RunState) → Passes old new → suc old.stand.at.number ≡ new.stand.at.number
fewer_left old new on = next_number old.plan.run old.stand new.stand on.goes

-- ---- The start

-- A run that was opened is at its stand.
pub opened_fresh : (plan : Planned) (from : Position) (r : RunState) → r ≡ arrived plan from (record { at = from; ports = r.stand.ports }) r.before 0 0
    → IsFresh r
opened_fresh plan from r is =
    is
    ∙ ap (λ plan. arrived plan from (record { at = from; ports = r.stand.ports }) r.before 0 0) (sym (ap (λ (s : RunState). s.plan) is))
    ∙ ap (λ opened. arrived r.plan opened (record { at = from; ports = r.stand.ports }) r.before 0 0) (sym (ap (λ (s : RunState). s.opened) is))
    ∙ ap (λ stand. arrived r.plan r.opened stand r.before 0 0) (sym (ap (λ (s : RunState). s.stand) is))
    ∙ ap (λ found. arrived r.plan r.opened r.stand r.before found 0) (sym (ap (λ (s : RunState). s.found) is))
    ∙ ap (λ own. arrived r.plan r.opened r.stand r.before r.found own) (sym (ap (λ (s : RunState). s.own) is))

pub given_by : (plan : Planned) (from : Position) (r : RunState) → IsOpened plan from r → Stands r → Given plan from
given_by plan from r opened stands =
    let planned : r.plan ≡ plan = ap (λ (s : RunState). s.plan) opened.is in
    let at : r.stand.at ≡ from = ap (λ (s : RunState). s.stand.at) opened.is in
    record {
      run = subst (λ (p : Planned). p.run ≡ run_of p.system) planned stands.composed;
      order = stands.order;
      ordered = subst (λ (p : Planned). IsPlaceOrder p.run stands.order) planned stands.ordered;
      bounded = subst (λ (p : Planned). IsBounded p.run) planned stands.bounded;
      members = subst (λ (p : Planned). AreMembers p.run) planned stands.members;
      words = subst (HasWords plan.run) at (subst (λ (p : Planned). HasWords p.run r.stand.at) planned stands.words);
      in_bounds = subst (IsInBounds plan.run) at (subst (λ (p : Planned). IsInBounds p.run r.stand.at) planned stands.in_bounds);
    }

nothing_put : (plan : Planned) (held : Option (List ℕ)) (tally : Tally) → tally.rows ≡ 0 → tally.sum ≡ pos 0 → ArePut plan [] held held tally
nothing_put plan held tally rows sum =
    record { out = subst (Appends held held) (sym (no_lines plan.system)) (Appends-nil held); rows = rows; sum = sum }

-- A run that was opened comes after no stands.
pub at_first : (plan : Planned) (from : Position) (r : RunState) → IsOpened plan from r → Stands r → IsAt plan from [] r
at_first plan from r opened stands =
    let given = given_by plan from r opened stands in
    let planned : r.plan ≡ plan = ap (λ (s : RunState). s.plan) opened.is in
    let found : r.found ≡ 0 = ap (λ (s : RunState). s.found) opened.is in
    let own : r.own ≡ 0 = ap (λ (s : RunState). s.own) opened.is in
    record {
      planned = planned;
      stands = stands;
      fresh = opened_fresh plan from r opened.is;
      walked = walked_first plan.run given.order from r.stand given.ordered (subst (λ (p : Planned). HasWords p.run r.stand.at) planned stands.words)
          (subst (λ (p : Planned). IsStand p.run r.stand) planned stands.is_stand) (ap (λ (s : RunState). s.stand.at) opened.is);
      filled = none_filled r.found r.own found own;
    }
  where
    none_filled : (found own : ℕ) → found ≡ 0 → own ≡ 0 → found + own ≡ 0
    none_filled found own none nor = omega arith

pub come_first : (plan : Planned) (from : Position) (r : RunState) (held : Option (List ℕ)) (faults : ℕ) (tally : Tally) → IsOpened plan from r → Stands r
    → tally.rows ≡ 0 → tally.sum ≡ pos 0 → Come plan from r held held faults faults tally
come_first plan from r held faults tally opened stands rows sum = record {
  passed = [];
  at = at_first plan from r opened stands;
  put = nothing_put plan held tally rows sum;
  few = subst (λ n. n ≤ r.stand.at.number) (sym rows) (omega arith);
  same = refl;
}

-- ---- How many rows are left

pub number_within : (plan : Planned) (from : Position) (r : RunState) → Given plan from → r.plan ≡ plan → Stands r → r.stand.at.number < 100000
number_within plan from r given planned stands =
    let most = given.bounded.rows in
    let within : r.stand.at.number < plan.run.row_budget = subst (λ (p : Planned). r.stand.at.number < p.run.row_budget) planned stands.in_rows in
    omega arith
