-- What the rows of a run write and count.
use Rattle.std.proofs.Common.{◌≡◌, ℕ, ◌+◌, ◌*◌, ◌<◌, ◌^◌, ℤ, pos, neg_ℤ, ◌+ℤ◌, ◌≤ℤ◌, List, [], ◌∷◌, ◌++◌, length, drop, get_or, Option, Some, None, Result, Ok}
use Rattle.std.proofs.Common.{Err, refl, sym, ap, subst, ◌∙◌, append-nil, arith}
use Rattle.std.specs.Io.KnownBytes.{Appends}
use Rattle.std.specs.List.{AllByRecursion, cons_option, filter_map}
use Rattle.std.specs.Option.{option_map}
use Rattle.std.specs.Result.{IsErrAnd}
use Rattle.std.proofs.KnownBytes.{Appends-nil}
use Rattle.std.proofs.lemmas.Int.{ints}
use Rattle.std.proofs.lemmas.List.{at_drop_more}
use Rattle.std.proofs.lemmas.Slice.Zip.{AllZip-long}
use Rattle.cosim_io.specs.Faults.{Rose}
use Rattle.cosim_io.specs.Pieces.{AppendsPrefix}
use Rattle.super_time.specs.declared.point.Point.{Point}
use Rattle.trace_core.specs.Runs.{RunState, Stands, row_told}
use Rattle.trace_core.specs.declared.phase.Row as lent
use Rattle.trace_csv.specs.Columns.{columns_of}
use Rattle.trace_csv.specs.TraceText.{HasWord, header_line, row_line, trace_text}
use Rattle.trace_plan.specs.Laws.{HasRows}
use Rattle.trace_plan.specs.Plans.{Planned}
use Rattle.unit_tree.specs.Compositions.{Composition, run_of}
use Rattle.unit_tree.specs.Ports.{Ports, IsAssignment, IsPlaceOrder, port_fault}
use Rattle.unit_tree.specs.Trace.{Stand, IsStand, Row, row_at, row_unless, AreWordsOf, HasWords}
use Rattle.unit_tree.specs.WellFormed.{resolution_of}
use Rattle.unit_tree.specs.declared.ending.Ending.{Ending}
use Rattle.unit_tree.specs.declared.system.Column.{Column}
use Rattle.unit_tree.specs.declared.system.System.{System}
use Rattle.run_laws.proofs.AssignmentLaws.{undefined_faults}
use Rattle.trace_rows.specs.Faults.{TellsFault}
use Rattle.trace_rows.specs.Lines.{PutsRow, header_of, lines_of, rows_here}
use Rattle.trace_rows.specs.Sums.{IsBoundedBy, word_shown, row_sum, sum_shown}
use Rattle.trace_rows.specs.declared.fault.CrewFault.{CrewFault}
use Rattle.trace_rows.specs.declared.fault.CrewFault.TheVariants.{WriteFault}
use Rattle.trace_rows.specs.declared.tally.Tally.{Tally}

-- ---- Sums

pub row_sum_more : (columns : List Column) (words : List ℤ) (i : ℕ) (d : Column) → i < length columns
    → row_sum (drop i columns) words ≡ word_shown words (get_or columns i d) +ℤ row_sum (drop (i + 1) columns) words
row_sum_more columns words i d within = at_drop_more (λ rest. row_sum rest words) columns i d within

-- One more word.
pub summed_more : (columns : List Column) (words : List ℤ) (i : ℕ) (d : Column) (sum word all : ℤ) → i < length columns
    → word ≡ word_shown words (get_or columns i d) → sum +ℤ row_sum (drop i columns) words ≡ all → (sum +ℤ word) +ℤ row_sum (drop (i + 1) columns) words ≡ all
summed_more columns words i d sum word all within is summed =
    let more = row_sum_more columns words i d within in
    let rest = row_sum (drop (i + 1) columns) words in
    omega (arith, ints, summed, more, is)

pub within_more : (i : ℕ) (sum word : ℤ) → IsBoundedBy (i * 2 ^ 63) sum → neg_ℤ (pos (2 ^ 63)) ≤ℤ word → word ≤ℤ pos (2 ^ 63)
    → IsBoundedBy ((i + 1) * 2 ^ 63) (sum +ℤ word)
within_more i sum word so_far least greatest =
    record { least = omega (arith, ints, so_far.least, least); greatest = omega (arith, ints, so_far.greatest, greatest) }

add-nothing : (sum : ℤ) → sum ≡ sum +ℤ pos 0
add-nothing sum = omega (arith, ints)

-- ---- Lines

-- The text of a trace is its header and its lines.
pub text_is : (system : System) (rows : List Row) → header_of system ++ lines_of system rows ≡ trace_text system rows
unfolding header_of lines_of
text_is system rows = refl

-- The line of one row, from the system's own resolution and columns.
one_line : (system : System) (resolution : ℕ) (columns : List Column) (row : Row) → resolution ≡ resolution_of system → columns ≡ columns_of system
    → row_line resolution columns row.point row.words ≡ lines_of system (row ∷ [])
unfolding lines_of
one_line system resolution columns row same_resolution same_columns =
    ap (λ r. row_line r columns row.point row.words) same_resolution ∙ ap (λ c. row_line (resolution_of system) c row.point row.words) same_columns
    ∙ sym (append-nil (row_line (resolution_of system) (columns_of system) row.point row.words))

pub no_lines : (system : System) → lines_of system [] ≡ []
unfolding lines_of
no_lines system = refl

-- ---- The row of a stand

row_here : (plan : Planned) (stand : Stand) (row : Row) → row_at plan.run stand ≡ Some row → rows_here plan stand ≡ row ∷ []
row_here plan stand row is = ap (λ found. cons_option found []) is

none_here : (plan : Planned) (stand : Stand) → row_at plan.run stand ≡ None → rows_here plan stand ≡ []
none_here plan stand is = ap (λ found. cons_option found []) is

-- `option_map` on the row of a run.
pub told_none : {A B : Type 0} (f : A → B) (told : Option A) (row : Option B) → option_map f told ≡ row → ((a : A) → told ≡ Some a → ⊥) → row ≡ None
told_none f None row is not = sym is
told_none f (Some a) row is not = absurd (not a refl)

pub told_some : {A B : Type 0} (f : A → B) (told : Option A) (row : Option B) (a : A) → option_map f told ≡ row → told ≡ Some a → row ≡ Some (f a)
told_some f told row a is found = sym is ∙ ap (option_map f) found

pub no_row_put : (plan : Planned) (stand : Stand) (held : Option (List ℕ)) (faults : ℕ) (tally : Tally) → row_at plan.run stand ≡ None
    → PutsRow plan stand held held faults faults tally tally (Ok tt)
no_row_put plan stand held faults tally is =
    let none = none_here plan stand is in
    record {
      whole = record {
        out = subst (Appends held held) (sym (ap (lines_of plan.system) none ∙ no_lines plan.system)) (Appends-nil held);
        rows = subst (λ rows. tally.rows ≡ tally.rows + length rows) (sym none) (omega arith);
        sum = subst (λ rows. tally.sum ≡ tally.sum +ℤ sum_shown (columns_of plan.system) rows) (sym none) (add-nothing tally.sum);
      };
      front = tt;
      cause = record { later = omega arith; failed = λ e. absurd (cc); same = λ _. refl };
    }

pub row_put : (plan : Planned) (stand : Stand) (row : Row) (resolution : ℕ) (columns : List Column) (held held' : Option (List ℕ)) (faults faults' : ℕ)
    (before after : Tally) (sum : ℤ)
    → row_at plan.run stand ≡ Some row → resolution ≡ resolution_of plan.system → columns ≡ columns_of plan.system
    → Appends held held' (row_line resolution columns row.point row.words) → faults' ≡ faults → after.rows ≡ before.rows + 1 → after.sum ≡ before.sum +ℤ sum
    → sum ≡ row_sum columns row.words → PutsRow plan stand held held' faults faults' before after (Ok tt)
row_put plan stand row resolution columns held held' faults faults' before after sum is same_resolution same_columns put same rows_are sum_is row_sum_is =
    let here = row_here plan stand row is in
    let shown : before.sum +ℤ sum ≡ before.sum +ℤ sum_shown (columns_of plan.system) (row ∷ []) =
    ap (λ s. before.sum +ℤ s)
    (row_sum_is ∙ ap (λ columns. row_sum columns row.words) same_columns ∙ add-nothing (row_sum (columns_of plan.system) row.words)) in
    record {
      whole = record {
        out = subst (Appends held held') (one_line plan.system resolution columns row same_resolution same_columns ∙ ap (lines_of plan.system) (sym here)) put;
        rows = subst (λ rows. after.rows ≡ before.rows + length rows) (sym here) rows_are;
        sum = subst (λ rows. after.sum ≡ before.sum +ℤ sum_shown (columns_of plan.system) rows) (sym here) (sum_is ∙ shown);
      };
      front = tt;
      cause = record { later = omega arith; failed = λ e. absurd (cc); same = λ _. same };
    }

pub row_broken : (plan : Planned) (stand : Stand) (row : Row) (resolution : ℕ) (columns : List Column) (held held' : Option (List ℕ)) (faults faults' : ℕ)
    (tally : Tally) (fault : CrewFault) (result : Result (Unit {0}) CrewFault)
    → row_at plan.run stand ≡ Some row → resolution ≡ resolution_of plan.system → columns ≡ columns_of plan.system
    → AppendsPrefix held held' (row_line resolution columns row.point row.words) → TellsFault {T = Unit {0}} faults faults' (Err fault) → result ≡ Err fault
    → PutsRow plan stand held held' faults faults' tally tally result
row_broken plan stand row resolution columns held held' faults faults' tally fault result is same_resolution same_columns put tells same =
    subst (PutsRow plan stand held held' faults faults' tally tally) (sym same) (record {
      whole = tt;
      front = subst (AppendsPrefix held held')
          (one_line plan.system resolution columns row same_resolution same_columns ∙ ap (lines_of plan.system) (sym (row_here plan stand row is))) put;
      cause = tells;
    })

-- The fault that a `?` returns.
pub err_is : {T : Type 0} (result : Result T CrewFault) (fault : CrewFault) → IsErrAnd result (λ e. e ≡ fault) → result ≡ Err fault
err_is (Ok done) fault is = absurd is
err_is (Err other) fault is = ap (λ e. Err e) is

-- ---- The header

pub header_is : (plan : Planned) (system : System) (columns : List Column) (line bytes : List ℕ) → system ≡ plan.system → columns ≡ columns_of plan.system
    → line ≡ header_line system columns → bytes ≡ line → bytes ≡ header_of plan.system
unfolding header_of
header_is plan system columns line bytes system_is columns_are line_is bytes_are =
    bytes_are ∙ line_is ∙ ap (header_line system) columns_are ∙ ap (λ system. header_line system (columns_of plan.system)) system_is

-- ---- The words of rows

row_of_none : (point : Point) (ports : Ports) (row : Row) → row_unless None point ports ≡ Some row → filter_map (λ word. word) ports ≡ row.words
row_of_none point ports row is = let same : record { point = point; words = filter_map (λ word. word) ports } ≡ row = cc in ap (λ (r : Row). r.words) same

words_by : (plan : Planned) (stand : Stand) (row : Row) (order : List ℕ) (fault : Option Ending) → plan.run ≡ run_of plan.system → IsPlaceOrder plan.run order
    → HasRows plan.system → HasWords plan.run stand.at → IsStand plan.run stand → port_fault plan.run stand.at.states stand.ports ≡ fault
    → row_unless fault stand.at.point stand.ports ≡ Some row → AllByRecursion (HasWord row.words) (columns_of plan.system)
words_by plan stand row order (Some ending) run ordered rows words is_stand fault is = absurd (cc)
words_by plan stand row order None run ordered rows words is_stand fault is =
    let as_many = AllZip-long (λ member state. AreWordsOf member.component.unit.states state) plan.run.members stand.at.states words in
    let there = (undefined_faults plan.run order stand.at.states stand.ports ordered as_many is_stand).0 fault in
    subst (λ words. AllByRecursion (HasWord words) (columns_of plan.system)) (row_of_none stand.at.point stand.ports row is)
    (rows stand.at.states stand.ports (as_many ∙ ap (λ (run : Composition). length run.members) run)
    (subst (λ run. IsAssignment run stand.at.states stand.ports) run is_stand) there)

-- The columns have their words in the row at the run's stand.
pub row_shows : (plan : Planned) (r : RunState) (row : lent.Row) (columns : List Column) → r.plan ≡ plan → Stands r → HasRows plan.system
    → row_at plan.run r.stand ≡ Some (row_told row) → columns ≡ columns_of plan.system → AllByRecursion (HasWord row.ports.now) columns
row_shows plan r row columns own stands rows is columns_are =
    subst (AllByRecursion (HasWord row.ports.now)) (sym columns_are)
    (words_by plan r.stand (row_told row) stands.order (port_fault plan.run r.stand.at.states r.stand.ports)
    (subst (λ (p : Planned). p.run ≡ run_of p.system) own stands.composed) (subst (λ (p : Planned). IsPlaceOrder p.run stands.order) own stands.ordered) rows
    (subst (λ (p : Planned). HasWords p.run r.stand.at) own stands.words) (subst (λ (p : Planned). IsStand p.run r.stand) own stands.is_stand) refl is)

-- ---- Faults

-- The fault that a `?` returns is that of the call.
abbrev err : (T : Type 0) → CrewFault → Result T CrewFault
err T fault = Err fault

err_as : (T U : Type 0) (fault : CrewFault) → err T fault ≡ err T WriteFault → err U fault ≡ err U WriteFault
err_as T U fault is = let same : fault ≡ WriteFault = cc in ap (err U) same

pub tells_given_up : {A B : Type 0} (faults0 faults faults' : ℕ) (fault : CrewFault) (result : Result A CrewFault) → faults ≡ faults0
    → TellsFault faults faults' (err B fault) → result ≡ Err fault → TellsFault faults0 faults' result
tells_given_up {A} {B} faults0 faults faults' fault result same tells is =
    let later = tells.later in
    record {
      later = omega arith;
      failed = λ e. subst (λ f. Rose f faults') same (tells.failed (err_as A B fault (sym is ∙ e)));
      same = λ other. tells.same (λ e. other (is ∙ err_as B A fault e)) ∙ same;
    }

pub tells_none : {T : Type 0} (faults0 faults : ℕ) (done : T) → faults ≡ faults0 → TellsFault {T = T} faults0 faults (Ok done)
tells_none faults0 faults done same = record { later = omega arith; failed = λ e. absurd (cc); same = λ other. same }

pub tells_after : {T : Type 0} (faults0 faults faults' : ℕ) (result : Result T CrewFault) → faults ≡ faults0 → TellsFault faults faults' result
    → TellsFault faults0 faults' result
tells_after faults0 faults faults' result same tells = subst (λ f. TellsFault f faults' result) same tells
