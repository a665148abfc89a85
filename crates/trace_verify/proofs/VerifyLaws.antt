-- The verdict on a table and the trace of a system.
use Rattle.std.proofs.Common.{◌≡◌, ℕ, suc, List, [], ◌∷◌, ◌++◌, map, take, drop, Some, Result, Ok, Err, refl, ap, ap₂, sym, subst, ◌∙◌, arith, append_assoc}
use Rattle.std.specs.Prelude.{codes, IfOk, OnErr}
use Rattle.std.specs.Io.KnownBytes.{Appends}
use Rattle.std.specs.List.{AllByRecursion, filter_map, flat_map}
use Rattle.std.specs.Result.{is_ok}
use Rattle.list_laws.proofs.Lists.{same_first, same_rest}
use Rattle.run_laws.proofs.PositionLaws.{system_has_members}
use Rattle.run_laws.proofs.RunTraces.{one_trace, one_trace_of}
use Rattle.super_time.specs.declared.point.Point.{Point}
use Rattle.trace_csv.specs.Columns.{columns_of, title_of}
use Rattle.trace_csv.specs.TraceText.{row_fields, trace_text}
use Rattle.trace_plan.specs.Plans.{Planned}
use Rattle.trace_rows.specs.Reports.{AppendsTracePrefix, ReportsTrace}
use Rattle.trace_rows.specs.declared.fault.CrewFault.{CrewFault}
use Rattle.trace_rows.specs.declared.report.Report.{Report}
use Rattle.trace_verify.specs.Comparing.{Begins, Compared, all_held, begun, marked, text_put}
use Rattle.trace_verify.specs.TraceLines.{IsTraceLine, line_of, lines_text}
use Rattle.trace_verify.specs.Verdicts.{verdict_of}
use Rattle.stimulus_tables.specs.Records.{Fields, records_of}
use Rattle.trace_verify.specs.Verifying.{IsVerdictOn}
use Rattle.trace_verify.specs.declared.verdict.Verdict.{Verdict}
use Rattle.trace_verify.proofs.LineRecords.{lines_read}
use Rattle.trace_csv.proofs.HighTexts.{AreHigh}
use Rattle.trace_verify.proofs.PlainTexts.{are_named, plain_of, row_plain, titles_plain}
use Rattle.unit_tree.specs.Compositions.{Composition, run_of}
use Rattle.unit_tree.specs.Plain.{plain_form}
use Rattle.unit_tree.specs.Printable.{IsRanged}
use Rattle.unit_tree.specs.Routes.{IsOrderOf, Ordered}
use Rattle.unit_tree.specs.Trace.{IsTraceOf, Row}
use Rattle.unit_tree.specs.WellFormed.{resolution_of}
use Rattle.unit_tree.specs.declared.ending.Ending.{Ending}
use Rattle.unit_tree.specs.declared.system.System.{System}

-- ---- The lines of a trace

fields_of_row : System → Row → Fields
fields_of_row system row = row_fields (resolution_of system) (columns_of system) row.point row.words

trace_lines : System → List Row → List Fields
trace_lines system rows = (codes "time" ∷ codes "index" ∷ filter_map (title_of system) (columns_of system)) ∷ map (fields_of_row system) rows

rows_text : (system : System) (rows : List Row)
    → flat_map (λ row. line_of (row_fields (resolution_of system) (columns_of system) row.point row.words)) rows ≡ flat_map line_of (map (fields_of_row system) rows)
unfolding fields_of_row
rows_text system [] = refl
rows_text system (row ∷ rows) = ap (λ rest. line_of (row_fields (resolution_of system) (columns_of system) row.point row.words) ++ rest) (rows_text system rows)

text_is : (system : System) (rows : List Row) → trace_text system rows ≡ lines_text (trace_lines system rows)
unfolding trace_lines
text_is system rows = ap (λ rest. line_of (codes "time" ∷ codes "index" ∷ filter_map (title_of system) (columns_of system)) ++ rest) (rows_text system rows)

rows_are_lines : (system : System) (rows : List Row) → AllByRecursion IsTraceLine (map (fields_of_row system) rows)
unfolding fields_of_row
rows_are_lines system [] = tt
rows_are_lines system (row ∷ rows) = (
  record {
    plain = row_plain (resolution_of system) row.point.t row.point.n (columns_of system) row.words;
    two = omega arith;
  },
  rows_are_lines system rows,
)

time_high : AreHigh (codes "time")
time_high = (omega arith, (omega arith, (omega arith, (omega arith, tt))))

index_high : AreHigh (codes "index")
index_high = (omega arith, (omega arith, (omega arith, (omega arith, (omega arith, tt)))))

are_lines : (system : System) → IsRanged system → (rows : List Row) → AllByRecursion IsTraceLine (trace_lines system rows)
unfolding trace_lines
are_lines system ranged rows = (
  record {
    plain = (
      plain_of (codes "time") time_high,
      (plain_of (codes "index") index_high, titles_plain (plain_form system) (are_named system ranged) (columns_of system)),
    );
    two = omega arith;
  },
  rows_are_lines system rows,
)

records_are : (system : System) → IsRanged system → (rows : List Row) → records_of (trace_text system rows) ≡ trace_lines system rows
unfolding trace_lines
records_are system ranged rows =
    ap records_of (text_is system rows)
    ∙ lines_read 116 (drop 1 (lines_text (trace_lines system rows))) (trace_lines system rows) refl refl (are_lines system ranged rows)

-- ---- What the sink holds

-- Two texts with marks at their ends, and something after each.
marked_apart : (one other rest behind : List ℕ) → marked one ++ rest ≡ marked other ++ behind → (one ≡ other) × (rest ≡ behind)
marked_apart [] [] rest behind is = (refl, same_rest 0 0 rest behind is)
marked_apart [] (byte ∷ other) rest behind is = absurd (none (same_first 0 (suc byte) rest (marked other ++ behind) is))
  where
    none : 0 ≡ suc byte → ⊥
    none same = omega (arith, same)
marked_apart (byte ∷ one) [] rest behind is = absurd (none (same_first (suc byte) 0 (marked one ++ rest) behind is))
  where
    none : suc byte ≡ 0 → ⊥
    none same = omega (arith, same)
marked_apart (byte ∷ one) (next ∷ other) rest behind is =
    let later = marked_apart one other rest behind (same_rest (suc byte) (suc next) (marked one ++ rest) (marked other ++ behind) is) in
    (ap₂ (λ b bytes. b ∷ bytes) (one_less byte next (same_first (suc byte) (suc next) (marked one ++ rest) (marked other ++ behind) is)) later.0, later.1)
  where
    one_less : (a b : ℕ) → suc a ≡ suc b → a ≡ b
    one_less a b same = omega (arith, same)

-- A comparison to which this was written, from its beginning.
held_by : (table text : List ℕ) (new : Compared) → Appends (Some (all_held (begun table))) (Some (all_held new)) text → (new.table ≡ table) × (text_put new ≡ text)
held_by table text new appends =
    marked_apart new.table table (text_put new) text
    (appends ∙ append_assoc (marked table) [] text)

-- ---- The one trace of a plan

abbrev pub HasOneList : System → Type 0
HasOneList system =
    (rows others : List Row) (last point : Point) (ending end : Ending) → IsTraceOf system rows last ending → IsTraceOf system others point end → others ≡ rows

one_list : (system : System) (order : Ordered) → IsOrderOf (run_of system) order → HasOneList system
one_list system order is rows others last point ending end trace other =
    let one = one_trace_of system (one_trace (run_of system) order.places (system_has_members (plain_form system)) is.places) in
    (one.is_only others point end other).0 ∙ sym (one.is_only rows last ending trace).0

pub plan_once : (plan one other : Planned) (order : Ordered) → one ≡ plan → other ≡ plan → one.run ≡ run_of one.system → IsOrderOf other.run order
    → HasOneList plan.system
plan_once plan one other order is same run ordered =
    one_list plan.system order
    (subst (λ (run : Composition). IsOrderOf run order) (subst (λ (p : Planned). p.run ≡ run_of p.system) is run)
    (subst (λ (p : Planned). IsOrderOf p.run order) same ordered))

pub plan_ranged : (plan one : Planned) (system : System) → one ≡ plan → system ≡ one.system → IsRanged system → IsRanged plan.system
plan_ranged plan one system is told ranged = subst (λ (p : Planned). IsRanged p.system) is (subst IsRanged told ranged)

-- ---- The verdict

module _ (system : System) (table : List ℕ) (new : Compared) (ran : Result Report CrewFault) (ranged : IsRanged system)
    (once : HasOneList system)
    (whole : IfOk ran (ReportsTrace system (Some (all_held (begun table))) (Some (all_held new))))
    (front : OnErr ran (AppendsTracePrefix system (Some (all_held (begun table))) (Some (all_held new)))) where
  put_by : (rows : List Row) (last : Point) (ending : Ending) → IsTraceOf system rows last ending → (told : Result Report CrewFault)
      → IfOk told (ReportsTrace system (Some (all_held (begun table))) (Some (all_held new)))
      → OnErr told (AppendsTracePrefix system (Some (all_held (begun table))) (Some (all_held new)))
      → (new.table ≡ table) × Begins (is_ok told) (text_put new) (trace_text system rows)
  put_by rows last ending trace (Ok report) reports fronts =
      let put = held_by table (trace_text system reports.rows) new reports.out in
      (put.0, put.1 ∙ ap (trace_text system) (once rows reports.rows last report.last ending report.outcome trace reports.trace))
  put_by rows last ending trace (Err fault) reports fronts =
      let prefix = fronts.begins rows last ending trace in
      let put = held_by table (take prefix.count (trace_text system rows)) new prefix.appended in
      (put.0, (prefix.count, put.1))

  pub verdict_is : {E : Type 0} (result : Result Verdict E) → ((lines : List Fields) → AllByRecursion IsTraceLine lines
      → Begins (is_ok ran) (text_put new) (lines_text lines) → IfOk result (λ verdict. verdict ≡ verdict_of lines (records_of new.table)))
      → IfOk result (IsVerdictOn system table)
  verdict_is (Err fault) tells = tt
  verdict_is (Ok verdict) tells = record {
    is = λ rows last ending trace.
        let put = put_by rows last ending trace ran whole front in
        let begins = subst (Begins (is_ok ran) (text_put new)) (text_is system rows) put.1 in
        tells (trace_lines system rows) (are_lines system ranged rows) begins
        ∙ ap₂ verdict_of (sym (records_are system ranged rows)) (ap records_of put.0);
  }
