-- The result of a run of a generated system, as the answer of the command.
use Rattle.std.specs.Prelude.{Vec}
use Rattle.std.specs.declared.alloc.Global.{Global}
use Rattle.std.proofs.Common.{◌≡◌, ℕ, List, length, Ok, Err, None, refl, inr, ap, sym, subst, ◌∙◌, arith}
use Rattle.std.proofs.lemmas.Option.{none-some}
use Rattle.language_laws.proofs.JudgementLaws.{well_formed}
use Rattle.run_laws.proofs.EventLaws.{plain_form_1}
use Rattle.trace_csv.specs.Columns.{columns_of}
use Rattle.trace_plan.specs.Faults.{IsRightPlanFault}
use Rattle.trace_plan.specs.declared.fault.PlanFault.TheVariants.{Loop}
use Rattle.trace_rows.specs.Reports.{ReportsTrace}
use Rattle.trace_rows.specs.Sums.{sum_shown}
use Rattle.trace_rows.specs.declared.report.Report.{Report}
use Rattle.unit_check.specs.Rules.{IsFaultOf}
use Rattle.unit_check.specs.declared.checking.CheckFault.TheVariants.{Line}
use Rattle.unit_tree.specs.Orders.{IsFirstWithoutOrder}
use Rattle.unit_tree.specs.Plain.{plain_form}
use Rattle.unit_tree.specs.Trace.{IsTraceOf, Row}
use Rattle.unit_tree.specs.declared.system.System.{System}
use Rattle.wire_graph.proofs.CycleLaws.{cycles_are_judged_once}
use Rattle.cosim_call.specs.Calls.{Stream, stream}
use Rattle.cosim_call.specs.Coming.{Makes}
use Rattle.cosim_call.specs.declared.coming.Stopped.{Stopped}
use Rattle.cosim_call.specs.declared.coming.Stopped.TheVariants as stopped
use Rattle.cosim_answers.specs.Answer.{Answers, traced_sum}
use Rattle.cosim_answers.specs.Figures.{figures_text}
use Rattle.command_line.specs.Generations.{Asked, CanGive, system_asked}
use Rattle.cosim_answers.specs.Serving.{Runs}
use Rattle.command_line.specs.declared.commands.Command.TheVariants.{Bench}
use Rattle.cosim_answers.proofs.MakingLaws.{made}
use Rattle.cosim_answers.proofs.TraceLaws.{whole_asked}

-- ---- A generated system has a plan

version_1 : (asked : Asked) → (system_asked asked).version ≡ 1
unfolding system_asked
version_1 asked = refl

pub never_refused : (asked : Asked) (system : System) (item rule : ℕ) → CanGive asked → system ≡ system_asked asked → IsFaultOf system (Line item rule) → ⊥
never_refused asked system item rule can is refused =
    none-some (record { by = rule; at = item })
    (sym ((well_formed (system_asked asked)).0 (whole_asked asked can).well_formed) ∙ subst (λ s. IsFaultOf s (Line item rule)) is refused)

pub never_loops : (asked : Asked) (system : System) (instance output : ℕ) → CanGive asked → system ≡ system_asked asked
    → IsRightPlanFault system (Loop instance output) → ⊥
never_loops asked system instance output can is (port, numbered, first) =
    cycles_are_judged_once.not_both (system_asked asked) port (whole_asked asked can).ordered
    (subst (λ s. IsFirstWithoutOrder s port) (plain_form_1 (system_asked asked) (version_1 asked))
    (subst (λ s. IsFirstWithoutOrder (plain_form s) port) is first))

-- ---- The result of its run, whose rows are dropped

abbrev pub nobody : Stream
nobody = stream None 0

-- It is given up only for lack of memory.
pub bench_given_up : (asked : Asked) (system : System) (why : Stopped) (text : List ℕ) → Runs system nobody nobody (Err why)
    → Makes (Answers (Bench asked) text) (Err why)
bench_given_up asked system stopped.WriteFault text (front, rose) = absurd (omega (arith, rose))
bench_given_up asked system stopped.NoMemory text runs = tt
bench_given_up asked system stopped.ReadFault text runs = absurd runs
bench_given_up asked system (stopped.Refused line rule) text runs = absurd runs

-- The sum that it reports.
sum_is : (system : System) (rows : List Row) → sum_shown (columns_of system) rows ≡ traced_sum system rows
unfolding traced_sum
sum_is system rows = refl

-- The figures of its report are those of the trace.
pub bench_made : (asked : Asked) (system : System) (report : Report) (bytes : Vec ℕ Global) (text : List ℕ) → system ≡ system_asked asked
    → ReportsTrace system None None report → bytes.items ≡ figures_text asked.instances report.rows report.last report.sum
    → Makes (Answers (Bench asked) text) (Ok bytes)
bench_made asked system report bytes text is reports same =
    made (Answers (Bench asked) text) (figures_text asked.instances (length reports.rows) report.last (traced_sum (system_asked asked) reports.rows)) bytes
    (same
    ∙ ap (λ count. figures_text asked.instances count report.last report.sum) reports.rows_counted
    ∙ ap (figures_text asked.instances (length reports.rows) report.last)
    (reports.summed ∙ sum_is system reports.rows ∙ ap (λ s. traced_sum s reports.rows) is))
    (inr (record {
      rows = reports.rows;
      last = report.last;
      ending = report.outcome;
      trace = subst (λ s. IsTraceOf s reports.rows report.last report.outcome) is reports.trace;
      is = refl;
    }))
