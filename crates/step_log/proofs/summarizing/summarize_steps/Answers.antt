use Rattle.std.proofs.Common.{◌≡◌, ◌∙◌, ◌++◌, ◌∷◌, [], length, refl, ap, sym, subst, arith}
use Rattle.std.specs.Io.KnownBytes.{Appends}
use Rattle.cosim_io.specs.Pieces.{AppendsPrefix}
use Rattle.list_laws.proofs.Options.{on_err}
use Rattle.step_counts.specs.Counts.{IsCountOf}
use Rattle.step_counts.specs.Summaries.{summary_of}
use Rattle.step_log.proofs.SummaryKept.{AllCounted, Counts, all_counted, counted_first, counted_next, front_none, front_summary, reports_summary, room_for}
use Rattle.step_log.specs.Reports.{plain_steps}
use Rattle.step_log.specs.declared.report.StepReport.TheVariants as report
use Rattle.trace_core.specs.Runs.{IsOpened}
use Rattle.trace_plan.specs.Plans.{Planned}
use Rattle.trace_rows.proofs.DriveLaws.{composed_of, ended_by, going_on}
use Rattle.trace_rows.proofs.RowLaws.{err_is, tells_given_up, tells_none}
use Rattle.trace_rows.proofs.RunKept.{Given, fewer_left, given_by, number_within}
use Rattle.unit_tree.specs.Successor.{first_position}
use Rattle.unit_tree.specs.declared.system.System.{System}
use Rattle.step_log.proofs.summarizing.summarize_steps.Given as given
use Rattle.step_log.proofs.summarizing.summarize_steps.Goals.{After-phase, In_ok-run}
use Rattle.step_log.proofs.summarizing.summarize_steps.Goals as goal

-- The run was opened at the first position of its plan, which gives the bound of its rows.
opened : (g : given.Over) (c : In_ok-run g) → IsOpened c.args.plan.value (first_position c.args.plan.value.run) c.in_ok-run.run'
opened g c = subst (λ (p : Planned). IsOpened p (first_position p.run) c.in_ok-run.run') c.in_ok-clone.ensures.cases c.in_ok-run.ensures.opened

kept : (g : given.Over) (c : In_ok-run g) → Given c.args.plan.value (first_position c.args.plan.value.run)
kept g c = given_by c.args.plan.value (first_position c.args.plan.value.run) c.in_ok-run.run' (opened g c) c.in_ok-run.ensures.stands

-- After the loop all steps of the run are counted.
counted_all : (g : given.Over) (c : After-phase g) → Given c.args.plan.value (first_position c.args.plan.value.run)
    → AllCounted c.args.plan.value (first_position c.args.plan.value.run) (length c.args.plan.value.system.instances) c.count_step.new.run
    c.count_step.new.counts
counted_all g c given =
    all_counted c.args.plan.value _ (length c.args.plan.value.system.instances) c.rows.run c.count_step.new.run c.rows.counts c.count_step.new.counts given
    c.rows.invariant (ended_by c.rows.run c.count_step.new.run c.count_step.result c.rows-test.false c.count_step.ensures.went)
    c.count_step.ensures.stands c.count_step.ensures.alone
    (subst (λ (p : Planned). Counts p c.rows.run c.rows.counts c.count_step.new.counts) c.deref-in-rows.ensures c.count_step.ensures.counted)

pub returns-in_err-counts-clause-front : goal.returns-in_err-counts-clause-front
returns-in_err-counts-clause-front g c =
    on_err c.from_residual-in_err-counts.result (front_none report.Summary c.args.plan.value.system (g.O.Sink.held c.args.out.now))

pub rows-init : goal.rows-init
rows-init g c =
    let plan = c.args.plan.value in
    let from = first_position plan.run in
    let opened = opened g (goal.at.rows-init g c).In_ok-run in
    let system : c.source.result.now ≡ plan.system = c.source.ensures ∙ c.checked.ensures.system ∙ ap (λ (p : Planned). p.system) c.deref.ensures in
    let many : c.len.result ≡ length plan.system.instances = c.len.ensures ∙ ap (λ (s : System). length s.instances) system in
    counted_first plan from (length plan.system.instances) c.in_ok-run.run' c.in_ok-counts.counts opened c.in_ok-run.ensures.stands
    (subst (λ n. IsCountOf n [] c.in_ok-counts.counts) many c.in_ok-counts.ensures)

pub count_step-requires-clause-room : goal.count_step-requires-clause-room
count_step-requires-clause-room g c =
    let plan = c.args.plan.value in
    let from = first_position plan.run in
    let given = kept g (goal.at.count_step-requires-clause-room g c).In_ok-run in
    room_for plan from (length plan.system.instances) c.rows.run c.rows.counts given c.rows.invariant

pub rows-smaller : goal.rows-smaller
rows-smaller g c =
    let plan = c.args.plan.value in
    let from = first_position plan.run in
    let given = kept g (goal.at.rows-smaller g c).In_ok-run in
    let on = going_on c.rows.run c.count_step.new.run c.count_step.result c.rows-test.true c.count_step.ensures.went in
    let within = number_within plan from c.rows.run given c.rows.invariant.at.planned c.rows.invariant.at.stands in
    let next = fewer_left c.rows.run c.count_step.new.run on in
    omega (arith, within, next)

pub rows-preserved : goal.rows-preserved
rows-preserved g c =
    let plan = c.args.plan.value in
    let from = first_position plan.run in
    let given = kept g (goal.at.rows-preserved g c).In_ok-run in
    let on = going_on c.rows.run c.count_step.new.run c.count_step.result c.rows-test.true c.count_step.ensures.went in
    counted_next plan from (length plan.system.instances) c.rows.run c.count_step.new.run c.rows.counts c.count_step.new.counts given c.rows.invariant on
    c.count_step.ensures.stands c.count_step.ensures.alone
    (subst (λ (p : Planned). Counts p c.rows.run c.rows.counts c.count_step.new.counts) c.deref-in-rows.ensures c.count_step.ensures.counted)

pub unreachable-requires : goal.unreachable-requires
unreachable-requires g c =
    let plan = c.args.plan.value in
    let from = first_position plan.run in
    let given = kept g (goal.at.unreachable-requires g c).In_ok-run in
    let all = counted_all g (goal.at.unreachable-requires g c).After-phase given in
    c.in_default.not-Ended all.over.ending (c.phase.ensures.phase ∙ all.over.phase)

pub returns-in_err-put_summary-clause-front : goal.returns-in_err-put_summary-clause-front
returns-in_err-put_summary-clause-front g c =
    let plan = c.args.plan.value in
    let from = first_position plan.run in
    let opened = opened g (goal.at.returns-in_err-put_summary-clause-front g c).In_ok-run in
    let given = kept g (goal.at.returns-in_err-put_summary-clause-front g c).In_ok-run in
    let all = counted_all g (goal.at.returns-in_err-put_summary-clause-front g c).After-phase given in
    let steps = plain_steps plan.run (all.passed ++ (c.count_step.new.run.stand ∷ [])) in
    let lent : c.deref-2.result.now ≡ plan = c.deref-2.ensures in
    on_err c.from_residual-in_err-put_summary.result
    (front_summary plan from (length plan.system.instances) c.count_step.new.run c.count_step.new.counts (g.O.Sink.held c.args.out.now)
    (g.O.Sink.held c.put_summary.new.out) c.in-Ended.outcome _ (composed_of plan from c.in_ok-run.run' opened c.in_ok-run.ensures.stands) refl all
    (sym c.phase.ensures.phase ∙ c.in-Ended.is) refl
    (subst (λ (p : Planned). AppendsPrefix (g.O.Sink.held c.args.out.now) (g.O.Sink.held c.put_summary.new.out) (summary_of p.system steps c.in-Ended.outcome)) lent
    (c.in_err-put_summary.ensures.front steps
    (subst (λ (p : Planned). IsCountOf (length p.system.instances) steps c.count_step.new.counts) (sym lent) all.counted))))

pub returns-in_err-put_summary-clause-cause : goal.returns-in_err-put_summary-clause-cause
returns-in_err-put_summary-clause-cause g c =
    tells_given_up (g.O.Sink.faults c.args.out.now) (g.O.Sink.faults c.args.out.now) (g.O.Sink.faults c.put_summary.new.out) c.in_err-put_summary.field-0.0
    c.from_residual-in_err-put_summary.result refl c.in_err-put_summary.ensures.cause
    (err_is c.from_residual-in_err-put_summary.result c.in_err-put_summary.field-0.0 c.from_residual-in_err-put_summary.ensures.1)

pub returns-clause-whole : goal.returns-clause-whole
returns-clause-whole g c =
    let plan = c.args.plan.value in
    let from = first_position plan.run in
    let opened = opened g (goal.at.returns-clause-whole g c).In_ok-run in
    let given = kept g (goal.at.returns-clause-whole g c).In_ok-run in
    let all = counted_all g (goal.at.returns-clause-whole g c).After-phase given in
    let steps = plain_steps plan.run (all.passed ++ (c.count_step.new.run.stand ∷ [])) in
    let lent : c.deref-2.result.now ≡ plan = c.deref-2.ensures in
    reports_summary plan from (length plan.system.instances) c.count_step.new.run c.count_step.new.counts (g.O.Sink.held c.args.out.now)
    (g.O.Sink.held c.put_summary.new.out) c.in-Ended.outcome c.end_of.result _ (composed_of plan from c.in_ok-run.run' opened c.in_ok-run.ensures.stands)
    refl given all (sym c.phase.ensures.phase ∙ c.in-Ended.is) c.end_of.ensures refl
    (subst (λ (p : Planned). Appends (g.O.Sink.held c.args.out.now) (g.O.Sink.held c.put_summary.new.out) (summary_of p.system steps c.in-Ended.outcome)) lent
    (c.in_ok-put_summary.ensures.whole steps
    (subst (λ (p : Planned). IsCountOf (length p.system.instances) steps c.count_step.new.counts) (sym lent) all.counted)))

pub returns-clause-cause : goal.returns-clause-cause
returns-clause-cause g c =
    tells_none (g.O.Sink.faults c.args.out.now) (g.O.Sink.faults c.put_summary.new.out) c.end_of.result
    (c.in_ok-put_summary.ensures.cause.same (λ e. absurd (cc)))
