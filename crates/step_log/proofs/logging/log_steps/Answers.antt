use Rattle.std.proofs.Common.{◌∙◌, refl, sym, subst, arith}
use Rattle.std.specs.Io.KnownBytes.{Appends}
use Rattle.cosim_io.specs.Pieces.{AppendsPrefix}
use Rattle.list_laws.proofs.Options.{on_err}
use Rattle.step_log.proofs.LogKept.{front_header, front_logged, log_done, logged_first, logged_next, reports_log}
use Rattle.step_log.specs.Lines.{line_if}
use Rattle.step_log.specs.Reports.{plain_step}
use Rattle.trace_core.specs.Runs.{IsOpened}
use Rattle.trace_plan.specs.Plans.{Planned}
use Rattle.trace_rows.proofs.DriveLaws.{composed_of, ended_by, going_on}
use Rattle.trace_rows.proofs.RowLaws.{err_is, tells_given_up, tells_none}
use Rattle.trace_rows.proofs.RunKept.{Given, fewer_left, given_by, number_within}
use Rattle.unit_tree.specs.Successor.{first_position}
use Rattle.step_log.proofs.logging.log_steps.Given as given
use Rattle.step_log.proofs.logging.log_steps.Goals.{In_ok-run}
use Rattle.step_log.proofs.logging.log_steps.Goals as goal

-- The run was opened at the first position of its plan, which gives the bound of its rows.
opened : (g : given.Over) (c : In_ok-run g) → IsOpened c.args.plan.value (first_position c.args.plan.value.run) c.in_ok-run.run'
opened g c = subst (λ (p : Planned). IsOpened p (first_position p.run) c.in_ok-run.run') c.in_ok-clone.ensures.cases c.in_ok-run.ensures.opened

kept : (g : given.Over) (c : In_ok-run g) → Given c.args.plan.value (first_position c.args.plan.value.run)
kept g c = given_by c.args.plan.value (first_position c.args.plan.value.run) c.in_ok-run.run' (opened g c) c.in_ok-run.ensures.stands

pub returns-in_err-put_header-clause-front : goal.returns-in_err-put_header-clause-front
returns-in_err-put_header-clause-front g c =
    on_err c.from_residual-in_err-put_header.result
    (front_header c.args.plan.value.system (g.O.Sink.held c.args.out.now) (g.O.Sink.held c.put_header.new.out) c.in_err-put_header.ensures.front)

pub rows-init : goal.rows-init
rows-init g c =
    let plan = c.args.plan.value in
    let from = first_position plan.run in
    let opened = opened g (goal.at.rows-init g c).In_ok-run in
    logged_first plan from c.in_ok-run.run' (g.O.Sink.held c.args.out.now) (g.O.Sink.held c.put_header.new.out)
    (g.O.Sink.faults c.args.out.now) (g.O.Sink.faults c.put_header.new.out) opened c.in_ok-run.ensures.stands c.in_ok-put_header.ensures.whole
    (c.in_ok-put_header.ensures.cause.same (λ e. absurd (cc)))

pub returns-in_err-log_step-clause-front : goal.returns-in_err-log_step-clause-front
returns-in_err-log_step-clause-front g c =
    let plan = c.args.plan.value in
    let from = first_position plan.run in
    let opened = opened g (goal.at.returns-in_err-log_step-clause-front g c).In_ok-run in
    on_err c.from_residual-in_err-log_step.result
    (front_logged plan from c.rows.run (g.O.Sink.held c.args.out.now) (g.O.Sink.held c.rows.out) (g.O.Sink.held c.log_step.new.out)
    (g.O.Sink.faults c.args.out.now) (g.O.Sink.faults c.rows.out) (composed_of plan from c.in_ok-run.run' opened c.in_ok-run.ensures.stands) refl
    c.rows.invariant
    (subst (λ (p : Planned). AppendsPrefix (g.O.Sink.held c.rows.out) (g.O.Sink.held c.log_step.new.out) (line_if p.system (plain_step p.run c.rows.run.stand)))
    c.deref.ensures c.in_err-log_step.ensures.front))

pub returns-in_err-log_step-clause-cause : goal.returns-in_err-log_step-clause-cause
returns-in_err-log_step-clause-cause g c =
    tells_given_up (g.O.Sink.faults c.args.out.now) (g.O.Sink.faults c.rows.out) (g.O.Sink.faults c.log_step.new.out) c.in_err-log_step.field-0.0
    c.from_residual-in_err-log_step.result c.rows.invariant.same c.in_err-log_step.ensures.cause
    (err_is c.from_residual-in_err-log_step.result c.in_err-log_step.field-0.0 c.from_residual-in_err-log_step.ensures.1)

pub returns-in_err-put_header-clause-cause : goal.returns-in_err-put_header-clause-cause
returns-in_err-put_header-clause-cause g c =
    tells_given_up (g.O.Sink.faults c.args.out.now) (g.O.Sink.faults c.args.out.now) (g.O.Sink.faults c.put_header.new.out) c.in_err-put_header.field-0.0
    c.from_residual-in_err-put_header.result refl c.in_err-put_header.ensures.cause
    (err_is c.from_residual-in_err-put_header.result c.in_err-put_header.field-0.0 c.from_residual-in_err-put_header.ensures.1)

pub rows-smaller : goal.rows-smaller
rows-smaller g c =
    let plan = c.args.plan.value in
    let from = first_position plan.run in
    let given = kept g (goal.at.rows-smaller g c).In_ok-run in
    let on = going_on c.rows.run c.log_step.new.run c.in_ok-log_step.field-0 c.if-branch.true c.in_ok-log_step.ensures.went in
    let within = number_within plan from c.rows.run given c.rows.invariant.at.planned c.rows.invariant.at.stands in
    let next = fewer_left c.rows.run c.log_step.new.run on in
    omega (arith, within, next)

pub rows-preserved : goal.rows-preserved
rows-preserved g c =
    let plan = c.args.plan.value in
    let from = first_position plan.run in
    let given = kept g (goal.at.rows-preserved g c).In_ok-run in
    let on = going_on c.rows.run c.log_step.new.run c.in_ok-log_step.field-0 c.if-branch.true c.in_ok-log_step.ensures.went in
    logged_next plan from c.rows.run c.log_step.new.run (g.O.Sink.held c.args.out.now) (g.O.Sink.held c.rows.out) (g.O.Sink.held c.log_step.new.out)
    (g.O.Sink.faults c.args.out.now) (g.O.Sink.faults c.rows.out) (g.O.Sink.faults c.log_step.new.out) given c.rows.invariant on
    c.in_ok-log_step.ensures.stands c.in_ok-log_step.ensures.alone
    (subst (λ (p : Planned). Appends (g.O.Sink.held c.rows.out) (g.O.Sink.held c.log_step.new.out) (line_if p.system (plain_step p.run c.rows.run.stand)))
    c.deref.ensures c.in_ok-log_step.ensures.whole)
    (c.in_ok-log_step.ensures.cause.same (λ e. absurd (cc)))

pub returns-clause-whole : goal.returns-clause-whole
returns-clause-whole g c =
    let plan = c.args.plan.value in
    let from = first_position plan.run in
    let opened = opened g (goal.at.returns-clause-whole g c).In_ok-run in
    let given = kept g (goal.at.returns-clause-whole g c).In_ok-run in
    let done =
    log_done plan from c.rows.run c.log_step.new.run (g.O.Sink.held c.args.out.now) (g.O.Sink.held c.rows.out) (g.O.Sink.held c.log_step.new.out)
    (g.O.Sink.faults c.args.out.now) (g.O.Sink.faults c.rows.out) given c.rows.invariant
    (ended_by c.rows.run c.log_step.new.run c.in_ok-log_step.field-0 c.if-branch.false c.in_ok-log_step.ensures.went) c.in_ok-log_step.ensures.stands
    c.in_ok-log_step.ensures.alone
    (subst (λ (p : Planned). Appends (g.O.Sink.held c.rows.out) (g.O.Sink.held c.log_step.new.out) (line_if p.system (plain_step p.run c.rows.run.stand)))
    c.deref.ensures c.in_ok-log_step.ensures.whole) in
    reports_log plan from c.log_step.new.run (g.O.Sink.held c.args.out.now) (g.O.Sink.held c.log_step.new.out) c.in-Ended.outcome
    c.end_of.result (composed_of plan from c.in_ok-run.run' opened c.in_ok-run.ensures.stands) refl given
    done (sym c.phase.ensures.phase ∙ c.in-Ended.is) c.end_of.ensures

pub returns-clause-cause : goal.returns-clause-cause
returns-clause-cause g c =
    tells_none (g.O.Sink.faults c.args.out.now) (g.O.Sink.faults c.log_step.new.out)
    c.end_of.result
    (c.in_ok-log_step.ensures.cause.same (λ e. absurd (cc)) ∙ c.rows.invariant.same)
