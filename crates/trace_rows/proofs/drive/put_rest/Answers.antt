use Rattle.std.proofs.Common.{Ok, sym, ap, subst, ◌∙◌, arith}
use Rattle.cosim_io.specs.Pieces.{AppendsPrefix}
use Rattle.list_laws.proofs.Options.{on_err}
use Rattle.trace_core.specs.Runs.{RunState}
use Rattle.trace_rows.specs.Lines.{PutsRow, lines_of, rows_here}
use Rattle.trace_rows.specs.Reports.{report_of}
use Rattle.trace_rows.proofs.DriveLaws.{done_by, ended_by, going_on}
use Rattle.trace_rows.proofs.RunEnds.{front_come, front_kept, report_by, reports_rest}
use Rattle.trace_rows.proofs.RunKept.{come_first, come_next, fewer_left, given_by, kept_by, number_within}
use Rattle.trace_rows.proofs.drive.put_rest.Goals as goal

-- ---- The row at which the run was opened

pub returns-in_err-put_row-clause-front : goal.returns-in_err-put_row-clause-front
returns-in_err-put_row-clause-front g c =
    let come =
    come_first c.args.plan.now (g.D.Drive.state c.args.drive.now).opened (g.D.Drive.state c.args.drive.now) (g.O.Sink.held c.args.out.now)
    (g.O.Sink.faults c.args.out.now) c.new-tally.result
    c.requires.opened c.requires.stands c.new-tally.ensures.rows c.new-tally.ensures.sum in
    on_err c.from_residual.result
    (front_come c.args.plan.now (g.D.Drive.state c.args.drive.now).opened (g.D.Drive.state c.args.drive.now) (g.O.Sink.held c.args.out.now)
    (g.O.Sink.held c.args.out.now)
    (g.O.Sink.held c.put_row.new.out) (g.O.Sink.faults c.args.out.now) (g.O.Sink.faults c.args.out.now) c.new-tally.result come
    (subst (λ (r : RunState). AppendsPrefix (g.O.Sink.held c.args.out.now) (g.O.Sink.held c.put_row.new.out)
    (lines_of c.args.plan.now.system (rows_here c.args.plan.now r.stand))) c.run.ensures c.in_err-put_row.ensures.front))

pub rows-init : goal.rows-init
rows-init g c =
    let come =
    come_first c.args.plan.now (g.D.Drive.state c.args.drive.now).opened (g.D.Drive.state c.args.drive.now) (g.O.Sink.held c.args.out.now)
    (g.O.Sink.faults c.args.out.now) c.new-tally.result
    c.requires.opened c.requires.stands c.new-tally.ensures.rows c.new-tally.ensures.sum in
    kept_by c.args.plan.now (g.D.Drive.state c.args.drive.now).opened (g.D.Drive.state c.args.drive.now) (g.O.Sink.held c.args.out.now)
    (g.O.Sink.held c.args.out.now)
    (g.O.Sink.held c.put_row.new.out) (g.O.Sink.faults c.args.out.now) (g.O.Sink.faults c.args.out.now) (g.O.Sink.faults c.put_row.new.out)
    c.new-tally.result c.put_row.new.tally come
    (subst (λ (r : RunState). PutsRow c.args.plan.now r.stand (g.O.Sink.held c.args.out.now) (g.O.Sink.held c.put_row.new.out)
    (g.O.Sink.faults c.args.out.now) (g.O.Sink.faults c.put_row.new.out) c.new-tally.result c.put_row.new.tally (Ok tt)) c.run.ensures
    c.in_ok-put_row.ensures)

-- ---- From row to row

pub returns-in_err-advance-clause-front : goal.returns-in_err-advance-clause-front
returns-in_err-advance-clause-front g c =
    on_err c.from_residual-in_err-advance.result
    (front_kept c.args.plan.now (g.D.Drive.state c.args.drive.now).opened (g.D.Drive.state c.rows.drive) (g.O.Sink.held c.args.out.now)
    (g.O.Sink.held c.rows.out) (g.O.Sink.faults c.args.out.now)
    (g.O.Sink.faults c.rows.out) c.rows.tally c.rows.invariant)

pub put_row-requires-in-rows-clause-rows : goal.put_row-requires-in-rows-clause-rows
put_row-requires-in-rows-clause-rows g c =
    let given = given_by c.args.plan.now (g.D.Drive.state c.args.drive.now).opened (g.D.Drive.state c.args.drive.now) c.requires.opened c.requires.stands in
    let on = going_on (g.D.Drive.state c.rows.drive) (g.D.Drive.state c.advance.new.drive) c.in_ok-advance.field-0 c.if-branch.true
    c.in_ok-advance.ensures.went in
    let come =
    come_next c.args.plan.now (g.D.Drive.state c.args.drive.now).opened (g.D.Drive.state c.rows.drive) (g.D.Drive.state c.advance.new.drive)
    (g.O.Sink.held c.args.out.now) (g.O.Sink.held c.rows.out) (g.O.Sink.faults c.args.out.now)
    (g.O.Sink.faults c.rows.out) c.rows.tally given c.rows.invariant on c.in_ok-advance.ensures.stands in
    let few = come.few in
    let within = number_within c.args.plan.now (g.D.Drive.state c.args.drive.now).opened (g.D.Drive.state c.advance.new.drive) given come.at.planned
    c.in_ok-advance.ensures.stands in
    omega (arith, few, within)

pub rows-smaller : goal.rows-smaller
rows-smaller g c =
    let given = given_by c.args.plan.now (g.D.Drive.state c.args.drive.now).opened (g.D.Drive.state c.args.drive.now) c.requires.opened c.requires.stands in
    let on = going_on (g.D.Drive.state c.rows.drive) (g.D.Drive.state c.advance.new.drive) c.in_ok-advance.field-0 c.if-branch.true
    c.in_ok-advance.ensures.went in
    let within = number_within c.args.plan.now (g.D.Drive.state c.args.drive.now).opened (g.D.Drive.state c.rows.drive) given c.rows.invariant.at.planned
    c.rows.invariant.at.stands in
    let next = fewer_left (g.D.Drive.state c.rows.drive) (g.D.Drive.state c.advance.new.drive) on in
    omega (arith, within, next)

pub rows-preserved : goal.rows-preserved
rows-preserved g c =
    let given = given_by c.args.plan.now (g.D.Drive.state c.args.drive.now).opened (g.D.Drive.state c.args.drive.now) c.requires.opened c.requires.stands in
    let moved = going_on (g.D.Drive.state c.rows.drive) (g.D.Drive.state c.advance.new.drive) c.in_ok-advance.field-0 c.if-branch.true
    c.in_ok-advance.ensures.went in
    let come =
    come_next c.args.plan.now (g.D.Drive.state c.args.drive.now).opened (g.D.Drive.state c.rows.drive) (g.D.Drive.state c.advance.new.drive)
    (g.O.Sink.held c.args.out.now) (g.O.Sink.held c.rows.out) (g.O.Sink.faults c.args.out.now)
    (g.O.Sink.faults c.rows.out) c.rows.tally given c.rows.invariant moved c.in_ok-advance.ensures.stands in
    kept_by c.args.plan.now (g.D.Drive.state c.args.drive.now).opened (g.D.Drive.state c.advance.new.drive) (g.O.Sink.held c.args.out.now)
    (g.O.Sink.held c.rows.out)
    (g.O.Sink.held c.put_row-in-rows.new.out) (g.O.Sink.faults c.args.out.now) (g.O.Sink.faults c.rows.out)
    (g.O.Sink.faults c.put_row-in-rows.new.out) c.rows.tally c.put_row-in-rows.new.tally come
    (subst (λ (r : RunState). PutsRow c.args.plan.now r.stand (g.O.Sink.held c.rows.out) (g.O.Sink.held c.put_row-in-rows.new.out)
    (g.O.Sink.faults c.rows.out) (g.O.Sink.faults c.put_row-in-rows.new.out) c.rows.tally c.put_row-in-rows.new.tally (Ok tt)) c.run-in-rows.ensures
    c.in_ok-put_row-2.ensures)

pub returns-in_err-put_row-2-clause-front : goal.returns-in_err-put_row-2-clause-front
returns-in_err-put_row-2-clause-front g c =
    let given = given_by c.args.plan.now (g.D.Drive.state c.args.drive.now).opened (g.D.Drive.state c.args.drive.now) c.requires.opened c.requires.stands in
    let on = going_on (g.D.Drive.state c.rows.drive) (g.D.Drive.state c.advance.new.drive) c.in_ok-advance.field-0 c.if-branch.true
    c.in_ok-advance.ensures.went in
    let come =
    come_next c.args.plan.now (g.D.Drive.state c.args.drive.now).opened (g.D.Drive.state c.rows.drive) (g.D.Drive.state c.advance.new.drive)
    (g.O.Sink.held c.args.out.now) (g.O.Sink.held c.rows.out) (g.O.Sink.faults c.args.out.now)
    (g.O.Sink.faults c.rows.out) c.rows.tally given c.rows.invariant on c.in_ok-advance.ensures.stands in
    on_err c.from_residual-in_err-put_row-2.result
    (front_come c.args.plan.now (g.D.Drive.state c.args.drive.now).opened (g.D.Drive.state c.advance.new.drive) (g.O.Sink.held c.args.out.now)
    (g.O.Sink.held c.rows.out)
    (g.O.Sink.held c.put_row-in-rows.new.out) (g.O.Sink.faults c.args.out.now) (g.O.Sink.faults c.rows.out) c.rows.tally come
    (subst (λ (r : RunState). AppendsPrefix (g.O.Sink.held c.rows.out) (g.O.Sink.held c.put_row-in-rows.new.out)
    (lines_of c.args.plan.now.system (rows_here c.args.plan.now r.stand))) c.run-in-rows.ensures c.in_err-put_row-2.ensures.front))

-- ---- The end

pub returns-clause-whole : goal.returns-clause-whole
returns-clause-whole g c =
    let given = given_by c.args.plan.now (g.D.Drive.state c.args.drive.now).opened (g.D.Drive.state c.args.drive.now) c.requires.opened c.requires.stands in
    let done =
    done_by c.args.plan.now (g.D.Drive.state c.args.drive.now).opened (g.D.Drive.state c.rows.drive) (g.D.Drive.state c.advance.new.drive)
    (g.O.Sink.held c.args.out.now) (g.O.Sink.held c.rows.out) (g.O.Sink.faults c.args.out.now)
    (g.O.Sink.faults c.rows.out) c.rows.tally given c.rows.invariant
    (ended_by (g.D.Drive.state c.rows.drive) (g.D.Drive.state c.advance.new.drive) c.in_ok-advance.field-0 c.if-branch.false c.in_ok-advance.ensures.went)
    c.in_ok-advance.ensures.stands in
    reports_rest c.args.plan.now (g.D.Drive.state c.args.drive.now).opened (g.D.Drive.state c.advance.new.drive) (g.O.Sink.held c.args.out.now)
    (g.O.Sink.held c.rows.out) c.rows.tally
    c.in-Ended.outcome c.of_run.result given done
    (ap (λ (r : RunState). r.phase) (sym c.run-run.ensures) ∙ sym c.phase.ensures.phase ∙ c.in-Ended.is)
    (report_by (g.D.Drive.state c.advance.new.drive) c.in-Ended.outcome c.rows.tally c.of_run.result
    (c.of_run.ensures ∙ ap (λ (r : RunState). report_of r c.in-Ended.outcome c.rows.tally) c.run-run.ensures))
