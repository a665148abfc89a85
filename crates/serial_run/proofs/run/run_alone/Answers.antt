use Rattle.std.proofs.Common.{◌*◌, ◌≤◌, length, subst}
use Rattle.std.specs.Prelude.{IfOk}
use Rattle.list_laws.proofs.Options.{on_err}
use Rattle.trace_plan.specs.Plans.{Planned}
use Rattle.trace_rows.proofs.RunEnds.{front_none}
use Rattle.trace_rows.specs.Reports.{ReportsTrace}
use Rattle.trace_rows.specs.declared.report.Report.{Report}
use Rattle.serial_run.proofs.RunLaws.{alone_by, own_bounded, own_cells}
use Rattle.serial_run.proofs.run.run_alone.Goals as goal

pub returns-in_err-clone-clause-front : goal.returns-in_err-clone-clause-front
returns-in_err-clone-clause-front g c = on_err c.from_residual.result (front_none c.args.plan.value.system (g.O.Sink.held c.args.out.now))

pub returns-in_err-run-clause-front : goal.returns-in_err-run-clause-front
returns-in_err-run-clause-front g c = on_err c.from_residual-in_err-run.result (front_none c.args.plan.value.system (g.O.Sink.held c.args.out.now))

pub returns-clause-alone : goal.returns-clause-alone
returns-clause-alone g c = alone_by c.put_trace-told.new.drive.run c.put_trace-told.result c.put_trace-told.ensures.told c.facts.ensures

pub returns-clause-own : goal.returns-clause-own
returns-clause-own g c =
    own_cells c.args.plan.value.system (g.O.Sink.held c.args.out.now) (g.O.Sink.held c.put_trace-told.new.out) c.put_trace-told.result
    (subst (λ (p : Planned). IfOk c.put_trace-told.result (ReportsTrace p.system (g.O.Sink.held c.args.out.now) (g.O.Sink.held c.put_trace-told.new.out)))
    c.deref-2.ensures c.put_trace-told.ensures.whole)
    (alone_by c.put_trace-told.new.drive.run c.put_trace-told.result c.put_trace-told.ensures.told c.facts.ensures)

pub returns-clause-bounded : goal.returns-clause-bounded
returns-clause-bounded g c =
    subst (λ (p : Planned). IfOk c.put_trace-told.result (λ (report : Report). report.own ≤ 2 * length p.run.members * report.rows)) c.deref-2.ensures
    (own_bounded (λ report. 2 * length c.deref-2.result.now.run.members * report.rows) c.put_trace-told.result c.put_trace-told.ensures.bounded)
