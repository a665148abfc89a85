use Rattle.list_laws.proofs.Options.{on_err}
use Rattle.trace_rows.proofs.RunEnds.{front_none}
use Rattle.work_crew.proofs.crew.run_crew.Goals as goal

pub returns-in_err-coordinator-clause-front : goal.returns-in_err-coordinator-clause-front
returns-in_err-coordinator-clause-front g c = on_err c.from_residual.result (front_none c.args.plan.value.system (g.O.Sink.held c.args.out.now))
