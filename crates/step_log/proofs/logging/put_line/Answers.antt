use Rattle.cosim_io.proofs.PieceLemmas.{AppendsPrefix-nil}
use Rattle.list_laws.proofs.Options.{on_err}
use Rattle.step_log.specs.Lines.{line_if}
use Rattle.step_log.proofs.logging.put_line.Goals as goal

pub returns-in_err-write_line-clause-front : goal.returns-in_err-write_line-clause-front
returns-in_err-write_line-clause-front g c =
    on_err c.from_residual.result (AppendsPrefix-nil (g.O.Sink.held c.args.out.now) (line_if c.args.plan.now.system c.args.step))
