use Rattle.list_laws.proofs.Options.{on_err}
use Rattle.unit_tree.specs.Successor.{first_position}
use Rattle.trace_rows.proofs.DriveLaws.{composed_of, opened_at}
use Rattle.trace_rows.proofs.RunEnds.{all_bounded, front_header, traced_err, traced_ok}
use Rattle.trace_rows.proofs.drive.put_trace.Goals as goal

pub returns-in_err-put_header-clause-front : goal.returns-in_err-put_header-clause-front
returns-in_err-put_header-clause-front g c =
    on_err c.from_residual.result
    (front_header c.args.plan.now.system (g.O.Sink.held c.args.out.now) (g.O.Sink.held c.put_header.new.out) c.in_err-put_header.ensures.front)

pub returns-clause-whole : goal.returns-clause-whole
returns-clause-whole g c =
    let first = first_position c.args.plan.now.run in
    traced_ok c.args.plan.now (g.D.Drive.state c.args.drive.now).opened (g.O.Sink.held c.args.out.now) (g.O.Sink.held c.put_header.new.out)
    (g.O.Sink.held c.put_rest.new.out)
    c.put_rest.result (composed_of c.args.plan.now first (g.D.Drive.state c.args.drive.now) c.requires.opened c.requires.stands)
    (opened_at c.args.plan.now first (g.D.Drive.state c.args.drive.now) c.requires.opened) c.in_ok-put_header.ensures.whole c.put_rest.ensures.whole

pub returns-clause-front : goal.returns-clause-front
returns-clause-front g c =
    let first = first_position c.args.plan.now.run in
    traced_err c.args.plan.now (g.D.Drive.state c.args.drive.now).opened (g.O.Sink.held c.args.out.now) (g.O.Sink.held c.put_header.new.out)
    (g.O.Sink.held c.put_rest.new.out)
    c.put_rest.result (composed_of c.args.plan.now first (g.D.Drive.state c.args.drive.now) c.requires.opened c.requires.stands)
    (opened_at c.args.plan.now first (g.D.Drive.state c.args.drive.now) c.requires.opened) c.in_ok-put_header.ensures.whole c.put_rest.ensures.front

pub returns-clause-bounded : goal.returns-clause-bounded
returns-clause-bounded g c =
    all_bounded c.args.plan.now (g.D.Drive.state c.args.drive.now).opened (g.O.Sink.held c.put_header.new.out) (g.O.Sink.held c.put_rest.new.out)
    c.put_rest.result c.put_rest.ensures.whole
