use Rattle.list_laws.proofs.Options.{on_err}
use Rattle.spec_core.proofs.CourseEnds.{trace_front, trace_put}
use Rattle.spec_core.proofs.replays.put_trace.Goals as goal
use Rattle.trace_rows.proofs.RunEnds.{front_header}

pub returns-in_err-put_header-clause-front : goal.returns-in_err-put_header-clause-front
returns-in_err-put_header-clause-front g c =
    on_err c.from_residual.result
    (front_header c.args.plan.now.system (g.O.Sink.held c.args.out.now) (g.O.Sink.held c.put_header.new.out) c.in_err-put_header.ensures.front)

pub returns-clause-whole : goal.returns-clause-whole
returns-clause-whole g c =
    trace_put c.args.plan.now c.args.course.now.world.run c.requires.opened c.facts.ensures.stands (g.O.Sink.held c.args.out.now)
    (g.O.Sink.held c.put_header.new.out) (g.O.Sink.held c.put_rows.new.out) c.in_ok-put_header.ensures.whole
    c.put_rows.new.course.world.run c.put_rows.result c.put_rows.ensures.rows

pub returns-clause-front : goal.returns-clause-front
returns-clause-front g c =
    trace_front c.args.plan.now c.args.course.now.world.run c.requires.opened c.facts.ensures.stands (g.O.Sink.held c.args.out.now)
    (g.O.Sink.held c.put_header.new.out) (g.O.Sink.held c.put_rows.new.out) c.in_ok-put_header.ensures.whole
    c.put_rows.result c.put_rows.ensures.front
