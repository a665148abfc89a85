use Rattle.std.proofs.Common.{◌-◌}
use Rattle.spec_core.proofs.CourseEnds.{KeptCourse}
use Rattle.spec_core.proofs.replays.put_rows.Given as goal

abbrev pub invariant-rows : goal.invariant-rows
invariant-rows g l =
    KeptCourse l.fn.plan l.workers l.fn.course l.course (g.O.Sink.held l.fn.out) (g.O.Sink.held l.out) (g.O.Sink.faults l.fn.out) (g.O.Sink.faults l.out)
    l.tally

abbrev pub decreases-rows : goal.decreases-rows
decreases-rows g l = 100000 - l.course.world.run.stand.at.number
