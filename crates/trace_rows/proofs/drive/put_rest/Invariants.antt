use Rattle.std.proofs.Common.{◌-◌}
use Rattle.trace_rows.proofs.RunKept.{Kept}
use Rattle.trace_rows.proofs.drive.put_rest.Given as goal

abbrev pub invariant-rows : goal.invariant-rows
invariant-rows g l =
    Kept l.fn.plan (g.D.Drive.state l.fn.drive).opened (g.D.Drive.state l.drive) (g.O.Sink.held l.fn.out) (g.O.Sink.held l.out)
    (g.O.Sink.faults l.fn.out) (g.O.Sink.faults l.out) l.tally

abbrev pub decreases-rows : goal.decreases-rows
decreases-rows g l = 100000 - (g.D.Drive.state l.drive).stand.at.number
