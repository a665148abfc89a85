use Rattle.std.proofs.Common.{sym}
use Rattle.trace_plan.proofs.PortsByName.{both_put}
use Rattle.trace_plan.proofs.columns.put_all.Goals as goal

pub returns : goal.returns
returns c =
    both_put c.args.system.now c.args.instance.now c.in-Some.unit.now
    (sym c.in-Some.ensures) c.as_slice-name.result.now c.as_slice.result.now c.as_slice-2.result.now c.as_slice-name.ensures c.as_slice.ensures
    c.as_slice-2.ensures _ _ _ c.in_ok-put_outputs.ensures c.in_ok-put_events.ensures
