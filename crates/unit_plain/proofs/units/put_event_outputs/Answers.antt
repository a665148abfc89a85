use Rattle.std.proofs.Common.{◌∙◌}
use Rattle.unit_tree.specs.Plain.{plain_outputs}
use Rattle.unit_plain.proofs.LoopLaws.{flat_next}
use Rattle.unit_plain.proofs.units.put_event_outputs.Goals as goal

pub loop-event-preserved : goal.loop-event-preserved
loop-event-preserved c =
    c.loop-event.invariant
    ∙ flat_next
    (plain_outputs c.args.unit.now) c.as_slice-event-items.result.now c.args.unit.now.events_out c.loop-event.event-index c.event-item.result
    c.loop-event.outputs c.put_event_output.new.outputs c.as_slice-event-items.ensures c.loop-event-test.true c.event-item.is
    c.in_ok-put_event_output.ensures
