use Rattle.unit_plain.proofs.EventPorts.{ports_put}
use Rattle.unit_plain.proofs.systems.put_ports_of_unit.Goals as goal
use Rattle.list_laws.proofs.Options.{on_ok}

pub returns : goal.returns
returns c =
    on_ok c.put_event_outputs.result _ _
    (ports_put c.args.ports.now c.put_outputs.new.ports c.put_event_outputs.new.ports c.args.instance.now c.args.unit.now c.as_slice.result.now
    c.as_slice-2.result.now c.as_slice.ensures c.as_slice-2.ensures c.in_ok-put_outputs.ensures)
    c.put_event_outputs.ensures
