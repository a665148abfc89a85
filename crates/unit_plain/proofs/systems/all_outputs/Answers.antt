use Rattle.std.proofs.Common.{◌∙◌, map}
use Rattle.unit_tree.specs.Names.{unit_of_instance}
use Rattle.unit_tree.specs.Orders.{outputs_in, port_of}
use Rattle.unit_plain.proofs.LoopLaws.{flat_next}
use Rattle.unit_plain.proofs.systems.all_outputs.Goals as goal

pub loop-instance-preserved : goal.loop-instance-preserved
loop-instance-preserved c =
    c.loop-instance.invariant
    ∙ flat_next
    (λ instance. map (λ output. port_of instance output.name)
    (outputs_in
    (unit_of_instance c.args.system.now instance))) c.as_slice-instance-items.result.now c.args.system.now.instances c.loop-instance.instance-index
    c.instance-item.result c.loop-instance.ports c.put_ports.new.ports c.as_slice-instance-items.ensures c.loop-instance-test.true c.instance-item.is
    c.in_ok-put_ports.ensures
