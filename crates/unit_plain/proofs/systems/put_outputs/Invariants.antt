use Rattle.std.proofs.Common.{◌≡◌, ◌++◌, map, drop}
use Rattle.unit_tree.specs.Orders.{port_of}
use Rattle.unit_plain.proofs.systems.put_outputs.Given as goal

abbrev pub invariant-loop-output : goal.invariant-loop-output
invariant-loop-output l =
    l.initial.ports ++ map (λ output. port_of l.instance output.name) l.outputs
    ≡ l.ports ++ map (λ output. port_of l.instance output.name) (drop l.output-index l.outputs)
