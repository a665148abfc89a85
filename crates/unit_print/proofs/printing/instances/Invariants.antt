use Rattle.std.proofs.Common.{◌≡◌, drop, map}
use Rattle.unit_tree.specs.Parts as parts
use Rattle.unit_print.specs.Growing.{with_parts}
use Rattle.unit_print.proofs.printing.instances.Given as goal

abbrev pub invariant-loop-instance : goal.invariant-loop-instance
invariant-loop-instance l =
    with_parts l.initial.text.items (map parts.HasInstance l.all) ≡ with_parts l.text.items (map parts.HasInstance (drop l.instance-index l.all))
