use Rattle.std.proofs.Common.{◌≡◌, drop, map}
use Rattle.unit_tree.specs.Parts as parts
use Rattle.unit_print.specs.Growing.{with_parts}
use Rattle.unit_print.proofs.printing.wires.Given as goal

abbrev pub invariant-loop-wire : goal.invariant-loop-wire
invariant-loop-wire l = with_parts l.initial.text.items (map parts.Connects l.all) ≡ with_parts l.text.items (map parts.Connects (drop l.wire-index l.all))
