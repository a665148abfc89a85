use Rattle.std.proofs.Common.{◌≡◌, drop, map}
use Rattle.unit_tree.specs.Parts as parts
use Rattle.unit_print.specs.Growing.{with_parts}
use Rattle.unit_print.proofs.printing.samples.Given as goal

abbrev pub invariant-loop-port : goal.invariant-loop-port
invariant-loop-port l = with_parts l.initial.text.items (map parts.Samples l.all) ≡ with_parts l.text.items (map parts.Samples (drop l.port-index l.all))
