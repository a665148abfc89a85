use Rattle.std.proofs.Common.{◌≡◌, drop, map}
use Rattle.unit_tree.specs.Parts as parts
use Rattle.unit_print.specs.Growing.{with_unit_parts}
use Rattle.unit_print.proofs.printing.inputs.Given as goal

abbrev pub invariant-loop-declared : goal.invariant-loop-declared
invariant-loop-declared l =
    with_unit_parts l.initial.text.items (map parts.HasInput l.all) ≡ with_unit_parts l.text.items (map parts.HasInput (drop l.declared-index l.all))
