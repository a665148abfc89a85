use Rattle.std.proofs.Common.{◌≡◌, drop, map}
use Rattle.unit_tree.specs.Parts as parts
use Rattle.unit_print.specs.Growing.{with_unit_parts}
use Rattle.unit_print.proofs.printing.events_out.Given as goal

abbrev pub invariant-loop-declared : goal.invariant-loop-declared
invariant-loop-declared l =
    with_unit_parts l.initial.text.items (map parts.HasEventOut l.all) ≡ with_unit_parts l.text.items (map parts.HasEventOut (drop l.declared-index l.all))
