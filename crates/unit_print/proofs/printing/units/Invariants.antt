use Rattle.std.proofs.Common.{◌≡◌, drop, map}
use Rattle.unit_tree.specs.Canonical.{unit_parts}
use Rattle.unit_tree.specs.Parts as parts
use Rattle.unit_print.specs.Growing.{with_parts}
use Rattle.unit_print.proofs.printing.units.Given as goal

abbrev pub invariant-loop-unit : goal.invariant-loop-unit
invariant-loop-unit l =
    with_parts l.initial.text.items (map (λ unit. parts.HasUnit unit.name (unit_parts unit)) l.all)
    ≡ with_parts l.text.items (map (λ unit. parts.HasUnit unit.name (unit_parts unit)) (drop l.unit-index l.all))
