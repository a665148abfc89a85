use Rattle.std.proofs.Common.{◌≡◌, drop}
use Rattle.std.specs.List.{list_any}
use Rattle.std.specs.Str.{bytes_eq}
use Rattle.unit_plain.proofs.systems.has_output.Given as goal

abbrev pub invariant-loop-output : goal.invariant-loop-output
invariant-loop-output l =
    list_any (λ output. bytes_eq output.name l.name) l.outputs ≡ list_any (λ output. bytes_eq output.name l.name) (drop l.output-index l.outputs)
