use Rattle.std.proofs.Common.{◌≡◌, drop}
use Rattle.std.specs.List.{find}
use Rattle.std.specs.Str.{bytes_eq}
use Rattle.trace_plan.proofs.columns.output_type.Given as goal

abbrev pub invariant-loop-output : goal.invariant-loop-output
invariant-loop-output l = find (λ one. bytes_eq one.name l.name) (drop l.output-index l.outputs) ≡ find (λ one. bytes_eq one.name l.name) l.outputs
