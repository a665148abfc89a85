use Rattle.std.proofs.Common.{◌≡◌, ◌++◌, drop, map}
use Rattle.code_units.specs.UnitPrograms.{output_code}
use Rattle.code_units.proofs.programs.output_codes.Given as goal

abbrev pub invariant-loop-output : goal.invariant-loop-output
invariant-loop-output l = map (output_code l.scope) l.outputs ≡ l.codes ++ map (output_code l.scope) (drop l.output-index l.outputs)
