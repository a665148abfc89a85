use Rattle.std.proofs.Common.{◌≡◌, ◌≤◌, Bor, List, ℕ, length, drop, ◌+◌}
use Rattle.std.specs.Option.{option_map}
use Rattle.csv.specs.Records.{fields_of}
use Rattle.trace_verify.specs.TraceLines.{fields_between}
use Rattle.trace_verify.specs.Verdicts.{column_from}
use Rattle.trace_verify.proofs.FieldLaws.{fields_left, length_left}
use Rattle.trace_verify.proofs.compare.column_apart.Given as goal

abbrev pub invariant-loop-rest : goal.invariant-loop-rest
invariant-loop-rest l = record {
  counted : l.place + length_left (option_map (λ (b : Bor (List ℕ)). b.now) l.rest) ≤ length l.fn.line + 1;
  same : column_from 1 (fields_between l.fn.line) (fields_of l.fields)
      ≡ column_from (l.place + 1) (fields_left (option_map (λ (b : Bor (List ℕ)). b.now) l.rest)) (drop l.place (fields_of l.fields));
}

abbrev pub decreases-loop-rest : goal.decreases-loop-rest
decreases-loop-rest l = length_left (option_map (λ (b : Bor (List ℕ)). b.now) l.rest)
