use Rattle.std.proofs.Common.{◌≡◌, ◌++◌, take}
use Rattle.trace_verify.specs.Comparing.{all_held}
use Rattle.trace_verify.proofs.compare.ComparisonSink.put.Given as goal

abbrev pub invariant-loop-byte : goal.invariant-loop-byte
invariant-loop-byte l = record {
  text : all_held l.self ≡ all_held l.fn.self ++ take l.byte-index l.piece;
  faults : l.self.faults ≡ l.fn.self.faults;
}
