use Rattle.std.proofs.Common.{◌≡◌, ◌*◌, ◌^◌, ◌+ℤ◌, drop}
use Rattle.trace_rows.specs.Sums.{IsBoundedBy, row_sum}
use Rattle.trace_rows.proofs.rows.row_sum.Given as goal

abbrev pub invariant-loop-column : goal.invariant-loop-column
invariant-loop-column l = record {
  summed : l.sum +ℤ row_sum (drop l.column-index l.columns) l.ports ≡ row_sum l.columns l.ports;
  within : IsBoundedBy (l.column-index * 2 ^ 63) l.sum;
}
