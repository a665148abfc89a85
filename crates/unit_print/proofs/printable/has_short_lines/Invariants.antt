use Rattle.std.proofs.Common.{◌≡◌, ◌≤◌, drop}
use Rattle.unit_print.specs.Fitting.{are_short}
use Rattle.unit_print.proofs.printable.has_short_lines.Given as goal

abbrev pub invariant-loop-byte : goal.invariant-loop-byte
invariant-loop-byte l = (are_short 0 l.text ≡ are_short l.length (drop l.byte-index l.text)) × (l.length ≤ 1000)
