use Rattle.std.proofs.Common.{◌≡◌, ◌≤◌, ◌^◌, drop}
use Rattle.fixed_words.specs.Digits.{number_of_digits}
use Rattle.fixed_words.proofs.digits.read_digits.Given as goal

-- the digits that are left, after the number so far, give the number of all digits
abbrev pub invariant-loop-byte : goal.invariant-loop-byte
invariant-loop-byte l = record {
  bounded : l.number ≤ 2 ^ 63;
  same : number_of_digits l.number (drop l.byte-index l.bytes) ≡ number_of_digits l.before l.bytes;
}
