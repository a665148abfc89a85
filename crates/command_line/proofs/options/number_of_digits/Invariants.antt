use Rattle.std.proofs.Common.{◌≡◌, ◌<◌, ◌^◌, drop}
use Rattle.command_line.specs.Options.{number_behind}
use Rattle.command_line.proofs.options.number_of_digits.Given as goal

-- The number so far has at most as many digits as were read, and those that are left make with it what all of them make.
abbrev pub invariant-loop-byte : goal.invariant-loop-byte
invariant-loop-byte l = record {
  small : l.number < 10 ^ l.byte-index;
  same : number_behind l.number (drop l.byte-index l.digits) ≡ number_behind 0 l.digits;
}
