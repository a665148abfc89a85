use Rattle.std.proofs.Common.{◌≡◌, ◌≤◌, ◌^◌, drop}
use Rattle.unit_tree.specs.Tokens.{number_from}
use Rattle.text_tokens.proofs.scanning.bounded_number.Given as goal

abbrev pub invariant-loop-digit : goal.invariant-loop-digit
invariant-loop-digit l =
    (l.number ≤ 2 ^ 63) × (number_from l.number (drop l.digit-index l.digits) ≡ number_from l.fn.before l.digits)
