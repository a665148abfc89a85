use Rattle.std.proofs.Common.{length, ap, ◌∙◌, arith}
use Rattle.std.proofs.lemmas.Fmt.{decimal_nonempty}
use Rattle.unit_print.proofs.tokens.digits.Goals as goal

pub below_one-requires-clause-some_decimals : goal.below_one-requires-clause-some_decimals
below_one-requires-clause-some_decimals c =
    let some = decimal_nonempty c.args.number (omega arith) in
    let same = ap length (c.as_bytes-digits.ensures.value ∙ c.format.ensures.text) in
    omega arith
