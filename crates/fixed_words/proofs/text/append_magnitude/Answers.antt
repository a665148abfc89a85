use Rattle.std.proofs.Common.{length, ap, ◌∙◌, arith}
use Rattle.std.proofs.lemmas.Fmt.{decimal_nonempty}
use Rattle.fixed_words.proofs.text.append_magnitude.Goals as goal

pub append_below_one-requires-clause-some_decimals : goal.append_below_one-requires-clause-some_decimals
append_below_one-requires-clause-some_decimals c =
    let some = decimal_nonempty c.args.magnitude (omega arith) in
    let same = ap length (c.as_bytes-digits.ensures.value ∙ c.format.ensures.text) in
    omega arith
