use Rattle.std.proofs.Common.{arith, tests}
use Rattle.nest_ways.proofs.SetLaws.{empty_bits, no_bits}
use Rattle.nest_ways.proofs.sets.SetWord.is_empty.Goals as goal

pub returns : goal.returns
returns c = (
  λ told. no_bits c.args.self (grind (arith, tests, told)),
  λ none. let same = empty_bits c.args.self (omega (arith, c.well_formed)) none in grind (arith, tests, same),
)
