use Rattle.std.proofs.Common.{arith, tests}
use Rattle.nest_ways.proofs.SetLaws.{word_covers, word_within}
use Rattle.nest_ways.proofs.sets.SetWord.is_within.Goals as goal

pub returns : goal.returns
returns c = (
  λ told. word_within c.args.self c.args.other (grind (arith, tests, told)),
  λ within. let same = word_covers c.args.self c.args.other (omega (arith, c.well_formed)) within in grind (arith, tests, same),
)
