use Rattle.nest_ways.proofs.SetLaws.{no_bits}
use Rattle.std.proofs.Common.{refl}
use Rattle.nest_ways.proofs.sets.SetWord.empty.Goals as goal

pub returns : goal.returns
returns c = no_bits (record { bits = 0 }) refl
