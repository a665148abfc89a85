use Rattle.std.proofs.Common.{arith}
use Rattle.std.proofs.lemmas.Int.{to_z-of_z}
use Rattle.fixed_words.proofs.Floors.{by_sign}
use Rattle.fixed_words.proofs.operations.wide_floor.Goals as goal

pub returns-then-divisor-lt0 : goal.returns-then-divisor-lt0
returns-then-divisor-lt0 c = grind (arith, to_z-of_z, by_sign)

pub returns-else-divisor-lt0 : goal.returns-else-divisor-lt0
returns-else-divisor-lt0 c = grind (arith, to_z-of_z, by_sign)
