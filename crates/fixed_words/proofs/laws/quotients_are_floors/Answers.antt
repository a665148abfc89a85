use Rattle.fixed_words.proofs.Remainders.{is_floor}
use Rattle.fixed_words.proofs.laws.quotients_are_floors.Goals as goal

pub returns : goal.returns
returns c = is_floor
