use Rattle.nest_text.proofs.NestsThere.{nested_once}
use Rattle.nest_text.proofs.laws.nests_are_read_once.Goals as goal

pub returns : goal.returns
returns c = nested_once
