use Rattle.unit_text.proofs.NestingLaws.{nesting_is_by_parts}
use Rattle.unit_text.proofs.laws.nesting_is_by_parts.Goals as goal

pub returns : goal.returns
returns c = nesting_is_by_parts
