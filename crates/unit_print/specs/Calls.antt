-- Which operations are calls.
use Rattle.std.specs.Prelude.{Bool}
use Rattle.unit_tree.specs.Phrases as phrases
use Rattle.unit_tree.specs.declared.expr.BinOp.{BinOp}

-- Whether an operation on two operands is written as a call, which is allowed in every place.
abbrev pub is_call : BinOp → Bool
is_call op = phrases.allows phrases.Primary (phrases.binary_level op)
