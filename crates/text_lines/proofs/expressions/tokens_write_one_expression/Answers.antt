use Rattle.text_lines.proofs.WrittenTrees.{writes_one}
use Rattle.text_lines.proofs.expressions.tokens_write_one_expression.Goals as goal

pub returns : goal.returns
returns c = writes_one
