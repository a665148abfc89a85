use Rattle.text_lines.proofs.WrittenTrees.{reads_as}
use Rattle.text_lines.proofs.expressions.expression.Goals as goal

pub returns : goal.returns
returns c = reads_as c.args.tokens.now c.whole_expression.result c.whole_expression.ensures
