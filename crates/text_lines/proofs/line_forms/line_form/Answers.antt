use Rattle.text_lines.proofs.ReadLines.{reads_as}
use Rattle.text_lines.proofs.line_forms.line_form.Goals as goal

pub returns : goal.returns
returns c = reads_as c.args.tokens.now c.whole_line.result c.whole_line.ensures
