use Rattle.text_lines.proofs.FormsOfLines.{one_form}
use Rattle.text_lines.proofs.laws.lines_have_one_form.Goals as goal

pub returns : goal.returns
returns c = one_form
