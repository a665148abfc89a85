use Rattle.std.proofs.Common.{subst}
use Rattle.unit_tree.specs.Tokens.{Spells}
use Rattle.text_tokens.specs.Scanning.{ReadsAs}
use Rattle.text_lines.specs.LineReading.{FormIs}
use Rattle.text_lines.proofs.FormsOfLines.{line_reads}
use Rattle.text_lines.proofs.line_forms.form_of_line.Goals as goal

pub returns : goal.returns
returns c =
    line_reads c.args.line.now c.in_ok-tokens.tokens c.line_form.result
    (subst (Spells c.in_ok-tokens.tokens) c.code.ensures c.in_ok-tokens.ensures)
    (subst (λ tokens. ReadsAs c.line_form.result (FormIs tokens)) c.as_slice.ensures c.line_form.ensures)
