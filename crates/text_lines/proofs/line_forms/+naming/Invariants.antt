use Rattle.std.proofs.Common.{length}
use Rattle.text_lines.proofs.line_forms.+naming.Given as goal

abbrev pub decreases-more_names : goal.decreases-more_names
decreases-more_names l = length l.tokens.now

abbrev pub decreases-next_names : goal.decreases-next_names
decreases-next_names l = length l.tokens.now
